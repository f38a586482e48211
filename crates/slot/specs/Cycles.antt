-- What each call of a slot answers and leaves.
use Rattle.std.specs.Prelude.{◌≡◌, ℕ, ◌+◌, ◌*◌, ◌/◌, ◌%◌, true, false, cond, List, map, replicate, Some, None, Option, Result, slice_index}
use Rattle.medium.specs.Jobs.{answers, gives, no_word}
use Rattle.medium.specs.declared.fault.Fault.{Fault}
use Rattle.devices.specs.Chip.{Chip, fresh, shows, was_read, lowered}
use Rattle.slot.specs.State.{SlotState, slot_capacity, with_chips, with_pair, even_chip, odd_chip}
use Rattle.slot.specs.Lane.{Lane, Site, Free, Bounded, lane_took}

-- the refusal of a word cycle at p, or none
abbrev pub cycle_refusal : SlotState → ℕ → Option Fault
cycle_refusal s p = no_word (slot_capacity s) p

-- there is a word at p
abbrev pub HasWord : SlotState → ℕ → Type 0
HasWord s p = cycle_refusal s p ≡ None

-- as it was if there is a fault, or else as it is then
abbrev pub unless : {X : Type 0} → Option Fault → X → X → X
unless (Some f) was then = was
unless None was then = then

-- the bytes that the two devices show at p
abbrev pub even_shown : SlotState → ℕ → ℕ
even_shown s p = shows (even_chip s p) p (slice_index s.bytes p)

abbrev pub odd_shown : SlotState → ℕ → ℕ
odd_shown s p = shows (odd_chip s p) p (slice_index s.bytes (p + 1))

-- both devices were read
abbrev pub cycle_read : SlotState → ℕ → SlotState
cycle_read s p = with_chips s (with_pair s p (was_read (even_chip s p)) (was_read (odd_chip s p)))

-- a word read at p answers r and leaves s'
pub record WordRead (s : SlotState) (p : ℕ) (r : Result ℕ Fault) (s' : SlotState) : Type 0 where
  pub answer : r ≡ gives (cycle_refusal s p) (even_shown s p + 256 * odd_shown s p)
  pub after : s' ≡ unless (cycle_refusal s p) s (cycle_read s p)

-- where the two bytes of a word at p arrive
abbrev pub even_site : SlotState → ℕ → Site
even_site s p = record { even = true; size = s.block_size; block = p / s.block_size; place = p }

abbrev pub odd_site : SlotState → ℕ → Site
odd_site s p = record { even = false; size = s.block_size; block = p / s.block_size; place = p + 1 }

-- the word v at p: its low byte reaches the even device, here d, and its high byte the odd one
abbrev pub even_lane : SlotState → ℕ → ℕ → Free → Chip → Lane
even_lane s p v w d =
    lane_took s.supply (even_site s p) (v % 256) w (record { chip = d; lives = s.even_lives; bytes = s.bytes })

abbrev pub odd_lane : SlotState → List ℕ → ℕ → ℕ → Free → Chip → Lane
odd_lane s xs p v w d =
    lane_took s.supply (odd_site s p) (v / 256) w (record { chip = d; lives = s.odd_lives; bytes = xs })

-- s with the two lanes at p; the odd lane has the contents
abbrev pub with_lanes : SlotState → ℕ → Lane → Lane → SlotState
with_lanes s p x y =
    record {
      block_size = s.block_size;
      per_pair = s.per_pair;
      pairs = s.pairs;
      bytes = y.bytes;
      supply = s.supply;
      even_lives = x.lives;
      odd_lives = y.lives;
      pin = s.pin;
      chips = with_pair s p x.chip y.chip;
    }

-- both devices take their bytes, the even one first
abbrev pub pair_took : SlotState → ℕ → ℕ → Free → Free → Chip → Chip → SlotState
pair_took s p v e o x y =
    with_lanes s p (even_lane s p v e x) (odd_lane s (even_lane s p v e x).bytes p v o y)

-- with the pin on the word reaches neither
unfoldable pub cycle_write : SlotState → ℕ → ℕ → Free → Free → SlotState
cycle_write s p v e o = cond s.pin s (pair_took s p v e o (even_chip s p) (odd_chip s p))

-- a write of the word v at p answers r and leaves s': free are only what worn lanes leave, and the waits
pub record WordWritten (patience : ℕ) (s : SlotState) (p v : ℕ) (r : Result (Unit {0}) Fault) (s' : SlotState) : Type 0 where
  pub even : Free
  pub odd : Free
  pub even_bounded : Bounded patience s.block_size (slice_index s.bytes p) (v % 256) even
  pub odd_bounded : Bounded patience s.block_size (slice_index s.bytes (p + 1)) (v / 256) odd
  pub answer : r ≡ answers (cycle_refusal s p)
  pub after : s' ≡ unless (cycle_refusal s p) s (cycle_write s p v even odd)

-- after a sample: every wait above 0 is one lower; after a reset: every device is fresh, and all else as it was
abbrev pub sampled : SlotState → SlotState
sampled s = with_chips s (map lowered s.chips)

abbrev pub was_reset : SlotState → SlotState
was_reset s = with_chips s (replicate (2 * s.pairs) fresh)
