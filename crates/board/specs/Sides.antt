-- The two devices of a pair, and what belongs to each.
use Rattle.std.specs.Prelude.{ℕ, ◌+◌, ◌/◌, Bool, true, false, List, slice_index_or, slice_set}
use Rattle.devices.specs.Chip.{Chip, fresh}
use Rattle.slot.specs.State.{SlotState, even_at, odd_at}
use Rattle.slot.specs.Lane.{Lane, Site}
use Rattle.board.specs.declared.side.Side.{Side}
use Rattle.board.specs.declared.side.Side.TheVariants.{Even, Odd}

-- what stands for the even device, or what stands for the odd one
abbrev pub pick : {X : Type 0} → Side → X → X → X
pick Even x y = x
pick Odd x y = y

abbrev pub is_even : Side → Bool
is_even side = pick side true false

-- of the word at p: the device's number, the device, and the place that it holds
abbrev pub index_at : SlotState → ℕ → Side → ℕ
index_at s p side = pick side (even_at s p) (odd_at s p)

abbrev pub chip_at : SlotState → ℕ → Side → Chip
chip_at s p side = slice_index_or s.chips (index_at s p side) fresh

abbrev pub place_at : ℕ → Side → ℕ
place_at p side = pick side p (p + 1)

-- the device with what its jobs reach
abbrev pub lane_at : SlotState → ℕ → Side → Lane
lane_at s p side =
    record {
      chip = chip_at s p side;
      lives = pick side s.even_lives s.odd_lives;
      bytes = s.bytes;
    }

-- where a byte for the word at p arrives
abbrev pub site_at : SlotState → ℕ → Side → Site
site_at s p side =
    record { even = is_even side; size = s.block_size; block = p / s.block_size; place = place_at p side }

-- s with other contents, lives and devices
abbrev pub with_work : SlotState → List ℕ → List ℕ → List ℕ → List Chip → SlotState
with_work s xs es os ds =
    record {
      block_size = s.block_size;
      per_pair = s.per_pair;
      pairs = s.pairs;
      bytes = xs;
      supply = s.supply;
      even_lives = es;
      odd_lives = os;
      pin = s.pin;
      chips = ds;
    }

-- s with one device of the pair at p, and its lane, as l
abbrev pub with_lane : SlotState → ℕ → Side → Lane → SlotState
with_lane s p side l =
    with_work s l.bytes (pick side l.lives s.even_lives) (pick side s.odd_lives l.lives)
    (slice_set s.chips (index_at s p side) l.chip)
