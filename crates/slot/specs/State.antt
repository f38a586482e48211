-- What a slot means.
use Rattle.std.specs.Prelude.{◌≡◌, ℕ, ◌+◌, ◌*◌, ◌/◌, ◌≤◌, Bool, List, length, replicate, slice_index_or, slice_set}
use Rattle.medium.specs.Limits.{most_per_pair, most_pairs}
use Rattle.medium.specs.Meaning.{Meaning, Sound}
use Rattle.devices.specs.Chip.{Chip, fresh}

-- a card behind its bus: blocks of two lanes, contents and lives as a medium has them, and two devices to a pair
pub record SlotState : Type 0 where
  pub block_size : ℕ
  -- blocks to a pair
  pub per_pair : ℕ
  pub pairs : ℕ
  pub bytes : List ℕ
  -- true: good; false: low
  pub supply : Bool
  pub even_lives : List ℕ
  pub odd_lives : List ℕ
  -- while the protect pin is on, no byte reaches a device
  pub pin : Bool
  -- the even device of pair n is number 2n, the odd one the next
  pub chips : List Chip

-- blocks of all pairs, and bytes of all blocks
abbrev pub slot_blocks : SlotState → ℕ
slot_blocks s = s.per_pair * s.pairs

abbrev pub slot_capacity : SlotState → ℕ
slot_capacity s = slot_blocks s * s.block_size

-- a slot as a medium: all its blocks are locked exactly when the pin is on
abbrev pub as_medium : SlotState → Meaning
as_medium s =
    record {
      block_size = s.block_size;
      blocks = slot_blocks s;
      bytes = s.bytes;
      locks = replicate (slot_blocks s) s.pin;
      supply = s.supply;
      even_lives = s.even_lives;
      odd_lives = s.odd_lives;
    }

-- the limits that every slot keeps
pub record SlotSound (s : SlotState) : Type 0 where
  -- block size, contents and lives
  pub medium : Sound (as_medium s)
  pub some : 1 ≤ s.per_pair
  pub few : s.per_pair ≤ most_per_pair
  pub pairs_few : s.pairs ≤ most_pairs
  pub chip_row : length s.chips ≡ 2 * s.pairs

-- the numbers of the two devices that hold the word at p, and the devices
abbrev pub even_at : SlotState → ℕ → ℕ
even_at s p = 2 * (p / s.block_size / s.per_pair)

abbrev pub odd_at : SlotState → ℕ → ℕ
odd_at s p = even_at s p + 1

abbrev pub even_chip : SlotState → ℕ → Chip
even_chip s p = slice_index_or s.chips (even_at s p) fresh

abbrev pub odd_chip : SlotState → ℕ → Chip
odd_chip s p = slice_index_or s.chips (odd_at s p) fresh

-- the devices of s, those of the pair at p as x and y
abbrev pub with_pair : SlotState → ℕ → Chip → Chip → List Chip
with_pair s p x y = slice_set (slice_set s.chips (even_at s p) x) (odd_at s p) y

-- s with other devices
abbrev pub with_chips : SlotState → List Chip → SlotState
with_chips s ds =
    record {
      block_size = s.block_size;
      per_pair = s.per_pair;
      pairs = s.pairs;
      bytes = s.bytes;
      supply = s.supply;
      even_lives = s.even_lives;
      odd_lives = s.odd_lives;
      pin = s.pin;
      chips = ds;
    }

-- s with its switches as given
abbrev pub with_switches : SlotState → Bool → Bool → SlotState
with_switches s supply pin =
    record {
      block_size = s.block_size;
      per_pair = s.per_pair;
      pairs = s.pairs;
      bytes = s.bytes;
      supply = supply;
      even_lives = s.even_lives;
      odd_lives = s.odd_lives;
      pin = pin;
      chips = s.chips;
    }

-- only supply and pin may differ
abbrev pub SlotSwitched : SlotState → SlotState → Type 0
SlotSwitched s s' = s' ≡ with_switches s s'.supply s'.pin
