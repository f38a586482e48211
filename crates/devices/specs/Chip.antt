-- The state of a flash device, and what it shows.
use Rattle.std.specs.Prelude.{ℕ, ◌+◌, ◌-◌, ◌/◌, ◌%◌, min, Bool, false, cond, ◌==◌}
use Rattle.devices.specs.declared.device.Mode.{Mode}
use Rattle.devices.specs.declared.device.Mode.TheVariants.{Array, Ident, Status, WriteArmed, WipeArmed}
use Rattle.devices.specs.declared.device.Device.{Device}

-- no wait is longer than this
abbrev pub longest_wait : ℕ
longest_wait = 1000

-- a device as contracts speak of it
pub record Chip : Type 0 where
  pub mode : Mode
  -- how many samples or reads of its status will still find it busy; 0: it is ready
  pub wait : ℕ
  -- bits 5, 4 and 3 of its status
  pub wipe_error : Bool
  pub write_error : Bool
  pub supply_error : Bool

-- what a device record stands for: a stored wait over the longest counts as the longest
abbrev pub chip : Device → Chip
chip d =
    record {
      mode = d.mode;
      wait = min d.wait longest_wait;
      wipe_error = d.wipe_error;
      write_error = d.write_error;
      supply_error = d.supply_error;
    }

-- a device after reset
abbrev pub fresh : Chip
fresh = record { mode = Array; wait = 0; wipe_error = false; write_error = false; supply_error = false }

-- it is ready: its wait is 0
abbrev pub ready : Chip → Bool
ready d = d.wait == 0

-- d with the wait n
abbrev pub with_wait : Chip → ℕ → Chip
with_wait d n =
    record {
      mode = d.mode;
      wait = n;
      wipe_error = d.wipe_error;
      write_error = d.write_error;
      supply_error = d.supply_error;
    }

-- a wait above 0 falls by one
abbrev pub lowered : Chip → Chip
lowered d = with_wait d (d.wait - 1)

-- 80H when ready, 20H, 10H and 08H for the error bits
abbrev pub status : Chip → ℕ
status d =
    cond (ready d) 0x80 0 + (cond d.wipe_error 0x20 0 + (cond d.write_error 0x10 0 + cond d.supply_error 0x08 0))

-- the maker and the device code, by turns from word to word
abbrev pub ident : ℕ → ℕ
ident p = cond (p / 2 % 2 == 0) 0x89 0xa2

-- what a read at place p shows of a device that holds x there, by its mode
abbrev pub shows_in : Mode → Chip → ℕ → ℕ → ℕ
shows_in Array d p x = x
shows_in Ident d p x = ident p
shows_in Status d p x = status d
shows_in WriteArmed d p x = status d
shows_in WipeArmed d p x = status d

-- what a read shows of it
abbrev pub shows : Chip → ℕ → ℕ → ℕ
shows d p x = shows_in d.mode d p x

-- what the read leaves of it, by its mode: a device that showed its status lowers its wait
abbrev pub read_in : Mode → Chip → Chip
read_in Array d = d
read_in Ident d = d
read_in Status d = lowered d
read_in WriteArmed d = lowered d
read_in WipeArmed d = lowered d

-- and leaves of it
abbrev pub was_read : Chip → Chip
was_read d = read_in d.mode d
