-- What the driver leaves of the slot that it holds.
use Rattle.std.specs.Prelude.{◌≡◌, ℕ, ◌*◌, ◌/◌, Bool, true, false, not, ◌&&◌, List, Option}
use Rattle.medium.specs.Meaning.{Meaning}
use Rattle.medium.specs.Wear.{alive}
use Rattle.medium.specs.Jobs.{read_refusal, word_refusal, wipe_refusal}
use Rattle.medium.specs.declared.fault.Fault.{Fault}
use Rattle.devices.specs.declared.device.Mode.TheVariants.{Status}
use Rattle.devices.specs.declared.device.Job.{Job}
use Rattle.devices.specs.declared.device.Job.TheVariants.{Write, Wipe}
use Rattle.devices.specs.Chip.{Chip}
use Rattle.slot.specs.State.{SlotState, as_medium, with_pair}
use Rattle.slot.specs.Cycles.{unless, was_reset}

-- m as if its supply were good: only the devices tell the driver that it is low
abbrev pub supplied : Meaning → Meaning
supplied m =
    record {
      block_size = m.block_size;
      blocks = m.blocks;
      bytes = m.bytes;
      locks = m.locks;
      supply = true;
      even_lives = m.even_lives;
      odd_lives = m.odd_lives;
    }

-- what keeps the driver from asking the devices for a job, or nothing
abbrev pub word_kept : SlotState → ℕ → Option Fault
word_kept s p = word_refusal (supplied (as_medium s)) p

abbrev pub wipe_kept : SlotState → ℕ → Option Fault
wipe_kept s b = wipe_refusal (supplied (as_medium s)) b

-- a device that was reset, once its job is over: ready, in status mode, with exactly the bits that the job set
abbrev pub ended : Job → Bool → Bool → Chip
ended Write supply lives = record { mode = Status; wait = 0; wipe_error = false; write_error = supply && not lives; supply_error = not supply }
ended Wipe supply lives = record { mode = Status; wait = 0; wipe_error = supply && not lives; write_error = false; supply_error = not supply }

-- all devices after a job on block b, at place p: those of its pair have ended it, the others are as after reset
abbrev pub ended_at : Job → SlotState → ℕ → ℕ → List Chip
ended_at j s b p =
    with_pair (was_reset s) p (ended j s.supply (alive s.even_lives b)) (ended j s.supply (alive s.odd_lives b))

-- s after such a job, which leaves m of it as a medium
abbrev pub driven : Job → SlotState → ℕ → ℕ → Meaning → SlotState
driven j s b p m =
    record {
      block_size = s.block_size;
      per_pair = s.per_pair;
      pairs = s.pairs;
      bytes = m.bytes;
      supply = s.supply;
      even_lives = m.even_lives;
      odd_lives = m.odd_lives;
      pin = s.pin;
      chips = ended_at j s b p;
    }

-- s' is left of s by a read of n bytes from p: every device as after reset
abbrev pub ReadLeaves : SlotState → ℕ → ℕ → SlotState → Type 0
ReadLeaves s p n s' = s' ≡ unless (read_refusal (as_medium s) p n) s (was_reset s)

-- by a write of a word at p
abbrev pub WordLeaves : SlotState → ℕ → SlotState → Type 0
WordLeaves s p s' = s' ≡ unless (word_kept s p) s (driven Write s (p / s.block_size) p (as_medium s'))

-- by the wipe of block b
abbrev pub WipeLeaves : SlotState → ℕ → SlotState → Type 0
WipeLeaves s b s' = s' ≡ unless (wipe_kept s b) s (driven Wipe s b (b * s.block_size) (as_medium s'))
