-- How the driver waits for a pair of devices, and how it judges them.
use Rattle.std.specs.Prelude.{◌≡◌, ℕ, Bool, not, ◌||◌, Option, ◌==◌, bit_and}
use Rattle.medium.specs.Jobs.{refuse_if, worn}
use Rattle.medium.specs.declared.fault.Fault.{Fault}
use Rattle.medium.specs.declared.fault.Fault.TheVariants.{LowSupply}
use Rattle.devices.specs.Chip.{Chip, status, with_wait}
use Rattle.slot.specs.State.{SlotState, with_chips, with_pair, even_chip, odd_chip}

-- one of these bits stands in a status byte
abbrev pub flag : ℕ → ℕ → Bool
flag bits x = not (bit_and x bits == 0)

-- what the last status bytes of a pair say of a job at p: bit 3 means low supply, bit 4 or 5 a worn lane
abbrev pub verdict : ℕ → ℕ → ℕ → Option Fault
verdict e o p =
    refuse_if (flag 0x08 e || flag 0x08 o) (LowSupply p) (worn p (not (flag 0x30 e)) (not (flag 0x30 o)))

-- a device once its wait is over
abbrev pub rested : Chip → Chip
rested d = with_wait d 0

-- s once the waits of the pair at p are over
abbrev pub pair_rested : SlotState → ℕ → SlotState
pair_rested s p = with_chips s (with_pair s p (rested (even_chip s p)) (rested (odd_chip s p)))

-- s' is s after reads of status at p until both devices were ready, when they showed e and o
pub record Polled (s : SlotState) (p e o : ℕ) (s' : SlotState) : Type 0 where
  pub after : s' ≡ pair_rested s p
  pub even : e ≡ status (rested (even_chip s p))
  pub odd : o ≡ status (rested (odd_chip s p))
