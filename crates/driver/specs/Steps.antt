-- What the driver's inner steps do.
use Rattle.std.specs.Prelude.{◌≡◌, ℕ, ◌+◌, ◌/◌, ◌%◌, Bool, cond, not, List, Some, None, Result, slice_index}
use Rattle.medium.specs.Jobs.{refuse_if, answers, worn_at}
use Rattle.medium.specs.declared.fault.Fault.{Fault}
use Rattle.medium.specs.declared.fault.Fault.TheVariants.{LowSupply}
use Rattle.devices.specs.declared.device.Job.{Job}
use Rattle.devices.specs.declared.device.Job.TheVariants.{Write, Wipe}
use Rattle.devices.specs.Chip.{fresh}
use Rattle.slot.specs.State.{SlotState, as_medium, with_chips}
use Rattle.slot.specs.Lane.{Lane, Site, Free, Bounded, lane_did}
use Rattle.slot.specs.Cycles.{even_site, odd_site, with_lanes}
use Rattle.driver.specs.declared.job.PairJob.{PairJob}
use Rattle.driver.specs.declared.job.PairJob.TheVariants.{WriteWord, WipeBlock}
use Rattle.driver.specs.Driven.{ended_at}

-- the word that arms both devices of a pair for a job
abbrev pub command_of : Job → ℕ
command_of Write = 0x4040
command_of Wipe = 0x2020

-- a job of a pair, by what each device does
abbrev pub job_of : PairJob → Job
job_of (WriteWord v) = Write
job_of WipeBlock = Wipe

-- the word that follows its command
abbrev pub follow_of : PairJob → ℕ
follow_of (WriteWord v) = v
follow_of WipeBlock = 0xd0d0

-- a lane after a job of a pair, which does not begin under low supply
abbrev pub lane_worked : Job → Bool → Site → ℕ → Free → List ℕ → List ℕ → Lane
lane_worked j supply at v w lives xs =
    lane_did (cond supply (Some j) None) at v w (record { chip = fresh; lives = lives; bytes = xs })

-- the two lanes of the word at p, the odd one over the contents xs
abbrev pub even_worked : Job → SlotState → ℕ → ℕ → Free → Lane
even_worked j s p v w = lane_worked j s.supply (even_site s p) (v % 256) w s.even_lives s.bytes

abbrev pub odd_worked : Job → SlotState → List ℕ → ℕ → ℕ → Free → Lane
odd_worked j s xs p v w = lane_worked j s.supply (odd_site s p) (v / 256) w s.odd_lives xs

-- s after a job of the pair at p
abbrev pub ran : Job → SlotState → ℕ → ℕ → Free → Free → SlotState
ran j s p v e o =
    with_chips (with_lanes s p (even_worked j s p v e) (odd_worked j s (even_worked j s p v e).bytes p v o))
    (ended_at j s (p / s.block_size) p)

-- such a job answers r and leaves s'
pub record Ran (patience : ℕ) (j : Job) (s : SlotState) (p v : ℕ) (r : Result (Unit {0}) Fault) (s' : SlotState) : Type 0 where
  pub even : Free
  pub odd : Free
  pub even_bounded : Bounded patience s.block_size (slice_index s.bytes p) (v % 256) even
  pub odd_bounded : Bounded patience s.block_size (slice_index s.bytes (p + 1)) (v / 256) odd
  pub answer : r ≡ answers (refuse_if (not s.supply) (LowSupply p) (worn_at (as_medium s) (p / s.block_size) p))
  pub after : s' ≡ ran j s p v even odd
