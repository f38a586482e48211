-- A byte at a device, and what the job that it begins leaves of the device's lane.
use Rattle.std.specs.Prelude.{◌≡◌, ℕ, ◌*◌, ◌≤◌, Bool, true, false, not, List, [], ◌∷◌, map, length, take, drop, Some, None, Option, bit_and, slice_index, slice_set}
use Rattle.medium.specs.Meaning.{EachBelow}
use Rattle.medium.specs.Wear.{alive, lane_after}
use Rattle.medium.specs.Jobs.{byte_after, laid, Between}
use Rattle.devices.specs.declared.device.Job.{Job}
use Rattle.devices.specs.declared.device.Job.TheVariants.{Write, Wipe}
use Rattle.devices.specs.Chip.{Chip}
use Rattle.devices.specs.Commands.{took, begins, begun}

-- a device with what its jobs reach: its lane's lives, and the contents
pub record Lane : Type 0 where
  pub chip : Chip
  pub lives : List ℕ
  pub bytes : List ℕ

-- where a byte arrives: at the even lane or the odd one of a block, at a place
pub record Site : Type 0 where
  pub even : Bool
  pub size : ℕ
  pub block : ℕ
  pub place : ℕ

-- what is free in a job: the byte or the bytes that a worn lane leaves, and the wait
pub record Free : Type 0 where
  pub byte : ℕ
  pub block : List ℕ
  pub wait : ℕ

-- what holds of them, where old was at the place and v is asked there
pub record Bounded (patience size old v : ℕ) (w : Free) : Type 0 where
  pub between : Between old v w.byte
  pub long : length w.block ≡ size
  pub below : EachBelow 256 w.block
  pub patient : w.wait ≤ patience

-- every other element of ys, from the first or from the second on, replaced by that of xs
abbrev pub mixed : Bool → List ℕ → List ℕ → List ℕ
mixed t xs [] = []
mixed t [] (y ∷ ys) = y ∷ ys
mixed true (x ∷ xs) (y ∷ ys) = x ∷ mixed false xs ys
mixed false (x ∷ xs) (y ∷ ys) = y ∷ mixed true xs ys

-- the contents xs after the wipe of one lane of a block: FFH, or what a worn lane leaves
abbrev pub lane_wiped : Site → Bool → Free → List ℕ → List ℕ
lane_wiped at lives w xs =
    laid xs (at.block * at.size)
    (mixed at.even (map (byte_after lives 255) w.block) (take at.size (drop (at.block * at.size) xs)))

-- the contents after a job at a lane that lives or is worn
abbrev pub job_bytes : Job → Site → Bool → ℕ → Free → List ℕ → List ℕ
job_bytes Write at lives v w xs = slice_set xs at.place (byte_after lives (bit_and (slice_index xs at.place) v) w.byte)
job_bytes Wipe at lives v w xs = lane_wiped at lives w xs

-- a lane after the job that begins there, if one does: it acts as a medium's job does
abbrev pub lane_did : Option Job → Site → ℕ → Free → Lane → Lane
lane_did None at v w l = l
lane_did (Some j) at v w l =
    record {
      chip = begun j (not (alive l.lives at.block)) w.wait l.chip;
      lives = lane_after l.lives at.block;
      bytes = job_bytes j at (alive l.lives at.block) v w l.bytes;
    }

-- a lane after the byte v
abbrev pub lane_took : Bool → Site → ℕ → Free → Lane → Lane
lane_took supply at v w l =
    lane_did (begins supply v l.chip) at v w
    (record { chip = took supply v l.chip; lives = l.lives; bytes = l.bytes })
