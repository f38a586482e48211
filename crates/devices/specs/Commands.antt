-- What a device does with a byte.
use Rattle.std.specs.Prelude.{ℕ, Bool, true, false, cond, not, ◌&&◌, ◌||◌, Some, None, Option, ◌==◌}
use Rattle.devices.specs.declared.device.Mode.{Mode}
use Rattle.devices.specs.declared.device.Mode.TheVariants.{Array, Ident, Status, WriteArmed, WipeArmed}
use Rattle.devices.specs.declared.device.Job.{Job}
use Rattle.devices.specs.declared.device.Job.TheVariants.{Write, Wipe}
use Rattle.devices.specs.Chip.{Chip, ready, with_wait}

-- d in mode m
abbrev pub in_mode : Mode → Chip → Chip
in_mode m d =
    record {
      mode = m;
      wait = d.wait;
      wipe_error = d.wipe_error;
      write_error = d.write_error;
      supply_error = d.supply_error;
    }

-- d with these error bits 5, 4 and 3
abbrev pub with_errors : Chip → Bool → Bool → Bool → Chip
with_errors d wipe write supply =
    record { mode = d.mode; wait = d.wait; wipe_error = wipe; write_error = write; supply_error = supply }

-- the commands of a device that is not armed
abbrev pub commanded : ℕ → Chip → Chip
commanded b d =
    cond (b == 0xff) (in_mode Array d)
    (cond (b == 0x90) (in_mode Ident d)
    (cond (b == 0x70) (in_mode Status d)
    (cond (b == 0x40 || b == 0x10) (in_mode WriteArmed d)
    (cond (b == 0x20) (in_mode WipeArmed d)
    (cond (b == 0x50) (in_mode Array (with_errors d false false false))
    (in_mode Array d))))))

-- no job begins while the supply is low or bit 3 stands
abbrev pub held_back : Bool → Chip → Bool
held_back supply d = d.supply_error || not supply

-- a device that a byte has asked for a job: held back, it sets bit 3
abbrev pub job_tried : Bool → Chip → Chip
job_tried supply d = in_mode Status (with_errors d d.wipe_error d.write_error (held_back supply d))

-- what a byte makes of a ready device, by its mode: D0H confirms an armed wipe, any other byte sets bits 5 and 4
abbrev pub took_in : Mode → Bool → ℕ → Chip → Chip
took_in Array supply b d = commanded b d
took_in Ident supply b d = commanded b d
took_in Status supply b d = commanded b d
took_in WriteArmed supply b d = job_tried supply d
took_in WipeArmed supply b d = cond (b == 0xd0) (job_tried supply d) (in_mode Status (with_errors d true true d.supply_error))

-- a busy device ignores every byte
abbrev pub took : Bool → ℕ → Chip → Chip
took supply b d = cond (ready d) (took_in d.mode supply b d) d

-- the job that a byte asks for, by the mode that it meets
abbrev pub asked : Mode → ℕ → Option Job
asked Array b = None
asked Ident b = None
asked Status b = None
asked WriteArmed b = Some Write
asked WipeArmed b = cond (b == 0xd0) (Some Wipe) None

-- the job that begins
abbrev pub begins : Bool → ℕ → Chip → Option Job
begins supply b d = cond (ready d && not (held_back supply d)) (asked d.mode b) None

-- a begun job sets its error bit if the lane is worn, and starts a wait
abbrev pub begun : Job → Bool → ℕ → Chip → Chip
begun Write worn n d = with_wait (with_errors d d.wipe_error (d.write_error || worn) d.supply_error) n
begun Wipe worn n d = with_wait (with_errors d (d.wipe_error || worn) d.write_error d.supply_error) n
