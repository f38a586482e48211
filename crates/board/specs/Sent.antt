-- A byte that reaches a device of a simulated card.
use Rattle.std.specs.Prelude.{ℕ, Bool, cond, List, take, drop, replicate, Some, None, Option, bit_and, slice_index, slice_set}
use Rattle.medium.specs.Jobs.{laid}
use Rattle.devices.specs.declared.device.Job.{Job}
use Rattle.devices.specs.declared.device.Job.TheVariants.{Write, Wipe}
use Rattle.devices.specs.Commands.{begins}
use Rattle.slot.specs.Lane.{Free, lane_took, mixed}
use Rattle.board.specs.declared.side.Side.{Side}
use Rattle.board.specs.Sides.{chip_at, place_at, lane_at, site_at, with_lane}
use Rattle.board.specs.Held.{CardState, with_slot}

-- the wait that a job starts, by those of a write and of a wipe
abbrev pub job_wait : Job → ℕ → ℕ → ℕ
job_wait Write write wipe = write
job_wait Wipe write wipe = wipe

-- and the wait of the job that begins, if one does
abbrev pub wait_after : CardState → Option Job → ℕ
wait_after c None = 0
wait_after c (Some j) = job_wait j c.write_wait c.wipe_wait

-- what is free in a job, as these cards have it: a worn write leaves the old byte, a worn wipe 00H throughout
abbrev pub leaves : CardState → ℕ → Option Job → Free
leaves c old j = record { byte = old; block = replicate c.slot.block_size 0; wait = wait_after c j }

-- the byte v has reached one device of the pair at p
abbrev pub sent : CardState → ℕ → Side → ℕ → CardState
sent c p side v =
    with_slot c
    (with_lane c.slot p side
    (lane_took c.slot.supply (site_at c.slot p side) v
    (leaves c (slice_index c.slot.bytes (place_at p side)) (begins c.slot.supply v (chip_at c.slot p side)))
    (lane_at c.slot p side)))

-- the contents after a job on one lane of the block of n bytes from a on
abbrev pub worked_bytes : Job → Bool → ℕ → ℕ → ℕ → Bool → ℕ → List ℕ → List ℕ
worked_bytes Write even a n p live v xs = cond live (slice_set xs p (bit_and (slice_index xs p) v)) xs
worked_bytes Wipe even a n p live v xs = laid xs a (mixed even (replicate n (cond live 255 0)) (take n (drop a xs)))
