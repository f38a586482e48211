use Rattle.std.proofs.Common.{◌≡◌, ℕ, ◌<◌, ◌≤◌, map, get_or}
use Rattle.devices.specs.Chip.{chip, fresh, lowered}
use Rattle.devices.specs.Table.{row, all_ready}
use Rattle.devices.proofs.table.sample_all.Given as goal

-- the devices below the index were looked at and lowered, the others are as they were
abbrev pub invariant-loop-device : goal.invariant-loop-device
invariant-loop-device l =
    (l.ready ≡ all_ready (row fresh l.device-index (map chip l.initial.devices)))
    × ((k : ℕ) → k < l.device-index → get_or (map chip l.devices) k fresh ≡ lowered (get_or (map chip l.initial.devices) k fresh))
    × ((k : ℕ) → l.device-index ≤ k → get_or (map chip l.devices) k fresh ≡ get_or (map chip l.initial.devices) k fresh)
