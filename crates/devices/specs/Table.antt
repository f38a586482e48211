-- The devices of a card, two to a pair.
use Rattle.std.specs.Prelude.{◌≡◌, ℕ, zero, suc, ◌*◌, min, Bool, true, ◌&&◌, List, [], ◌∷◌, map, slice_index_or, slice_set}
use Rattle.medium.specs.Limits.{most_pairs}
use Rattle.devices.specs.declared.table.DeviceTable.{DeviceTable}
use Rattle.devices.specs.Chip.{Chip, chip, fresh, ready}

-- the first n elements, with d where the list ends before
abbrev pub row : {X : Type 0} → X → ℕ → List X → List X
row d zero xs = []
row d (suc n) [] = d ∷ row d n []
row d (suc n) (x ∷ xs) = x ∷ row d n xs

-- the pairs of a table: a stored number over the most counts as the most
abbrev pub table_pairs : DeviceTable → ℕ
table_pairs t = min t.pairs most_pairs

-- its devices, the even one of each pair first
abbrev pub table_chips : DeviceTable → List Chip
table_chips t = row fresh (2 * table_pairs t) (map chip t.devices)

-- device i, as after reset where there is none
abbrev pub device_at : DeviceTable → ℕ → Chip
device_at t i = slice_index_or (table_chips t) i fresh

-- t' is t with other devices
pub record Became (t : DeviceTable) (ds : List Chip) (t' : DeviceTable) : Type 0 where
  pub pairs : table_pairs t' ≡ table_pairs t
  pub chips : table_chips t' ≡ ds

-- t' is t with device i, if there is one, as d
abbrev pub Changed : DeviceTable → ℕ → Chip → DeviceTable → Type 0
Changed t i d t' = Became t (slice_set (table_chips t) i d) t'

-- all of these devices are ready
abbrev pub all_ready : List Chip → Bool
all_ready [] = true
all_ready (d ∷ ds) = ready d && all_ready ds
