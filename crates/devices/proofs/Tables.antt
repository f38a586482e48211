-- A device table, by its devices.
use Rattle.std.proofs.Common.{◌≡◌, ℕ, zero, suc, ◌*◌, ◌<◌, ◌≤◌, Bool, true, false, ◌≢◌, List, [], ◌∷◌, map, length, get_or, set, replicate, None, sym, refl, ap, ◌∙◌, arith}
use Rattle.std.proofs.lemmas.List.{map-set, length-map, set_past, get_or_past, get_or-set_same, get_or-set_other}
use Rattle.devices.specs.declared.device.Device.{Device}
use Rattle.devices.specs.declared.device.Mode.TheVariants.{Array}
use Rattle.devices.specs.declared.table.DeviceTable.{DeviceTable}
use Rattle.devices.specs.Chip.{Chip, chip, fresh, longest_wait}
use Rattle.devices.specs.Commands.{begins}
use Rattle.devices.specs.Table.{row, table_pairs, table_chips, device_at, Changed}
use Rattle.devices.proofs.Rows.{length_row, get_or_row, set_row, row_replicate, map_replicate}

pub length_chips : (t : DeviceTable) → length (table_chips t) ≡ 2 * table_pairs t
length_chips t = length_row fresh (2 * table_pairs t) (map chip t.devices)

-- a device record as a read past a list gives it
abbrev pub blank : Device
blank = record { mode = Array; wait = 0; wipe_error = false; write_error = false; supply_error = false }

chip_at : (ds : List Device) (i : ℕ) → get_or (map chip ds) i fresh ≡ chip (get_or ds i blank)
chip_at [] i = refl
chip_at (d ∷ ds) zero = refl
chip_at (d ∷ ds) (suc i) = chip_at ds i

-- no wait is longer than the longest
pub waits_bounded : (t : DeviceTable) (k : ℕ) → (device_at t k).wait ≤ longest_wait
waits_bounded t k = go (2 * table_pairs t) t.devices k
  where
    go : (n : ℕ) (ds : List Device) (k : ℕ) → (get_or (row fresh n (map chip ds)) k fresh).wait ≤ longest_wait
    go zero ds k = omega arith
    go (suc n) [] zero = omega arith
    go (suc n) [] (suc k) = go n [] k
    go (suc n) (d ∷ ds) zero = omega arith
    go (suc n) (d ∷ ds) (suc k) = go n ds k

-- a device that is not there
module _ (t : DeviceTable) (i : ℕ) (none : 2 * table_pairs t ≤ i) where
  past : length (table_chips t) ≤ i
  past = omega (arith, length_chips t)

  pub absent : device_at t i ≡ fresh
  absent = get_or_past (table_chips t) i fresh past

  pub absent_same : (d : Chip) → Changed t i d t
  absent_same d = record { pairs = refl; chips = sym (set_past (table_chips t) i d past) }

-- a device as after reset begins nothing
pub fresh_begins : (supply : Bool) (b : ℕ) → begins supply b fresh ≡ None
fresh_begins true b = refl
fresh_begins false b = refl

-- one that is there
module _ (t : DeviceTable) (i : ℕ) (there : i < 2 * table_pairs t) where
  pub present : device_at t i ≡ chip (get_or t.devices i blank)
  present = get_or_row fresh (2 * table_pairs t) (map chip t.devices) i there ∙ chip_at t.devices i

  pub changed : (d : Device) (f : Chip → Chip) → i < length t.devices → chip d ≡ f (chip (get_or t.devices i blank))
      → Changed t i (f (device_at t i)) (record { devices = set t.devices i d; pairs = t.pairs })
  changed d f long e =
      record {
        pairs = refl;
        chips =
            ap (row fresh (2 * table_pairs t)) (map-set chip t.devices i d)
            ∙ (set_row fresh (2 * table_pairs t) (map chip t.devices) i (chip d) (omega (arith, length-map t.devices chip))
            ∙ ap (set (table_chips t) i) (e ∙ ap f (sym present)));
      }

-- a table whose devices are all as after reset
pub all_fresh : (d : Device) (n m : ℕ) → chip d ≡ fresh → row fresh n (map chip (replicate m d)) ≡ replicate n fresh
all_fresh d n m e =
    ap (row fresh n) (map_replicate chip m d ∙ ap (replicate m) e) ∙ row_replicate fresh n m

-- one device changed, place by place
module _ (ds : List Device) (i : ℕ) (d : Device) (long : i < length ds) where
  pub set_here : get_or (map chip (set ds i d)) i fresh ≡ chip d
  set_here =
      ap (λ l. get_or l i fresh) (map-set chip ds i d)
      ∙ get_or-set_same (map chip ds) i (chip d) fresh (omega (arith, length-map ds chip))

  pub set_elsewhere : (k : ℕ) → k ≢ i → get_or (map chip (set ds i d)) k fresh ≡ get_or (map chip ds) k fresh
  set_elsewhere k ne = ap (λ l. get_or l k fresh) (map-set chip ds i d) ∙ get_or-set_other (map chip ds) i k (chip d) fresh ne

  pub was_here : get_or (map chip ds) i fresh ≡ chip (get_or ds i blank)
  was_here = chip_at ds i
