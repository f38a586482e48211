-- Devices that are sampled.
use Rattle.std.proofs.Common.{◌≡◌, ℕ, zero, suc, ◌+◌, ◌<◌, Bool, true, false, ◌&&◌, List, [], ◌∷◌, map, length, get_or, sym, refl, ap, ◌∙◌, add-one, arith}
use Rattle.std.proofs.lemmas.List.{length-map, ext_get_or}
use Rattle.std.proofs.lemmas.Bool.{eq-eqb, and_parts, and_from, eqb-true}
use Rattle.devices.specs.Chip.{Chip, fresh, lowered, ready}
use Rattle.devices.specs.Table.{row, all_ready}

-- all are ready exactly when each wait is 0
pub ready_from : (ds : List Chip) → ((k : ℕ) → (get_or ds k fresh).wait ≡ 0) → all_ready ds ≡ true
ready_from [] h = refl
ready_from (d ∷ ds) h = and_from _ _ (eq-eqb d.wait 0 (h 0)) (ready_from ds (λ k. h (suc k)))

pub ready_each : (ds : List Chip) → all_ready ds ≡ true → (k : ℕ) → (get_or ds k fresh).wait ≡ 0
ready_each [] h k = refl
ready_each (d ∷ ds) h zero = eqb-true d.wait 0 (and_parts (ready d) (all_ready ds) h).0
ready_each (d ∷ ds) h (suc k) = ready_each ds (and_parts (ready d) (all_ready ds) h).1 k

pub lowered_at : (ds : List Chip) (k : ℕ) → get_or (map lowered ds) k fresh ≡ lowered (get_or ds k fresh)
lowered_at [] k = refl
lowered_at (d ∷ ds) zero = refl
lowered_at (d ∷ ds) (suc k) = lowered_at ds k

and_true : (a : Bool) → (a && true) ≡ a
and_true true = refl
and_true false = refl

and_assoc : (a b c : Bool) → (a && (b && c)) ≡ ((a && b) && c)
and_assoc true b c = refl
and_assoc false b c = refl

ready_suc : (n : ℕ) (ds : List Chip) → all_ready (row fresh (suc n) ds) ≡ (all_ready (row fresh n ds) && ready (get_or ds n fresh))
ready_suc zero [] = refl
ready_suc zero (d ∷ ds) = and_true (ready d)
ready_suc (suc n) [] = ready_suc n []
ready_suc (suc n) (d ∷ ds) = ap (λ t. ready d && t) (ready_suc n ds) ∙ and_assoc (ready d) (all_ready (row fresh n ds)) (ready (get_or ds n fresh))

-- one device more
pub ready_more : (n : ℕ) (ds : List Chip) → all_ready (row fresh (n + 1) ds) ≡ (all_ready (row fresh n ds) && ready (get_or ds n fresh))
ready_more n ds = rw add-one (ready_suc n ds)

-- devices that are each lowered
pub all_lowered : (ds es : List Chip) → length es ≡ length ds → ((k : ℕ) → k < length ds → get_or es k fresh ≡ lowered (get_or ds k fresh)) → es ≡ map lowered ds
all_lowered ds es l h =
    ext_get_or fresh es (map lowered ds) (l ∙ sym (length-map ds lowered)) (λ k j. h k (omega (arith, l)) ∙ sym (lowered_at ds k))
