-- Two devices side by side in a list.
use Rattle.std.proofs.Common.{◌≡◌, ℕ, zero, suc, ◌+◌, ◌<◌, ◌≢◌, List, length, get_or, set, replicate, refl, ap, ◌∙◌, arith}
use Rattle.std.proofs.lemmas.List.{get_or-set_same, get_or-set_other, length-set, set-set, set_comm, set-get_or}
use Rattle.devices.specs.Chip.{Chip, fresh}

abbrev pub pair_set : List Chip → ℕ → Chip → Chip → List Chip
pair_set ds i x y = set (set ds i x) (i + 1) y

pub length_pair : (ds : List Chip) (i : ℕ) (x y : Chip) → length (pair_set ds i x y) ≡ length ds
length_pair ds i x y = length-set (set ds i x) (i + 1) y ∙ length-set ds i x

module _ (ds : List Chip) (i : ℕ) (there : i + 1 < length ds) (x y : Chip) where
  pub pair_even : get_or (pair_set ds i x y) i fresh ≡ x
  pair_even =
      let ne : i ≢ i + 1 = omega arith in
      get_or-set_other (set ds i x) (i + 1) i y fresh ne ∙ get_or-set_same ds i x fresh (omega arith)

  pub pair_odd : get_or (pair_set ds i x y) (i + 1) fresh ≡ y
  pair_odd = get_or-set_same (set ds i x) (i + 1) y fresh (omega (arith, length-set ds i x))

-- set to what it is, a pair stays
pub pair_self : (ds : List Chip) (i : ℕ) → pair_set ds i (get_or ds i fresh) (get_or ds (i + 1) fresh) ≡ ds
pair_self ds i = ap (λ l. set l (i + 1) (get_or ds (i + 1) fresh)) (set-get_or ds i fresh) ∙ set-get_or ds (i + 1) fresh

-- set twice, it is as set last
pub pair_again : (ds : List Chip) (i : ℕ) (x y x' y' : Chip) → pair_set (pair_set ds i x y) i x' y' ≡ pair_set ds i x' y'
pair_again ds i x y x' y' =
    let ne : i + 1 ≢ i = omega arith in
    ap (λ l. set l (i + 1) y') (set_comm (set ds i x) (i + 1) i y x' ne)
    ∙ (set-set (set (set ds i x) i x') (i + 1) y y' ∙ ap (λ l. set l (i + 1) y') (set-set ds i x x'))

pub get_d_fresh : (n k : ℕ) → get_or (replicate n fresh) k fresh ≡ fresh
get_d_fresh zero k = refl
get_d_fresh (suc n) zero = refl
get_d_fresh (suc n) (suc k) = get_d_fresh n k
