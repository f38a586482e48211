-- A part of a list, and what a change inside it leaves of it.
use Rattle.std.specs.Prelude.{◌≡◌, ℕ, zero, suc, ◌+◌, ◌-◌, ◌<◌, ◌≤◌, Bool, true, false, cond, List, [], ◌∷◌, length, take, drop, set, slice_index, slice_index_or, slice_set, refl}
use Rattle.std.proofs.Common.{sym, ap, ◌∙◌, ⊎_elim, arith}
use Rattle.std.proofs.lemmas.List.{length-take, length-drop, get_or-take, get_or-drop, drop-set-add, drop-take, drop-drop, take-take, ext_get_or}
use Rattle.std.proofs.lemmas.Bool.{cases_lt}
use Rattle.medium.specs.Meaning.{EachBelow}
use Rattle.medium.specs.Wear.{alive, spend, lane_after}
use Rattle.medium.specs.Jobs.{laid}
use Rattle.medium.proofs.Below.{below_take, below_drop}
use Rattle.medium.proofs.Laid.{length_laid, laid_below, laid_in, laid_past}
use Rattle.layers.specs.Window.{part}

pub length_part : {X : Type 0} (p n : ℕ) (xs : List X) → p + n ≤ length xs → length (part p n xs) ≡ n
length_part p n xs h = simp (length-take, length-drop) (omega arith)

pub get_d_part : {X : Type 0} (p n k : ℕ) (d : X) (xs : List X) → k < n → slice_index_or (part p n xs) k d ≡ slice_index_or xs (p + k) d
get_d_part p n k d xs h = get_or-take n (drop p xs) k d h ∙ get_or-drop p xs k d

pub below_part : (b p n : ℕ) (xs : List ℕ) → 0 < b → EachBelow b xs → EachBelow b (part p n xs)
below_part b p n xs z h = below_take b n (drop p xs) z (below_drop b p xs h)

pub part_part : {X : Type 0} (s k p n : ℕ) (xs : List X) → p + n ≤ k → part p n (part s k xs) ≡ part (s + p) n xs
part_part s k p n xs h =
    let whole : k ≡ p + (k - p) = omega arith in
    ap (λ i. take n (drop p (take i (drop s xs)))) whole
    ∙ ap (take n) (drop-take p (k - p) (drop s xs))
    ∙ take-take n (k - p) (drop p (drop s xs)) (omega arith)
    ∙ ap (take n) (drop-drop p s xs)

take_set_in : (n k v : ℕ) (xs : List ℕ) → take n (slice_set xs k v) ≡ slice_set (take n xs) k v
take_set_in zero k v xs = refl
take_set_in (suc n) k v [] = refl
take_set_in (suc n) zero v (x ∷ xs) = refl
take_set_in (suc n) (suc k) v (x ∷ xs) = ap (λ t. x ∷ t) (take_set_in n k v xs)

pub part_set : (p n k v : ℕ) (xs : List ℕ) → part p n (slice_set xs (p + k) v) ≡ slice_set (part p n xs) k v
part_set p n k v xs = ap (take n) (drop-set-add p xs k v) ∙ take_set_in n k v (drop p xs)

pub part_laid : (s n p : ℕ) (xs ys : List ℕ) → p + length ys ≤ n → s + n ≤ length xs → part s n (laid xs (s + p) ys) ≡ laid (part s n xs) p ys
part_laid s n p xs ys h room =
    ext_get_or 0 (part s n (laid xs (s + p) ys)) (laid (part s n xs) p ys) (long ∙ sym short) at
  where
    whole : length (laid xs (s + p) ys) ≡ length xs
    whole = length_laid xs ys (s + p) (omega arith)

    inner : length (part s n xs) ≡ n
    inner = length_part s n xs room

    long : length (part s n (laid xs (s + p) ys)) ≡ n
    long = length_part s n (laid xs (s + p) ys) (omega (arith, whole))

    short : length (laid (part s n xs) p ys) ≡ n
    short = length_laid (part s n xs) ys p (omega (arith, inner)) ∙ inner

    old : (k : ℕ) → k < n → slice_index (part s n xs) k ≡ slice_index xs (s + k)
    old k l = get_d_part s n k 0 xs l

    at : (k : ℕ) → k < length (part s n (laid xs (s + p) ys)) → slice_index (part s n (laid xs (s + p) ys)) k ≡ slice_index (laid (part s n xs) p ys) k
    at k l' =
        let l : k < n = omega (arith, long) in
        get_d_part s n k 0 (laid xs (s + p) ys) l
        ∙ ⊎_elim
        (λ (a : k < p). laid_below xs ys (s + p) (s + k) 0 (omega arith) (omega arith) ∙ sym (old k l) ∙ sym (laid_below (part s n xs) ys p k 0 a (omega (arith, inner))))
        (λ (a : p ≤ k).
        ⊎_elim
        (λ (b : k < p + length ys).
        let same : s + k - (s + p) ≡ k - p = omega arith in
        laid_in xs ys (s + p) (s + k) 0 (omega arith) (omega arith) (omega arith) ∙ ap (λ i. slice_index ys i) same ∙ sym (laid_in (part s n xs) ys p k 0 a b (omega (arith, inner))))
        (λ (b : p + length ys ≤ k). laid_past xs ys (s + p) (s + k) 0 (omega arith) (omega arith) ∙ sym (old k l) ∙ sym (laid_past (part s n xs) ys p k 0 b (omega (arith, inner))))
        (cases_lt k (p + length ys)))
        (cases_lt k p)

-- a lane's lives
pub alive_part : (f n b : ℕ) (xs : List ℕ) → b < n → alive (part f n xs) b ≡ alive xs (f + b)
alive_part f n b xs h = rw get_d_part

pub part_lane : (f n b : ℕ) (xs : List ℕ) → b < n → part f n (lane_after xs (f + b)) ≡ lane_after (part f n xs) b
part_lane f n b xs h =
    go (alive xs (f + b)) ∙ ap (λ t. cond t (spend (part f n xs) b) (part f n xs)) (sym (alive_part f n b xs h))
  where
    go : (t : Bool) → part f n (cond t (spend xs (f + b)) xs) ≡ cond t (spend (part f n xs) b) (part f n xs)
    go true = part_set f n b (slice_index xs (f + b) - 1) xs ∙ ap (λ v. set (part f n xs) b (v - 1)) (sym (get_d_part f n b 0 xs h))
    go false = refl
