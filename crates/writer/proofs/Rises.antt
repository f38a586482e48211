-- When some bit must rise, and when none must.
use Rattle.std.proofs.Common.{◌≡◌, ℕ, zero, suc, ◌+◌, ◌-◌, ◌*◌, ◌/◌, ◌%◌, ◌<◌, ◌≤◌, min, Bool, false, not, ◌||◌, eqb, List, [], ◌∷◌, length, get_or, take, drop, replicate, zero-add, add-zero, sym, refl, ap, ◌∙◌, ⊎_elim, mod-eq_of_lt, arith}
use lib.Arith.{bin_ind}
use lib.Bits.{bit_and, and_step, and_self}
use Rattle.std.proofs.lemmas.Nat.{and_comm, and_mask}
use Rattle.std.proofs.lemmas.Bool.{cases_lt, eq-eqb, eqb-true, or_parts, not-false}
use Rattle.std.proofs.lemmas.List.{get_or-drop, get_or-take, length-drop, length-take}
use Rattle.std.specs.List.{list_any, zip}
use Rattle.medium.specs.Jobs.{laid}
use Rattle.medium.proofs.Laid.{laid_below, laid_in, laid_past}
use Rattle.writer.specs.Blocks.{rises}

-- AND with FFH
pub full : (x : ℕ) → x < 256 → bit_and x 255 ≡ x
full x h = and_mask x 8 ∙ mod-eq_of_lt h

pub full_left : (x : ℕ) → x < 256 → bit_and 255 x ≡ x
full_left x h = and_comm 255 x ∙ full x h

-- a bit that must rise still must after an AND
pub fall_keeps : (x v y : ℕ) → bit_and (bit_and x v) y ≡ y → bit_and x y ≡ y
fall_keeps x = bin_ind (λ (n : ℕ). (v y : ℕ) → bit_and (bit_and n v) y ≡ y → bit_and n y ≡ y) (λ v y h. h) step x
  where
    step : (n : ℕ) → ((v y : ℕ) → bit_and (bit_and (n / 2) v) y ≡ y → bit_and (n / 2) y ≡ y) → (v y : ℕ) → bit_and (bit_and n v) y ≡ y → bit_and n y ≡ y
    step n ih v y h =
        let s₁ = and_step n v in
        let q : bit_and n v / 2 ≡ bit_and (n / 2) (v / 2) = omega arith in
        let s₂ : bit_and (bit_and n v) y ≡ bit_and (bit_and (n / 2) (v / 2)) (y / 2) * 2 + min (bit_and n v % 2) (y % 2) = rw q at (and_step (bit_and n v) y) in
        let h₂ : bit_and (bit_and (n / 2) (v / 2)) (y / 2) ≡ y / 2 = omega arith in
        let k = ih (v / 2) (y / 2) h₂ in
        let s₃ = and_step n y in
        omega arith

-- no bit of these places must rise
abbrev pub Falls : List ℕ → List ℕ → ℕ → ℕ → Type 0
Falls old new from to = (i : ℕ) → from ≤ i → i < to → bit_and (get_or old i 0) (get_or new i 0) ≡ get_or new i 0

pub falls_from : (old new : List ℕ) (i n : ℕ) → rises old new i n ≡ false → Falls old new i (i + n)
falls_from old new i zero e j l h = absurd (omega arith)
falls_from old new i (suc n) e j l h =
    let s = or_parts (not (eqb (bit_and (get_or old i 0) (get_or new i 0)) (get_or new i 0))) (rises old new (i + 1) n) e in
    ⊎_elim
    (λ (u : j < i + 1). let z : j ≡ i = omega arith in rw z (eqb-true _ _ (not-false (eqb (bit_and (get_or old i 0) (get_or new i 0)) (get_or new i 0)) s.0)))
    (λ (u : i + 1 ≤ j). falls_from old new (i + 1) n s.1 j u (omega arith))
    (cases_lt j (i + 1))

pub rises_not : (old new : List ℕ) (i n : ℕ) → Falls old new i (i + n) → rises old new i n ≡ false
rises_not old new i zero h = refl
rises_not old new i (suc n) h =
    rw (eq-eqb (bit_and (get_or old i 0) (get_or new i 0)) (get_or new i 0) (h i (omega arith) (omega arith)))
    (rises_not old new (i + 1) n (λ j l r. h j (omega arith) (omega arith)))

-- where old and new agree nothing must rise, so what rises under a piece laid over lies in the piece
agrees : (x y : ℕ) → x ≡ y → not (eqb (bit_and x y) y) ≡ false
agrees x y e = let q : bit_and x y ≡ y = rw e (and_self y) in rw (eq-eqb (bit_and x y) y q)

rises_over : (xs ws : List ℕ) (a n i : ℕ) → a ≤ n → ((j : ℕ) → i ≤ j → j < i + a → get_or xs j 0 ≡ get_or ws j 0) → rises xs ws i n ≡ rises xs ws (i + a) (n - a)
rises_over xs ws zero n i h same = let e : i + 0 ≡ i = omega arith in let f : n - 0 ≡ n = omega arith in rw (e, f)
rises_over xs ws (suc a) zero i h same = absurd (omega arith)
rises_over xs ws (suc a) (suc n) i h same =
    let e : i + suc a ≡ i + 1 + a = omega arith in
    let f : suc n - suc a ≡ n - a = omega arith in
    rw (agrees (get_or xs i 0) (get_or ws i 0) (same i (omega arith) (omega arith)), e, f)
    (rises_over xs ws a n (i + 1) (omega arith) (λ j l r. same j (omega arith) (omega arith)))

rises_cut : (xs ws : List ℕ) (k n i : ℕ) → k ≤ n → ((j : ℕ) → i + k ≤ j → j < i + n → get_or xs j 0 ≡ get_or ws j 0) → rises xs ws i n ≡ rises xs ws i k
rises_cut xs ws zero n i h same =
    let e : n - n ≡ 0 = omega arith in
    rises_over xs ws n n i (omega arith) (λ j l r. same j (omega arith) r) ∙ rw e
rises_cut xs ws (suc k) zero i h same = absurd (omega arith)
rises_cut xs ws (suc k) (suc n) i h same =
    ap (λ z. not (eqb (bit_and (get_or xs i 0) (get_or ws i 0)) (get_or ws i 0)) || z)
    (rises_cut xs ws k n (i + 1) (omega arith) (λ j l r. same j (omega arith) (omega arith)))

pub rises_piece : (xs ys : List ℕ) (p : ℕ) → p + length ys ≤ length xs →
    rises xs (laid xs p ys) p (length ys) ≡ rises xs (laid xs p ys) 0 (length xs)
rises_piece xs ys p h =
    let e : 0 + p ≡ p = omega arith in
    sym (rises_over xs (laid xs p ys) p (length xs) 0 (omega arith) (λ j l r. sym (laid_below xs ys p j 0 (omega arith) (omega arith)))
    ∙ rw e (rises_cut xs (laid xs p ys) (length ys) (length xs - p) p (omega arith) (λ j l r. sym (laid_past xs ys p j 0 (omega arith) (omega arith)))))

-- the same places of lists that agree there
rises_moved : (xs ws xs' ws' : List ℕ) (i j n : ℕ) → ((k : ℕ) → k < n → get_or xs (i + k) 0 ≡ get_or xs' (j + k) 0) →
    ((k : ℕ) → k < n → get_or ws (i + k) 0 ≡ get_or ws' (j + k) 0) → rises xs ws i n ≡ rises xs' ws' j n
rises_moved xs ws xs' ws' i j zero old new = refl
rises_moved xs ws xs' ws' i j (suc n) old new =
    let e : get_or xs i 0 ≡ get_or xs' j 0 = rw (add-zero i, add-zero j) at (old 0 (omega arith)) in
    let f : get_or ws i 0 ≡ get_or ws' j 0 = rw (add-zero i, add-zero j) at (new 0 (omega arith)) in
    rw (e, f)
    (ap (λ z. not (eqb (bit_and (get_or xs' j 0) (get_or ws' j 0)) (get_or ws' j 0)) || z)
    (rises_moved xs ws xs' ws' (i + 1) (j + 1) n
    (λ k h. let a : i + 1 + k ≡ i + (k + 1) = omega arith in let b : j + 1 + k ≡ j + (k + 1) = omega arith in rw (a, b) (old (k + 1) (omega arith)))
    (λ k h. let a : i + 1 + k ≡ i + (k + 1) = omega arith in let b : j + 1 + k ≡ j + (k + 1) = omega arith in rw (a, b) (new (k + 1) (omega arith)))))

-- a search over the bytes under a piece
pub rises_under : (xs ys under : List ℕ) (p : ℕ) → p + length ys ≤ length xs → under ≡ take (length ys) (drop p xs) →
    rises under ys 0 (length under) ≡ rises xs (laid xs p ys) 0 (length xs)
rises_under xs ys under p h e =
    let l : length under ≡ length ys = ap length e ∙ simp (length-take, length-drop) (omega arith) in
    rw (l, e)
    (rises_moved (take (length ys) (drop p xs)) ys xs (laid xs p ys) 0 p (length ys)
    (λ k k<. let z : 0 + k ≡ k = zero-add k in rw (z, get_or-take, get_or-drop) refl)
    (λ k k<.
    let z : 0 + k ≡ k = zero-add k in
    let w : p + k - p ≡ k = omega arith in
    rw z (sym (laid_in xs ys p (p + k) 0 (omega arith) (omega arith) (omega arith) ∙ ap (λ t. get_or ys t 0) w)))
    ∙ rises_piece xs ys p h)

-- a search over pairs of bytes, and over bytes against one
abbrev pub rises_pair : ℕ × ℕ → Bool
rises_pair p = not (eqb (bit_and p.0 p.1) p.1)

pub rises_pairs : (xs ys : List ℕ) → length ys ≡ length xs → list_any rises_pair (zip xs ys) ≡ rises xs ys 0 (length xs)
rises_pairs [] ys e = refl
rises_pairs (x ∷ xs) [] e = absurd (omega arith)
rises_pairs (x ∷ xs) (y ∷ ys) e =
    ap (λ z. not (eqb (bit_and x y) y) || z)
    (rises_pairs xs ys (omega arith)
    ∙ rises_moved xs ys (x ∷ xs) (y ∷ ys) 0 1 (length xs)
    (λ k h. let a : 0 + k ≡ k = zero-add k in let b : 1 + k ≡ suc k = omega arith in rw (a, b) refl)
    (λ k h. let a : 0 + k ≡ k = zero-add k in let b : 1 + k ≡ suc k = omega arith in rw (a, b) refl))

pub rises_all : (xs : List ℕ) (y : ℕ) → list_any (λ x. rises_pair (x, y)) xs ≡ list_any rises_pair (zip xs (replicate (length xs) y))
rises_all [] y = refl
rises_all (x ∷ xs) y = ap (λ z. rises_pair (x, y) || z) (rises_all xs y)
