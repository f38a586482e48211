-- A lane filled byte by byte.
use Rattle.std.proofs.Common.{◌≡◌, ℕ, zero, suc, ◌+◌, ◌%◌, ◌<◌, ◌≤◌, Bool, true, false, cond, List, [], ◌∷◌, length, set, replicate, sym, refl, ap, ◌∙◌, arith}
use Rattle.slot.specs.Lane.{mixed}
use Rattle.board.specs.declared.side.Side.{Side}
use Rattle.board.specs.declared.side.Side.TheVariants.{Even, Odd}
use Rattle.board.specs.Sides.{pick, is_even}

mixed_none : (t : Bool) (ys : List ℕ) → mixed t [] ys ≡ ys
mixed_none t [] = refl
mixed_none t (y ∷ ys) = refl

pub first_place : (side : Side) → ◌≡◌ {A = ℕ} (pick side 0 1) (cond (is_even side) 0 1)
first_place Even = refl
first_place Odd = refl

-- before the first place of the lane nothing is filled
fill_none : (t : Bool) (b : ℕ) (ys : List ℕ) → mixed t (replicate (cond t 0 1) b) ys ≡ ys
fill_none true b ys = mixed_none true ys
fill_none false b [] = refl
fill_none false b (y ∷ ys) = ap (λ l. y ∷ l) (mixed_none true ys)

start_place : (t : Bool) (k : ℕ) → k ≡ cond t 0 1 → k % 2 ≡ cond t 0 1
start_place true k e = omega arith
start_place false k e = omega arith

pub fill_start : (t : Bool) (k b : ℕ) (ys : List ℕ) → k ≡ cond t 0 1 → (ys ≡ mixed t (replicate k b) ys) × (k % 2 ≡ cond t 0 1)
fill_start t k b ys e = (sym (ap (λ n. mixed t (replicate n b) ys) e ∙ fill_none t b ys), start_place t k e)

-- one byte of the lane more, and the place of the other lane behind it
fill_next : (t : Bool) (k b : ℕ) (ys : List ℕ) → k < length ys → k % 2 ≡ cond t 0 1 → mixed t (replicate (suc (suc k)) b) ys ≡ set (mixed t (replicate k b) ys) k b
fill_next t k b [] l h = absurd (omega arith)
fill_next true zero b (y ∷ ys) l h = ap (λ r. b ∷ r) (fill_none false b ys)
fill_next false zero b (y ∷ ys) l h = absurd (omega arith)
fill_next true (suc k) b (y ∷ ys) l h = ap (λ r. b ∷ r) (fill_next false k b ys (omega arith) (omega arith))
fill_next false (suc k) b (y ∷ ys) l h = ap (λ r. y ∷ r) (fill_next true k b ys (omega arith) (omega arith))

pub fill_more : (t : Bool) (k b : ℕ) (ys : List ℕ) → k < length ys → k % 2 ≡ cond t 0 1 → set (mixed t (replicate k b) ys) k b ≡ mixed t (replicate (k + 2) b) ys
fill_more t k b ys l h =
    let two : suc (suc k) ≡ k + 2 = omega arith in
    sym (fill_next t k b ys l h) ∙ ap (λ n. mixed t (replicate n b) ys) two

-- past the end of the block there is nothing to fill
pub fill_all : (t : Bool) (k b : ℕ) (ys : List ℕ) → length ys ≤ k → mixed t (replicate k b) ys ≡ mixed t (replicate (length ys) b) ys
fill_all t k b [] h = refl
fill_all t zero b (y ∷ ys) h = absurd (omega arith)
fill_all true (suc k) b (y ∷ ys) h = ap (λ r. b ∷ r) (fill_all false k b ys (omega arith))
fill_all false (suc k) b (y ∷ ys) h = ap (λ r. y ∷ r) (fill_all true k b ys (omega arith))
