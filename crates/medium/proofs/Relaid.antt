-- A part of a vector that is written over.
use Rattle.std.proofs.Common.{◌≡◌, ℕ, ◌+◌, ◌≤◌, List, ◌++◌, length, take, drop, Vec, sym, ap, ◌∙◌, arith}
use Rattle.std.specs.Vec.{with_items}
use Rattle.std.specs.List.{between}
use Rattle.std.proofs.lemmas.List.{drop-drop, length-append, length-take, length-drop, with_items_is}
use borrow.Rule.Slice.PartMut.{put_mid}
use Rattle.medium.specs.Meaning.{EachBelow}
use Rattle.medium.specs.Jobs.{laid}
use Rattle.medium.proofs.Below.{below_take, below_drop}

length_put_mid : (a k : ℕ) (xs ys : List ℕ) → length ys ≡ k → a + k ≤ length xs → length (put_mid a k xs ys) ≡ length xs
length_put_mid a k xs ys h le = simp (length-append, length-take, length-drop) (omega arith)

pub put_mid_laid : (a k : ℕ) (xs ys : List ℕ) → length ys ≡ k → put_mid a k xs ys ≡ laid xs a ys
put_mid_laid a k xs ys h = ap (λ t. take a xs ++ (ys ++ t)) (drop-drop k a xs ∙ ap (λ n. drop (a + n) xs) (sym h))

-- what a vector holds after a write to its part from a on
pub relaid : {Z : Type 0} (v : Vec ℕ Z) (a k : ℕ) (xs ys zs : List ℕ) → xs ≡ v.items → ys ≡ zs → length ys ≡ k → a + k ≤ v.len → (with_items v (put_mid a k xs ys)).items ≡ laid v.items a zs
relaid v a k xs ys zs e f h le =
    with_items_is v (put_mid a k xs ys) (length_put_mid a k xs ys h (omega (arith, ap length e, v.ok.0)) ∙ ap length e ∙ sym v.ok.0)
    ∙ put_mid_laid a k xs ys h ∙ ap (λ l. laid l a ys) e ∙ ap (λ l. laid v.items a l) f

-- a part of bytes is bytes
pub below_between : (xs : List ℕ) (i j : ℕ) → EachBelow 256 xs → EachBelow 256 (between i j xs)
below_between xs i j h = below_take 256 _ (drop i xs) (omega arith) (below_drop 256 i xs h)
