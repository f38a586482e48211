-- A list laid over another, place by place.
use Rattle.std.proofs.Common.{◌≡◌, ℕ, ◌+◌, ◌-◌, ◌<◌, ◌≤◌, List, length, get_or, arith, rules}
use Rattle.std.proofs.lemmas.List.{places, length-take, length-drop, length-append}
use Rattle.medium.specs.Jobs.{laid}

pub length_laid : (xs ys : List ℕ) (p : ℕ) → p + length ys ≤ length xs → length (laid xs p ys) ≡ length xs
length_laid xs ys p h = simp (length-append, length-take, length-drop) (omega arith)

pub laid_below : (xs ys : List ℕ) (p k d : ℕ) → k < p → p ≤ length xs → get_or (laid xs p ys) k d ≡ get_or xs k d
laid_below xs ys p k d h l = search (rules, places)

pub laid_in : (xs ys : List ℕ) (p k d : ℕ) → p ≤ k → k < p + length ys → p ≤ length xs → get_or (laid xs p ys) k d ≡ get_or ys (k - p) d
laid_in xs ys p k d h l e = search (rules, places)

pub laid_past : (xs ys : List ℕ) (p k d : ℕ) → p + length ys ≤ k → p ≤ length xs → get_or (laid xs p ys) k d ≡ get_or xs k d
laid_past xs ys p k d h l = search (rules, places)
