-- Tables of lives, of which the first n entries count.
use Rattle.std.proofs.Common.{◌≡◌, ℕ, ◌-◌, ◌<◌, ◌≤◌, Bool, true, false, cond, ltb, List, length, get_or, take, set, sym, refl, ap, ◌∙◌}
use lib.Seq.{take-set-lt}
use Rattle.std.proofs.lemmas.List.{get_or-take, set_past}
use Rattle.medium.specs.Wear.{alive, spend, lane_after, given}

pub alive_take : (n : ℕ) (xs : List ℕ) (b : ℕ) → b < n → alive (take n xs) b ≡ alive xs b
alive_take n xs b h = ap (λ x. ltb 0 x) (get_or-take n xs b 0 h)

pub lane_take : (n : ℕ) (xs : List ℕ) (b : ℕ) → b < n → take n (lane_after xs b) ≡ lane_after (take n xs) b
lane_take n xs b h =
    let g : get_or (take n xs) b 0 ≡ get_or xs b 0 = get_or-take n xs b 0 h in
    let s : take n (set xs b (get_or xs b 0 - 1)) ≡ set (take n xs) b (get_or xs b 0 - 1) = take-set-lt n xs b (get_or xs b 0 - 1) h in
    elim (ltb 0 (get_or xs b 0)) as (λ v. take n (cond v (spend xs b) xs) ≡ cond v (set (take n xs) b (get_or xs b 0 - 1)) (take n xs)) [ true ↦ s | false ↦ refl ]
    ∙ ap (λ x. cond (ltb 0 x) (set (take n xs) b (x - 1)) (take n xs)) (sym g)

pub given_take : (n b v : ℕ) (meant : Bool) (xs : List ℕ) → b < n → take n (given meant xs b v) ≡ given meant (take n xs) b v
given_take n b v true xs h = take-set-lt n xs b v h
given_take n b v false xs h = refl

-- where there is no such block, nothing is given
pub given_past : (b v : ℕ) (meant : Bool) (xs : List ℕ) → length xs ≤ b → given meant xs b v ≡ xs
given_past b v true xs h = set_past xs b v h
given_past b v false xs h = refl
