-- A pattern, repeated.
use Rattle.std.proofs.Common.{◌≡◌, ℕ, zero, suc, ◌+◌, ◌-◌, ◌*◌, ◌%◌, ◌<◌, ◌≤◌, List, ◌++◌, length, get_or, take, sym, refl, ap, ◌∙◌, arith, inl, inr}
use Rattle.std.specs.List.{repeat}
use Rattle.std.proofs.lemmas.Bool.{cases_lt}
use Rattle.std.proofs.lemmas.List.{append-nil, append_assoc, get_or_append_left, get_or-append_right, get_or-take, length-append}
use Rattle.std.proofs.lemmas.Nat.{mod-mul-add}
use Rattle.std.proofs.Math.Nat.{mod-eq_of_lt, mod-eq-sub-mod}

-- each byte is the one of the pattern at its place in it
pub repeat_at : (n : ℕ) (xs : List ℕ) (k : ℕ) → k < n * length xs → get_or (repeat n xs) k 0 ≡ get_or xs (k % length xs) 0
repeat_at zero xs k h = absurd (omega arith)
repeat_at (suc n) xs k h =
    elim (cases_lt k (length xs)) [
      | inl near ↦ get_or_append_left xs (repeat n xs) 0 k near ∙ ap (λ m. get_or xs m 0) (sym (mod-eq_of_lt near))
      | inr far ↦
          let left : k - length xs < n * length xs = omega arith in
          get_or-append_right xs (repeat n xs) (length xs) k 0 refl far ∙ repeat_at n xs (k - length xs) left
          ∙ ap (λ m. get_or xs m 0) (sym (mod-eq-sub-mod far))
    ]

-- a pattern more at the end is one more
pub repeat_more : (n : ℕ) (xs : List ℕ) → repeat n xs ++ xs ≡ repeat (suc n) xs
repeat_more zero xs = sym (append-nil xs)
repeat_more (suc n) xs = append_assoc xs (repeat n xs) xs ∙ ap (λ l. xs ++ l) (repeat_more n xs)

pub repeat_long : (n : ℕ) (xs : List ℕ) → length (repeat n xs) ≡ n * length xs
repeat_long zero xs = omega arith
repeat_long (suc n) xs = omega (arith, length-append xs (repeat n xs), repeat_long n xs)

-- so it is of whole patterns and the front of one
pub repeat_and_front : (n r : ℕ) (xs : List ℕ) (k : ℕ) → r ≤ length xs → k < n * length xs + r → get_or (repeat n xs ++ take r xs) k 0 ≡ get_or xs (k % length xs) 0
repeat_and_front n r xs k few low =
    elim (cases_lt k (n * length xs)) [
      | inl near ↦ get_or_append_left (repeat n xs) (take r xs) 0 k (rw (repeat_long n xs) near) ∙ repeat_at n xs k near
      | inr far ↦
          let i = k - n * length xs in
          let here : i < r = omega arith in
          let at : k ≡ n * length xs + i = omega arith in
          get_or-append_right (repeat n xs) (take r xs) (n * length xs) k 0 (repeat_long n xs) far ∙ get_or-take r xs i 0 here
          ∙ ap (λ m. get_or xs m 0) (sym (ap (λ m. m % length xs) at ∙ mod-mul-add n (length xs) i (omega arith)))
    ]
