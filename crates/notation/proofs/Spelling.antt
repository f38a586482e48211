-- Numbers, digit by digit.
use Rattle.std.proofs.Common.{◌≡◌, ℕ, ◌+◌, ◌*◌, ◌<◌, ◌≤◌, List, [], ◌∷◌, length, get_or, drop, Some, None, Option, refl, ap, ◌∙◌, mul-le-mul_left, arith}
use Rattle.std.proofs.lemmas.List.{drop_more}
use Rattle.notation.specs.Digits.{and_then, kept_below, digit_value, digits_value, spelled_on}

-- a digit of the base goes on, and any other ends it
pub spelled_digit : (b n c d : ℕ) (cs : List ℕ) → kept_below b (digit_value c) ≡ Some d → spelled_on b n (c ∷ cs) ≡ spelled_on b (n * b + d) cs
spelled_digit b n c d cs e = ap (λ (o : Option ℕ). and_then o (λ d. spelled_on b (n * b + d) cs)) e

-- more digits make no number smaller
pub spelled_grows : (b n : ℕ) (cs : List ℕ) (v : ℕ) → 0 < b → spelled_on b n cs ≡ Some v → n ≤ v
spelled_grows b n [] v h e = let q : n ≡ v = cc in omega arith
spelled_grows b n (c ∷ cs) v h e =
    let go : and_then (kept_below b (digit_value c)) (λ d. spelled_on b (n * b + d) cs) ≡ Some v → n ≤ v
    = elim (kept_below b (digit_value c)) as (λ (o : Option ℕ). and_then o (λ d. spelled_on b (n * b + d) cs) ≡ Some v → n ≤ v) [
      | Some d ↦ (λ e. omega (arith, spelled_grows b (n * b + d) cs v h e, mul-le-mul_left n h))
      | None ↦ (λ e. cc e)
    ] in
    go e

-- one turn of reading
pub spelled_at : (b n : ℕ) (xs : List ℕ) (i d : ℕ) → i < length xs → kept_below b (digit_value (get_or xs i 0)) ≡ Some d → spelled_on b n (drop i xs) ≡ spelled_on b (n * b + d) (drop (i + 1) xs)
spelled_at b n xs i d h e =
    ap (spelled_on b n) (drop_more xs i 0 h) ∙ spelled_digit b n (get_or xs i 0) d (drop (i + 1) xs) e

-- one or more digits
pub some_digits : (b : ℕ) (xs : List ℕ) → (length xs ≡ 0 → ⊥) → digits_value b xs ≡ spelled_on b 0 xs
some_digits b [] h = absurd (h refl)
some_digits b (c ∷ cs) h = refl
