-- Digits and numbers, as a script writes them.
use Rattle.std.specs.Prelude.{◌≡◌, ◌⊎◌, ℕ, ◌+◌, ◌-◌, ◌*◌, ◌<◌, ◌≤◌, cond, ◌&&◌, List, [], ◌∷◌, drop, Some, None, Ok, Err, Option, Result, ◌==◌, nat_le, nat_lt, slice_index}
use Rattle.notation.specs.declared.why.Why.{Why}
use Rattle.notation.specs.declared.why.Why.TheVariants.{NoNumber, TooLarge}

-- the value of a hexadecimal digit: 0 to 9, capital A to F, small a to f
abbrev pub digit_value : ℕ → Option ℕ
digit_value c =
    cond (nat_le 48 c && nat_le c 57) (Some (c - 48))
    (cond (nat_le 65 c && nat_le c 70) (Some (c - 55))
    (cond (nat_le 97 c && nat_le c 102) (Some (c - 87)) None))

-- a value that is one of a base's digits
abbrev pub kept_below : ℕ → Option ℕ → Option ℕ
kept_below b (Some d) = cond (nat_lt d b) (Some d) None
kept_below b None = None

-- what follows from a value, if there is one
abbrev pub and_then : Option ℕ → (ℕ → Option ℕ) → Option ℕ
and_then (Some d) f = f d
and_then None f = None

-- the number that digits to the base b spell behind n, the first counting most, if each of them is one
abbrev pub spelled_on : ℕ → ℕ → List ℕ → Option ℕ
spelled_on b n [] = Some n
spelled_on b n (c ∷ cs) = and_then (kept_below b (digit_value c)) (λ d. spelled_on b (n * b + d) cs)

-- the number that one or more digits spell
abbrev pub digits_value : ℕ → List ℕ → Option ℕ
digits_value b [] = None
digits_value b (c ∷ cs) = spelled_on b 0 (c ∷ cs)

-- the number that a word stands for: hexadecimal digits after 0x, or decimal ones
abbrev pub number_of : List ℕ → Option ℕ
number_of w = cond (slice_index w 0 == 48 && slice_index w 1 == 120) (digits_value 16 (drop 2 w)) (digits_value 10 w)

-- the answer where a number of at most `most` is asked, and n or none is spelled: a refusal says that there is no number,
-- or that there is none so small
abbrev pub Reads : Option ℕ → ℕ → Result ℕ Why → Type 0
Reads s most (Ok n) = (s ≡ Some n) × (n ≤ most)
Reads s most (Err w) = ((w ≡ NoNumber) × (s ≡ None)) ⊎ ((w ≡ TooLarge) × ((n : ℕ) → s ≡ Some n → most < n))
