-- The words of a line, and what is read of them.
use Rattle.std.specs.Prelude.{◌≡◌, ℕ, ◌-◌, ◌==◌, ◌||◌, Bool, cond, List, [], ◌∷◌, length, filter, take, Some, None, Ok, Err, Option, Result, nat_lt, slice_index}
use Rattle.std.specs.List.{before_first, slice_split}
use Rattle.notation.specs.Digits.{Reads, number_of}
use Rattle.notation.specs.declared.why.Why.{Why}
use Rattle.notation.specs.declared.why.Why.TheVariants.{TooFewWords, TooManyWords}
use Rattle.notation.specs.declared.words.Words.{Words}

-- a blank is a space or a tab
abbrev pub is_blank : ℕ → Bool
is_blank c = (c == 32) || (c == 9)

-- the words of a text: what stands between its blanks, where that is not empty
abbrev pub words_of : List ℕ → List (List ℕ)
words_of text = filter (λ w. nat_lt 0 (length w)) (slice_split is_blank text)

-- a line but for a carriage return at its end
abbrev pub without_return : List ℕ → List ℕ
without_return line = cond (slice_index line (length line - 1) == 13) (take (length line - 1) line) line

-- the words of a line, up to its comment
abbrev pub words_of_line : List ℕ → List (List ℕ)
words_of_line line = words_of (before_first (λ c. c == 35) (without_return line))

-- the words that are left
abbrev pub words_left : Words → List (List ℕ)
words_left w = words_of w.rest.now

-- the answer where the first of some words is read as a number of at most `most`
abbrev pub ReadsFirst : List (List ℕ) → ℕ → Result ℕ Why → Type 0
ReadsFirst [] most r = r ≡ Err TooFewWords
ReadsFirst (w ∷ ws) most r = Reads (number_of w) most r

-- the same where there may be none
abbrev pub ReadsOptional : List (List ℕ) → ℕ → Result (Option ℕ) Why → Type 0
ReadsOptional [] most r = r ≡ Ok None
ReadsOptional (w ∷ ws) most (Ok None) = ⊥
ReadsOptional (w ∷ ws) most (Ok (Some n)) = Reads (number_of w) most (Ok n)
ReadsOptional (w ∷ ws) most (Err e) = Reads (number_of w) most (Err e)

-- the answer where no words are wanted
abbrev pub none_left : List (List ℕ) → Result (Unit {0}) Why
none_left [] = Ok tt
none_left (w ∷ ws) = Err TooManyWords
