-- The two lanes of a block: the bytes of a word, and a wipe, one lane after the other.
use Rattle.std.proofs.Common.{◌≡◌, ℕ, zero, suc, ◌+◌, ◌≤◌, Bool, true, false, cond, not, ◌≢◌, List, [], ◌∷◌, ◌++◌, map, length, get_or, take, drop, set, sym, refl, ap, ◌∙◌, arith}
use lib.Bits.{bit_and}
use Rattle.std.proofs.lemmas.List.{length-take-le, length-drop, length-map, length-set, take_at, drop_at, drop-drop, set_split, take_more_set, drop-set-lt, append_assoc, get_or-set_other}
use Rattle.medium.specs.Meaning.{EachBelow}
use Rattle.medium.specs.Jobs.{laid, wiped, byte_after}
use Rattle.slot.specs.Lane.{mixed}

-- two bytes, one set after the other, are laid over a list
laid_two : (xs : List ℕ) (p x y : ℕ) → p + 2 ≤ length xs → set (set xs p x) (p + 1) y ≡ laid xs p (x ∷ y ∷ [])
laid_two xs p x y h =
    let n : suc (p + 1) ≡ p + 2 = omega arith in
    set_split (set xs p x) (p + 1) y (omega (arith, length-set xs p x))
    ∙ (ap (λ l. l ++ (y ∷ drop (suc (p + 1)) (set xs p x))) (take_more_set xs p x (omega arith))
    ∙ (append_assoc (take p xs) (x ∷ []) (y ∷ drop (suc (p + 1)) (set xs p x))
    ∙ ap (λ l. take p xs ++ (x ∷ y ∷ l)) (drop-set-lt (suc (p + 1)) xs p x (omega arith) ∙ ap (λ k. drop k xs) n)))

-- the second byte of a word is made of what was there before the first was written
pub word_bytes : (xs : List ℕ) (p x : ℕ) (lives : Bool) (v left : ℕ) → p + 2 ≤ length xs → set (set xs p x) (p + 1) (byte_after lives (bit_and (get_or (set xs p x) (p + 1) 0) v) left) ≡ laid xs p (x ∷ byte_after lives (bit_and (get_or xs (p + 1) 0) v) left ∷ [])
word_bytes xs p x lives v left h =
    let ne : p + 1 ≢ p = omega arith in
    ap (λ z. set (set xs p x) (p + 1) (byte_after lives (bit_and z v) left)) (get_or-set_other xs p (p + 1) x 0 ne)
    ∙ laid_two xs p x (byte_after lives (bit_and (get_or xs (p + 1) 0) v) left) h

pub length_mixed : (t : Bool) (xs ys : List ℕ) → length (mixed t xs ys) ≡ length ys
length_mixed t xs [] = refl
length_mixed t [] (y ∷ ys) = refl
length_mixed true (x ∷ xs) (y ∷ ys) = ap suc (length_mixed false xs ys)
length_mixed false (x ∷ xs) (y ∷ ys) = ap suc (length_mixed true xs ys)

pub below_mixed : (t : Bool) (xs ys : List ℕ) → EachBelow 256 xs → EachBelow 256 ys → EachBelow 256 (mixed t xs ys)
below_mixed t xs [] h g k = g k
below_mixed t [] (y ∷ ys) h g k = g k
below_mixed true (x ∷ xs) (y ∷ ys) h g zero = h 0
below_mixed false (x ∷ xs) (y ∷ ys) h g zero = g 0
below_mixed true (x ∷ xs) (y ∷ ys) h g (suc k) = below_mixed false xs ys (λ j. h (suc j)) (λ j. g (suc j)) k
below_mixed false (x ∷ xs) (y ∷ ys) h g (suc k) = below_mixed true xs ys (λ j. h (suc j)) (λ j. g (suc j)) k

-- one lane mixed in, and then the other: nothing of the old list is left
both_mixed : (t : Bool) (xs zs ys : List ℕ) → length xs ≡ length ys → length zs ≡ length ys → mixed (not t) zs (mixed t xs ys) ≡ mixed t xs zs
both_mixed t xs [] [] h k = refl
both_mixed t xs (z ∷ zs) [] h k = absurd (omega arith)
both_mixed t [] zs (y ∷ ys) h k = absurd (omega arith)
both_mixed t (x ∷ xs) [] (y ∷ ys) h k = absurd (omega arith)
both_mixed true (x ∷ xs) (z ∷ zs) (y ∷ ys) h k = ap (λ l. x ∷ l) (both_mixed false xs zs ys (omega arith) (omega arith))
both_mixed false (x ∷ xs) (z ∷ zs) (y ∷ ys) h k = ap (λ l. z ∷ l) (both_mixed true xs zs ys (omega arith) (omega arith))

-- two lanes that were wiped are a wiped block
mixed_wiped : (t e o : Bool) (xs ys : List ℕ) → length xs ≡ length ys → mixed t (map (byte_after e 255) xs) (map (byte_after o 255) ys) ≡ wiped (cond t e o) (cond t o e) (mixed t xs ys)
mixed_wiped t e o [] [] h = refl
mixed_wiped t e o (x ∷ xs) [] h = absurd (omega arith)
mixed_wiped t e o [] (y ∷ ys) h = absurd (omega arith)
mixed_wiped true e o (x ∷ xs) (y ∷ ys) h = ap (λ l. byte_after e 255 x ∷ l) (mixed_wiped false e o xs ys (omega arith))
mixed_wiped false e o (x ∷ xs) (y ∷ ys) h = ap (λ l. byte_after o 255 y ∷ l) (mixed_wiped true e o xs ys (omega arith))

module _ (xs : List ℕ) (a : ℕ) (ys : List ℕ) (fits : a + length ys ≤ length xs) where
  front : length (take a xs) ≡ a
  front = length-take-le a xs (omega arith)

  from_there : drop a (laid xs a ys) ≡ ys ++ drop (a + length ys) xs
  from_there = drop_at (take a xs) (ys ++ drop (a + length ys) xs) a front

  -- a part laid over a list is there
  pub laid_part : take (length ys) (drop a (laid xs a ys)) ≡ ys
  laid_part = ap (take (length ys)) from_there ∙ take_at ys (drop (a + length ys) xs) (length ys) refl

  -- and another of the same length covers it
  pub laid_again : (zs : List ℕ) → length zs ≡ length ys → laid (laid xs a ys) a zs ≡ laid xs a zs
  laid_again zs e =
      ap (λ l. l ++ (zs ++ drop (a + length zs) (laid xs a ys))) (take_at (take a xs) (ys ++ drop (a + length ys) xs) a front)
      ∙ ap (λ l. take a xs ++ (zs ++ l))
      (ap (λ n. drop (a + n) (laid xs a ys)) e
      ∙ (sym (drop-drop (length ys) a (laid xs a ys))
      ∙ (ap (drop (length ys)) from_there
      ∙ (drop_at ys (drop (a + length ys) xs) (length ys) refl
      ∙ ap (λ n. drop (a + n) xs) (sym e)))))

-- the even lane of a block of n bytes from place a on wiped, and then the odd one, is the wipe of the block
pub lanes_wiped : (xs : List ℕ) (a n : ℕ) (e o : Bool) (le lo : List ℕ) → a + n ≤ length xs → length le ≡ n → length lo ≡ n → laid (laid xs a (mixed true (map (byte_after e 255) le) (take n (drop a xs)))) a (mixed false (map (byte_after o 255) lo) (take n (drop a (laid xs a (mixed true (map (byte_after e 255) le) (take n (drop a xs))))))) ≡ laid xs a (wiped e o (mixed true le lo))
lanes_wiped xs a n e o le lo h k j =
    let old = take n (drop a xs) in
    let evens = map (byte_after e 255) le in
    let odds = map (byte_after o 255) lo in
    let ys = mixed true evens old in
    let l : length old ≡ n = length-take-le n (drop a xs) (omega (arith, length-drop a xs)) in
    let ly : length ys ≡ n = length_mixed true evens old ∙ l in
    let le_long : length evens ≡ n = length-map le (byte_after e 255) ∙ k in
    let lo_long : length odds ≡ n = length-map lo (byte_after o 255) ∙ j in
    let fits : a + length ys ≤ length xs = omega arith in
    let back : take n (drop a (laid xs a ys)) ≡ ys = ap (λ m. take m (drop a (laid xs a ys))) (sym ly) ∙ laid_part xs a ys fits in
    ap (λ l. laid (laid xs a ys) a (mixed false odds l)) back
    ∙ (laid_again xs a ys fits (mixed false odds ys) (length_mixed false odds ys)
    ∙ ap (laid xs a) (both_mixed true evens odds old (le_long ∙ sym l) (lo_long ∙ sym l) ∙ mixed_wiped true e o le lo (k ∙ sym j)))
