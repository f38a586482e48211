-- Where a text is cut, and the words of it.
use Rattle.std.proofs.Common.{◌≡◌, ℕ, suc, ◌<◌, Bool, true, false, not, List, [], ◌∷◌, length, take, drop, filter, nat_lt, Option, position, sym, refl, ap, ◌∙◌, subst, arith, inl, inr}
use Rattle.std.proofs.lemmas.Bool.{cases_Bool, cond-true}
use Rattle.std.specs.List.{position_or_len, slice_split, onto_first}
use Rattle.std.specs.Option.{unwrap_or}
use Rattle.std.proofs.lemmas.List.Sums.{prefix_len-le-length}

-- the place of the first element that passes, or else the length
place : {X : Type 0} (p : X → Bool) (xs : List X) (r : Option ℕ) → r ≡ position p xs → unwrap_or r (length xs) ≡ position_or_len p xs
place p xs r e = rw e (let most = prefix_len-le-length (λ x. not (p x)) xs in grind arith)

-- the parts that are not empty
abbrev pub parts : {X : Type 0} → (X → Bool) → List X → List (List X)
parts p xs = filter (λ w. nat_lt 0 (length w)) (slice_split p xs)

kept : {X : Type 0} (w : List X) (ws : List (List X)) → 0 < length w → filter (λ w. nat_lt 0 (length w)) (w ∷ ws) ≡ w ∷ filter (λ w. nat_lt 0 (length w)) ws
kept w ws h = cond-true (nat_lt 0 (length w)) _ _ (grind arith)

-- an element that passes is in no part, and ends the first
parts_yes : {X : Type 0} (p : X → Bool) (x : X) (xs : List X) → p x ≡ true → parts p (x ∷ xs) ≡ parts p xs
parts_yes p x xs e = rw e refl

here_yes : {X : Type 0} (p : X → Bool) (x : X) (xs : List X) → p x ≡ true → position_or_len p (x ∷ xs) ≡ 0
here_yes p x xs e = rw e refl

here_no : {X : Type 0} (p : X → Bool) (x : X) (xs : List X) → p x ≡ false → position_or_len p (x ∷ xs) ≡ suc (position_or_len p xs)
here_no p x xs e = rw e (omega arith)

split_no : {X : Type 0} (p : X → Bool) (x : X) (xs : List X) → p x ≡ false → slice_split p (x ∷ xs) ≡ onto_first x (slice_split p xs)
split_no p x xs e = rw e refl

negated : {X : Type 0} (p : X → Bool) (x : X) (b : Bool) → p x ≡ b → not (p x) ≡ not b
negated p x b e = ap not e

-- what passes at the front is in no part
parts_past : {X : Type 0} (p : X → Bool) (xs : List X) → parts p (drop (position_or_len (λ x. not (p x)) xs) xs) ≡ parts p xs
parts_past p [] = refl
parts_past {X} p (x ∷ xs) =
    elim (cases_Bool (p x)) [
      | inl e ↦
          ap (λ n. parts p (drop n (x ∷ xs))) (here_no (λ (z : X). not (p z)) x xs (negated p x true e)) ∙ parts_past p xs ∙ sym (parts_yes p x xs e)
      | inr e ↦ ap (λ n. parts p (drop n (x ∷ xs))) (here_yes (λ (z : X). not (p z)) x xs (negated p x false e))
    ]

-- the first part, and the parts of what follows it
pub record FirstPart {X : Type 0} (p : X → Bool) (xs : List X) : Type 0 where
  pub others : List (List X)
  pub split : slice_split p xs ≡ take (position_or_len p xs) xs ∷ others
  pub rest : filter (λ w. nat_lt 0 (length w)) others ≡ parts p (drop (position_or_len p xs) xs)

first_part : {X : Type 0} (p : X → Bool) (xs : List X) → FirstPart p xs
first_part p [] = record { others = []; split = refl; rest = refl }
first_part {X} p (x ∷ xs) =
    elim (cases_Bool (p x)) [
      | inl e ↦
          let here = here_yes p x xs e in
          record {
            others = slice_split p xs;
            split = rw e refl;
            rest = sym (ap (λ n. parts p (drop n (x ∷ xs))) here ∙ parts_yes p x xs e);
          }
      | inr e ↦
          let more = first_part p xs in
          let here = here_no p x xs e in
          record {
            others = more.others;
            split = split_no p x xs e ∙ ap (onto_first x) more.split ∙ ap (λ n. take n (x ∷ xs) ∷ more.others) (sym here);
            rest = more.rest ∙ sym (ap (λ n. parts p (drop n (x ∷ xs))) here);
          }
    ]

-- past what passes at the front, an empty first part is the end
end_past : {X : Type 0} (p : X → Bool) (xs : List X) → length (take (position_or_len p (drop (position_or_len (λ x. not (p x)) xs) xs)) (drop (position_or_len (λ x. not (p x)) xs) xs)) ≡ 0 → drop (position_or_len (λ x. not (p x)) xs) xs ≡ []
end_past p [] h = refl
end_past {X} p (x ∷ xs) h =
    elim (cases_Bool (p x)) [
      | inl e ↦
          let here = here_no (λ (z : X). not (p z)) x xs (negated p x true e) in
          ap (λ n. drop n (x ∷ xs)) here ∙ end_past p xs (rw here at h)
      | inr e ↦
          let here = here_yes (λ (z : X). not (p z)) x xs (negated p x false e) in
          let g = rw here at h in
          let none : suc (length (take (position_or_len p xs) xs)) ≡ 0 = rw (here_no p x xs e) at g in
          absurd (omega arith)
    ]

-- the next part: none where the first part of what is left is empty, and else that
none_next : {X : Type 0} (p : X → Bool) (xs text : List X) → text ≡ drop (position_or_len (λ x. not (p x)) xs) xs → length (take (position_or_len p text) text) ≡ 0 → (parts p xs ≡ []) × (parts p (drop (position_or_len p text) text) ≡ [])
none_next p xs text e h =
    let front = parts_past p xs in
    let past = end_past p xs (rw e at h) in
    let empty : text ≡ [] = e ∙ past in
    (sym front ∙ ap (parts p) past, ap (λ t. parts p (drop (position_or_len p t) t)) empty)

one_next : {X : Type 0} (p : X → Bool) (xs text : List X) → text ≡ drop (position_or_len (λ x. not (p x)) xs) xs → 0 < length (take (position_or_len p text) text) → parts p xs ≡ take (position_or_len p text) text ∷ parts p (drop (position_or_len p text) text)
one_next p xs text e h =
    let front : parts p xs ≡ parts p text = sym (parts_past p xs) ∙ ap (parts p) (sym e) in
    let first = first_part p text in
    let word = take (position_or_len p text) text in
    front ∙ ap (filter (λ w. nat_lt 0 (length w))) first.split ∙ kept word first.others h ∙ ap (λ l. word ∷ l) first.rest

-- the same where the places are those that were found
pub record CutAt {X : Type 0} (p : X → Bool) (xs word rest : List X) : Type 0 where
  pub front : word ≡ take (position_or_len p xs) xs
  pub back : rest ≡ drop (position_or_len p xs) xs

pub cut_at : {X : Type 0} (p : X → Bool) (xs word rest : List X) (r : Option ℕ) → r ≡ position p xs → word ≡ take (unwrap_or r (length xs)) xs → rest ≡ drop (unwrap_or r (length xs)) xs → CutAt p xs word rest
cut_at p xs word rest r e f b =
    let at = place p xs r e in
    record { front = f ∙ ap (λ n. take n xs) at; back = b ∙ ap (λ n. drop n xs) at }

-- what stands in front and behind: no part where the next word is empty, and else that word first
pub none_left : {X : Type 0} (p : X → Bool) (xs blank text word rest : List X) → CutAt (λ x. not (p x)) xs blank text → CutAt p text word rest → length word ≡ 0 → (parts p xs ≡ []) × (parts p rest ≡ [])
none_left p xs blank text word rest c d h =
    let none = none_next p xs text c.back (sym (ap length d.front) ∙ h) in
    (none.0, ap (parts p) d.back ∙ none.1)

pub one_left : {X : Type 0} (p : X → Bool) (xs blank text word rest : List X) → CutAt (λ x. not (p x)) xs blank text → CutAt p text word rest → 0 < length word → parts p xs ≡ word ∷ parts p rest
one_left p xs blank text word rest c d h =
    one_next p xs text c.back (subst (λ (w : List _). 0 < length w) d.front h) ∙ ap (λ w. w ∷ parts p (drop (position_or_len p text) text)) (sym d.front) ∙ ap (λ r. word ∷ parts p r) (sym d.back)
