-- A part of the contents, and what a list laid over them brings into it.
use Rattle.std.proofs.Common.{◌≡◌, ℕ, ◌+◌, ◌-◌, ◌*◌, ◌<◌, ◌≤◌, min, List, [], ◌∷◌, ◌++◌, length, get_or, take, drop, sym, ap, ◌∙◌, subst, ⊎_elim, arith}
use Rattle.std.proofs.lemmas.List.{same_lists, ext_get_or, length-append, length-take, length-drop, drop-drop, get_or-take, get_or-drop, take-append-drop}
use Rattle.std.proofs.Math.Seq.{drop-append_seam, take-append_seam}
use Rattle.std.proofs.lemmas.Bool.{cases_lt}
use Rattle.medium.specs.Jobs.{laid}
use Rattle.medium.proofs.Laid.{length_laid, laid_below, laid_in, laid_past}
use Rattle.writer.specs.Source.{piece}
use Rattle.writer.specs.Blocks.{block_at, part}

pub length_part : (xs : List ℕ) (s n : ℕ) → s + n ≤ length xs → length (part xs s n) ≡ n
length_part xs s n h = simp (length-take, length-drop) (omega arith)

pub get_d_part : (xs : List ℕ) (s n k d : ℕ) → k < n → get_or (part xs s n) k d ≡ get_or xs (s + k) d
get_d_part xs s n k d h = rw (get_or-take, get_or-drop)

-- contents that agree there have the same part
pub part_same : (xs ys : List ℕ) (s n : ℕ) → s + n ≤ length xs → length ys ≡ length xs → ((i : ℕ) → s ≤ i → i < s + n → get_or ys i 0 ≡ get_or xs i 0) →
    part ys s n ≡ part xs s n
part_same xs ys s n h l e =
    let a = length_part xs s n h in
    let b = length_part ys s n (omega arith) in
    ext_get_or 0 (part ys s n) (part xs s n) (b ∙ sym a)
    (λ k i. get_d_part ys s n k 0 (omega arith) ∙ (e (s + k) (omega arith) (omega arith) ∙ sym (get_d_part xs s n k 0 (omega arith))))

-- one turn of a loop over the parts of n places: x is the next
pub part_taken : (xs x rest : List ℕ) (n b : ℕ) → drop (b * n) xs ≡ x ++ rest → length x ≡ n →
    (x ≡ block_at n xs b) × (rest ≡ drop ((b + 1) * n) xs) × (0 < n → b * n + n ≤ length xs)
part_taken xs x rest n b e l =
    let f : length xs - b * n ≡ length x + length rest = sym (length-drop (b * n) xs) ∙ (ap length e ∙ length-append x rest) in
    let m : (b + 1) * n ≡ b * n + n = omega arith in (
      sym (ap (λ z. take n z) e ∙ (ap (λ k. take k (x ++ rest)) (sym l) ∙ take-append_seam x rest)),
      sym (ap (λ i. drop i xs) m ∙ (sym (drop-drop n (b * n) xs) ∙ (ap (drop n) e ∙ (ap (λ k. drop k (x ++ rest)) (sym l) ∙ drop-append_seam x rest)))),
      λ some. omega arith,
    )

pub laid_none : (xs : List ℕ) (p : ℕ) → laid xs p [] ≡ xs
laid_none xs p = let e : p + 0 ≡ p = omega arith in rw e (take-append-drop p xs)

-- the two places of a word
pub two_places : (P : ℕ → Type 0) (q i : ℕ) → q ≤ i → i < q + 2 → P q → P (q + 1) → P i
two_places P q i l r x y =
    ⊎_elim (λ (u : i < q + 1). let e : q ≡ i = omega arith in subst P e x) (λ (u : q + 1 ≤ i). let e : q + 1 ≡ i = omega arith in subst P e y) (cases_lt i (q + 1))

pub word_laid : (xs : List ℕ) (p x y : ℕ) → p + 2 ≤ length xs → (get_or (laid xs p (x ∷ y ∷ [])) p 0 ≡ x) × (get_or (laid xs p (x ∷ y ∷ [])) (p + 1) 0 ≡ y)
word_laid xs p x y l =
    let u : p - p ≡ 0 = omega arith in
    let v : p + 1 - p ≡ 1 = omega arith in (
      laid_in xs (x ∷ y ∷ []) p p 0 (omega arith) (omega arith) (omega arith) ∙ ap (λ (k : ℕ). get_or (x ∷ y ∷ []) k 0) u,
      laid_in xs (x ∷ y ∷ []) p (p + 1) 0 (omega arith) (omega arith) (omega arith) ∙ ap (λ (k : ℕ). get_or (x ∷ y ∷ []) k 0) v,
    )

module _ (xs ys : List ℕ) (s n p : ℕ) (a : s + n ≤ length xs) (b : p + length ys ≤ length xs) (e : p < s + n) (f : s < p + length ys) where
  length_piece : length (piece ys p s n) ≡ min (s + n - p) (length ys) - (s - p)
  length_piece = simp (length-take, length-drop) (omega arith)

  piece_fits : p - s + length (piece ys p s n) ≤ n
  piece_fits = rw length_piece (omega arith)

  whole : length (part xs s n) ≡ n
  whole = length_part xs s n a

  inside : (k d : ℕ) → k < n → p ≤ s + k → s + k < p + length ys →
      get_or (laid xs p ys) (s + k) d ≡ get_or (laid (part xs s n) (p - s) (piece ys p s n)) k d
  inside k d h l r =
      let q = length_piece in
      let w = whole in
      let i : k - (p - s) < min (s + n - p) (length ys) - (s - p) = omega arith in
      let j : s - p + (k - (p - s)) ≡ s + k - p = omega arith in
      laid_in xs ys p (s + k) d l r (omega arith)
      ∙ sym (laid_in (part xs s n) (piece ys p s n) (p - s) k d (omega arith) (omega arith) (omega arith)
      ∙ (get_or-take (min (s + n - p) (length ys) - (s - p)) (drop (s - p) ys) (k - (p - s)) d i
      ∙ (get_or-drop (s - p) ys (k - (p - s)) d ∙ ap (λ z. get_or ys z d) j)))

  here : (k d : ℕ) → k < n → get_or (laid xs p ys) (s + k) d ≡ get_or (laid (part xs s n) (p - s) (piece ys p s n)) k d
  here k d h =
      let q = length_piece in
      let w = whole in
      ⊎_elim
      (λ (l : s + k < p).
      laid_below xs ys p (s + k) d l (omega arith)
      ∙ sym (laid_below (part xs s n) (piece ys p s n) (p - s) k d (omega arith) (omega arith) ∙ get_d_part xs s n k d h))
      (λ (l : p ≤ s + k).
      ⊎_elim (λ (r : s + k < p + length ys). inside k d h l r)
      (λ (r : p + length ys ≤ s + k).
      laid_past xs ys p (s + k) d r (omega arith)
      ∙ sym (laid_past (part xs s n) (piece ys p s n) (p - s) k d (omega arith) (omega arith) ∙ get_d_part xs s n k d h))
      (cases_lt (s + k) (p + length ys)))
      (cases_lt (s + k) p)

  -- the part of the contents with ys laid over is the part with its piece laid over
  pub part_laid : part (laid xs p ys) s n ≡ laid (part xs s n) (p - s) (piece ys p s n)
  part_laid =
      let l₁ : length (part (laid xs p ys) s n) ≡ n = length_part (laid xs p ys) s n (rw (length_laid xs ys p b) a) in
      let l₂ : length (part xs s n) ≡ n = length_part xs s n a in
      let l₃ : length (laid (part xs s n) (p - s) (piece ys p s n)) ≡ length (part xs s n) = length_laid (part xs s n) (piece ys p s n) (p - s) (rw l₂ piece_fits) in
      same_lists _ _ (l₁ ∙ (sym l₂ ∙ sym l₃))
      (λ k d h. let h' : k < n = omega arith in get_d_part (laid xs p ys) s n k d h' ∙ here k d h')

  -- the same as a program computes it
  pub wanted_part : (off : ℕ) (zs : List ℕ) → off ≡ p - s → zs ≡ piece ys p s n → laid (part xs s n) off zs ≡ part (laid xs p ys) s n
  wanted_part off zs eo ez = rw (ez, eo) (sym part_laid)

  pub cut_fits : (off : ℕ) (zs : List ℕ) → off ≡ p - s → zs ≡ piece ys p s n → off + length zs ≤ n
  cut_fits off zs eo ez = rw (ez, eo) piece_fits
