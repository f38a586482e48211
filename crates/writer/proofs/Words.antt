-- The word writes of a block.
use Rattle.std.proofs.Common.{◌≡◌, ℕ, zero, suc, ◌+◌, ◌-◌, ◌*◌, ◌/◌, ◌%◌, ◌<◌, ◌≤◌, min, Bool, true, false, eqb, List, [], ◌∷◌, ◌++◌, length, get_or, drop, sym, refl, ap, ◌∙◌, append_assoc, mul_comm, arith}
use Rattle.std.proofs.lemmas.List.{length-append}
use Rattle.std.proofs.lemmas.Bool.{cond_both, eq-eqb}
use Rattle.medium.specs.Jobs.{laid}
use Rattle.medium.proofs.Laid.{laid_below, laid_past}
use Rattle.writer.specs.Jobs.{Job}
use Rattle.writer.proofs.Parts.{get_d_part, part_taken}
use Rattle.writer.specs.Blocks.{word_of, old_word, word_if, differing, wiped_first, jobs_by}

-- the two bytes of word k agree
abbrev pub SameWord : List ℕ → List ℕ → ℕ → Type 0
SameWord xs ys k = (get_or xs (2 * k) 0 ≡ get_or ys (2 * k) 0) × (get_or xs (2 * k + 1) 0 ≡ get_or ys (2 * k + 1) 0)

-- one turn of a loop over words, with what stands and the word as the program has them
pub differing_more : (p : ℕ) (w : Bool) (old new : List ℕ) (k end st v : ℕ) → k < end → st ≡ old_word w old (2 * k) → v ≡ word_of new (2 * k) →
    differing p w old new k (end - k) ≡ word_if (p + 2 * k) st v ++ differing p w old new (k + 1) (end - (k + 1))
differing_more p w old new k end st v h es ev = let e : end - k ≡ suc (end - (k + 1)) = omega arith in rw (es, ev, e)

-- one turn of a loop over the pairs of bytes: x is the next
pub pair_taken : (xs x rest : List ℕ) (k : ℕ) → drop (2 * k) xs ≡ x ++ rest → length x ≡ 2 →
    (word_of x 0 ≡ word_of xs (2 * k)) × (rest ≡ drop (2 * (k + 1)) xs) × (k < length xs / 2)
pair_taken xs x rest k e l =
    let c = mul_comm 2 k in
    let d = mul_comm 2 (k + 1) in
    let t = part_taken xs x rest 2 k (ap (λ i. drop i xs) (sym c) ∙ e) l in
    let z : k * 2 + 0 ≡ 2 * k = omega arith in
    let y : k * 2 + 1 ≡ 2 * k + 1 = omega arith in
    let u : get_or x 0 0 ≡ get_or xs (2 * k) 0 = ap (λ v. get_or v 0 0) t.0 ∙ (get_d_part xs (k * 2) 2 0 0 (omega arith) ∙ ap (λ i. get_or xs i 0) z) in
    let v : get_or x 1 0 ≡ get_or xs (2 * k + 1) 0 = ap (λ v. get_or v 1 0) t.0 ∙ (get_d_part xs (k * 2) 2 1 0 (omega arith) ∙ ap (λ i. get_or xs i 0) y) in
    let n = t.2 (omega arith) in
    (rw (u, v) refl, t.1 ∙ ap (λ i. drop i xs) (sym d), omega arith)

-- after a wipe the old contents play no part
pub differing_wiped : (p : ℕ) (old old' new : List ℕ) (k n : ℕ) → differing p true old new k n ≡ differing p true old' new k n
differing_wiped p old old' new k zero = refl
differing_wiped p old old' new k (suc n) =
    ap (λ (z : List Job). word_if (p + 2 * k) 65535 (word_of new (2 * k)) ++ z) (differing_wiped p old old' new (k + 1) n)

-- old contents that agree give the same writes
pub differing_same : (p : ℕ) (w : Bool) (old old' new : List ℕ) (k n : ℕ) → ((j : ℕ) → k ≤ j → j < k + n → SameWord old old' j) →
    differing p w old new k n ≡ differing p w old' new k n
differing_same p true old old' new k n h = differing_wiped p old old' new k n
differing_same p false old old' new k zero h = refl
differing_same p false old old' new k (suc n) h =
    let s = h k (omega arith) (omega arith) in
    rw (s.0, s.1)
    (ap (λ (z : List Job). word_if (p + 2 * k) (word_of old' (2 * k)) (word_of new (2 * k)) ++ z)
    (differing_same p false old old' new (k + 1) n (λ j l r. h j (omega arith) (omega arith))))

-- words that stand as wanted need no write
word_if_same : (p old new : ℕ) → old ≡ new → word_if p old new ≡ []
word_if_same p old new e = rw (eq-eqb old new e)

pub differing_none : (p : ℕ) (old new : List ℕ) (k n : ℕ) → ((j : ℕ) → k ≤ j → j < k + n → SameWord old new j) → differing p false old new k n ≡ []
differing_none p old new k zero h = refl
differing_none p old new k (suc n) h =
    let s = h k (omega arith) (omega arith) in
    let e : word_of old (2 * k) ≡ word_of new (2 * k) = rw (s.0, s.1) in
    rw (word_if_same (p + 2 * k) (word_of old (2 * k)) (word_of new (2 * k)) e) (differing_none p old new (k + 1) n (λ j l r. h j (omega arith) (omega arith)))

append_none : (js : List Job) → js ++ [] ≡ js
append_none [] = refl
append_none (j ∷ js) = ap (λ (z : List Job). j ∷ z) (append_none js)

-- the words of a block, in two parts
pub differing_split : (p : ℕ) (w : Bool) (old new : List ℕ) (k a n : ℕ) → a ≤ n →
    differing p w old new k n ≡ differing p w old new k a ++ differing p w old new (k + a) (n - a)
differing_split p w old new k zero n h = let e : k + 0 ≡ k = omega arith in let f : n - 0 ≡ n = omega arith in rw (e, f)
differing_split p w old new k (suc a) zero h = absurd (omega arith)
differing_split p w old new k (suc a) (suc n) h =
    let e : k + suc a ≡ k + 1 + a = omega arith in
    let f : suc n - suc a ≡ n - a = omega arith in
    let r = differing_split p w old new (k + 1) a n (omega arith) in
    rw (e, f)
    (ap (λ (z : List Job). word_if (p + 2 * k) (old_word w old (2 * k)) (word_of new (2 * k)) ++ z) r
    ∙ sym (append_assoc (word_if (p + 2 * k) (old_word w old (2 * k)) (word_of new (2 * k))) _ _))

-- only words from a to before z are to be compared where all others agree
pub differing_only : (p : ℕ) (old new : List ℕ) (a z n : ℕ) → a ≤ z → z ≤ n → ((j : ℕ) → j < a → SameWord old new j) →
    ((j : ℕ) → z ≤ j → j < n → SameWord old new j) →
    differing p false old new a (z - a) ≡ differing p false old new 0 n
differing_only p old new a z n az zn low high =
    let e : 0 + a ≡ a = omega arith in
    let f : a + (z - a) ≡ z = omega arith in
    let g : n - a - (z - a) ≡ n - z = omega arith in
    let front = differing_none p old new 0 a (λ j l r. low j (omega arith)) in
    let back = differing_none p old new z (n - z) (λ j l r. high j l (omega arith)) in
    sym (differing_split p false old new 0 a n (omega arith)
    ∙ rw (front, e)
    (differing_split p false old new a (z - a) (n - a) (omega arith)
    ∙ rw (f, g, back) (append_none (differing p false old new a (z - a)))))

-- under a piece laid over, these are the words that the piece touches
pub differing_touched : (p : ℕ) (old ys : List ℕ) (off end : ℕ) → off + length ys ≤ length old → 2 * (length old / 2) ≡ length old →
    end ≡ (off + length ys) / 2 + min 1 ((off + length ys) % 2) →
    differing p false old (laid old off ys) (off / 2) (end - off / 2) ≡ differing p false old (laid old off ys) 0 (length old / 2)
differing_touched p old ys off end h whole e =
    differing_only p old (laid old off ys) (off / 2) end (length old / 2) (omega arith) (omega arith)
    (λ j l. (sym (laid_below old ys off (2 * j) 0 (omega arith) (omega arith)), sym (laid_below old ys off (2 * j + 1) 0 (omega arith) (omega arith))))
    (λ j l r. (sym (laid_past old ys off (2 * j) 0 (omega arith) (omega arith)), sym (laid_past old ys off (2 * j + 1) 0 (omega arith) (omega arith))))

-- how many there are at most
pub length_word_if : (p old new : ℕ) → length (word_if p old new) ≤ 1
length_word_if p old new = cond_both (eqb old new) _ _ (λ (z : List Job). length z ≤ 1) (λ _. omega arith) (λ _. omega arith)

length_differing : (p : ℕ) (w : Bool) (old new : List ℕ) (k n : ℕ) → length (differing p w old new k n) ≤ n
length_differing p w old new k zero = omega arith
length_differing p w old new k (suc n) =
    simp length-append (omega (arith, length_word_if (p + 2 * k) (old_word w old (2 * k)) (word_of new (2 * k)), length_differing p w old new (k + 1) n))

length_first : (w : Bool) (b : ℕ) (js : List Job) → length (wiped_first w b js) ≤ length js + 1
length_first true b js = omega arith
length_first false b js = omega arith

pub length_jobs : (w : Bool) (n b : ℕ) (old new : List ℕ) → length (jobs_by w n b old new) ≤ n / 2 + 1
length_jobs w n b old new =
    let p = length_first w b (differing (b * n) w old new 0 (n / 2)) in
    let q = length_differing (b * n) w old new 0 (n / 2) in
    omega arith
