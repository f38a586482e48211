-- No list of successful jobs leads to given contents with fewer wipes, or with fewer words, than the jobs of blocks have.
use Rattle.std.proofs.Common.{◌≡◌, ℕ, zero, suc, ◌+◌, ◌-◌, ◌*◌, ◌/◌, ◌%◌, ◌<◌, ◌≤◌, Bool, true, false, cond, eqb, ◌⊎◌, List, [], ◌∷◌, ◌++◌, length, get_or, drop, replicate, sym, refl, ap, ◌∙◌, subst, inl, inr, ⊎_elim, arith}
use lib.Bits.{bit_and, and_self}
use Rattle.std.proofs.lemmas.Nat.{and_le_l, div-add-mod'}
use Rattle.std.proofs.lemmas.Bool.{cases_Bool, cases_eq, cases_lt}
use Rattle.std.proofs.lemmas.Bool.Decides.{nat_tests}
use Rattle.medium.specs.Meaning.{EachBelow}
use Rattle.medium.proofs.Below.{below_drop, below_laid, below_replicate, below_take, below_two}
use Rattle.writer.specs.Jobs.{Job, wipes_of, words_of, job_block, job_place, wipe_of, word_at, wipes_in, words_in}
use Rattle.writer.specs.Blocks.{differing, jobs_by, jobs_for, old_word, rises, word_if, word_of, block_jobs, listed_jobs, rising, block_at, must_wipe}
use Rattle.writer.specs.Laws.{Fits, effect, AllFit, effects}
use Rattle.writer.proofs.Sizes.{block_of_place, blocks_apart, even_start, cases_le}
use Rattle.writer.proofs.Parts.{part_same, word_laid, get_d_part, two_places}
use Rattle.writer.proofs.Rises.{Falls, falls_from, full, full_left, rises_not, fall_keeps}
use Rattle.writer.proofs.Words.{SameWord, differing_same, differing_wiped, differing_none}
use Rattle.writer.proofs.Frames.{Apart, effect_places, job_end, wipe_blank}

-- words and wipes of lists
pub words_append : (xs ys : List Job) → words_of (xs ++ ys) ≡ words_of xs + words_of ys
words_append [] ys = omega arith
words_append (j ∷ xs) ys = let r = words_append xs ys in omega arith

pub wipes_append : (xs ys : List Job) → wipes_of (xs ++ ys) ≡ wipes_of xs + wipes_of ys
wipes_append [] ys = omega arith
wipes_append (j ∷ xs) ys = let r = wipes_append xs ys in omega arith

words_if : (p a v : ℕ) → words_of (word_if p a v) ≡ cond (eqb a v) 0 1
words_if p a v = ⊎_elim (λ (e : eqb a v ≡ true). rw e) (λ (e : eqb a v ≡ false). rw e) (cases_Bool (eqb a v))

wipes_if : (p a v : ℕ) → wipes_of (word_if p a v) ≡ 0
wipes_if p a v = ⊎_elim (λ (e : eqb a v ≡ true). rw e) (λ (e : eqb a v ≡ false). rw e) (cases_Bool (eqb a v))

pub words_more : (p : ℕ) (w : Bool) (old new : List ℕ) (k c : ℕ) →
    words_of (differing p w old new k (suc c)) ≡ cond (eqb (old_word w old (2 * k)) (word_of new (2 * k))) 0 1 + words_of (differing p w old new (k + 1) c)
words_more p w old new k c =
    let one = words_if (p + 2 * k) (old_word w old (2 * k)) (word_of new (2 * k)) in
    words_append (word_if (p + 2 * k) (old_word w old (2 * k)) (word_of new (2 * k))) (differing p w old new (k + 1) c) ∙ omega arith

test_le : (a b w : ℕ) → (b ≡ w → a ≡ w) → cond (eqb a w) 0 1 ≤ cond (eqb b w) 0 1
test_le a b w h = grind (arith, nat_tests)

test_one : (a w : ℕ) → cond (eqb a w) 0 1 ≤ 1
test_one a w = grind (arith, nat_tests)

-- where no bit must rise, a wipe saves no word
module _ (p : ℕ) (old new : List ℕ) (bo : EachBelow 256 old) (bn : EachBelow 256 new) where
  wipe_saves_none : (k c : ℕ) → Falls old new (2 * k) (2 * (k + c)) → words_of (differing p false old new k c) ≤ words_of (differing p true old new k c)
  wipe_saves_none k zero h = omega arith
  wipe_saves_none k (suc c) h =
      let one : cond (eqb (word_of old (2 * k)) (word_of new (2 * k))) 0 1 ≤ cond (eqb 65535 (word_of new (2 * k))) 0 1 =
      test_le (word_of old (2 * k)) 65535 (word_of new (2 * k))
      (λ e.
      let b₀ = bn (2 * k) in
      let b₁ = bn (2 * k + 1) in
      let c₀ : get_or new (2 * k) 0 ≡ 255 = omega arith in
      let c₁ : get_or new (2 * k + 1) 0 ≡ 255 = omega arith in
      let f₀ : get_or old (2 * k) 0 ≡ 255 = sym (full (get_or old (2 * k) 0) (bo (2 * k))) ∙ (rw c₀ at (h (2 * k) (omega arith) (omega arith))) in
      let f₁ : get_or old (2 * k + 1) 0 ≡ 255 = sym (full (get_or old (2 * k + 1) 0) (bo (2 * k + 1))) ∙ (rw c₁ at (h (2 * k + 1) (omega arith) (omega arith))) in
      omega arith) in
      let rest = wipe_saves_none (k + 1) c (λ i l r. h i (omega arith) (omega arith)) in
      omega (arith, words_more p false old new k c, words_more p true old new k c)

-- n bytes agree but for word i, and no bit rose
record Written (n : ℕ) (old : List ℕ) (i : ℕ) (old' : List ℕ) : Type 0 where
  others : (j : ℕ) → 2 * j + 2 ≤ n → (j ≡ i → ⊥) → SameWord old old' j
  under : (k v : ℕ) → k < n → bit_and (get_or old' k 0) v ≡ v → bit_and (get_or old k 0) v ≡ v

-- one word written saves one word at most
word_saves_one : (n p : ℕ) (old old' new : List ℕ) (i : ℕ) → Written n old i old' → (k c : ℕ) → 2 * (k + c) ≤ n →
    words_of (differing p false old new k c) ≤ words_of (differing p false old' new k c) + 1
word_saves_one n p old old' new i h k zero l = omega arith
word_saves_one n p old old' new i h k (suc c) l =
    ⊎_elim
    (λ (e : k ≡ i).
    let r = ap words_of (differing_same p false old old' new (k + 1) c (λ j a z. h.others j (omega arith) (λ q. omega arith))) in
    omega (arith, words_more p false old new k c, words_more p false old' new k c, test_one (old_word false old (2 * k)) (word_of new (2 * k))))
    (λ (e : k ≡ i → ⊥).
    let s = h.others k (omega arith) e in
    let t : cond {A = ℕ} (eqb (old_word false old (2 * k)) (word_of new (2 * k))) 0 1 ≡ cond (eqb (old_word false old' (2 * k)) (word_of new (2 * k))) 0 1 =
    rw (s.0, s.1) in
    omega (arith, words_more p false old new k c, words_more p false old' new k c, word_saves_one n p old old' new i h (k + 1) c (omega arith)))
    (cases_eq k i)

-- over FFH the words that differ are those of a wiped block
differing_blank : (p : ℕ) (blank old new : List ℕ) (k c : ℕ) → ((i : ℕ) → 2 * k ≤ i → i < 2 * (k + c) → get_or blank i 0 ≡ 255) →
    differing p false blank new k c ≡ differing p true old new k c
differing_blank p blank old new k zero h = refl
differing_blank p blank old new k (suc c) h =
    rw (h (2 * k) (omega arith) (omega arith), h (2 * k + 1) (omega arith) (omega arith))
    (ap (λ (z : List Job). word_if (p + 2 * k) 65535 (word_of new (2 * k)) ++ z) (differing_blank p blank old new (k + 1) c (λ i l r. h i (omega arith) (omega arith))))

-- one block
pub words_by : (w : Bool) (n b : ℕ) (old new : List ℕ) → words_of (jobs_by w n b old new) ≡ words_of (differing (b * n) w old new 0 (n / 2))
words_by true n b old new = omega arith
words_by false n b old new = refl

wipes_none : (p : ℕ) (w : Bool) (old new : List ℕ) (k c : ℕ) → wipes_of (differing p w old new k c) ≡ 0
wipes_none p w old new k zero = refl
wipes_none p w old new k (suc c) =
    let r = wipes_none p w old new (k + 1) c in
    let q = wipes_if (p + 2 * k) (old_word w old (2 * k)) (word_of new (2 * k)) in
    wipes_append (word_if (p + 2 * k) (old_word w old (2 * k)) (word_of new (2 * k))) (differing p w old new (k + 1) c) ∙ omega arith

pub wipes_by : (w : Bool) (n b : ℕ) (old new : List ℕ) → wipes_of (jobs_by w n b old new) ≡ cond w 1 0
wipes_by true n b old new = let r = wipes_none (b * n) true old new 0 (n / 2) in omega arith
wipes_by false n b old new = wipes_none (b * n) false old new 0 (n / 2)

one_wipe : (n b : ℕ) (old new : List ℕ) → wipes_of (jobs_for n b old new) ≤ 1
one_wipe n b old new = go (rises old new 0 n)
  where
    go : (t : Bool) → wipes_of (jobs_by t n b old new) ≤ 1
    go true = let w = wipes_by true n b old new in omega arith
    go false = let w = wipes_by false n b old new in omega arith

-- js has at most w words and d wipes more than ks
record AtMost (w d : ℕ) (js ks : List Job) : Type 0 where
  words : words_of js ≤ words_of ks + w
  wipes : wipes_of js ≤ wipes_of ks + d

at_most_front : (w d : ℕ) (js ks rest : List Job) → AtMost w d js ks → AtMost w d (js ++ rest) (ks ++ rest)
at_most_front w d js ks rest h =
    let x = h.words in
    let y = h.wipes in
    record {
      words = omega (arith, words_append js rest, words_append ks rest);
      wipes = omega (arith, wipes_append js rest, wipes_append ks rest);
    }

at_most_back : (w d : ℕ) (front js ks : List Job) → AtMost w d js ks → AtMost w d (front ++ js) (front ++ ks)
at_most_back w d front js ks h =
    let x = h.words in
    let y = h.wipes in
    record {
      words = omega (arith, words_append front js, words_append front ks);
      wipes = omega (arith, wipes_append front js, wipes_append front ks);
    }

module _ (n b : ℕ) (old new : List ℕ) (even : 2 * (n / 2) ≡ n) (bo : EachBelow 256 old) (bn : EachBelow 256 new) where
  no_more_words : words_of (jobs_for n b old new) ≤ words_of (differing (b * n) true old new 0 (n / 2))
  no_more_words = go (rises old new 0 n) refl
    where
      go : (t : Bool) → rises old new 0 n ≡ t → words_of (jobs_by t n b old new) ≤ words_of (differing (b * n) true old new 0 (n / 2))
      go true e = omega arith
      go false e = wipe_saves_none (b * n) old new bo bn 0 (n / 2) (λ i l r. falls_from old new 0 n e i l (omega arith))

  -- after a word was written in it
  word_step : (i : ℕ) (old' : List ℕ) → Written n old i old' → AtMost 1 0 (jobs_for n b old new) (jobs_for n b old' new)
  word_step i old' h = go (rises old' new 0 n) refl
    where
      go : (t : Bool) → rises old' new 0 n ≡ t → AtMost 1 0 (jobs_for n b old new) (jobs_by t n b old' new)
      go true e =
          let a = no_more_words in
          let d = ap words_of (differing_wiped (b * n) old old' new 0 (n / 2)) in
          let w = wipes_by true n b old' new in
          let v = one_wipe n b old new in
          record { words = omega (arith, words_by true n b old' new); wipes = omega arith }
      go false e =
          let q : rises old new 0 n ≡ false = rises_not old new 0 n (λ k l r. h.under k (get_or new k 0) (omega arith) (falls_from old' new 0 n e k l r)) in
          rw q
          (record {
            words = word_saves_one n (b * n) old old' new i h 0 (n / 2) (omega arith);
            wipes = omega (arith, wipes_by false n b old new, wipes_by false n b old' new);
          })

  -- after it was wiped
  wipe_step : (old' : List ℕ) → ((i : ℕ) → i < n → get_or old' i 0 ≡ 255) → AtMost 0 1 (jobs_for n b old new) (jobs_for n b old' new)
  wipe_step old' h =
      let q : rises old' new 0 n ≡ false = rises_not old' new 0 n (λ k l r. rw (h k (omega arith)) (full_left (get_or new k 0) (bn k))) in
      let d = ap words_of (differing_blank (b * n) old' old new 0 (n / 2) (λ i l r. h i (omega arith))) in
      let a = no_more_words in
      let v = one_wipe n b old new in
      rw q (record { words = omega arith; wipes = omega arith })

-- blocks below e, each once
abbrev Absent : ℕ → List ℕ → Type 0
Absent b [] = Unit {0}
Absent b (c ∷ cs) = (c ≡ b → ⊥) × Absent b cs

abbrev pub Each : ℕ → List ℕ → Type 0
Each e [] = Unit {0}
Each e (b ∷ bs) = (b < e) × Absent b bs × Each e bs

absent_rising : (a b k : ℕ) → a < b → Absent a (rising b k)
absent_rising a b zero h = tt
absent_rising a b (suc k) h = ((λ q. omega arith), absent_rising a (b + 1) k (omega arith))

pub each_rising : (e b k : ℕ) → b + k ≤ e → Each e (rising b k)
each_rising e b zero h = tt
each_rising e b (suc k) h = (omega arith, absent_rising b (b + 1) k (omega arith), each_rising e (b + 1) k (omega arith))

-- contents that differ in block d alone: what it saves there, it saves in all
module _ (n e d : ℕ) (xs ys want : List ℕ) (same : (b : ℕ) → b < e → (b ≡ d → ⊥) → block_jobs n xs want b ≡ block_jobs n ys want b) where
  listed_same : (bs : List ℕ) → Each e bs → Absent d bs → listed_jobs n xs want bs ≡ listed_jobs n ys want bs
  listed_same [] each a = refl
  listed_same (b ∷ bs) each a = rw (same b each.0 a.0) (ap (λ (z : List Job). block_jobs n ys want b ++ z) (listed_same bs each.2 a.1))

  listed_step : (w v : ℕ) (bs : List ℕ) → Each e bs → ((b : ℕ) → b < e → b ≡ d → AtMost w v (block_jobs n xs want b) (block_jobs n ys want b)) →
      AtMost w v (listed_jobs n xs want bs) (listed_jobs n ys want bs)
  listed_step w v [] each step = record { words = omega arith; wipes = omega arith }
  listed_step w v (b ∷ bs) each step =
      ⊎_elim
      (λ (q : b ≡ d).
      rw (listed_same bs each.2 (subst (λ (z : ℕ). Absent z bs) q each.1))
      (at_most_front w v (block_jobs n xs want b) (block_jobs n ys want b) (listed_jobs n ys want bs) (step b each.0 q)))
      (λ (q : b ≡ d → ⊥).
      rw (same b each.0 q) (at_most_back w v (block_jobs n ys want b) (listed_jobs n xs want bs) (listed_jobs n ys want bs) (listed_step w v bs each.2 step)))
      (cases_eq b d)

-- a successful job lets no bit rise but by a wipe, and leaves bytes
word_under : (n p v : ℕ) (xs : List ℕ) → Fits n (length xs) (word_at p v) → (i u : ℕ) → bit_and (get_or (effect n (word_at p v) xs) i 0) u ≡ u →
    bit_and (get_or xs i 0) u ≡ u
word_under n p v xs f i u =
    let a = effect_places n (word_at p v) xs f in
    let w = word_laid xs p (bit_and (get_or xs p 0) (v % 256)) (bit_and (get_or xs (p + 1) 0) (v / 256)) f.1 in
    ⊎_elim (λ (l : i < p). λ h. rw (a.low i l) at h)
    (λ (l : p ≤ i). ⊎_elim
    (λ (r : i < p + 2). two_places (λ (k : ℕ). bit_and (get_or (effect n (word_at p v) xs) k 0) u ≡ u → bit_and (get_or xs k 0) u ≡ u) p i l r
    (λ h. fall_keeps (get_or xs p 0) (v % 256) u (rw w.0 at h)) (λ h. fall_keeps (get_or xs (p + 1) 0) (v / 256) u (rw w.1 at h)))
    (λ (r : p + 2 ≤ i). λ h. rw (a.high i r) at h) (cases_lt i (p + 2)))
    (cases_lt i p)

effect_byte : (n : ℕ) (j : Job) (xs : List ℕ) → EachBelow 256 xs → EachBelow 256 (effect n j xs)
effect_byte n (word_at p v) xs b =
    below_laid 256 xs (bit_and (get_or xs p 0) (v % 256) ∷ bit_and (get_or xs (p + 1) 0) (v / 256) ∷ []) p (omega arith) b
    (below_two 256 (bit_and (get_or xs p 0) (v % 256)) (bit_and (get_or xs (p + 1) 0) (v / 256))
    (omega (arith, and_le_l (get_or xs p 0) (v % 256), b p)) (omega (arith, and_le_l (get_or xs (p + 1) 0) (v / 256), b (p + 1))))
effect_byte n (wipe_of d) xs b = below_laid 256 xs (replicate n 255) (d * n) (omega arith) b (below_replicate 256 255 n (omega arith) (omega arith))

-- what one job does for what blocks need, of which e lie on the card
module _ (n e : ℕ) (want xs : List ℕ) (even : 2 * (n / 2) ≡ n) (within : e * n ≤ length xs) (bx : EachBelow 256 xs) (bw : EachBelow 256 want) where
  inside : (b : ℕ) → b < e → b * n + n ≤ length xs
  inside b h = let q = blocks_apart n b e h in omega arith

  part_byte : (b : ℕ) (ys : List ℕ) → EachBelow 256 ys → EachBelow 256 (block_at n ys b)
  part_byte b ys h = below_take 256 n (drop (b * n) ys) (omega arith) (below_drop 256 (b * n) ys h)

  module _ (j : Job) (fits : Fits n (length xs) j) where
    -- another block
    other : (b : ℕ) → b < e → (b ≡ job_block n j → ⊥) → block_at n (effect n j xs) b ≡ block_at n xs b
    other b h ne =
        part_same xs (effect n j xs) (b * n) n (inside b h) places.long
        (λ i l r. ⊎_elim (λ (u : b * n + n ≤ job_place n j). places.low i (omega arith)) (λ (u : job_end n j ≤ b * n). places.high i (omega arith)) (away j fits ne))
      where
        places : Apart (job_place n j) (job_end n j) xs (effect n j xs)
        places = effect_places n j xs fits

        away : (i : Job) → Fits n (length xs) i → (b ≡ job_block n i → ⊥) → (b * n + n ≤ job_place n i) ⊎ (job_end n i ≤ b * n)
        away (word_at p v) f ne =
            let s = even_start n b even in
            ⊎_elim (λ (u : b * n + n ≤ p). inl u)
            (λ (u : p < b * n + n). ⊎_elim (λ (w : p < b * n). inr (omega (arith, f.0))) (λ (w : b * n ≤ p). absurd (ne (sym (block_of_place n b p w u)))) (cases_lt p (b * n)))
            (cases_le (b * n + n) p)
        away (wipe_of d) f ne =
            ⊎_elim (λ (u : b < d). inl (blocks_apart n b d u))
            (λ (u : d ≤ b). ⊎_elim (λ (w : d < b). inr (blocks_apart n d b w)) (λ (w : b ≤ d). absurd (ne (omega arith))) (cases_lt d b))
            (cases_lt b d)

    same_jobs : (b : ℕ) → b < e → (b ≡ job_block n j → ⊥) → block_jobs n xs want b ≡ block_jobs n (effect n j xs) want b
    same_jobs b h ne = ap (λ (old : List ℕ). jobs_for n b old (block_at n want b)) (sym (other b h ne))

  -- the block of a word
  written : (p v b : ℕ) → Fits n (length xs) (word_at p v) → b < e → b ≡ p / n →
      Written n (block_at n xs b) ((p - b * n) / 2) (block_at n (effect n (word_at p v) xs) b)
  written p v b f h q = record {
    others = λ j l ne. (agree j (2 * j) (omega arith) (omega arith) (omega arith) ne, agree j (2 * j + 1) (omega arith) (omega arith) (omega arith) ne);
    under = λ k u l g.
        rw (get_d_part xs (b * n) n k 0 l)
        (word_under n p v xs f (b * n + k) u (rw (get_d_part (effect n (word_at p v) xs) (b * n) n k 0 l) at g));
  }
    where
      low : b * n ≤ p
      low = let d = div-add-mod' p n in let z : b * n ≡ p / n * n = ap (λ (x : ℕ). x * n) q in omega arith

      out : (j : ℕ) → (j ≡ (p - b * n) / 2 → ⊥) → (b * n + 2 * j + 2 ≤ p) ⊎ (p + 2 ≤ b * n + 2 * j)
      out j ne =
          let s = even_start n b even in
          let g = low in
          ⊎_elim (λ (u : b * n + 2 * j < p). inl (omega (arith, f.0)))
          (λ (u : p ≤ b * n + 2 * j).
          ⊎_elim (λ (w : p + 2 ≤ b * n + 2 * j). inr w) (λ (w : b * n + 2 * j < p + 2). absurd (ne (omega (arith, f.0)))) (cases_le (p + 2) (b * n + 2 * j)))
          (cases_lt (b * n + 2 * j) p)

      agree : (j k : ℕ) → 2 * j ≤ k → k < 2 * j + 2 → k < n → (j ≡ (p - b * n) / 2 → ⊥) → get_or (block_at n xs b) k 0 ≡ get_or (block_at n (effect n (word_at p v) xs) b) k 0
      agree j k l r i ne =
          let a = effect_places n (word_at p v) xs f in
          get_d_part xs (b * n) n k 0 i
          ∙ (⊎_elim (λ (u : b * n + 2 * j + 2 ≤ p). sym (a.low (b * n + k) (omega arith))) (λ (u : p + 2 ≤ b * n + 2 * j). sym (a.high (b * n + k) (omega arith))) (out j ne)
          ∙ sym (get_d_part (effect n (word_at p v) xs) (b * n) n k 0 i))

  -- one job saves one at most, and of its own kind
  job_saves : (bs : List ℕ) → Each e bs → (j : Job) → Fits n (length xs) j →
      AtMost (words_in j) (wipes_in j) (listed_jobs n xs want bs) (listed_jobs n (effect n j xs) want bs)
  job_saves bs each (word_at p v) f =
      let ys = effect n (word_at p v) xs in
      listed_step n e (p / n) xs ys want (same_jobs (word_at p v) f) 1 0 bs each
      (λ b h q.
      word_step n b (block_at n xs b) (block_at n want b) even (part_byte b xs bx) (part_byte b want bw) ((p - b * n) / 2) (block_at n ys b) (written p v b f h q))
  job_saves bs each (wipe_of d) f =
      let ys = effect n (wipe_of d) xs in
      listed_step n e d xs ys want (same_jobs (wipe_of d) f) 0 1 bs each
      (λ b h q.
      let z : b * n ≡ d * n = ap (λ (x : ℕ). x * n) q in
      wipe_step n b (block_at n xs b) (block_at n want b) even (part_byte b xs bx) (part_byte b want bw) (block_at n ys b)
      (λ i l. get_d_part ys (b * n) n i 0 l ∙ wipe_blank n d xs f (b * n + i) (omega arith) (omega arith)))

-- contents as wanted need no job
none_needed : (n : ℕ) (want bs : List ℕ) → listed_jobs n want want bs ≡ []
none_needed n want [] = refl
none_needed n want (b ∷ bs) =
    let calm : must_wipe n want want b ≡ false = rises_not (block_at n want b) (block_at n want b) 0 n (λ i l r. and_self (get_or (block_at n want b) i 0)) in
    rw (calm, differing_none (b * n) (block_at n want b) (block_at n want b) 0 (n / 2) (λ j l r. (refl, refl))) (none_needed n want bs)

-- a list of successful jobs that leads to what is wanted has the words, and the wipes, that blocks need
pub least : (n e : ℕ) (want bs : List ℕ) → 2 * (n / 2) ≡ n → EachBelow 256 want → Each e bs → (js : List Job) (xs : List ℕ) → EachBelow 256 xs → e * n ≤ length xs →
    AllFit n (length xs) js → effects n js xs ≡ want → (words_of (listed_jobs n xs want bs) ≤ words_of js) × (wipes_of (listed_jobs n xs want bs) ≤ wipes_of js)
least n e want bs even bw each [] xs bx within a q =
    let z : listed_jobs n xs want bs ≡ [] = rw q (none_needed n want bs) in
    let x = ap words_of z in
    let y = ap wipes_of z in
    (omega arith, omega arith)
least n e want bs even bw each (j ∷ js) xs bx within a q =
    let s = job_saves n e want xs even within bx bw bs each j a.0 in
    let x = s.words in
    let y = s.wipes in
    let l = (effect_places n j xs a.0).long in
    let r = least n e want bs even bw each js (effect n j xs) (effect_byte n j xs bx) (omega arith) (rw l a.1) q in
    (omega (arith, r.0), omega (arith, r.1))
