-- The counts of blocks, one after the other.
use Rattle.std.proofs.Common.{◌≡◌, ℕ, zero, suc, ◌+◌, ◌-◌, ◌*◌, ◌/◌, ◌<◌, ◌≤◌, Bool, true, cond, eqb, List, [], ◌∷◌, ◌++◌, length, sym, refl, ap, ◌∙◌, zero-mul, div-mul-le_self, arith}
use native.Mathlib.Nat.{zero-div}
use Rattle.std.proofs.lemmas.Nat.{div-mul-add}
use Rattle.medium.specs.Limits.{BlockSize}
use Rattle.medium.specs.Meaning.{Meaning}
use Rattle.medium.specs.Jobs.{laid}
use Rattle.medium.proofs.Sizes.{block_end, size_even, size_small, size_two}
use Rattle.writer.specs.Jobs.{Job, tally, wipe_of, wipes_of, word_at, words_of}
use Rattle.writer.specs.Blocks.{block_at, block_jobs, blocks_met, differing, jobs_by, jobs_for, listed_jobs, met_count, old_word, rises, rising, word_of}
use Rattle.writer.specs.Put.{block_counts, of_one_block, plan_counts}
use Rattle.writer.specs.declared.counts.Counts.{Counts}
use Rattle.writer.proofs.Least.{wipes_append, wipes_by, words_append, words_by, words_more}
use Rattle.writer.proofs.PlanBlock.{laid_all, one_block}
use Rattle.writer.proofs.Parts.{length_part}
use Rattle.writer.proofs.Sizes.{met_some}
use Rattle.writer.proofs.Words.{length_jobs}
use Rattle.studio.specs.Answer.{Lengths, all_jobs, blocks_counted}

-- the words of a block are as many wherever it lies, and so are its wipes
words_anywhere : (p q : ℕ) (w : Bool) (old new : List ℕ) (k c : ℕ) → words_of (differing p w old new k c) ≡ words_of (differing q w old new k c)
words_anywhere p q w old new k zero = refl
words_anywhere p q w old new k (suc c) =
    words_more p w old new k c
    ∙ (ap (λ (z : ℕ). cond (eqb (old_word w old (2 * k)) (word_of new (2 * k))) 0 1 + z) (words_anywhere p q w old new (k + 1) c)
    ∙ sym (words_more q w old new k c))

block_anywhere : (n b : ℕ) (old new : List ℕ) → length old ≡ n →
    block_counts old new ≡ tally (wipes_of (jobs_for n b old new)) (words_of (jobs_for n b old new))
block_anywhere n b old new e =
    let w = rises old new 0 n in
    let wipes : wipes_of (jobs_by w n 0 old new) ≡ wipes_of (jobs_by w n b old new) = wipes_by w n 0 old new ∙ sym (wipes_by w n b old new) in
    let words : words_of (jobs_by w n 0 old new) ≡ words_of (jobs_by w n b old new) =
    words_by w n 0 old new ∙ (words_anywhere (0 * n) (b * n) w old new 0 (n / 2) ∙ sym (words_by w n b old new)) in
    ap (λ (l : ℕ). tally (wipes_of (jobs_for l 0 old new)) (words_of (jobs_for l 0 old new))) e
    ∙ (ap (λ (z : ℕ). tally z (words_of (jobs_by w n 0 old new))) wipes ∙ ap (λ (z : ℕ). tally (wipes_of (jobs_by w n b old new)) z) words)

-- each job is a wipe or a word
jobs_total : (js : List Job) → wipes_of js + words_of js ≡ length js
jobs_total [] = refl
jobs_total (word_at p v ∷ js) = let r = jobs_total js in omega arith
jobs_total (wipe_of b ∷ js) = let r = jobs_total js in omega arith

-- the jobs of the blocks from block b on, of k in all
abbrev pub jobs_left : ℕ → List ℕ → List ℕ → ℕ → ℕ → List Job
jobs_left n present wanted k b = listed_jobs n present wanted (rising b (k - b))

module _ (n : ℕ) (present wanted : List ℕ) (sized : BlockSize n) (whole : Lengths n (length present) (length wanted)) where
  -- what fits the numbers of the program
  pub few_blocks : length present / n ≤ 160
  few_blocks =
      let two = size_two n sized in
      let z : length present ≡ whole.1.0 * n + 0 = omega (arith, whole.1.1.1) in
      let q : length present / n ≡ whole.1.0 = ap (λ (x : ℕ). x / n) z ∙ div-mul-add whole.1.0 n 0 (omega arith) in
      omega (arith, whole.1.1.0)

  module _ (b : ℕ) (here : b < length present / n) where
    pub block_inside : b * n + n ≤ length present
    block_inside = let e = block_end b (length present / n) n here in let d = div-mul-le_self (length present) n in omega arith

    long : (xs : List ℕ) → length xs ≡ length present → length (block_at n xs b) ≡ n
    long xs e = length_part xs (b * n) n (let i = block_inside in omega arith)

    pub has_plan : (old new : List ℕ) → old ≡ block_at n present b → new ≡ block_at n wanted b → of_one_block old new ≡ true
    has_plan old new o w =
        let l : length old ≡ n = ap length o ∙ long present refl in
        let m : length new ≡ n = ap length w ∙ long wanted whole.0 in
        let v = size_even n sized in
        let s = size_small n sized in
        one_block old new (m ∙ sym l) (omega arith) (omega arith)

    pub counted_here : (old new : List ℕ) → old ≡ block_at n present b → new ≡ block_at n wanted b → (c : Counts) → c ≡ block_counts old new →
        (c.wipes ≡ wipes_of (block_jobs n present wanted b)) × (c.words ≡ words_of (block_jobs n present wanted b))
    counted_here old new o w c e =
        let f = rw (o, w) at e ∙ block_anywhere n b (block_at n present b) (block_at n wanted b) (long present refl) in
        (ap (λ (z : Counts). z.wipes) f, ap (λ (z : Counts). z.words) f)

    pub few_counted : wipes_of (block_jobs n present wanted b) + words_of (block_jobs n present wanted b) ≤ 131072
    few_counted =
        let t = jobs_total (block_jobs n present wanted b) in
        let l = length_jobs (rises (block_at n present b) (block_at n wanted b) 0 n) n b (block_at n present b) (block_at n wanted b) in
        let two = size_two n sized in
        let s = size_small n sized in
        omega arith

    -- after it no more than so many are counted, of which 160 times as many fit
    pub few_more : (old new : List ℕ) → old ≡ block_at n present b → new ≡ block_at n wanted b → (c : Counts) → c ≡ block_counts old new →
        (wipes words : ℕ) → wipes + words ≤ b * 131072 → (wipes + c.wipes + (words + c.words) ≤ (b + 1) * 131072) × (b < 160)
    few_more old new o w c e wipes words i =
        let h = counted_here old new o w c e in
        let f = few_counted in
        let k = few_blocks in
        (omega arith, omega arith)

    left_as : jobs_left n present wanted (length present / n) b ≡ block_jobs n present wanted b ++ jobs_left n present wanted (length present / n) (b + 1)
    left_as =
        let e : length present / n - b ≡ suc (length present / n - (b + 1)) = omega arith in
        ap (λ (k : ℕ). listed_jobs n present wanted (rising b k)) e

    pub wipes_left : wipes_of (jobs_left n present wanted (length present / n) b)
        ≡ wipes_of (block_jobs n present wanted b) + wipes_of (jobs_left n present wanted (length present / n) (b + 1))
    wipes_left = ap wipes_of left_as ∙ wipes_append (block_jobs n present wanted b) (jobs_left n present wanted (length present / n) (b + 1))

    pub words_left : words_of (jobs_left n present wanted (length present / n) b)
        ≡ words_of (block_jobs n present wanted b) + words_of (jobs_left n present wanted (length present / n) (b + 1))
    words_left = ap words_of left_as ∙ words_append (block_jobs n present wanted b) (jobs_left n present wanted (length present / n) (b + 1))

  -- a range of whole blocks from 0 on meets all of them
  met_whole : (k : ℕ) → 0 < n → met_count n 0 (k * n) ≡ k
  met_whole zero some = rw (zero-mul n)
  met_whole (suc k) some =
      let e : suc k * n ≡ k * n + n = omega arith in
      let f : 0 + suc k * n - 1 ≡ k * n + (n - 1) = omega arith in
      let q : (0 + suc k * n - 1) / n ≡ k = ap (λ (z : ℕ). z / n) f ∙ div-mul-add k n (n - 1) (omega arith) in
      let z = zero-div n in
      met_some n 0 (suc k * n) (omega arith) ∙ omega arith

  met_all : blocks_met n 0 (length wanted) ≡ rising 0 (length present / n)
  met_all =
      let two = size_two n sized in
      let k = whole.1.0 in
      let is : length present ≡ k * n = whole.1.1.1 in
      let z : length present ≡ k * n + 0 = omega arith in
      let q : length present / n ≡ k = ap (λ (x : ℕ). x / n) z ∙ div-mul-add k n 0 (omega arith) in
      let m : met_count n 0 (length wanted) ≡ k = ap (met_count n 0) (whole.0 ∙ is) ∙ met_whole k (omega arith) in
      ap (λ (x : ℕ). rising x (met_count n 0 (length wanted))) (zero-div n) ∙ ap (rising 0) (m ∙ sym q)

  -- so all blocks are those of a put of the whole run
  pub all_planned : (m : Meaning) → m.block_size ≡ n → m.bytes ≡ present → blocks_counted n present wanted ≡ plan_counts m 0 wanted
  all_planned m e f =
      let js : listed_jobs n present (laid present 0 wanted) (blocks_met n 0 (length wanted)) ≡ all_jobs n present wanted =
      ap (λ (w : List ℕ). listed_jobs n present w (blocks_met n 0 (length wanted))) (laid_all present wanted whole.0)
      ∙ ap (listed_jobs n present wanted) met_all in
      sym (ap (λ (s : ℕ). counts (listed_jobs s m.bytes (laid m.bytes 0 wanted) (blocks_met s 0 (length wanted)))) e
      ∙ (ap (λ (x : List ℕ). counts (listed_jobs n x (laid x 0 wanted) (blocks_met n 0 (length wanted)))) f
      ∙ ap counts js))
    where
      counts : List Job → Counts
      counts js = tally (wipes_of js) (words_of js)
