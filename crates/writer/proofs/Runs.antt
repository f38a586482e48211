-- Runs and passes: nothing, one list after another, a loop's turn, and how much they count.
use Rattle.std.proofs.Common.{◌≡◌, ℕ, suc, ◌+◌, ◌≤◌, List, [], ◌∷◌, ◌++◌, length, Some, None, Ok, Err, Option, Result, sym, refl, ap, ◌∙◌, subst, arith}
use Rattle.medium.specs.Meaning.{Meaning}
use Rattle.medium.specs.declared.fault.Fault.{Fault}
use Rattle.writer.specs.Jobs.{Job, word_at, wipe_of, job_fault, job_refusal, job_good, counted, counted_unless, Run, finished, stopped, onward, run, Ran, Left, run_answer, run_counts}
use Rattle.writer.specs.Passes.{passed, Passed, counted_all, Pass, doing, counting}
use Rattle.writer.specs.declared.counts.Counts.{Counts}

-- what a run is known to leave, with its own answer and counts
pub ran_left : (m' : Meaning) (R : Run) → Left R m' → Ran R (run_answer R) (run_counts R) m'
ran_left m' R h = record { answer = refl; counts = refl; left = h }

-- no job
pub pass_none : (how : Pass) (m : Meaning) (c : Counts) → passed how [] m c ≡ finished m c
pass_none doing m c = refl
pass_none counting m c = refl

-- jobs after a run: they are made if it finished
abbrev pub onto : Pass → Run → List Job → Run
onto how (finished m c) ys = passed how ys m c
onto how (stopped m j f c) ys = stopped m j f c

pub pass_append : (how : Pass) (xs ys : List Job) (m : Meaning) (c : Counts) → passed how (xs ++ ys) m c ≡ onto how (passed how xs m c) ys
pass_append doing [] ys m c = refl
pass_append doing (j ∷ js) ys m c = go (job_fault m j) (pass_append doing js ys (job_good m j) (counted j c))
  where
    go : (o : Option Fault) → run (js ++ ys) (job_good m j) (counted j c) ≡ onto doing (run js (job_good m j) (counted j c)) ys →
        onward o m j c (run (js ++ ys) (job_good m j) (counted j c)) ≡ onto doing (onward o m j c (run js (job_good m j) (counted j c))) ys
    go (Some f) rest = refl
    go None rest = rest
pass_append counting [] ys m c = refl
pass_append counting (j ∷ js) ys m c = pass_append counting js ys m (counted j c)

onto_ok : (how : Pass) (R : Run) (ys : List Job) (c' : Counts) (m' : Meaning) → Ran R (Ok tt) c' m' → onto how R ys ≡ passed how ys m' c'
onto_ok how (finished m c) ys c' m' h = rw (h.counts, h.left)
onto_ok how (stopped m j f c) ys c' m' h = let a = h.answer in cc

onto_err : (how : Pass) (R : Run) (ys : List Job) (f : Fault) (c' : Counts) (m' : Meaning) → Ran R (Err f) c' m' → onto how R ys ≡ R
onto_err how (finished m c) ys f c' m' h = let a = h.answer in cc
onto_err how (stopped m j e c) ys f c' m' h = refl

-- one turn of a loop: the jobs left, js, give the run R, and the turn makes the first of them, xs
module _ (how : Pass) (R : Run) (js xs ys : List Job) (m : Meaning) (c c' : Counts) (m' : Meaning) (left : passed how js m c ≡ R) (turn : js ≡ xs ++ ys) where
  whole : onto how (passed how xs m c) ys ≡ R
  whole = sym (pass_append how xs ys m c) ∙ (ap (λ (z : List Job). passed how z m c) (sym turn) ∙ left)

  pub turn_ok : Passed how xs m c (Ok tt) c' m' → passed how ys m' c' ≡ R
  turn_ok h = sym (onto_ok how (passed how xs m c) ys c' m' h) ∙ whole

  pub turn_stops : (f : Fault) → Passed how xs m c (Err f) c' m' → passed how xs m c ≡ R
  turn_stops f h = sym (onto_err how (passed how xs m c) ys f c' m' h) ∙ whole

  pub turn_err : (f : Fault) → Passed how xs m c (Err f) c' m' → Ran R (Err f) c' m'
  turn_err f h = subst (λ (q : Run). Ran q (Err f) c' m') (turn_stops f h) h

-- a run that finished counted all of its jobs
pub finished_counts : (js : List Job) (m m₁ : Meaning) (c c₁ : Counts) → run js m c ≡ finished m₁ c₁ → c₁ ≡ counted_all js c
finished_counts [] m m₁ c c₁ e = cc
finished_counts (j ∷ js) m m₁ c c₁ e = go (job_fault m j) (finished_counts js (job_good m j) m₁ (counted j c) c₁) e
  where
    go : (o : Option Fault) → (run js (job_good m j) (counted j c) ≡ finished m₁ c₁ → c₁ ≡ counted_all js (counted j c)) →
        onward o m j c (run js (job_good m j) (counted j c)) ≡ finished m₁ c₁ → c₁ ≡ counted_all js (counted j c)
    go (Some f) rest e = cc
    go None rest e = rest e

-- jobs counted
abbrev pub jobs : Counts → ℕ
jobs c = c.wipes + c.words

abbrev pub one_unless : Option Fault → ℕ
one_unless (Some f) = 0
one_unless None = 1

pub jobs_more : (o : Option Fault) (j : Job) (c : Counts) → jobs (counted_unless o j c) ≡ jobs c + one_unless o
jobs_more (Some f) (word_at p v) c = omega arith
jobs_more (Some f) (wipe_of b) c = omega arith
jobs_more None (word_at p v) c = omega arith
jobs_more None (wipe_of b) c = omega arith

one_at_most : (o : Option Fault) → one_unless o ≤ 1
one_at_most (Some f) = omega arith
one_at_most None = omega arith

-- no pass counts more jobs than it has
pass_jobs : (how : Pass) (xs : List Job) (m : Meaning) (c : Counts) → jobs (run_counts (passed how xs m c)) ≤ jobs c + length xs
pass_jobs doing [] m c = omega arith
pass_jobs doing (j ∷ js) m c = go (job_fault m j) (pass_jobs doing js (job_good m j) (counted j c))
  where
    go : (o : Option Fault) → jobs (run_counts (run js (job_good m j) (counted j c))) ≤ jobs (counted j c) + length js →
        jobs (run_counts (onward o m j c (run js (job_good m j) (counted j c)))) ≤ jobs c + suc (length js)
    go (Some f) rest = omega (arith, jobs_more (job_refusal m j) j c, one_at_most (job_refusal m j))
    go None rest = omega (arith, jobs_more None j c)
pass_jobs counting [] m c = omega arith
pass_jobs counting (j ∷ js) m c = omega (arith, pass_jobs counting js m (counted j c), jobs_more None j c)

pub pass_count : (how : Pass) (xs : List Job) (m : Meaning) (c c' : Counts) (m' : Meaning) (r : Result (Unit {0}) Fault) →
    Passed how xs m c r c' m' → jobs c' ≤ jobs c + length xs
pass_count how xs m c c' m' r h = omega (arith, ap jobs h.counts, pass_jobs how xs m c)
