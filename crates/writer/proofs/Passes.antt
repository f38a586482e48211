-- From a pass to put, clear and plan.
use Rattle.std.proofs.Common.{◌≡◌, ℕ, ◌+◌, ◌*◌, List, [], ◌∷◌, replicate, Result, ◌∙◌, subst, zero-add, arith}
use Rattle.medium.specs.Meaning.{Meaning}
use Rattle.writer.specs.Jobs.{Job, finished, tally, wipe_of, wipes_of, word_at, words_of}
use Rattle.writer.specs.Put.{CallDone, ClearDone, PlanDone, PutDone, put_jobs}
use Rattle.writer.specs.Passes.{PassDone, counted_all, counting, doing}
use Rattle.writer.specs.declared.counts.Counts.{Counts}
use Rattle.writer.specs.declared.fault.WriterFault.{WriterFault}

-- a pass that counts, counts all jobs
counted_as : (js : List Job) (w d : ℕ) → counted_all js (tally w d) ≡ tally (w + wipes_of js) (d + words_of js)
counted_as [] w d = let a : w + 0 ≡ w = omega arith in let b : d + 0 ≡ d = omega arith in rw (a, b)
counted_as (word_at p v ∷ js) w d =
    let a : w + (0 + wipes_of js) ≡ w + wipes_of js = omega arith in
    let b : d + (1 + words_of js) ≡ d + 1 + words_of js = omega arith in
    rw (a, b) (counted_as js w (d + 1))
counted_as (wipe_of p ∷ js) w d =
    let a : w + (1 + wipes_of js) ≡ w + 1 + wipes_of js = omega arith in
    let b : d + (0 + words_of js) ≡ d + words_of js = omega arith in
    rw (a, b) (counted_as js (w + 1) d)

pub all_counted : (js : List Job) → counted_all js (tally 0 0) ≡ tally (wipes_of js) (words_of js)
all_counted js = counted_as js 0 0 ∙ rw (zero-add (wipes_of js), zero-add (words_of js))

pub plan_done : (m : Meaning) (p : ℕ) (bs buf : List ℕ) (r : Result Counts WriterFault) (m' : Meaning) (buf' : List ℕ) →
    PassDone counting m p bs buf r m' buf' → PlanDone m p bs buf r m' buf'
plan_done m p bs buf r m' buf' d =
    subst (λ (c : Counts). CallDone (finished m c) m p bs buf r m' buf') (all_counted (put_jobs m p bs)) d

pub clear_done : (m : Meaning) (b k n : ℕ) (bs buf : List ℕ) (r : Result Counts WriterFault) (m' : Meaning) (buf' : List ℕ) → n ≡ m.block_size →
    bs ≡ replicate (k * n) 255 → PassDone doing m (b * n) bs buf r m' buf' → ClearDone m b k buf r m' buf'
clear_done m b k n bs buf r m' buf' e f d =
    subst (λ (z : ℕ). PutDone m (b * z) (replicate (k * z) 255) buf r m' buf') e
    (subst (λ (z : List ℕ). PutDone m (b * n) z buf r m' buf') f d)
