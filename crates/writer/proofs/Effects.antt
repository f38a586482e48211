-- What jobs do to the contents, one and a list.
use Rattle.std.proofs.Common.{◌≡◌, ℕ, ◌*◌, ◌/◌, true, cond, List, [], ◌∷◌, length, replicate, Some, None, Err, Option, Result, sym, refl, ap, ◌∙◌, subst, ⊎_elim}
use Rattle.std.proofs.lemmas.List.{length-replicate}
use Rattle.medium.specs.Meaning.{Meaning}
use Rattle.medium.specs.Wear.{alive, lane_after}
use Rattle.medium.specs.Jobs.{laid, wiped, worked, answers, wipe_after, word_after}
use Rattle.medium.specs.declared.fault.Fault.{Fault}
use Rattle.medium.proofs.Wiped.{wiped_both}
use Rattle.writer.specs.Jobs.{Job, word_at, wipe_of, job_fault, job_good, job_block, JobDone, counted, counted_unless, finished, job_refusal, onward, run, was_begun, Ran}
use Rattle.writer.specs.Laws.{effect}
use Rattle.writer.specs.declared.counts.Counts.{Counts}
use Rattle.writer.proofs.Faults.{faultless, WornJob, job_refused, refused_or_worn}

blank_again : (l : List ℕ) (n : ℕ) → length l ≡ n → wiped true true l ≡ wiped true true (replicate n 255)
blank_again l n e =
    wiped_both l ∙ (ap (λ (k : ℕ). replicate k 255) (e ∙ sym (length-replicate n 255)) ∙ sym (wiped_both (replicate n 255)))

-- a job without a fault leaves what a job does that both lanes do
pub done_good : (m m' : Meaning) (j : Job) (r : Result (Unit {0}) Fault) → JobDone m j r m' → job_fault m j ≡ None → m' ≡ job_good m j
done_good m m' (word_at p v) r d e =
    let l = faultless m (word_at p v) e in
    let k = d.begun l.begun in
    k.after ∙ rw (l.even, l.odd)
done_good m m' (wipe_of b) r d e =
    let l = faultless m (wipe_of b) e in
    let k = d.begun l.begun in
    let q : wiped (alive m.even_lives b) (alive m.odd_lives b) k.left ≡ wiped (alive m.even_lives b) (alive m.odd_lives b)
    (replicate m.block_size 255) =
    rw (l.even, l.odd) (blank_again k.left m.block_size k.long) in
    k.after ∙ ap (λ (z : List ℕ). worked m b (laid m.bytes (b * m.block_size) z)) q

pub good_bytes : (m : Meaning) (j : Job) → job_fault m j ≡ None → (job_good m j).bytes ≡ effect m.block_size j m.bytes
good_bytes m (word_at p v) e = let l = faultless m (word_at p v) e in rw (l.even, l.odd)
good_bytes m (wipe_of b) e =
    let l = faultless m (wipe_of b) e in
    rw (l.even, l.odd)
    (ap (laid m.bytes (b * m.block_size)) (wiped_both (replicate m.block_size 255) ∙ ap (λ (k : ℕ). replicate k 255) (length-replicate m.block_size 255)))

-- a refused job leaves what it found; a begun one costs each lane a life, if it has one
pub done_refused : (m m' : Meaning) (j : Job) (r : Result (Unit {0}) Fault) (g : Fault) → JobDone m j r m' → job_refusal m j ≡ Some g → m' ≡ m
done_refused m m' (word_at p v) r g d e = d.refused g e
done_refused m m' (wipe_of b) r g d e = d.refused g e

pub record Spent (m m' : Meaning) (b : ℕ) : Type 0 where
  pub even : m'.even_lives ≡ lane_after m.even_lives b
  pub odd : m'.odd_lives ≡ lane_after m.odd_lives b

spent_as : (m m₁ m' : Meaning) (b : ℕ) → m' ≡ m₁ → Spent m m₁ b → Spent m m' b
spent_as m m₁ m' b e s = subst (λ (z : Meaning). Spent m z b) (sym e) s

pub done_spent : (m m' : Meaning) (j : Job) (r : Result (Unit {0}) Fault) → JobDone m j r m' → job_refusal m j ≡ None → Spent m m' (job_block m.block_size j)
done_spent m m' (word_at p v) r d e =
    let k = d.begun e in
    spent_as m (word_after m p v k.even k.odd) m' (p / m.block_size) k.after (record { even = refl; odd = refl })
done_spent m m' (wipe_of b) r d e =
    let k = d.begun e in
    spent_as m (wipe_after m b k.left) m' b k.after (record { even = refl; odd = refl })

pub good_spent : (m : Meaning) (j : Job) → Spent m (job_good m j) (job_block m.block_size j)
good_spent m (word_at p v) = record { even = refl; odd = refl }
good_spent m (wipe_of b) = record { even = refl; odd = refl }

-- a job as the medium did it, counted if it was begun
pub done_answer : (m m' : Meaning) (j : Job) (r : Result (Unit {0}) Fault) → JobDone m j r m' → r ≡ answers (job_fault m j)
done_answer m m' (word_at p v) r d = d.answer
done_answer m m' (wipe_of b) r d = d.answer

counted_fault : (m : Meaning) (j : Job) (f : Fault) (c : Counts) → job_fault m j ≡ Some f →
    cond (was_begun (Err f)) (counted j c) c ≡ counted_unless (job_refusal m j) j c
counted_fault m j f c e =
    ⊎_elim (λ (q : job_refusal m j ≡ Some f). rw (q, (job_refused m j f q).0))
    (λ (q : (job_refusal m j ≡ None) × WornJob m j f). rw (q.0, q.1.begun))
    (refused_or_worn m j f e)

pub job_ran : (m m' : Meaning) (j : Job) (c c' : Counts) (r : Result (Unit {0}) Fault) → JobDone m j r m' → c' ≡ cond (was_begun r) (counted j c) c →
    Ran (run (j ∷ []) m c) r c' m'
job_ran m m' j c c' r d e = go (job_fault m j) refl (done_answer m m' j r d)
  where
    go : (o : Option Fault) → job_fault m j ≡ o → r ≡ answers o → Ran (onward o m j c (finished (job_good m j) (counted j c))) r c' m'
    go (Some f) q a = record {
      answer = a;
      counts = e ∙ (ap (λ (z : Result (Unit {0}) Fault). cond (was_begun z) (counted j c) c) a ∙ counted_fault m j f c q);
      left = subst (λ (z : Result (Unit {0}) Fault). JobDone m j z m') a d;
    }
    go None q a = record {
      answer = a;
      counts = e ∙ ap (λ (z : Result (Unit {0}) Fault). cond (was_begun z) (counted j c) c) a;
      left = done_good m m' j r d q;
    }
