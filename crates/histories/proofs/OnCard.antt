-- Every job of an accepted put lies on the card; so a fault that stops the put is a job's, and never 1 or 2.
use Rattle.std.proofs.Common.{◌≡◌, ℕ, zero, suc, ◌+◌, ◌-◌, ◌*◌, ◌/◌, ◌%◌, ◌<◌, ◌≤◌, Bool, true, false, not, eqb, List, [], ◌∷◌, ◌++◌, length, get_or, Some, None, Err, Option, sym, refl, ap, ◌∙◌, subst, mul_left_comm, arith}
use Rattle.std.proofs.lemmas.Bool.{cond_both}
use Rattle.std.proofs.lemmas.Nat.{div_below}
use Rattle.medium.specs.Meaning.{Meaning, capacity}
use Rattle.medium.specs.Wear.{alive}
use Rattle.medium.specs.Jobs.{refuse_if, or_else, worn, worn_at}
use Rattle.medium.specs.declared.fault.Fault.{Fault}
use Rattle.medium.specs.declared.fault.Fault.TheVariants.{Locked, LowSupply, Worn}
use Rattle.medium.specs.declared.lanes.Lanes.TheVariants.{Even, Odd, Both}
use Rattle.medium.proofs.Refusals.{never, word_past, wipe_past}
use Rattle.medium.proofs.Sizes.{block_end}
use Rattle.writer.specs.Jobs.{Job, word_at, wipe_of, job_fault, job_good, counted, Run, finished, stopped, onward, run, tally}
use Rattle.writer.specs.Blocks.{block_jobs, blocks_met, differing, jobs_by, last_met, listed_jobs, old_word, part, rises, rising, word_if, word_of}
use Rattle.writer.specs.Put.{wanted, put_jobs, put_run, call_answer, failed}
use Rattle.writer.specs.Laws.{ByJob}
use Rattle.writer.specs.declared.counts.Counts.{Counts}
use Rattle.writer.specs.declared.fault.WriterFault.{WriterFault}
use Rattle.writer.proofs.Fit.{Fit}

-- the job lies on the card: a block of it, or a word at an even place
abbrev OnCard : Meaning → Job → Type 0
OnCard m (word_at p v) = (p + 2 ≤ capacity m) × (p % 2 ≡ 0)
OnCard m (wipe_of b) = b < m.blocks

abbrev AllOnCard : Meaning → List Job → Type 0
AllOnCard m [] = Unit {0}
AllOnCard m (j ∷ js) = OnCard m j × AllOnCard m js

-- past the tests of its place, only lock, supply and wear stop a job
closed_or_worn : (p : ℕ) (locked low even odd : Bool) (f : Fault) →
    or_else (refuse_if locked (Locked p) (refuse_if low (LowSupply p) None)) (worn p even odd) ≡ Some f → ByJob f
closed_or_worn p true low even odd f e = let q : Locked p ≡ f = cc in subst ByJob q (omega arith, omega arith)
closed_or_worn p false true even odd f e = let q : LowSupply p ≡ f = cc in subst ByJob q (omega arith, omega arith)
closed_or_worn p false false true true f e = never f None e refl
closed_or_worn p false false false true f e = let q : Worn p Even ≡ f = cc in subst ByJob q (omega arith, omega arith)
closed_or_worn p false false true false f e = let q : Worn p Odd ≡ f = cc in subst ByJob q (omega arith, omega arith)
closed_or_worn p false false false false f e = let q : Worn p Both ≡ f = cc in subst ByJob q (omega arith, omega arith)

fault_by_job : (m : Meaning) (j : Job) (f : Fault) → OnCard m j → job_fault m j ≡ Some f → ByJob f
fault_by_job m (word_at p v) f on e =
    closed_or_worn p (get_or m.locks (p / m.block_size) false) (not m.supply) (alive m.even_lives (p / m.block_size)) (alive m.odd_lives (p / m.block_size)) f
    (ap (λ (o : Option Fault). or_else o (worn_at m (p / m.block_size) p)) (sym (word_past m p on.0 on.1)) ∙ e)
fault_by_job m (wipe_of b) f on e =
    closed_or_worn (b * m.block_size) (get_or m.locks b false) (not m.supply) (alive m.even_lives b) (alive m.odd_lives b) f
    (ap (λ (o : Option Fault). or_else o (worn_at m b (b * m.block_size))) (sym (wipe_past m b on)) ∙ e)

-- a job leaves the card as large as it was
on_card_good : (m : Meaning) (j k : Job) → OnCard m k → OnCard (job_good m j) k
on_card_good m (word_at p v) (word_at q w) h = h
on_card_good m (word_at p v) (wipe_of b) h = h
on_card_good m (wipe_of b) (word_at q w) h = h
on_card_good m (wipe_of b) (wipe_of b') h = h

all_on_card_good : (m : Meaning) (j : Job) (js : List Job) → AllOnCard m js → AllOnCard (job_good m j) js
all_on_card_good m j [] h = tt
all_on_card_good m j (k ∷ js) h = (on_card_good m j k h.0, all_on_card_good m j js h.1)

abbrev StopsByJob : Run → Type 0
StopsByJob (finished m c) = Unit {0}
StopsByJob (stopped m j f c) = ByJob f

run_stops_by_job : (js : List Job) (m : Meaning) (c : Counts) → AllOnCard m js → StopsByJob (run js m c)
run_stops_by_job [] m c h = tt
run_stops_by_job (j ∷ js) m c h =
    go (job_fault m j) refl (run_stops_by_job js (job_good m j) (counted j c) (all_on_card_good m j js h.1))
  where
    go : (o : Option Fault) → job_fault m j ≡ o → StopsByJob (run js (job_good m j) (counted j c)) →
        StopsByJob (onward o m j c (run js (job_good m j) (counted j c)))
    go (Some f) e rest = fault_by_job m j f h.0 e
    go None e rest = rest

-- the jobs of a put, block by block
all_on_card_append : (m : Meaning) (xs ys : List Job) → AllOnCard m xs → AllOnCard m ys → AllOnCard m (xs ++ ys)
all_on_card_append m [] ys h k = k
all_on_card_append m (x ∷ xs) ys h k = (h.0, all_on_card_append m xs ys h.1 k)

module _ (m : Meaning) (even : 2 * (m.block_size / 2) ≡ m.block_size) where
  on_card_words : (b : ℕ) (w : Bool) (old new : List ℕ) (k c : ℕ) → b < m.blocks → 2 * (k + c) ≤ m.block_size →
      AllOnCard m (differing (b * m.block_size) w old new k c)
  on_card_words b w old new k zero h l = tt
  on_card_words b w old new k (suc c) h l =
      let p = b * m.block_size + 2 * k in
      let n : b * m.block_size ≡ 2 * (b * (m.block_size / 2)) = ap (λ (z : ℕ). b * z) (sym even) ∙ mul_left_comm b 2 (m.block_size / 2) in
      let e = block_end b m.blocks m.block_size h in
      all_on_card_append m (word_if p (old_word w old (2 * k)) (word_of new (2 * k))) (differing (b * m.block_size) w old new (k + 1) c)
      (cond_both (eqb (old_word w old (2 * k)) (word_of new (2 * k))) [] (word_at p (word_of new (2 * k)) ∷ []) (AllOnCard m) (λ _. tt) (λ _. ((omega arith, omega arith), tt)))
      (on_card_words b w old new (k + 1) c h (omega arith))

  on_card_block : (b : ℕ) (wipe : Bool) (old new : List ℕ) → b < m.blocks → AllOnCard m (jobs_by wipe m.block_size b old new)
  on_card_block b true old new h = (h, on_card_words b true old new 0 (m.block_size / 2) h (omega arith))
  on_card_block b false old new h = on_card_words b false old new 0 (m.block_size / 2) h (omega arith)

  on_card_blocks : (present want : List ℕ) (b k : ℕ) → b + k ≤ m.blocks → AllOnCard m (listed_jobs m.block_size present want (rising b k))
  on_card_blocks present want b zero h = tt
  on_card_blocks present want b (suc k) h =
      all_on_card_append m (block_jobs m.block_size present want b) (listed_jobs m.block_size present want (rising (b + 1) k))
      (on_card_block b (rises (part present (b * m.block_size) m.block_size) (part want (b * m.block_size) m.block_size) 0 m.block_size)
      (part present (b * m.block_size) m.block_size) (part want (b * m.block_size) m.block_size) (omega arith))
      (on_card_blocks present want (b + 1) k (omega arith))

on_card_met : (m : Meaning) (present want : List ℕ) (p len : ℕ) → Fit m → p + len ≤ capacity m → AllOnCard m (listed_jobs m.block_size present want (blocks_met m.block_size p len))
on_card_met m present want p zero s l = tt
on_card_met m present want p (suc k) s l =
    let q : (p + suc k - 1) / m.block_size < m.blocks = div_below (p + suc k - 1) m.block_size m.blocks s.some (omega arith) in
    let r : p / m.block_size < m.blocks = div_below p m.block_size m.blocks s.some (omega arith) in
    on_card_blocks m s.even present want (p / m.block_size) (last_met m.block_size p (suc k) + 1 - p / m.block_size) (omega arith)

pub accepted_by_job : (m : Meaning) (p : ℕ) (bs : List ℕ) (w : WriterFault) → Fit m → p + length bs ≤ capacity m → Err w ≡ call_answer (put_run m p bs) → ByJob w.fault
accepted_by_job m p bs w s l answer =
    go (put_run m p bs) (run_stops_by_job (put_jobs m p bs) m (tally 0 0) (on_card_met m m.bytes (wanted m p bs) p (length bs) s l)) answer
  where
    go : (R : Run) → StopsByJob R → Err w ≡ call_answer R → ByJob w.fault
    go (finished m₁ c) h e = let z : ◌≡◌ {A = ℕ} 0 1 = cc in absurd (omega arith)
    go (stopped m₁ j f c) h e = let z : failed f c ≡ w = cc in subst (λ (x : WriterFault). ByJob x.fault) z h
