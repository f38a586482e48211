-- The laws of a call, from what it answers and leaves.
use Rattle.std.proofs.Common.{◌≡◌, ℕ, ◌+◌, ◌/◌, ◌≤◌, List, [], ◌∷◌, length, Some, None, Ok, Err, Option, Result, sym, refl, ap, ◌∙◌, subst, arith}
use Rattle.medium.specs.Meaning.{EachBelow, Meaning, capacity}
use Rattle.medium.specs.declared.fault.Fault.{Fault}
use Rattle.medium.proofs.Below.{below_laid}
use Rattle.writer.specs.Jobs.{Left, Run, finished, stopped, tally}
use Rattle.writer.specs.Blocks.{blocks_met, met_count}
use Rattle.writer.specs.Put.{CallDone, PlanDone, PutDone, call_answer, failed, plan_counts, plan_run, put_jobs, put_refusal, put_run, wanted}
use Rattle.writer.specs.Laws.{Accounted, AsPut, ByJob, Fewest, Halted, Holds, Stops, lives}
use Rattle.writer.specs.declared.counts.Counts.{Counts}
use Rattle.writer.specs.declared.fault.WriterFault.{WriterFault}
use Rattle.writer.proofs.Passes.{all_counted}
use Rattle.writer.proofs.Sizes.{spans}
use Rattle.writer.proofs.Runs.{finished_counts}
use Rattle.writer.proofs.Faults.{call_refused}
use Rattle.writer.proofs.Fit.{Fit}
use Rattle.writer.proofs.Shapes.{Alike, alike_left, alike_same}
use Rattle.writer.proofs.Ends.{finished_wanted, stopped_halted}
use Rattle.writer.proofs.Lives.{RunCost, run_cost}
use Rattle.writer.proofs.Least.{Each, each_rising, least}

-- an accepted range lies on the card
pub fits : (m : Meaning) (p n room : ℕ) → put_refusal m p n room ≡ None → p + n ≤ capacity m
fits m p n room e = grind arith

-- a call that answered Ok was accepted, and its run finished
accepted_ok : (R : Run) (m m' : Meaning) (p : ℕ) (bs buf buf' : List ℕ) (c : Counts) → CallDone R m p bs buf (Ok c) m' buf' →
    (p + length bs ≤ capacity m) × (R ≡ finished m' c)
accepted_ok R m m' p bs buf buf' c d = go (put_refusal m p (length bs) (length buf)) refl
  where
    told : (R : Run) → Ok c ≡ call_answer R → Left R m' → R ≡ finished m' c
    told (finished m₁ c₁) a l = cc
    told (stopped m₁ j f c₁) a l = cc

    go : (o : Option Fault) → put_refusal m p (length bs) (length buf) ≡ o → (p + length bs ≤ capacity m) × (R ≡ finished m' c)
    go (Some f) e = let a = (d.refused f e).answer in let z : ◌≡◌ {A = ℕ} 0 1 = cc in absurd (omega arith)
    go None e = let k = d.accepted e in (fits m p (length bs) (length buf) e, told R k.answer k.left)

-- a finished call leaves the wanted contents
pub leaves_wanted : (m m' : Meaning) (p : ℕ) (bs buf buf' : List ℕ) (c : Counts) → Fit m → EachBelow 256 bs → PutDone m p bs buf (Ok c) m' buf' →
    m'.bytes ≡ wanted m p bs
leaves_wanted m m' p bs buf buf' c s by d = let k = accepted_ok (put_run m p bs) m m' p bs buf buf' c d in finished_wanted m m' p bs c s k.0 by k.1

pub holds : (m m' : Meaning) (p : ℕ) (bs buf buf' : List ℕ) (r : Result Counts WriterFault) → Fit m → EachBelow 256 bs → PutDone m p bs buf r m' buf' →
    Holds m p bs r m'
holds m m' p bs buf buf' (Ok c) s by d = leaves_wanted m m' p bs buf buf' c s by d
holds m m' p bs buf buf' (Err e) s by d = tt

-- what stands where after a fault
pub stops : (m m' : Meaning) (p : ℕ) (bs buf buf' : List ℕ) (r : Result Counts WriterFault) → Fit m → EachBelow 256 bs → PutDone m p bs buf r m' buf' →
    Stops m p bs r m'
stops m m' p bs buf buf' (Ok c) s by d = tt
stops m m' p bs buf buf' (Err w) s by d = λ job. start job (put_refusal m p (length bs) (length buf)) refl
  where
    go : p + length bs ≤ capacity m → (R : Run) → put_run m p bs ≡ R → Err w ≡ call_answer R → Left R m' →
        Halted m.block_size m.bytes (wanted m p bs) m'.bytes w.fault
    go l (finished m₁ c) e a h = let z : ◌≡◌ {A = ℕ} 0 1 = cc in absurd (omega arith)
    go l (stopped m₁ j f c) e a h =
        let t : f ≡ w.fault = let z : failed f c ≡ w = cc in ap (λ (z : WriterFault). z.fault) z in
        subst (Halted m.block_size m.bytes (wanted m p bs) m'.bytes) t (stopped_halted m m₁ m' p bs j f c s l by e h)

    start : ByJob w.fault → (o : Option Fault) → put_refusal m p (length bs) (length buf) ≡ o →
        Halted m.block_size m.bytes (wanted m p bs) m'.bytes w.fault
    start job (Some f) e =
        let a = (d.refused f e).answer in
        let t : w.fault ≡ f = let z : w ≡ failed f (tally 0 0) = cc in ap (λ (z : WriterFault). z.fault) z in
        absurd ((call_refused m p (length bs) (length buf) f e).1 (subst ByJob t job))
    start job None e = go (fits m p (length bs) (length buf) e) (put_run m p bs) refl (d.accepted e).answer (d.accepted e).left

-- a finished call counted all of its jobs, as a plan does
pub put_counts : (m m' : Meaning) (p : ℕ) (bs buf buf' : List ℕ) (c : Counts) → PutDone m p bs buf (Ok c) m' buf' → c ≡ plan_counts m p bs
put_counts m m' p bs buf buf' c d =
    finished_counts (put_jobs m p bs) m m' (tally 0 0) c (accepted_ok (put_run m p bs) m m' p bs buf buf' c d).1 ∙ all_counted (put_jobs m p bs)

plan_told : (m m' : Meaning) (p : ℕ) (bs buf buf' : List ℕ) (c : Counts) → PlanDone m p bs buf (Ok c) m' buf' → c ≡ plan_counts m p bs
plan_told m m' p bs buf buf' c d = let k = (accepted_ok (plan_run m p bs) m m' p bs buf buf' c d).1 in cc

pub as_put : (m m' : Meaning) (p : ℕ) (bs buf buf' : List ℕ) (r : Result Counts WriterFault) → PlanDone m p bs buf r m' buf' → AsPut m p bs r
as_put m m' p bs buf buf' (Err e) d = tt
as_put m m' p bs buf buf' (Ok c) d = λ m₁ m₁' buf₁ buf₁' c₁ n x h.
    let same : plan_counts m₁ p bs ≡ plan_counts m p bs = rw (n, x) in
    put_counts m₁ m₁' p bs buf₁ buf₁' c₁ h ∙ (same ∙ sym (plan_told m m' p bs buf buf' c d))

-- and no list of successful jobs does with fewer
each_met : (m : Meaning) (p : ℕ) (bs : List ℕ) → Fit m → p + length bs ≤ capacity m → Each m.blocks (blocks_met m.block_size p (length bs))
each_met m p [] s l = tt
each_met m p (x ∷ bs) s l =
    each_rising m.blocks (p / m.block_size) (met_count m.block_size p (length (x ∷ bs)))
    (spans m.block_size p (length (x ∷ bs)) m.blocks s.some (omega arith) l).few

pub fewest : (m m' : Meaning) (p : ℕ) (bs buf buf' : List ℕ) (r : Result Counts WriterFault) → Fit m → EachBelow 256 bs → PutDone m p bs buf r m' buf' →
    Fewest m r m'
fewest m m' p bs buf buf' (Err e) s by d = tt
fewest m m' p bs buf buf' (Ok c) s by d = λ js fit ends.
    let l = (accepted_ok (put_run m p bs) m m' p bs buf buf' c d).0 in
    let f = s.filled in
    let k = least m.block_size m.blocks (wanted m p bs) (blocks_met m.block_size p (length bs)) s.even
    (below_laid 256 m.bytes bs p (omega arith) s.byte by) (each_met m p bs s l)
    js m.bytes s.byte (omega arith) fit (ends ∙ leaves_wanted m m' p bs buf buf' c s by d) in
    let e = put_counts m m' p bs buf buf' c d in
    let w = ap (λ (z : Counts). z.wipes) e in
    let v = ap (λ (z : Counts). z.words) e in
    (omega (arith, k.1), omega (arith, k.0))

-- lives lost and lanes named are two for each job begun
pub accounted : (m m' : Meaning) (p : ℕ) (bs buf buf' : List ℕ) (r : Result Counts WriterFault) → PutDone m p bs buf r m' buf' → Accounted m r m'
accounted m m' p bs buf buf' r d = go (put_refusal m p (length bs) (length buf)) refl
  where
    cost : (R : Run) → r ≡ call_answer R → RunCost m m' (tally 0 0) R → Accounted m r m'
    cost (finished m₁ c) e k = let a = k.account in let b = k.enough in rw e (record { none_won = omega arith; account = omega arith })
    cost (stopped m₁ j f c) e k = let a = k.account in let b = k.enough in rw e (record { none_won = omega arith; account = omega arith })

    go : (o : Option Fault) → put_refusal m p (length bs) (length buf) ≡ o → Accounted m r m'
    go (Some f) e =
        let k = d.refused f e in
        let q = (call_refused m p (length bs) (length buf) f e).0.1 in
        let z = ap lives k.same in
        rw k.answer (record { none_won = omega arith; account = omega arith })
    go None e = let k = d.accepted e in cost (put_run m p bs) k.answer (run_cost (put_jobs m p bs) m m' (tally 0 0) k.left)

-- the card keeps its shape
pub alike_put : (m m' : Meaning) (p : ℕ) (bs buf buf' : List ℕ) (r : Result Counts WriterFault) → Fit m → PutDone m p bs buf r m' buf' → Alike m m'
alike_put m m' p bs buf buf' r f d = go (put_refusal m p (length bs) (length buf)) refl
  where
    go : (o : Option Fault) → put_refusal m p (length bs) (length buf) ≡ o → Alike m m'
    go (Some g) e = alike_same m m' f (d.refused g e).same
    go None e = alike_left (put_jobs m p bs) m m' (tally 0 0) f (d.accepted e).left
