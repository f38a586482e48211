-- Each job begun takes a life of each lane, or names the lane.
use Rattle.std.proofs.Common.{◌≡◌, ℕ, ◌+◌, ◌-◌, ◌*◌, ◌<◌, ◌≤◌, Bool, true, false, cond, List, [], ◌∷◌, length, get_or, Some, None, Err, sum, Option, refl, ap, ⊎_elim, arith}
use Rattle.std.proofs.lemmas.List.{get_or_past}
use Rattle.std.proofs.lemmas.List.Sums.{sum_by-set}
use Rattle.std.proofs.lemmas.Bool.{cases_lt, ltb-true}
use Rattle.medium.specs.Meaning.{Meaning}
use Rattle.medium.specs.Wear.{alive, lane_after, spend}
use Rattle.medium.specs.declared.fault.Fault.{Fault}
use Rattle.writer.specs.Jobs.{Job, JobDone, Left, Run, counted, finished, job_block, job_fault, job_good, job_refusal, onward, run, run_counts, stopped}
use Rattle.writer.specs.Laws.{lives, named}
use Rattle.writer.specs.declared.counts.Counts.{Counts}
use Rattle.writer.proofs.Runs.{jobs, jobs_more, one_unless}
use Rattle.writer.proofs.Faults.{WornJob, faultless, job_refused, refused_or_worn}
use Rattle.writer.proofs.Effects.{Spent, done_refused, done_spent, good_spent}

some_within : (xs : List ℕ) (b : ℕ) → 0 < get_or xs b 0 → b < length xs
some_within xs b h = ⊎_elim (λ (l : b < length xs). l) (λ (l : length xs ≤ b). let z = get_or_past xs b 0 l in absurd (omega arith)) (cases_lt b (length xs))

-- a lane that lives loses one
lane_loses : (xs : List ℕ) (b : ℕ) → sum xs ≡ sum (lane_after xs b) + cond (alive xs b) 1 0
lane_loses xs b = go (alive xs b) refl
  where
    go : (t : Bool) → alive xs b ≡ t → sum xs ≡ sum (cond t (spend xs b) xs) + cond t 1 0
    go true e =
        let h : 0 < get_or xs b 0 = ltb-true 0 (get_or xs b 0) e in
        let s = sum_by-set (λ x. x) xs b (get_or xs b 0 - 1) 0 (some_within xs b h) in
        omega arith
    go false e = omega arith

spent_lives : (m m' : Meaning) (b : ℕ) → Spent m m' b → lives m ≡ lives m' + (cond (alive m.even_lives b) 1 0 + cond (alive m.odd_lives b) 1 0)
spent_lives m m' b s =
    let x = lane_loses m.even_lives b in
    let y = lane_loses m.odd_lives b in
    let u = ap sum s.even in
    let v = ap sum s.odd in
    omega arith

good_lives : (m : Meaning) (j : Job) → job_fault m j ≡ None → lives m ≡ lives (job_good m j) + 2
good_lives m j e =
    let k = faultless m j e in
    let s = spent_lives m (job_good m j) (job_block m.block_size j) (good_spent m j) in
    rw (k.even, k.odd) at s

-- the job that stops a run
record Cost (m m' : Meaning) (f : Fault) (begun : ℕ) : Type 0 where
  account : lives m + named f ≡ lives m' + 2 * begun
  enough : named f ≤ 2 * begun

fault_cost : (m m' : Meaning) (j : Job) (f : Fault) → JobDone m j (Err f) m' → job_fault m j ≡ Some f → Cost m m' f (one_unless (job_refusal m j))
fault_cost m m' j f d e =
    ⊎_elim
    (λ (q : job_refusal m j ≡ Some f).
    let z = (job_refused m j f q).1 in
    let l = ap lives (done_refused m m' j (Err f) f d q) in
    rw q (record { account = omega arith; enough = omega arith }))
    (λ (q : (job_refusal m j ≡ None) × WornJob m j f).
    let s = spent_lives m m' (job_block m.block_size j) (done_spent m m' j (Err f) d q.0) in
    let l = q.1.lanes in
    rw q.0 (record { account = omega arith; enough = omega arith }))
    (refused_or_worn m j f e)

abbrev named_by : Run → ℕ
named_by (finished m c) = 0
named_by (stopped m j f c) = named f

pub record RunCost (m m' : Meaning) (c : Counts) (R : Run) : Type 0 where
  pub account : lives m + named_by R + 2 * jobs c ≡ lives m' + 2 * jobs (run_counts R)
  pub enough : named_by R + 2 * jobs c ≤ 2 * jobs (run_counts R)

pub run_cost : (js : List Job) (m m' : Meaning) (c : Counts) → Left (run js m c) m' → RunCost m m' c (run js m c)
run_cost [] m m' c h = let l = ap lives h in record { account = omega arith; enough = omega arith }
run_cost (j ∷ js) m m' c h = go (job_fault m j) refl (run_cost js (job_good m j) m' (counted j c)) h
  where
    go : (o : Option Fault) → job_fault m j ≡ o →
        (Left (run js (job_good m j) (counted j c)) m' → RunCost (job_good m j) m' (counted j c) (run js (job_good m j) (counted j c))) →
        Left (onward o m j c (run js (job_good m j) (counted j c))) m' → RunCost m m' c (onward o m j c (run js (job_good m j) (counted j c)))
    go (Some f) e rest h =
        let k = fault_cost m m' j f h e in
        let a = k.account in
        let b = k.enough in
        let n = jobs_more (job_refusal m j) j c in
        record { account = omega arith; enough = omega arith }
    go None e rest h =
        let k = rest h in
        let a = k.account in
        let b = k.enough in
        let l = good_lives m j e in
        let n = jobs_more None j c in
        record { account = omega arith; enough = omega arith }
