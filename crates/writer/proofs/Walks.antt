-- Jobs walked through one after the other: what holds of the contents before each job, and at the end. It holds where a run of these jobs
-- stops, and where it finishes.
use Rattle.std.proofs.Common.{◌≡◌, ℕ, ◌+◌, ◌*◌, ◌/◌, ◌%◌, Bool, false, not, eqb, ltb, leb, List, [], ◌∷◌, ◌++◌, get_or, Some, None, Option, sym, refl, ◌∙◌, subst}
use Rattle.medium.specs.Meaning.{Meaning, capacity}
use Rattle.medium.specs.Jobs.{closed, refuse_if}
use Rattle.medium.specs.declared.fault.Fault.{Fault}
use Rattle.medium.specs.declared.fault.Fault.TheVariants.{Locked, LowSupply, OddPlace, OffCard}
use Rattle.medium.proofs.Refusals.{refuse_none}
use Rattle.writer.specs.Jobs.{Job, Run, counted, finished, job_block, job_fault, job_good, job_refusal, onward, run, stopped, wipe_of, word_at}
use Rattle.writer.specs.Laws.{effect}
use Rattle.writer.specs.declared.counts.Counts.{Counts}
use Rattle.writer.proofs.Faults.{faultless}
use Rattle.writer.proofs.Effects.{good_bytes}

-- P holds of the next job and the contents before each job, and of no job and the contents at the end; it may rest on Opened, which holds of the
-- block of each job done
abbrev pub Walks : (ℕ → Type 0) → ℕ → List Job → List ℕ → (Option Job → List ℕ → Type 0) → Type 0
Walks Opened n [] xs P = P None xs
Walks Opened n (j ∷ js) xs P = P (Some j) xs × (Opened (job_block n j) → Walks Opened n js (effect n j xs) P)

-- one list after another
pub walks_then : (Opened : ℕ → Type 0) (n : ℕ) (js ks : List Job) (xs : List ℕ) (P Q : Option Job → List ℕ → Type 0) →
    ((j : Job) (ys : List ℕ) → P (Some j) ys → Q (Some j) ys) → ((ys : List ℕ) → P None ys → Walks Opened n ks ys Q) →
    Walks Opened n js xs P → Walks Opened n (js ++ ks) xs Q
walks_then Opened n [] ks xs P Q stop next h = next xs h
walks_then Opened n (j ∷ js) ks xs P Q stop next h = (stop j xs h.0, λ o. walks_then Opened n js ks (effect n j xs) P Q stop next (h.1 o))

pub walks_as : (Opened : ℕ → Type 0) (n : ℕ) (js : List Job) (xs : List ℕ) (P Q : Option Job → List ℕ → Type 0) →
    ((next : Option Job) (ys : List ℕ) → P next ys → Q next ys) → Walks Opened n js xs P → Walks Opened n js xs Q
walks_as Opened n [] xs P Q f h = f None xs h
walks_as Opened n (j ∷ js) xs P Q f h = (f (Some j) xs h.0, λ o. walks_as Opened n js (effect n j xs) P Q f (h.1 o))

-- two things that hold, at once
pub walks_both : (Opened : ℕ → Type 0) (n : ℕ) (js : List Job) (xs : List ℕ) (P Q : Option Job → List ℕ → Type 0) →
    Walks Opened n js xs P → Walks Opened n js xs Q → Walks Opened n js xs (λ next ys. P next ys × Q next ys)
walks_both Opened n [] xs P Q h k = (h, k)
walks_both Opened n (j ∷ js) xs P Q h k = ((h.0, k.0), λ o. walks_both Opened n js (effect n j xs) P Q (h.1 o) (k.1 o))

-- the job that stopped a run, if any, and the meaning before it, or at the end
abbrev pub next_of : Run → Option Job
next_of (finished m c) = None
next_of (stopped m j f c) = Some j

abbrev pub found_of : Run → Meaning
found_of (finished m c) = m
found_of (stopped m j f c) = m

-- lock and supply let jobs on block b begin
pub record OpenAt (locks : List Bool) (supply : Bool) (b : ℕ) : Type 0 where
  pub unlocked : get_or locks b false ≡ false
  pub good : not supply ≡ false

abbrev pub Open : Meaning → ℕ → Type 0
Open m b = OpenAt m.locks m.supply b

open_closed : (m : Meaning) (b q : ℕ) → closed m b q ≡ None → Open m b
open_closed m b q e =
    let k = refuse_none (get_or m.locks b false) (Locked q) (refuse_if (not m.supply) (LowSupply q) None) e in
    record { unlocked = k.0; good = (refuse_none (not m.supply) (LowSupply q) None k.1).0 }

pub opened : (m : Meaning) (j : Job) → job_refusal m j ≡ None → Open m (job_block m.block_size j)
opened m (word_at p v) e =
    let k = refuse_none (ltb (capacity m) (p + 2)) (OffCard p) (refuse_if (not (eqb (p % 2) 0)) (OddPlace p) (closed m (p / m.block_size) p)) e in
    open_closed m (p / m.block_size) p (refuse_none (not (eqb (p % 2) 0)) (OddPlace p) (closed m (p / m.block_size) p) k.1).1
opened m (wipe_of b) e =
    open_closed m b (b * m.block_size) (refuse_none (leb m.blocks b) (OffCard (b * m.block_size)) (closed m b (b * m.block_size)) e).1

-- what no job moves
pub record Same (m m₁ : Meaning) : Type 0 where
  pub size : m₁.block_size ≡ m.block_size
  pub count : m₁.blocks ≡ m.blocks
  pub locks : m₁.locks ≡ m.locks
  pub supply : m₁.supply ≡ m.supply

same_good : (m : Meaning) (j : Job) → Same m (job_good m j)
same_good m (word_at p v) = record { size = refl; count = refl; locks = refl; supply = refl }
same_good m (wipe_of b) = record { size = refl; count = refl; locks = refl; supply = refl }

same_then : (a b c : Meaning) → Same a b → Same b c → Same a c
same_then a b c h k = record { size = k.size ∙ h.size; count = k.count ∙ h.count; locks = k.locks ∙ h.locks; supply = k.supply ∙ h.supply }

pub run_same : (js : List Job) (m : Meaning) (c : Counts) → Same m (found_of (run js m c))
run_same [] m c = record { size = refl; count = refl; locks = refl; supply = refl }
run_same (j ∷ js) m c = go (job_fault m j) (run_same js (job_good m j) (counted j c))
  where
    go : (o : Option Fault) → Same (job_good m j) (found_of (run js (job_good m j) (counted j c))) →
        Same m (found_of (onward o m j c (run js (job_good m j) (counted j c))))
    go (Some f) rest = record { size = refl; count = refl; locks = refl; supply = refl }
    go None rest = same_then m (job_good m j) (found_of (run js (job_good m j) (counted j c))) (same_good m j) rest

walks_good : (m : Meaning) (j : Job) (js : List Job) (xs : List ℕ) (P : Option Job → List ℕ → Type 0) →
    Walks (Open m) m.block_size js xs P → Walks (Open (job_good m j)) (job_good m j).block_size js xs P
walks_good m (word_at p v) js xs P h = h
walks_good m (wipe_of b) js xs P h = h

-- a run has done what its jobs do
pub run_walks : (js : List Job) (m : Meaning) (c : Counts) (P : Option Job → List ℕ → Type 0) →
    Walks (Open m) m.block_size js m.bytes P → P (next_of (run js m c)) (found_of (run js m c)).bytes
run_walks [] m c P h = h
run_walks (j ∷ js) m c P h = go (job_fault m j) refl (run_walks js (job_good m j) (counted j c) P)
  where
    go : (o : Option Fault) → job_fault m j ≡ o →
        (Walks (Open (job_good m j)) (job_good m j).block_size js (job_good m j).bytes P →
        P (next_of (run js (job_good m j) (counted j c))) (found_of (run js (job_good m j) (counted j c))).bytes) →
        P (next_of (onward o m j c (run js (job_good m j) (counted j c)))) (found_of (onward o m j c (run js (job_good m j) (counted j c)))).bytes
    go (Some f) e rest = h.0
    go None e rest =
        rest (walks_good m j js (job_good m j).bytes P
        (subst (λ (xs : List ℕ). Walks (Open m) m.block_size js xs P) (sym (good_bytes m j e)) (h.1 (opened m j (faultless m j e).begun))))
