-- What the faults of jobs and calls tell, and what a job that has none does.
use Rattle.std.proofs.Common.{◌≡◌, ℕ, ◌+◌, ◌*◌, ◌/◌, ◌%◌, Bool, true, false, cond, not, eqb, ltb, leb, ◌⊎◌, get_or, Some, None, Err, Option, refl, subst, inl, inr, arith}
use Rattle.medium.specs.Meaning.{Meaning, capacity}
use Rattle.medium.specs.Faults.{listed}
use Rattle.medium.specs.Wear.{alive}
use Rattle.medium.specs.Jobs.{refuse_if, or_else, closed, word_refusal, wipe_refusal, worn, worn_at}
use Rattle.medium.specs.declared.fault.Fault.{Fault}
use Rattle.medium.specs.declared.fault.Fault.TheVariants.{OffCard, OddPlace, ShortBuffer, Locked, LowSupply, Worn}
use Rattle.medium.specs.declared.lanes.Lanes.TheVariants.{Even, Odd, Both}
use Rattle.medium.proofs.Refusals.{or_none}
use Rattle.writer.specs.Jobs.{Job, word_at, wipe_of, job_refusal, job_fault, job_place, job_block, was_begun}
use Rattle.writer.specs.Put.{put_refusal}
use Rattle.writer.specs.Laws.{ByJob, named}

-- a refusal: nothing was begun, and no lane is named
abbrev pub Refusal : Fault → Type 0
Refusal f = (was_begun (Err f) ≡ false) × (named f ≡ 0)

by_test : (t : Bool) (g f : Fault) (rest : Option Fault) → Refusal g → (rest ≡ Some f → Refusal f) → refuse_if t g rest ≡ Some f → Refusal f
by_test true g f rest here later e = let q : g ≡ f = cc in subst Refusal q here
by_test false g f rest here later e = later e

by_none : (f : Fault) → None ≡ Some f → Refusal f
by_none f e = let z : ◌≡◌ {A = ℕ} 0 1 = cc in absurd (omega arith)

closed_refusal : (m : Meaning) (b q : ℕ) (f : Fault) → closed m b q ≡ Some f → Refusal f
closed_refusal m b q f =
    by_test (get_or m.locks b false) (Locked q) f (refuse_if (not m.supply) (LowSupply q) None) (refl, refl)
    (by_test (not m.supply) (LowSupply q) f None (refl, refl) (by_none f))

pub job_refused : (m : Meaning) (j : Job) (f : Fault) → job_refusal m j ≡ Some f → Refusal f
job_refused m (word_at p v) f =
    by_test (ltb (capacity m) (p + 2)) (OffCard p) f (refuse_if (not (eqb (p % 2) 0)) (OddPlace p) (closed m (p / m.block_size) p)) (refl, refl)
    (by_test (not (eqb (p % 2) 0)) (OddPlace p) f (closed m (p / m.block_size) p) (refl, refl) (closed_refusal m (p / m.block_size) p f))
job_refused m (wipe_of b) f =
    by_test (leb m.blocks b) (OffCard (b * m.block_size)) f (closed m b (b * m.block_size)) (refl, refl) (closed_refusal m b (b * m.block_size) f)

-- a call's own refusal is one too, and no job's fault
pub call_refused : (m : Meaning) (p n room : ℕ) (f : Fault) → put_refusal m p n room ≡ Some f → Refusal f × (ByJob f → ⊥)
call_refused m p n room f e = go (ltb (capacity m) (p + n)) (ltb room m.block_size) e
  where
    go : (x y : Bool) → refuse_if x (OffCard p) (refuse_if y (ShortBuffer p) None) ≡ Some f → Refusal f × (ByJob f → ⊥)
    go true y q = let z : OffCard p ≡ f = cc in subst (λ (g : Fault). Refusal g × (ByJob g → ⊥)) z ((refl, refl), λ h. omega (arith, h.0))
    go false true q = let z : ShortBuffer p ≡ f = cc in subst (λ (g : Fault). Refusal g × (ByJob g → ⊥)) z ((refl, refl), λ h. omega (arith, h.0))
    go false false q = let z : ◌≡◌ {A = ℕ} 0 1 = cc in absurd (omega arith)

-- the fault of a job past the tests of its place q
abbrev pub AtJob : ℕ → Fault → Type 0
AtJob q f = ByJob f × ((listed f).place ≡ q)

pub closed_at : (m : Meaning) (b q : ℕ) (f : Fault) → closed m b q ≡ Some f → AtJob q f
closed_at m b q f e = go (get_or m.locks b false) (not m.supply) e
  where
    go : (x y : Bool) → refuse_if x (Locked q) (refuse_if y (LowSupply q) None) ≡ Some f → AtJob q f
    go true y e = let z : Locked q ≡ f = cc in subst (AtJob q) z ((omega arith, omega arith), refl)
    go false true e = let z : LowSupply q ≡ f = cc in subst (AtJob q) z ((omega arith, omega arith), refl)
    go false false e = let z : ◌≡◌ {A = ℕ} 0 1 = cc in absurd (omega arith)

-- the fault of a begun job at q, of which the lanes live as x and y say
pub record WornAt (q : ℕ) (x y : Bool) (f : Fault) : Type 0 where
  pub begun : was_begun (Err f) ≡ true
  pub at : AtJob q f
  pub lanes : named f + (cond x 1 0 + cond y 1 0) ≡ 2

pub worn_told : (q : ℕ) (x y : Bool) (f : Fault) → worn q x y ≡ Some f → WornAt q x y f
worn_told q true true f e = let z : ◌≡◌ {A = ℕ} 0 1 = cc in absurd (omega arith)
worn_told q false true f e =
    let z : Worn q Even ≡ f = cc in subst (WornAt q false true) z (record { begun = refl; at = ((omega arith, omega arith), refl); lanes = refl })
worn_told q true false f e =
    let z : Worn q Odd ≡ f = cc in subst (WornAt q true false) z (record { begun = refl; at = ((omega arith, omega arith), refl); lanes = refl })
worn_told q false false f e =
    let z : Worn q Both ≡ f = cc in subst (WornAt q false false) z (record { begun = refl; at = ((omega arith, omega arith), refl); lanes = refl })

-- where no lane is worn both live
pub worn_none : (q : ℕ) (x y : Bool) → worn q x y ≡ None → (x ≡ true) × (y ≡ true)
worn_none q true true e = (refl, refl)
worn_none q false true e = let z : ◌≡◌ {A = ℕ} 0 1 = cc in absurd (omega arith)
worn_none q true false e = let z : ◌≡◌ {A = ℕ} 0 1 = cc in absurd (omega arith)
worn_none q false false e = let z : ◌≡◌ {A = ℕ} 0 1 = cc in absurd (omega arith)

or_both : (o rest : Option Fault) → or_else o rest ≡ None → rest ≡ None
or_both (Some f) rest e = let z : ◌≡◌ {A = ℕ} 0 1 = cc in absurd (omega arith)
or_both None rest e = e

-- a job without a fault: it was not refused, and both lanes live
pub record Faultless (m : Meaning) (b : ℕ) (o : Option Fault) : Type 0 where
  pub begun : o ≡ None
  pub even : alive m.even_lives b ≡ true
  pub odd : alive m.odd_lives b ≡ true

faultless_at : (m : Meaning) (b q : ℕ) (o : Option Fault) → or_else o (worn_at m b q) ≡ None → Faultless m b o
faultless_at m b q o e =
    let k = worn_none q (alive m.even_lives b) (alive m.odd_lives b) (or_both o (worn_at m b q) e) in
    record { begun = or_none o (worn_at m b q) e; even = k.0; odd = k.1 }

pub faultless : (m : Meaning) (j : Job) → job_fault m j ≡ None → Faultless m (job_block m.block_size j) (job_refusal m j)
faultless m (word_at p v) e = faultless_at m (p / m.block_size) p (word_refusal m p) e
faultless m (wipe_of b) e = faultless_at m b (b * m.block_size) (wipe_refusal m b) e

-- a job with a fault was refused, or it was begun and met a worn lane
or_some : (m : Meaning) (b q : ℕ) (f : Fault) (o : Option Fault) → or_else o (worn_at m b q) ≡ Some f →
    (o ≡ Some f) ⊎ ((o ≡ None) × WornAt q (alive m.even_lives b) (alive m.odd_lives b) f)
or_some m b q f (Some g) e = inl e
or_some m b q f None e = inr (refl, worn_told q (alive m.even_lives b) (alive m.odd_lives b) f e)

-- the lanes of the job's block that live
abbrev pub WornJob : Meaning → Job → Fault → Type 0
WornJob m j f =
    WornAt (job_place m.block_size j) (alive m.even_lives (job_block m.block_size j)) (alive m.odd_lives (job_block m.block_size j)) f

pub refused_or_worn : (m : Meaning) (j : Job) (f : Fault) → job_fault m j ≡ Some f → (job_refusal m j ≡ Some f) ⊎ ((job_refusal m j ≡ None) × WornJob m j f)
refused_or_worn m (word_at p v) f e = or_some m (p / m.block_size) p f (word_refusal m p) e
refused_or_worn m (wipe_of b) f e = or_some m b (b * m.block_size) f (wipe_refusal m b) e
