-- How a put ends: finished, with the wanted contents, or stopped at a job.
use Rattle.std.proofs.Common.{◌≡◌, ℕ, ◌+◌, ◌*◌, ◌/◌, ◌%◌, ◌<◌, ◌≤◌, Bool, false, not, List, [], ◌∷◌, length, get_or, Some, None, Err, Option, Result, sym, refl, ap, ◌∙◌, subst, ⊎_elim, arith}
use lib.Bits.{bit_and}
use Rattle.std.proofs.lemmas.Nat.{div-add-mod'}
use Rattle.std.proofs.lemmas.List.{ext_get_or}
use Rattle.std.proofs.lemmas.Bool.{cases_lt, both_ways}
use Rattle.medium.specs.Meaning.{EachBelow, Meaning, capacity}
use Rattle.medium.specs.Wear.{alive}
use Rattle.medium.specs.Jobs.{laid, byte_after, closed, wipe_refusal, wiped, word_refusal}
use Rattle.medium.specs.declared.fault.Fault.{Fault}
use Rattle.medium.proofs.Laid.{laid_below, laid_past, length_laid}
use Rattle.medium.proofs.Wiped.{length_wiped}
use Rattle.medium.proofs.Refusals.{fault_of, never, wipe_past, word_past}
use Rattle.writer.specs.Jobs.{Job, JobDone, Run, finished, job_place, job_refusal, tally, wipe_of, word_at, job_fault, stopped, was_begun}
use Rattle.writer.specs.Blocks.{met_count, must_wipe}
use Rattle.writer.specs.Put.{put_jobs, put_run, wanted}
use Rattle.writer.specs.Laws.{Halted, InBlock, faulty_block}
use Rattle.writer.specs.declared.counts.Counts.{Counts}
use Rattle.writer.proofs.Sizes.{spans, block_within}
use Rattle.writer.proofs.Parts.{laid_none}
use Rattle.writer.proofs.Faults.{AtJob, WornJob, closed_at, refused_or_worn}
use Rattle.writer.proofs.Effects.{done_answer, done_refused}
use Rattle.writer.proofs.Walks.{Open, found_of, next_of, run_walks, Same, run_same}
use Rattle.writer.proofs.Frames.{Apart, On, apart_laid, apart_same, on_block, on_place, job_end, on_within}
use Rattle.writer.proofs.Fit.{Fit}
use Rattle.writer.proofs.Contents.{Now, walk_put, StopIn, WordsBefore, PutDoneSoFar}

-- what a range of blocks holds that covers the bytes laid over
now_whole : (a z p : ℕ) (xs ys zs : List ℕ) → a ≤ p → p + length ys ≤ z → p + length ys ≤ length xs → Now xs a z (laid xs p ys) zs → zs ≡ laid xs p ys
now_whole a z p xs ys zs ap pz l k =
    ext_get_or 0 zs (laid xs p ys) (k.long ∙ sym (length_laid xs ys p l))
    (λ i h. ⊎_elim (λ (u : i < a). k.low i u ∙ sym (laid_below xs ys p i 0 (omega arith) (omega arith)))
    (λ (u : a ≤ i). ⊎_elim (λ (v : i < z). k.at i u v) (λ (v : z ≤ i). k.high i v ∙ sym (laid_past xs ys p i 0 (omega arith) (omega arith))) (cases_lt i z))
    (cases_lt i a))

-- where the run of a put stands when it stops or finishes
abbrev PutEnds : Meaning → ℕ → List ℕ → Run → Type 0
PutEnds m p bs R = PutDoneSoFar (Open m) m p bs (next_of R) (found_of R).bytes

put_ends : (m : Meaning) (p : ℕ) (bs : List ℕ) → Fit m → p + length bs ≤ capacity m → 0 < length bs → EachBelow 256 bs → PutEnds m p bs (put_run m p bs)
put_ends m p bs fit within some by = run_walks (put_jobs m p bs) m (tally 0 0) (PutDoneSoFar (Open m) m p bs) (walk_put (Open m) m p bs fit within some by)

-- a put that finishes leaves the wanted contents
pub finished_wanted : (m m₁ : Meaning) (p : ℕ) (bs : List ℕ) (c : Counts) → Fit m → p + length bs ≤ capacity m → EachBelow 256 bs →
    put_run m p bs ≡ finished m₁ c → m₁.bytes ≡ wanted m p bs
finished_wanted m m₁ p [] c fit within by e = let q : m₁ ≡ m = cc in ap (λ (z : Meaning). z.bytes) q ∙ sym (laid_none m.bytes p)
finished_wanted m m₁ p (x ∷ bs) c fit within by e =
    let n = m.block_size in
    let k = met_count m.block_size p (length (x ∷ bs)) in
    let s = spans m.block_size p (length (x ∷ bs)) m.blocks fit.some (omega arith) within in
    let f = fit.filled in
    now_whole (p / n * n) ((p / n + k) * n) p m.bytes (x ∷ bs) m₁.bytes (omega (arith, s.begins)) (omega (arith, s.ends)) (omega arith)
    (subst (PutEnds m p (x ∷ bs)) e (put_ends m p (x ∷ bs) fit within (omega arith) by))

-- any job, also one that met a worn lane, changes its own places alone
done_apart : (n b : ℕ) (j : Job) (m m' : Meaning) (r : Result (Unit {0}) Fault) → On n b j → m.block_size ≡ n → b * n + n ≤ length m.bytes → JobDone m j r m' →
    Apart (job_place n j) (job_end n j) m.bytes m'.bytes
done_apart n b (word_at p v) m m' r h s l d = go (word_refusal m p) refl
  where
    go : (o : Option Fault) → word_refusal m p ≡ o → Apart p (p + 2) m.bytes m'.bytes
    go (Some g) e = apart_same p (p + 2) m.bytes m'.bytes (ap (λ (z : Meaning). z.bytes) (d.refused g e))
    go None e =
        let t = d.begun e in
        apart_laid p (p + 2) p m.bytes
        (byte_after (alive m.even_lives (p / m.block_size)) (bit_and (get_or m.bytes p 0) (v % 256)) t.even
        ∷ byte_after (alive m.odd_lives (p / m.block_size)) (bit_and (get_or m.bytes (p + 1) 0) (v / 256)) t.odd
        ∷ [])
        m'.bytes (ap (λ (z : Meaning). z.bytes) t.after) (omega arith) (omega arith) (omega (arith, h.1))
done_apart n b (wipe_of b') m m' r h s l d = go (wipe_refusal m b') refl
  where
    go : (o : Option Fault) → wipe_refusal m b' ≡ o → Apart (b' * n) (b' * n + n) m.bytes m'.bytes
    go (Some g) e = apart_same (b' * n) (b' * n + n) m.bytes m'.bytes (ap (λ (z : Meaning). z.bytes) (d.refused g e))
    go None e =
        let t = d.begun e in
        let w = length_wiped (alive m.even_lives b') (alive m.odd_lives b') t.left in
        let k = t.long in
        let p : b' * m.block_size ≡ b' * n = ap (λ (z : ℕ). b' * z) s in
        let q : b' * n ≡ b * n = ap (λ (z : ℕ). z * n) h in
        apart_laid (b' * n) (b' * n + n) (b' * m.block_size) m.bytes (wiped (alive m.even_lives b') (alive m.odd_lives b') t.left) m'.bytes
        (ap (λ (z : Meaning). z.bytes) t.after) (omega arith) (omega arith) (omega arith)

-- past the tests of its place, lock and supply decide whether a job of block b begins, and its fault is at its place
module _ (n b : ℕ) (m : Meaning) (size : m.block_size ≡ n) (here : b < m.blocks) (j : Job) (on : On n b j) where
  refused_closed : job_refusal m j ≡ closed m b (job_place n j)
  refused_closed = go j on
    where
      go : (i : Job) → On n b i → job_refusal m i ≡ closed m b (job_place n i)
      go (word_at p v) h =
          let r = block_within m n b (sym size) here in
          word_past m p (omega (arith, h.1)) h.2 ∙ ap (λ (d : ℕ). closed m d p) (ap (λ (k : ℕ). p / k) size ∙ on_block n b (word_at p v) h)
      go (wipe_of b') h =
          ap (wipe_refusal m) h ∙ (wipe_past m b here ∙ ap (closed m b) (ap (λ (k : ℕ). b * k) size ∙ ap (λ (k : ℕ). k * n) (sym h)))

  open_begun : Open m b → job_refusal m j ≡ None
  open_begun o = refused_closed ∙ rw (o.unlocked, o.good)

  fault_at : (f : Fault) → job_fault m j ≡ Some f → AtJob (job_place n j) f
  fault_at f e =
      ⊎_elim (λ (q : job_refusal m j ≡ Some f). closed_at m b (job_place n j) f (sym refused_closed ∙ q))
      (λ (q : (job_refusal m j ≡ None) × WornJob m j f). subst (λ (k : ℕ). AtJob (job_place k j) f) size q.1.at)
      (refused_or_worn m j f e)

-- a fault that is not that of a begun job is a refusal
not_begun : (m : Meaning) (j : Job) (f : Fault) → job_fault m j ≡ Some f → was_begun (Err f) ≡ false → job_refusal m j ≡ Some f
not_begun m j f e h =
    ⊎_elim (λ (q : job_refusal m j ≡ Some f). q)
    (λ (q : (job_refusal m j ≡ None) × WornJob m j f). absurd (both_ways (was_begun (Err f)) h q.1.begun))
    (refused_or_worn m j f e)

-- a put that a job stopped: what it found, and what the job left
module _ (m m₁ m' : Meaning) (p : ℕ) (bs : List ℕ) (e : ℕ) (j : Job) (f : Fault) (fit : Fit m) (within : p + length bs ≤ capacity m) (same : Same m m₁)
    (few : e ≤ m.blocks)
    (stop : StopIn (Open m) m.block_size (p / m.block_size) e (wanted m p bs) m.bytes j m₁.bytes) (left : JobDone m₁ j (Err f) m') where
  abbrev n : ℕ
  n = m.block_size

  abbrev b : ℕ
  b = stop.seen

  met : job_fault m₁ j ≡ Some f
  met = fault_of (job_fault m₁ j) f (done_answer m₁ m' j (Err f) left)

  here : b < m₁.blocks
  here = let q = stop.few in let c = same.count in omega arith

  on_card : b * n + n ≤ length m.bytes
  on_card = let q = stop.few in let r = block_within m n b refl (omega arith) in let l = fit.filled in omega arith

  at_job : AtJob (job_place n j) f
  at_job = fault_at n b m₁ same.size here j stop.on f met

  apart : Apart (job_place n j) (job_end n j) m₁.bytes m'.bytes
  apart = let l = stop.long in let c = on_card in done_apart n b j m₁ m' (Err f) stop.on same.size (omega arith) left

  block_is : faulty_block n f ≡ b
  block_is = ap (λ (q : ℕ). q / n) at_job.1 ∙ on_place n b j fit.some stop.on

  -- below the range, the wanted contents are the present ones
  earlier : (i : ℕ) → i < b * n → get_or m'.bytes i 0 ≡ get_or (wanted m p bs) i 0
  earlier i l =
      let w = on_within n b j stop.on in
      let d = div-add-mod' p n in
      let fl = fit.filled in
      apart.low i (omega (arith, w.0))
      ∙ ⊎_elim (λ (u : i < p / n * n). stop.low i u ∙ sym (laid_below m.bytes bs p i 0 (omega arith) (omega arith))) (λ (u : p / n * n ≤ i). stop.before i u l)
      (cases_lt i (p / n * n))

  later : (i : ℕ) → b * n + n ≤ i → get_or m'.bytes i 0 ≡ get_or m.bytes i 0
  later i l = let w = on_within n b j stop.on in apart.high i (omega (arith, w.1)) ∙ stop.high i l

  words : InBlock n b m.bytes (wanted m p bs) m'.bytes j
  words = go j stop.words apart
    where
      go : (i : Job) → WordsBefore n b (must_wipe n m.bytes (wanted m p bs) b) (wanted m p bs) m.bytes i m₁.bytes →
          Apart (job_place n i) (job_end n i) m₁.bytes m'.bytes →
          InBlock n b m.bytes (wanted m p bs) m'.bytes i
      go (word_at q v) h a = record { before = λ i l u. a.low i u ∙ h.before i l u; after = λ i l u. a.high i l ∙ h.after i (omega arith) u }
      go (wipe_of b') h a = tt

  still_open : Open m b → Open m₁ b
  still_open o = record { unlocked = ap (λ (z : List Bool). get_or z b false) same.locks ∙ o.unlocked; good = ap not same.supply ∙ o.good }

  refused : was_begun (Err f) ≡ false → (i : ℕ) → b * n ≤ i → i < b * n + n → get_or m'.bytes i 0 ≡ get_or m.bytes i 0
  refused h i l u =
      let q = not_begun m₁ j f met h in
      ap (λ (z : Meaning). get_or z.bytes i 0) (done_refused m₁ m' j (Err f) f left q)
      ∙ ⊎_elim (λ (s : (k : ℕ) → b * n ≤ k → k < b * n + n → get_or m₁.bytes k 0 ≡ get_or m.bytes k 0). s i l u)
      (λ (o : Open m b). never f (job_refusal m₁ j) q (open_begun n b m₁ same.size here j stop.on (still_open o)))
      stop.fresh

  halted : Halted n m.bytes (wanted m p bs) m'.bytes f
  halted =
      let q : faulty_block n f * n ≡ b * n = ap (λ (k : ℕ). k * n) block_is in
      record {
        job = j;
        place = at_job.1;
        earlier = λ i l. earlier i (omega arith);
        later = λ i l. later i (omega arith);
        words = subst (λ (k : ℕ). InBlock n k m.bytes (wanted m p bs) m'.bytes j) (sym block_is) words;
        refused = λ h i l u. refused h i (omega arith) (omega arith);
      }

pub stopped_halted : (m m₁ m' : Meaning) (p : ℕ) (bs : List ℕ) (j : Job) (f : Fault) (c : Counts) → Fit m → p + length bs ≤ capacity m → EachBelow 256 bs →
    put_run m p bs ≡ stopped m₁ j f c → JobDone m₁ j (Err f) m' → Halted m.block_size m.bytes (wanted m p bs) m'.bytes f
stopped_halted m m₁ m' p [] j f c fit within by e d = let z : ◌≡◌ {A = ℕ} 0 1 = cc in absurd (omega arith)
stopped_halted m m₁ m' p (x ∷ bs) j f c fit within by e d =
    let k = met_count m.block_size p (length (x ∷ bs)) in
    let s = spans m.block_size p (length (x ∷ bs)) m.blocks fit.some (omega arith) within in
    halted m m₁ m' p (x ∷ bs) (p / m.block_size + k) j f fit within (subst (λ (R : Run). Same m (found_of R)) e (run_same (put_jobs m p (x ∷ bs)) m (tally 0 0))) s.few
    (subst (PutEnds m p (x ∷ bs)) e (put_ends m p (x ∷ bs) fit within (omega arith) by)) d
