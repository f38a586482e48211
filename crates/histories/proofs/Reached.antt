-- What a put leaves at each place: the byte asked where it reached; elsewhere the old one, unless a worn fault named
-- the block.
use Rattle.std.proofs.Common.{◌≡◌, ℕ, ◌+◌, ◌-◌, ◌*◌, ◌/◌, ◌<◌, ◌≤◌, Bool, true, false, ◌&&◌, eqb, ltb, leb, List, length, get_or, Some, None, Ok, Err, Option, Result, sym, refl, ap, ◌∙◌, subst, ⊎_elim, mul-le-mul_right, div-lt_iff_lt-mul, div-mul-le_self, arith}
use native.Mathlib.Nat.{lt-div-mul-add}
use Rattle.std.proofs.lemmas.Bool.{cases_order, and_parts, and_cases, and_from, both_ways, ltb-true, ltb-false, leb-true, leb-false, le-leb, lt-ltb, eq-eqb}
use Rattle.medium.specs.Meaning.{Meaning, EachBelow, capacity}
use Rattle.medium.specs.Faults.{listed}
use Rattle.medium.specs.Jobs.{refuse_if, laid}
use Rattle.medium.specs.declared.fault.Fault.{Fault}
use Rattle.medium.specs.declared.fault.Fault.TheVariants.{OffCard, ShortBuffer}
use Rattle.medium.proofs.Laid.{laid_below, laid_in, laid_past}
use Rattle.writer.specs.Jobs.{was_begun, tally}
use Rattle.writer.specs.Put.{put_refusal, PutDone, failed}
use Rattle.writer.specs.Laws.{ByJob, faulty_block, Halted}
use Rattle.writer.specs.declared.counts.Counts.{Counts}
use Rattle.writer.specs.declared.fault.WriterFault.{WriterFault}
use Rattle.writer.proofs.Fit.{Fit}
use Rattle.writer.proofs.Laws.{fits, leaves_wanted, stops}
use Rattle.histories.specs.Law.{Asking, in_range, by_job, came_to, reached, worn_named}
use Rattle.histories.proofs.OnCard.{accepted_by_job}

abbrev pub asking : ℕ → List ℕ → Result Counts WriterFault → Asking
asking p bs r = record { place = p; bytes = bs; answer = r }

-- contents new, once old, after a call that asked a
pub record Leaves (n : ℕ) (a : Asking) (old new : List ℕ) : Type 0 where
  pub asked : (k : ℕ) → reached n a k ≡ true → get_or new k 0 ≡ get_or a.bytes (k - a.place) 0
  pub kept : (k : ℕ) → reached n a k ≡ false → worn_named n a.answer (k / n) ≡ false → get_or new k 0 ≡ get_or old k 0

-- a fault of a job, as a test; a refusal of the put itself is none
by_job_true : (f : Fault) → ByJob f → by_job f ≡ true
by_job_true f h = and_from (leb 4 (listed f).number) (leb (listed f).number 6) (le-leb 4 (listed f).number h.0) (le-leb (listed f).number 6 h.1)

refused_by_job_false : (m : Meaning) (p len room : ℕ) (f : Fault) → put_refusal m p len room ≡ Some f → by_job f ≡ false
refused_by_job_false m p len room f e = go (ltb (capacity m) (p + len)) (ltb room m.block_size) e
  where
    go : (off short : Bool) → refuse_if off (OffCard p) (refuse_if short (ShortBuffer p) None) ≡ Some f → by_job f ≡ false
    go true short q = let z : OffCard p ≡ f = cc in subst (λ (g : Fault). by_job g ≡ false) z refl
    go false true q = let z : ShortBuffer p ≡ f = cc in subst (λ (g : Fault). by_job g ≡ false) z refl
    go false false q = let z : ◌≡◌ {A = ℕ} 0 1 = cc in absurd (omega arith)

module _ (n p : ℕ) (bs old : List ℕ) (r : Result Counts WriterFault) (k : ℕ) where
  abbrev inside : Bool
  inside = in_range (asking p bs r) k

  -- the bytes laid over the old ones, in the range and around it
  laid_inside : p + length bs ≤ length old → inside ≡ true → get_or (laid old p bs) k 0 ≡ get_or bs (k - p) 0
  laid_inside room e =
      let h = and_parts (leb p k) (ltb k (p + length bs)) e in
      laid_in old bs p k 0 (leb-true p k h.0) (ltb-true k (p + length bs) h.1) (omega arith)

  laid_around : p + length bs ≤ length old → inside ≡ false → get_or (laid old p bs) k 0 ≡ get_or old k 0
  laid_around room e =
      ⊎_elim (λ (h : leb p k ≡ false). laid_below old bs p k 0 (leb-false p k h) (omega arith))
      (λ (h : ltb k (p + length bs) ≡ false). laid_past old bs p k 0 (ltb-false k (p + length bs) h) (omega arith))
      (and_cases (leb p k) (ltb k (p + length bs)) e)

  -- what reaching a place means
  reached_parts : reached n (asking p bs r) k ≡ true → (inside ≡ true) × (came_to n r (k / n) ≡ true)
  reached_parts e = and_parts inside (came_to n r (k / n)) e

  unreached_outside : came_to n r (k / n) ≡ true → reached n (asking p bs r) k ≡ false → inside ≡ false
  unreached_outside came e =
      ⊎_elim (λ (h : inside ≡ false). h) (λ (h : came_to n r (k / n) ≡ false). absurd (both_ways (came_to n r (k / n)) h came))
      (and_cases inside (came_to n r (k / n)) e)

module _ (n p : ℕ) (bs old new : List ℕ) where
  -- a refused put
  leaves_old : (w : WriterFault) → by_job w.fault ≡ false → new ≡ old → Leaves n (asking p bs (Err w)) old new
  leaves_old w other same =
      record {
        asked = λ k e.
            let came = (reached_parts n p bs old (Err w) k e).1 in
            absurd (both_ways (by_job w.fault) other (and_parts (by_job w.fault) (ltb (k / n) (faulty_block n w.fault)) came).0);
        kept = λ k e named. ap (λ (xs : List ℕ). get_or xs k 0) same;
      }

  module _ (room : p + length bs ≤ length old) where
    -- a finished put
    leaves_all : (c : Counts) → new ≡ laid old p bs → Leaves n (asking p bs (Ok c)) old new
    leaves_all c e =
        record {
          asked = λ k h. ap (λ (xs : List ℕ). get_or xs k 0) e ∙ laid_inside n p bs old (Ok c) k room (reached_parts n p bs old (Ok c) k h).0;
          kept = λ k h named. ap (λ (xs : List ℕ). get_or xs k 0) e ∙ laid_around n p bs old (Ok c) k room (unreached_outside n p bs old (Ok c) k refl h);
        }

    -- a put that stopped at a job of block `faulty`
    module _ (some : 0 < n) (w : WriterFault) (job : ByJob w.fault) (h : Halted n old (laid old p bs) new w.fault) where
      abbrev faulty : ℕ
      faulty = faulty_block n w.fault

      came_before : (b : ℕ) → came_to n (Err w) b ≡ ltb b faulty
      came_before b = ap (λ (t : Bool). t && ltb b faulty) (by_job_true w.fault job)

      in_faulty : (k : ℕ) → k / n ≡ faulty → worn_named n (Err w) (k / n) ≡ false → get_or new k 0 ≡ get_or old k 0
      in_faulty k same named =
          let from : k / n * n ≤ k = div-mul-le_self k n in
          let to : k < k / n * n + n = lt-div-mul-add {a = k} {b = n} some in
          let e : k / n * n ≡ faulty * n = ap (λ (i : ℕ). i * n) same in
          let refused : was_begun (Err w.fault) ≡ false =
          ⊎_elim (λ (x : eqb (listed w.fault).number 6 ≡ false). x)
          (λ (x : eqb (k / n) faulty ≡ false). absurd (both_ways (eqb (k / n) faulty) x (eq-eqb (k / n) faulty same)))
          (and_cases (eqb (listed w.fault).number 6) (eqb (k / n) faulty) named) in
          h.refused refused k (omega arith) (omega arith)

      before_faulty : (k : ℕ) → k / n < faulty → get_or new k 0 ≡ get_or (laid old p bs) k 0
      before_faulty k before = h.earlier k ((div-lt_iff_lt-mul some).0 before)

      after_faulty : (k : ℕ) → faulty < k / n → get_or new k 0 ≡ get_or old k 0
      after_faulty k after =
          let from : k / n * n ≤ k = div-mul-le_self k n in
          let past : (faulty + 1) * n ≤ k / n * n = mul-le-mul_right n (omega arith) in
          h.later k (omega arith)

      leaves_some : Leaves n (asking p bs (Err w)) old new
      leaves_some =
          record {
            asked = λ k e.
                let parts = reached_parts n p bs old (Err w) k e in
                before_faulty k (ltb-true (k / n) faulty (sym (came_before (k / n)) ∙ parts.1)) ∙ laid_inside n p bs old (Err w) k room parts.0;
            kept = λ k e named.
                ⊎_elim (λ (same : k / n ≡ faulty). in_faulty k same named)
                (⊎_elim
                (λ (before : k / n < faulty).
                before_faulty k before
                ∙ laid_around n p bs old (Err w) k room (unreached_outside n p bs old (Err w) k (came_before (k / n) ∙ lt-ltb (k / n) faulty before) e))
                (λ (after : faulty < k / n). after_faulty k after))
                (cases_order (k / n) faulty);
          }

pub put_leaves : (m : Meaning) (p : ℕ) (bs buf : List ℕ) (r : Result Counts WriterFault) (m' : Meaning) (buf' : List ℕ) → Fit m → EachBelow 256 bs →
    PutDone m p bs buf r m' buf' → Leaves m.block_size (asking p bs r) m.bytes m'.bytes
put_leaves m p bs buf r m' buf' s below d = go (put_refusal m p (length bs) (length buf)) refl r refl
  where
    done : (x : Result Counts WriterFault) → r ≡ x → PutDone m p bs buf x m' buf'
    done x is = subst (λ (y : Result Counts WriterFault). PutDone m p bs buf y m' buf') is d

    go : (o : Option Fault) → put_refusal m p (length bs) (length buf) ≡ o → (x : Result Counts WriterFault) → r ≡ x →
        Leaves m.block_size (asking p bs x) m.bytes m'.bytes
    go (Some f) e (Ok c) is = let a = (d.refused f e).answer in let z : ◌≡◌ {A = ℕ} 0 1 = cc in absurd (omega arith)
    go (Some f) e (Err w) is =
        let h = d.refused f e in
        let a = h.answer in
        let z : w ≡ failed f (tally 0 0) = cc in
        leaves_old m.block_size p bs m.bytes m'.bytes w
        (ap (λ (x : WriterFault). by_job x.fault) z ∙ refused_by_job_false m p (length bs) (length buf) f e) (ap (λ (x : Meaning). x.bytes) h.same)
    go None e (Ok c) is =
        let l = fits m p (length bs) (length buf) e in
        leaves_all m.block_size p bs m.bytes m'.bytes (omega (arith, s.filled)) c (leaves_wanted m m' p bs buf buf' c s below (done (Ok c) is))
    go None e (Err w) is =
        let l = fits m p (length bs) (length buf) e in
        let job = accepted_by_job m p bs w s l (sym is ∙ (d.accepted e).answer) in
        leaves_some m.block_size p bs m.bytes m'.bytes (omega (arith, s.filled)) s.some w job
        (stops m m' p bs buf buf' (Err w) s below (done (Err w) is) job)
