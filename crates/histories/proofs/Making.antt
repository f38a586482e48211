-- A request that was made is the event of its call; with the move before it, the call was carried out.
use Rattle.std.proofs.Common.{◌≡◌, ℕ, List, length, vec_items, vec_len, Result, sym, refl, ap, ◌∙◌, subst}
use Rattle.std.specs.Global.{Vec}
use Rattle.std.specs.Vec.{with_items}
use Rattle.std.proofs.lemmas.List.{with_items_is}
use Rattle.medium.specs.Meaning.{Meaning, EachBelow}
use Rattle.medium.specs.Jobs.{ReadDone}
use Rattle.medium.specs.declared.fault.Fault.{Fault}
use Rattle.writer.specs.Put.{PutDone, ClearDone, PlanDone}
use Rattle.writer.specs.declared.counts.Counts.{Counts}
use Rattle.writer.specs.declared.fault.WriterFault.{WriterFault}
use Rattle.histories.specs.Events.{put_of, clear_of, take_of, plan_of}
use Rattle.histories.specs.Performed.{Made, Switched, Carried}
use Rattle.histories.specs.declared.call.Call.{Call}
use Rattle.histories.specs.declared.request.Request.{Request}
use Rattle.histories.specs.declared.request.Request.TheVariants.{Put, Clear, Take, Plan}
use Rattle.histories.specs.declared.answer.Answer.{Answer}
use Rattle.histories.specs.declared.answer.Answer.TheVariants.{Written, Taken, Planned}

module _ (m m' : Meaning) (buf buf' : List ℕ) (q : Request) where
  pub put_made : (p : ℕ) (v : Vec ℕ) (bs : List ℕ) (r : Result Counts WriterFault) → q ≡ Put p v → bs ≡ vec_items v →
      EachBelow 256 bs → PutDone m p bs buf r m' buf' → Made m q buf (Written r) m' buf'
  put_made p v bs r is items below done =
      record {
        event = put_of p (vec_items v) buf r buf';
        tells = rw is (record { result = r; answer = refl; event = refl });
        step = subst (λ (z : List ℕ). EachBelow 256 z × PutDone m p z buf r m' buf') items (below, done);
      }

  pub clear_made : (b k : ℕ) (r : Result Counts WriterFault) → q ≡ Clear b k → ClearDone m b k buf r m' buf' → Made m q buf (Written r) m' buf'
  clear_made b k r is done =
      record { event = clear_of b k buf r buf'; tells = rw is (record { result = r; answer = refl; event = refl }); step = done }

  pub take_made : (p : ℕ) (r : Result (Unit {0}) Fault) → q ≡ Take p → ReadDone m p buf r m' buf' → Made m q buf (Taken r) m' buf'
  take_made p r is done =
      record { event = take_of p buf r buf'; tells = rw is (record { result = r; answer = refl; event = refl }); step = done }

  pub plan_made : (p : ℕ) (v : Vec ℕ) (bs : List ℕ) (r : Result Counts WriterFault) → q ≡ Plan p v → bs ≡ vec_items v →
      PlanDone m p bs buf r m' buf' → Made m q buf (Planned r) m' buf'
  plan_made p v bs r is items done =
      record {
        event = plan_of p (vec_items v) buf r buf';
        tells = rw is (record { result = r; answer = refl; event = refl });
        step = subst (λ (z : List ℕ). PlanDone m p z buf r m' buf') items done;
      }

-- the call b with its buffer filled in and its answer
abbrev pub answered : Call → List ℕ → Answer → Call
answered b buf a = record { medium = b.medium; request = b.request; buffer = with_items b.buffer buf; answer = a }

module _ {S : Type 0} (moves : S → ℕ → Meaning → Meaning → S → Type 0) where
  pub carried : (m m₁ m' : Meaning) (at : ℕ) (s s' : S) (b : Call) (buf buf' : List ℕ) (a : Answer) →
      Switched moves m m₁ at s s' → buf ≡ vec_items b.buffer → length buf' ≡ length buf →
      Made m₁ b.request buf a m' buf' → Carried moves m m' at s s' b (answered b buf' a)
  carried m m₁ m' at s s' b buf buf' a move items long made =
      let full : length buf' ≡ vec_len b.buffer = long ∙ (ap length items ∙ sym b.buffer.ok.0) in
      record {
        same = record { medium = refl; request = refl };
        between = m₁;
        move = move;
        made =
            subst (λ (z : List ℕ). Made m₁ b.request z a m' (vec_items (with_items b.buffer buf'))) items
            (subst (λ (z : List ℕ). Made m₁ b.request buf a m' z) (sym (with_items_is b.buffer buf' full)) made);
      }
