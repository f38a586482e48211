-- A row of the table that is sent words: no job begins, so only the devices change.
use Rattle.std.proofs.Common.{◌≡◌, ℕ, ◌+◌, ◌*◌, ◌/◌, ◌%◌, false, List, [], ◌∷◌, None, Ok, Option, Result, refl, ap, ◌∙◌, subst}
use Rattle.medium.specs.Jobs.{gives}
use Rattle.medium.specs.declared.fault.Fault.{Fault}
use Rattle.devices.specs.Commands.{begins}
use Rattle.slot.specs.State.{SlotState, even_chip, odd_chip}
use Rattle.slot.specs.Lane.{Free}
use Rattle.slot.specs.Cycles.{WordRead, cycle_read, cycle_write, even_shown, odd_shown, unless}
use Rattle.cases.specs.Table.{EachPair, PairHolds, PairShown, Sent, one_pair}
use Rattle.cases.specs.Computed.{EachPairChecked, PairChecked, Quiet, after_quiet, quiet}
use Rattle.cases.specs.declared.table.CycleCase.{CycleCase}

quiet_write : (s : SlotState) (w : ℕ) (e o : Free) → s.pin ≡ false → begins s.supply (w % 256) (even_chip s 0) ≡ None →
    begins s.supply (w / 256) (odd_chip s 0) ≡ None → cycle_write s 0 w e o ≡ quiet s w
unfolding cycle_write
quiet_write s w e o off even odd = rw (off, even, odd)

sent_quiet : (patience : ℕ) (ws : List ℕ) (s s' : SlotState) → Quiet s ws → Sent patience s ws s' → s' ≡ after_quiet s ws
sent_quiet patience [] s s' q e = e
sent_quiet patience (w ∷ ws) s s' (on, off, even, odd, more) (s₁, (r, (h, rest))) =
    let e : s₁ ≡ quiet s w =
    h.after ∙ (ap (λ (o : Option Fault). unless o s (cycle_write s 0 w h.even h.odd)) on ∙ quiet_write s w h.even h.odd off even odd) in
    sent_quiet patience ws (quiet s w) s' more (subst (λ (z : SlotState). Sent patience z ws s') e rest)

-- what does not change
abbrev pub Same : SlotState → SlotState → Type 0
Same s t = (t.bytes ≡ s.bytes) × (t.even_lives ≡ s.even_lives) × (t.odd_lives ≡ s.odd_lives)

same_quiet : (ws : List ℕ) (s : SlotState) → Same s (after_quiet s ws)
same_quiet [] s = (refl, refl, refl)
same_quiet (w ∷ ws) s = same_quiet ws (quiet s w)

pair_shown : (c : CycleCase) → PairChecked c → (patience : ℕ) (xs even odd : List ℕ) (s s' : SlotState) (r : Result ℕ Fault) →
    Sent patience (one_pair c.supply xs even odd) c.words.now s → WordRead s c.place r s' → PairShown c xs even odd r s'
pair_shown c k patience xs even odd s s' r sent read =
    let s₀ = one_pair c.supply xs even odd in
    let ws = c.words.now in
    let s₁ = after_quiet s₀ ws in
    let q = k xs even odd in
    let e : s ≡ s₁ = sent_quiet patience ws s₀ s q.0 sent in
    let same = same_quiet ws s₀ in
    let h : WordRead s₁ c.place r s' = subst (λ (z : SlotState). WordRead z c.place r s') e read in
    let a : s' ≡ cycle_read s₁ c.place = h.after ∙ ap (λ (o : Option Fault). unless o s₁ (cycle_read s₁ c.place)) q.1 in
    record {
      answer = h.answer
          ∙ (ap (λ (o : Option Fault). gives o (even_shown s₁ c.place + 256 * odd_shown s₁ c.place)) q.1 ∙ ap (λ (n : ℕ). Ok n) q.2);
      contents = ap (λ (z : SlotState). z.bytes) a ∙ same.0;
      even_kept = ap (λ (z : SlotState). z.even_lives) a ∙ same.1;
      odd_kept = ap (λ (z : SlotState). z.odd_lives) a ∙ same.2;
    }

pair_holds : (c : CycleCase) → PairChecked c → PairHolds c
pair_holds c k = record { holds = pair_shown c k }

pub each_pair : (cs : List CycleCase) → EachPairChecked cs → EachPair cs
each_pair [] k = tt
each_pair (c ∷ cs) k = (pair_holds c k.0, each_pair cs k.1)
