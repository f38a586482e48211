use Rattle.std.proofs.Common.{◌≡◌, ◌+◌, ◌-◌, ◌%◌, length, sym, refl, ap, ◌∙◌, subst, arith}
use Rattle.slot.specs.State.{SlotState, slot_capacity}
use Rattle.slot.specs.Cycles.{was_reset}
use Rattle.driver.proofs.Fills.{HoldsWord, word_of, capacity_small, read_same, word_read, held_byte, held_next, filled_more, filled_all}
use Rattle.driver.proofs.driver.Driver.fill.Goals as goal
use Rattle.driver.proofs.driver.Driver.fill.Goals.{then-i-eq0, else-i-eq0+else-at-eq0}

pub overflow_cast-at : goal.overflow_cast-at
overflow_cast-at g c = omega (arith, capacity_small (g.S.Slot.state c.args.self.now.slot) (g.met.S.Slot.sound c.args.self.now.slot), c.requires.on)

pub overflow_add-at : goal.overflow_add-at
overflow_add-at g c = omega (arith, capacity_small (g.S.Slot.state c.args.self.now.slot) (g.met.S.Slot.sound c.args.self.now.slot), c.requires.on)

pub look-word-requires : goal.look-word-requires
look-word-requires g c =
    word_of (g.S.Slot.state c.loop-i.self.slot) (g.met.S.Slot.sound c.loop-i.self.slot) (c.args.place + c.loop-i.i)
    (omega (arith, ap slot_capacity c.loop-i.invariant.0, c.requires.on))

pub loop-i-preserved : goal.loop-i-preserved
loop-i-preserved g c =
    let s = g.S.Slot.state c.args.self.now.slot in
    let t = g.S.Slot.state c.loop-i.self.slot in
    let same : t ≡ s = c.loop-i.invariant.0 in
    let fresh : t ≡ was_reset t = same ∙ (c.requires.fresh ∙ ap was_reset (sym same)) in
    let q = c.args.place + c.loop-i.i in
    let read : (g.S.Slot.state c.if-i-eq0.self.slot ≡ s) × HoldsWord s.bytes c.if-i-eq0.word q =
    elim c.if-i-eq0.branch [
      | then-i-eq0 w ↦ (
        ap (λ x. g.S.Slot.state x.slot) w.self-is ∙ (w.look-word.ensures.after ∙ (read_same t fresh (q - q % 2) ∙ same)),
        subst (λ x. HoldsWord s.bytes x q) (sym w.word-is)
            (subst (λ (x : SlotState). HoldsWord x.bytes w.look-word.result q) same (word_read t fresh q w.look-word.result w.look-word.ensures.even w.look-word.ensures.odd)),
      )
      | else-i-eq0+else-at-eq0 w ↦ (
        ap (λ x. g.S.Slot.state x.slot) w.self-is ∙ same,
        subst (λ x. HoldsWord s.bytes x q) (sym w.word-is)
            (held_next s.bytes c.loop-i.word (q - 1) q (c.loop-i.invariant.2 (q - 1) (omega arith) (omega arith)) (omega arith) (omega arith)),
      )
    ] in (
      read.0,
      filled_more s.bytes c.args.place c.loop-i.buffer c.loop-i.i _ (omega arith) c.loop-i.invariant.1 (held_byte s.bytes c.if-i-eq0.word q (q % 2) read.1 refl),
      λ p e some. let here : q ≡ p = omega arith in subst (HoldsWord s.bytes c.if-i-eq0.word) here read.1,
    )

pub returns-clause-shown : goal.returns-clause-shown
returns-clause-shown g c =
    let s = g.S.Slot.state c.args.self.now.slot in
    filled_all s.bytes c.args.place c.loop-i.buffer (length c.args.buffer.now) c.loop-i.auto.buffer
    (omega (arith, c.requires.on, (g.met.S.Slot.sound c.args.self.now.slot).medium.filled))
    (λ k h. c.loop-i.invariant.1 k (omega (arith, c.loop-i.auto.buffer)))
