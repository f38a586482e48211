use Rattle.std.proofs.Common.{◌≡◌, Err, ap, ◌∙◌, sym, subst}
use Rattle.std.proofs.lemmas.Result.{err_from_is_err_and}
use Rattle.medium.proofs.Refusals.{fault_of, none_of}
use Rattle.devices.specs.Chip.{longest_wait}
use Rattle.slot.specs.Cycles.{WordWritten}
use Rattle.board.specs.Held.{CardState}
use Rattle.board.proofs.Limits.{board_sound}
use Rattle.cards.specs.Raw.{written}
use Rattle.cards.specs.Meant.{of_card}
use Rattle.cards.proofs.Words.{word_written, refused_write}
use Rattle.cards.proofs.slot_of_card.CardSlot.write_word.Goals as goal

pub returns-in_err-test_word-clause-slot : goal.returns-in_err-test_word-clause-slot
returns-in_err-test_word-clause-slot g c =
    let x = of_card g.W.Wiring.switches c.args.self.now in
    let f = c.in_err-test_word.field-0.0 in
    let told = err_from_is_err_and c.from_residual.result c.from_residual.ensures.1 in
    let e : c.from_residual.result ≡ Err f = let a = told.1 in let b = told.2 in cc in
    subst (λ r. WordWritten longest_wait x.slot c.args.place c.args.word r x.slot) (sym e)
    (refused_write x c.args.place c.args.word f (fault_of _ f c.in_err-test_word.ensures))

pub returns-clause-slot : goal.returns-clause-slot
returns-clause-slot g c =
    let self = c.args.self.now in
    let switches = g.W.Wiring.switches self.wiring in
    let x = of_card g.W.Wiring.switches self in
    let p = c.args.place in
    let v = c.args.word in
    word_written x (board_sound self.board switches.supply switches.pin) self.board.waits.short_write self.board.waits.short_wipe p v (none_of _ _ c.in_ok-test_word.ensures) _
    (ap (λ (k : CardState). k.slot) (c.send.ensures ∙ ap (λ r. written x p r v) c.reach.ensures))
