use Rattle.std.proofs.Common.{get_or, ap, ◌∙◌}
use Rattle.slot.specs.State.{even_chip}
use Rattle.slot.specs.Cycles.{cycle_refusal, even_shown, odd_shown}
use Rattle.driver.proofs.StatusBytes.{halves, shows_below}
use Rattle.driver.proofs.driver.Driver.look.Goals as goal

pub returns-clause-even : goal.returns-clause-even
returns-clause-even g c =
    let s = g.S.Slot.state c.args.self.now.slot in
    let p = c.args.place in
    let d = even_chip s p in
    ap (λ l. get_or l 0 0) c.to_le_bytes.ensures
    ∙ (halves (even_shown s p) (odd_shown s p) c.unwrap.result c.read_word.result (cycle_refusal s p) c.requires c.read_word.ensures.answer c.unwrap.ensures
    (shows_below d.mode d p (get_or s.bytes p 0) ((g.met.S.Slot.sound c.args.self.now.slot).medium.byte p))).0
