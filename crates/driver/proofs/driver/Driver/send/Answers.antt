use Rattle.std.proofs.Common.{is_ok, ap, ◌∙◌, subst}
use Rattle.medium.specs.Jobs.{answers}
use Rattle.slot.specs.Cycles.{WordWritten}
use Rattle.driver.proofs.driver.Driver.send.Goals as goal

pub unwrap-requires : goal.unwrap-requires
unwrap-requires g c = ap is_ok (c.write_word.ensures.answer ∙ ap answers c.requires)

pub returns : goal.returns
returns g c =
    subst
    (λ r. WordWritten g.S.Slot.patience (g.S.Slot.state c.args.self.now.slot) c.args.place c.args.word r (g.S.Slot.state c.write_word.new.self))
    (c.write_word.ensures.answer ∙ ap answers c.requires)
    c.write_word.ensures
