use Rattle.medium.proofs.Refusals.{none_of}
use Rattle.driver.specs.Driven.{word_kept}
use Rattle.driver.proofs.Kept.{word_off}
use Rattle.driver.proofs.Jobs.{word_tried}
use Rattle.driver.proofs.driver.DriverMedium.write_word.Goals as goal

pub run-requires-clause-off : goal.run-requires-clause-off
run-requires-clause-off g c =
    let s = g.S.Slot.state c.args.self.now.slot in
    word_off s (g.met.S.Slot.sound c.args.self.now.slot) c.args.place (none_of (word_kept s c.args.place) _ c.in_ok-admit_word.ensures)

pub returns-clause-medium : goal.returns-clause-medium
returns-clause-medium g c =
    let s = g.S.Slot.state c.args.self.now.slot in
    let free = none_of (word_kept s c.args.place) _ c.in_ok-admit_word.ensures in
    word_tried _ s c.args.place c.args.word _ _ s.supply (g.met.S.Slot.sound c.args.self.now.slot) free c.run.ensures
