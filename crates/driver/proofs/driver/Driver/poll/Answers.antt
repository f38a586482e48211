use Rattle.std.proofs.Common.{sym}
use Rattle.std.proofs.lemmas.Bool.{and_parts}
use Rattle.driver.proofs.Polls.{polling_more, polled_ready}
use Rattle.driver.proofs.driver.Driver.poll.Goals as goal

pub returns-then-is_ready : goal.returns-then-is_ready
returns-then-is_ready g c =
    let both = and_parts _ _ (sym c.if-is_ready.ensures) in
    polled_ready _ _ _ _ _ c.loop.invariant c.requires.on c.requires.even c.requires.odd (g.met.S.Slot.sound c.loop.self.slot) _
    c.read_status-status.ensures.after _ _ c.read_status-status.ensures.even c.read_status-status.ensures.odd both.0 both.1

pub loop-preserved : goal.loop-preserved
loop-preserved g c =
    polling_more _ _ _ _ _ c.loop.invariant c.requires.on c.requires.even c.requires.odd (g.met.S.Slot.sound c.loop.self.slot) _
    c.read_status-status.ensures.after c.loop-test.true
