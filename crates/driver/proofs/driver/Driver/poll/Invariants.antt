use Rattle.driver.proofs.Polls.{Polling}
use Rattle.driver.proofs.driver.Driver.poll.Given as goal

abbrev pub invariant-loop : goal.invariant-loop
invariant-loop g l = Polling (g.S.Slot.state l.initial.self.slot) (g.S.Slot.state l.self.slot) l.place l.end l.counter
