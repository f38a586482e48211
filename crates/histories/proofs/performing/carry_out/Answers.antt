-- The move of lock and supply, and then what was made of the request.
use Rattle.histories.proofs.Making.{carried}
use Rattle.histories.proofs.performing.carry_out.Goals as goal

pub returns : goal.returns
returns g c =
    carried g.S.Switches.moves _ _ _ _ _ _ _ _ _ _ c.move_switches.ensures c.deref_mut.ensures.value c.make-call.auto.buffer
    c.make-call.ensures
