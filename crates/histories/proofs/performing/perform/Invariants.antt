-- What holds of the calls carried out so far.
use Rattle.histories.proofs.Turns.{SoFar}
use Rattle.histories.proofs.performing.perform.Given as goal

abbrev pub invariant-loop-at : goal.invariant-loop-at
invariant-loop-at g l =
    SoFar g.S.Switches.moves g.M.Medium.meaning l.initial.media l.initial.switches l.initial.calls
    l.media l.switches l.calls l.at
