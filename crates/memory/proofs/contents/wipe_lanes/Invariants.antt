use Rattle.memory.proofs.Filling.{Far}
use Rattle.memory.proofs.contents.wipe_lanes.Given as goal

-- the places below i are wiped, and the others are as they were
abbrev pub invariant-loop-i : goal.invariant-loop-i
invariant-loop-i l = Far l.fn.live.even l.fn.live.odd l.initial.part l.part l.i
