use Rattle.std.proofs.Common.{◌≡◌, map, take, length}
use Rattle.notation.specs.Hex.{digits_of}
use Rattle.notation.proofs.pairs.pair_up.Given as goal

abbrev pub invariant-loop-i : goal.invariant-loop-i
invariant-loop-i l = (length l.pairs ≡ length l.bytes) × (take l.i l.pairs ≡ map digits_of (take l.i l.bytes))
