use Rattle.std.proofs.Common.{◌≡◌, vec_items}
use Rattle.std.specs.List.{repeat}
use Rattle.notation.proofs.pairs.repeated.Given as goal

abbrev pub invariant-loop-copies : goal.invariant-loop-copies
invariant-loop-copies l = vec_items l.bytes ≡ repeat l.copies l.pattern
