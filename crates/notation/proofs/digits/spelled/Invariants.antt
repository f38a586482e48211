use Rattle.std.proofs.Common.{◌≡◌, ◌≤◌, drop}
use Rattle.notation.specs.Digits.{spelled_on}
use Rattle.notation.proofs.digits.spelled.Given as goal

abbrev pub invariant-loop-byte : goal.invariant-loop-byte
invariant-loop-byte l = (l.number ≤ l.most) × (spelled_on l.base l.number (drop l.byte-index l.digits) ≡ spelled_on l.base 0 l.digits)
