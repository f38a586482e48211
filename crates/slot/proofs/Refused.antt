-- What a fault, or none, says of an answer and of what is left.
use Rattle.std.proofs.Common.{◌≡◌, Some, None, Option, ap}
use Rattle.medium.specs.declared.fault.Fault.{Fault}
use Rattle.slot.specs.Cycles.{unless}

pub unless_none : {X : Type 0} (o : Option Fault) (was then : X) → o ≡ None → unless o was then ≡ then
unless_none o was then e = ap (λ (u : Option Fault). unless u was then) e

pub unless_some : {X : Type 0} (o : Option Fault) (f : Fault) (was then : X) → o ≡ Some f → unless o was then ≡ was
unless_some o f was then e = ap (λ (u : Option Fault). unless u was then) e
