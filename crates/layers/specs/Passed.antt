-- What a layer's job leaves of the medium below.
use Rattle.std.specs.Prelude.{◌≡◌, Some, None, Option}
use Rattle.medium.specs.Meaning.{Meaning}
use Rattle.medium.specs.declared.fault.Fault.{Fault}

-- refused by the layer, it changes nothing below; else it is begun there
pub record Passed (refusal : Option Fault) (m : Meaning) (Begun : Meaning → Type 0) (m' : Meaning) : Type 0 where
  pub refused : (f : Fault) → refusal ≡ Some f → m' ≡ m
  pub begun : refusal ≡ None → Begun m'
