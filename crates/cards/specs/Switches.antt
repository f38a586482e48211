-- What stands at a card's protect pin and at its supply.
use Rattle.std.specs.Prelude.{Bool}

pub record Switches : Type 0 where
  -- true: good; false: low
  pub supply : Bool
  pub pin : Bool
