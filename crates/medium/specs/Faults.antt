-- The table of faults.
use Rattle.std.specs.Prelude.{ℕ, Bool, true, false, Some, None, Option}
use Rattle.medium.specs.declared.lanes.Lanes.{Lanes}
use Rattle.medium.specs.declared.lanes.Lanes.TheVariants.{Even, Odd, Both}
use Rattle.medium.specs.declared.fault.Fault.{Fault}
use Rattle.medium.specs.declared.fault.Fault.TheVariants.{OffCard, OddPlace, ShortBuffer, Locked, LowSupply, Worn, NoSuchGeometry}

abbrev pub names_even : Lanes → Bool
names_even Even = true
names_even Odd = false
names_even Both = true

abbrev pub names_odd : Lanes → Bool
names_odd Even = false
names_odd Odd = true
names_odd Both = true

-- a fault as the table has it: its number, its place, and whether it names each lane as worn
pub record Listed : Type 0 where
  pub number : ℕ
  pub place : ℕ
  pub even : Bool
  pub odd : Bool

-- no fault but 6 names a lane
abbrev pub no_lane : ℕ → ℕ → Listed
no_lane n p = record { number = n; place = p; even = false; odd = false }

abbrev pub listed : Fault → Listed
listed (OffCard p) = no_lane 1 p
listed (OddPlace p) = no_lane 2 p
listed (ShortBuffer p) = no_lane 3 p
listed (Locked p) = no_lane 4 p
listed (LowSupply p) = no_lane 5 p
listed (Worn p l) = record { number = 6; place = p; even = names_even l; odd = names_odd l }
listed NoSuchGeometry = no_lane 7 0

-- the lanes that two flags name, as the enum has them
abbrev pub flagged : Bool → Bool → Option Lanes
flagged false false = None
flagged true false = Some Even
flagged false true = Some Odd
flagged true true = Some Both

abbrev pub worn_lanes : Fault → Option Lanes
worn_lanes f = flagged (listed f).even (listed f).odd

-- the same fault at the place p, if it has a place
abbrev pub moved_to : ℕ → Fault → Fault
moved_to p (OffCard _) = OffCard p
moved_to p (OddPlace _) = OddPlace p
moved_to p (ShortBuffer _) = ShortBuffer p
moved_to p (Locked _) = Locked p
moved_to p (LowSupply _) = LowSupply p
moved_to p (Worn _ l) = Worn p l
moved_to p NoSuchGeometry = NoSuchGeometry
