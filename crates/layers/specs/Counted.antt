-- Faults whose place counts from a window's start.
use Rattle.std.specs.Prelude.{◌≡◌, ℕ, ◌-◌, Bool, true, false, Some, None, Option, refl}
use Rattle.std.proofs.Common.{arith}
use Rattle.medium.specs.Jobs.{or_else, answers, worn}
use Rattle.medium.specs.declared.fault.Fault.{Fault}
use Rattle.layers.specs.Window.{counted_from, answer_from}

-- a fault or none
abbrev pub option_from : ℕ → Option Fault → Option Fault
option_from s (Some f) = Some (counted_from s f)
option_from s None = None

pub answers_from : (s : ℕ) (o : Option Fault) → answer_from s (answers o) ≡ answers (option_from s o)
answers_from s (Some f) = refl
answers_from s None = refl

pub else_from : (s : ℕ) (o rest : Option Fault) → option_from s (or_else o rest) ≡ or_else (option_from s o) (option_from s rest)
else_from s (Some f) rest = refl
else_from s None rest = refl

pub worn_from : (s p : ℕ) (e o : Bool) → option_from s (worn p e o) ≡ worn (p - s) e o
worn_from s p true true = refl
worn_from s p true false = refl
worn_from s p false true = refl
worn_from s p false false = refl

-- there is a fault here exactly if there is one below
pub some_below : (s : ℕ) (o : Option Fault) (f : Fault) → option_from s o ≡ Some f → (g : Fault) × (o ≡ Some g)
some_below s (Some g) f e = (g, refl)
some_below s None f e = let z : ◌≡◌ {A = ℕ} 0 1 = cc in absurd (omega arith)

pub none_below : (s : ℕ) (o : Option Fault) → option_from s o ≡ None → o ≡ None
none_below s (Some g) e = let z : ◌≡◌ {A = ℕ} 0 1 = cc in absurd (omega arith)
none_below s None e = refl
