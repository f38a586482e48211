-- Jobs that a layer refuses or passes on.
use Rattle.std.specs.Prelude.{◌≡◌, ℕ, Bool, true, false, Some, None, Ok, Err, Option, refl}
use Rattle.std.proofs.Common.{ap, sym, arith}
use Rattle.medium.specs.Meaning.{Meaning}
use Rattle.medium.specs.declared.fault.Fault.{Fault}
use Rattle.medium.specs.Jobs.{refuse_if, answers}
use Rattle.medium.proofs.Refusals.{never, none_of, refuse_none}
use Rattle.layers.specs.Passed.{Passed}

-- a refused job
pub not_passed : (o : Option Fault) (m : Meaning) (Begun : Meaning → Type 0) (f : Fault) → o ≡ Some f → Passed o m Begun m
not_passed o m Begun f e = record { refused = λ _ _. refl; begun = λ n. never f o e n }

-- the number of blocks stays, if a begun job leaves it
pub passed_blocks : (o : Option Fault) (m m' : Meaning) (Begun : Meaning → Type 0) → Passed o m Begun m' → (Begun m' → m'.blocks ≡ m.blocks) → m'.blocks ≡ m.blocks
passed_blocks (Some f) m m' Begun d left = ap (λ (x : Meaning). x.blocks) (d.refused f refl)
passed_blocks None m m' Begun d left = left (d.begun refl)

-- what a single test t told, which refuses with f
pub refused_by : (t : Bool) (f g : Fault) → Err g ≡ answers (refuse_if t f None) → (true ≡ t) × (f ≡ g)
refused_by true f g e = (refl, cc)
refused_by false f g e = let z : ◌≡◌ {A = ℕ} 0 1 = cc in absurd (omega arith)

pub let_by : (t : Bool) (f : Fault) (x : Unit {0}) → Ok x ≡ answers (refuse_if t f None) → false ≡ t
let_by t f x e = sym (refuse_none t f None (none_of (refuse_if t f None) x e)).0
