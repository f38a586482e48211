use Rattle.std.proofs.Common.{◌≡◌, Ok, Err, Result, IfErr, refl, arith}
use Rattle.std.specs.Result.{IsOk}
use Rattle.medium.specs.Limits.{Limits}
use Rattle.medium.specs.declared.fault.Fault.{Fault}
use Rattle.medium.specs.declared.fault.Fault.TheVariants.{NoSuchGeometry}
use Rattle.cases.proofs.card.small_card.Goals as goal

-- 4 is two to the second power, and 2 and 1 are within the limits
limits : Limits 4 2 1
limits = ((2, (omega arith, omega arith, refl)), (omega arith, omega arith), (omega arith, omega arith))

made : {G : Type 0} (r : Result G Fault) → IfErr r (λ f. (f ≡ NoSuchGeometry) × (Limits 4 2 1 → ⊥)) → IsOk r
made (Ok g) h = refl
made (Err f) h = absurd (h.1 limits)

pub unwrap-geometry-requires : goal.unwrap-geometry-requires
unwrap-geometry-requires c = made c.new.result c.new.ensures.refused
