-- The tests of the call, and what they mean.
use Rattle.std.proofs.Common.{◌≡◌, ℕ, ◌+◌, ◌*◌, ◌/◌, ◌%◌, ◌<◌, ◌≤◌, true, sym, ap, ◌∙◌, subst, arith}
use Rattle.std.proofs.lemmas.Nat.{div-add-mod', div-mul-add}
use Rattle.std.proofs.lemmas.Bool.{eq-eqb, le-leb, lt-ltb}
use Rattle.medium.specs.Limits.{most_blocks}
use Rattle.medium.specs.Limits.{BlockSize}
use Rattle.medium.specs.declared.geometry.Geometry.{Geometry}
use Rattle.medium.proofs.Power.{block_power}
use Rattle.studio.specs.Answer.{Lengths, whole_blocks}

-- the block size of a geometry is one
pub size_made : (b : ℕ) (g : Geometry) → g.block_size ≡ b → BlockSize b
size_made b g e = let size = g.within.0 in subst BlockSize e (block_power g.block_size size.0 size.1 size.2)

pub lengths_tested : (n present wanted : ℕ) → whole_blocks n present wanted ≡ true → Lengths n present wanted
lengths_tested n present wanted t =
    let d = div-add-mod' present n in
    let e : wanted ≡ present = grind arith in
    let r : present % n ≡ 0 = grind arith in
    let f : present / n ≤ 160 = grind arith in
    (e, (present / n, (f, omega arith)))

pub tested_lengths : (n present wanted : ℕ) → 0 < n → Lengths n present wanted → whole_blocks n present wanted ≡ true
tested_lengths n present wanted some (e, (k, (few, is))) =
    let d = div-mul-add k n 0 some in
    let q : present / n ≡ k = ap (λ (z : ℕ). z / n) (let z : present ≡ k * n + 0 = omega arith in z) ∙ d in
    let m = div-add-mod' present n in
    let p : present / n * n ≡ k * n = ap (λ (z : ℕ). z * n) q in
    let r : present % n ≡ 0 = omega arith in
    rw (eq-eqb present wanted (sym e), lt-ltb 0 n some, eq-eqb (present % n) 0 r, le-leb (present / n) most_blocks (omega arith))
