use Rattle.std.proofs.Common.{◌≡◌, ℕ, zero, suc, ◌+◌, ◌*◌, List, [], ◌∷◌, length, map, refl, sym, ap, ◌∙◌, subst, arith}
use Rattle.std.specs.List.{flat_map}
use Rattle.std.proofs.lemmas.List.{take_all}
use Rattle.notation.specs.Hex.{Written, digits_of}
use Rattle.notation.proofs.pairs.pair_up.Goals as goal

written : (bytes : List ℕ) → Written bytes (flat_map (λ (p : List ℕ). p) (map digits_of bytes)) (length bytes)
written [] k low = absurd (omega arith)
written (b ∷ bytes) zero low = (refl, refl)
written (b ∷ bytes) (suc k) low =
    let high : 2 * suc k ≡ suc (suc (2 * k)) = omega arith in
    let next : 2 * suc k + 1 ≡ suc (suc (2 * k + 1)) = omega arith in
    rw (next, high) (written bytes k (omega arith))

pub returns-clause-text : goal.returns-clause-text
returns-clause-text c =
    let bytes = c.args.bytes.now in
    let pairs = c.loop-i.pairs in
    let n = c.loop-i.i in
    let same : pairs ≡ map digits_of bytes =
    sym (take_all n pairs (omega (arith, c.loop-i.invariant.0, c.loop-i-test.false)))
    ∙ c.loop-i.invariant.1 ∙ ap (map digits_of) (take_all n bytes c.loop-i-test.false) in
    subst (λ (ps : List (List ℕ)). Written bytes (flat_map (λ (p : List ℕ). p) ps) (length bytes)) (sym same) (written bytes)
