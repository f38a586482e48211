-- Places in a run of blocks, and the same places below.
use Rattle.std.specs.Prelude.{◌≡◌, ℕ, ◌+◌, ◌*◌, ◌/◌, ◌%◌, ◌<◌, ◌≤◌}
use Rattle.std.proofs.Common.{sym, ap, ◌∙◌, arith}
use Rattle.std.proofs.Math.Nat.{mul-add-div_right, mul-add-mod_self_left}
use Rattle.std.proofs.lemmas.Nat.{mul-le}
use Rattle.medium.specs.Limits.{BlockSize}
use Rattle.medium.proofs.Sizes.{size_two, size_even}

-- a run of n blocks from block f on ends on a card of c blocks
pub run_end : (f n c s : ℕ) → f + n ≤ c → f * s + n * s ≤ c * s
run_end f n c s h = let p : (f + n) * s ≤ c * s = mul-le (f + n) s c s h (omega arith) in omega arith

pub block_below : (f s p : ℕ) → BlockSize s → (f * s + p) / s ≡ f + p / s
block_below f s p z = let t = size_two s z in let o : 0 < s = omega arith in mul-add-div_right o f p

pub parity_below : (f s p : ℕ) → BlockSize s → (f * s + p) % 2 ≡ p % 2
parity_below f s p z =
    let even : f * s ≡ 2 * (f * (s / 2)) = ap (λ x. f * x) (sym (size_even s z)) ∙ omega arith in
    ap (λ x. (x + p) % 2) even ∙ mul-add-mod_self_left 2 (f * (s / 2)) p

pub first_below : (f b s : ℕ) → (f + b) * s ≡ f * s + b * s
first_below f b s = omega arith
