-- A block size by its exponent, and by its bits.
use Rattle.std.proofs.Common.{◌≡◌, ℕ, zero, suc, ◌+◌, ◌*◌, ◌/◌, ◌%◌, ◌^◌, ◌<◌, ◌≤◌, refl, ap, ◌∙◌, ⊎_elim, pow-suc, arith, pow_pos, pow_mono}
use lib.Count.{ones, ones_step, ones_cat}
use Rattle.std.proofs.lemmas.Bool.{cases_lt}
use Rattle.std.proofs.lemmas.Nat.{pow_below}
use Rattle.medium.specs.Limits.{BlockSize, Limits, Within}

ones_zero : ones 0 ≡ 0
unfolding ones
ones_zero = refl

ones_one : ones 1 ≡ 1
unfolding ones
ones_one = refl

no_bit_zero : (d n : ℕ) → n ≤ d → ones n ≡ 0 → n ≡ 0
no_bit_zero zero n h e = omega arith
no_bit_zero (suc d) n h e =
    let s = ones_step n in
    ⊎_elim (λ (z : n < 1). omega arith)
    (λ (z : 1 ≤ n). let r : n / 2 ≡ 0 = no_bit_zero d (n / 2) (omega arith) (omega arith) in omega arith)
    (cases_lt n 1)

-- a number with one bit is a power of two, and the other way
one_bit_power : (d n : ℕ) → n ≤ d → ones n ≡ 1 → (j : ℕ) × (n ≡ 2 ^ j)
one_bit_power zero n h e = absurd (let z : n ≡ 0 = omega arith in let s : ones n ≡ 0 = ap ones z ∙ ones_zero in omega arith)
one_bit_power (suc d) n h e =
    let s = ones_step n in
    ⊎_elim
    (λ (z : n % 2 < 1). let r = one_bit_power d (n / 2) (omega arith) (omega arith) in let t : 2 ^ suc r.0 ≡ 2 ^ r.0 * 2 = pow-suc 2 r.0 in (suc r.0, omega (arith, r.1)))
    (λ (z : 1 ≤ n % 2). let r : n / 2 ≡ 0 = no_bit_zero d (n / 2) (omega arith) (omega arith) in (0, omega arith))
    (cases_lt (n % 2) 1)

power_one_bit : (k : ℕ) → ones (2 ^ k) ≡ 1
power_one_bit k =
    let c : ones (1 * 2 ^ k + 0) ≡ ones 1 + ones 0 = ones_cat k 1 0 (pow_pos k) in
    let s : 2 ^ k ≡ 1 * 2 ^ k + 0 = omega arith in
    ap ones s ∙ c ∙ omega (arith, ones_one, ones_zero)

-- a block size by its bits has an exponent from 1 to 17
pub block_power : (b : ℕ) → ones b ≡ 1 → 2 ≤ b → b ≤ 131072 → BlockSize b
block_power b e low high =
    let r = one_bit_power b b (omega arith) e in
    let up : 1 ≤ r.0 = ⊎_elim (λ (z : r.0 < 1). let q : r.0 ≡ 0 = omega arith in let v : 2 ^ r.0 ≡ 1 = ap (λ x. 2 ^ x) q in omega (arith, r.1)) (λ (z : 1 ≤ r.0). z) (cases_lt r.0 1) in
    let down : r.0 ≤ 17 = ⊎_elim (λ (z : 17 < r.0). omega (arith, r.1, pow_below 17 r.0 z)) (λ (z : r.0 ≤ 17). z) (cases_lt 17 r.0) in
    (r.0, (up, down, r.1))

-- limits as a geometry's invariant has them
pub limits_within : (b k n : ℕ) → Limits b k n → Within b k n
limits_within b k n (size, per, count) =
    let one : ones b ≡ 1 = ap ones size.1.2 ∙ power_one_bit size.0 in
    let low : 2 ^ 1 ≤ 2 ^ size.0 = pow_mono size.1.0 in
    let high : 2 ^ size.0 ≤ 2 ^ 17 = pow_mono size.1.1 in
    ((one, omega (arith, size.1.2), omega (arith, size.1.2)), per, count)
