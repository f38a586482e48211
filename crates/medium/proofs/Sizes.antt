-- What the limits of a medium give.
use Rattle.std.proofs.Common.{◌≡◌, ℕ, zero, suc, ◌+◌, ◌*◌, ◌/◌, ◌^◌, ◌<◌, ◌≤◌, ap, arith, pow_mono}
use Rattle.std.proofs.lemmas.Nat.{mul-le, div_below}
use Rattle.medium.specs.Limits.{BlockSize, most_blocks}
use Rattle.medium.specs.Meaning.{Meaning, Sound, capacity}

pub size_two : (b : ℕ) → BlockSize b → 2 ≤ b
size_two b p = let l : 2 ^ 1 ≤ 2 ^ p.0 = pow_mono p.1.0 in omega (arith, p.1.2)

pub size_small : (b : ℕ) → BlockSize b → b ≤ 131072
size_small b p = let l : 2 ^ p.0 ≤ 2 ^ 17 = pow_mono p.1.1 in omega (arith, p.1.2)

pub size_even : (b : ℕ) → BlockSize b → 2 * (b / 2) ≡ b
size_even b p = go p.0 p.1.0 p.1.2
  where
    go : (k : ℕ) → 1 ≤ k → b ≡ 2 ^ k → 2 * (b / 2) ≡ b
    go zero h e = absurd (omega arith)
    go (suc k) h e = omega arith

pub card_small : (m : Meaning) → Sound m → capacity m ≤ 20971520
card_small m s = mul-le m.blocks m.block_size most_blocks 131072 s.few (size_small m.block_size s.power)

-- a block of size s lies on a card of n blocks
pub block_end : (b n s : ℕ) → b < n → b * s + s ≤ n * s
block_end b n s h = let p : (b + 1) * s ≤ n * s = mul-le (b + 1) s n s (omega arith) (omega arith) in omega arith

-- the block of a place on a card of len bytes, n blocks of size s; r is s under another name
pub place_block : (p s r n len : ℕ) → r ≡ s → 2 ≤ s → len ≡ n * s → p < len → p / r < n
place_block p s r n len e two l h = let same : n * r ≡ n * s = ap (λ x. n * x) e in div_below p r n (omega arith) (omega arith)
