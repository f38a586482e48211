-- The limits of a geometry, and so of every medium.
use Rattle.std.specs.Prelude.{◌≡◌, ℕ, ◌*◌, ◌^◌, ◌≤◌, count_ones}

-- blocks to a device pair, pairs, and so blocks in all, at most
abbrev pub most_per_pair : ℕ
most_per_pair = 16

abbrev pub most_pairs : ℕ
most_pairs = 10

abbrev pub most_blocks : ℕ
most_blocks = most_per_pair * most_pairs

-- a block size is a power of two from 2 to 131,072
abbrev pub BlockSize : ℕ → Type 0
BlockSize b = (k : ℕ) × ((1 ≤ k) × (k ≤ 17) × (b ≡ 2 ^ k))

-- block size b, k blocks to a pair, n pairs
abbrev pub Limits : ℕ → ℕ → ℕ → Type 0
Limits b k n = BlockSize b × ((1 ≤ k) × (k ≤ most_per_pair)) × ((1 ≤ n) × (n ≤ most_pairs))

-- the same limits without the exponent, as a type's invariant has to state them: one bit of b is set, so b is a power of two
abbrev pub Within : ℕ → ℕ → ℕ → Type 0
Within b k n = ((count_ones b ≡ 1) × (2 ≤ b) × (b ≤ 131072)) × ((1 ≤ k) × (k ≤ most_per_pair)) × ((1 ≤ n) × (n ≤ most_pairs))
