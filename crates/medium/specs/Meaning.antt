-- What a medium means.
use Rattle.std.specs.Prelude.{◌≡◌, ℕ, ◌*◌, ◌^◌, ◌<◌, ◌≤◌, Bool, List, length, slice_index}
use Rattle.medium.specs.Limits.{BlockSize, most_blocks}

-- the state that a medium's calls speak of: contents by place, and by block a lock mark and the lives of each lane;
-- a life is one job that the lane will still do there
pub record Meaning : Type 0 where
  pub block_size : ℕ
  pub blocks : ℕ
  pub bytes : List ℕ
  pub locks : List Bool
  -- true: good; false: low
  pub supply : Bool
  pub even_lives : List ℕ
  pub odd_lives : List ℕ

abbrev pub capacity : Meaning → ℕ
capacity m = m.blocks * m.block_size

abbrev pub EachBelow : ℕ → List ℕ → Type 0
EachBelow n xs = (k : ℕ) → slice_index xs k < n

-- the limits that every medium keeps
pub record Sound (m : Meaning) : Type 0 where
  pub power : BlockSize m.block_size
  pub few : m.blocks ≤ most_blocks
  pub filled : length m.bytes ≡ capacity m
  pub byte : EachBelow 256 m.bytes
  pub lock_row : length m.locks ≡ m.blocks
  pub even_row : length m.even_lives ≡ m.blocks
  pub odd_row : length m.odd_lives ≡ m.blocks
  pub even_fit : EachBelow (2 ^ 32) m.even_lives
  pub odd_fit : EachBelow (2 ^ 32) m.odd_lives
