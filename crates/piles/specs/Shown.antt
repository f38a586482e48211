-- The lock and the lives of a block, as layers show them.
use Rattle.std.specs.Prelude.{◌≡◌, ℕ, ◌+◌, min, Some, None, Option, Bool, false, slice_index, slice_index_or}
use Rattle.medium.specs.Meaning.{Meaning}
use Rattle.piles.specs.declared.layered.Layer.{Layer}
use Rattle.piles.specs.declared.layered.Layer.TheVariants.{Window, Fence}
use Rattle.piles.specs.declared.block.BlockState.{BlockState}

-- s is the lock and the lives of block b
abbrev pub IsBlock : Meaning → ℕ → BlockState → Type 0
IsBlock m b s =
    (s.locked ≡ slice_index_or m.locks b false) × (s.even ≡ slice_index m.even_lives b) × (s.odd ≡ slice_index m.odd_lives b)

-- the block below that block b behind a layer, or none, is, in 32 bits
abbrev pub block_below : Option Layer → ℕ → ℕ
block_below None b = b
block_below (Some (Window f n)) b = min (f + b) 4294967295
block_below (Some (Fence marks)) b = b

-- a layer's own lock on block b
abbrev pub locked_by : Option Layer → ℕ → Bool
locked_by None b = false
locked_by (Some (Window f n)) b = false
locked_by (Some (Fence marks)) b = slice_index_or marks.marked b false
