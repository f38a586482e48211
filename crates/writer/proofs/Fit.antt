-- What of a medium's limits every call keeps.
use Rattle.std.proofs.Common.{◌≡◌, ◌*◌, ◌/◌, ◌<◌, length}
use Rattle.medium.specs.Meaning.{EachBelow, Meaning, Sound, capacity}
use Rattle.medium.proofs.Sizes.{size_even}
use Rattle.writer.proofs.Sizes.{some_size}

-- blocks have some bytes, in whole words, and fill the card
pub record Fit (m : Meaning) : Type 0 where
  pub some : 0 < m.block_size
  pub even : 2 * (m.block_size / 2) ≡ m.block_size
  pub filled : length m.bytes ≡ capacity m
  pub byte : EachBelow 256 m.bytes

pub sound_fit : (m : Meaning) → Sound m → Fit m
sound_fit m s = record { some = some_size m s; even = size_even m.block_size s.power; filled = s.filled; byte = s.byte }
