-- What the switches of a medium may move: lock and supply, and nothing else.
use Rattle.std.specs.Prelude.{◌≡◌, Bool, List}
use Rattle.medium.specs.Meaning.{Meaning}

-- m with these locks and this supply
abbrev pub with_switches : Meaning → List Bool → Bool → Meaning
with_switches m locks supply =
    record {
      block_size = m.block_size;
      blocks = m.blocks;
      bytes = m.bytes;
      locks = locks;
      supply = supply;
      even_lives = m.even_lives;
      odd_lives = m.odd_lives;
    }

-- from m to m' lock and supply may have moved, and nothing else
pub record OnlySwitched (m m' : Meaning) : Type 0 where
  pub size : m'.block_size ≡ m.block_size
  pub number : m'.blocks ≡ m.blocks
  pub contents : m'.bytes ≡ m.bytes
  pub even : m'.even_lives ≡ m.even_lives
  pub odd : m'.odd_lives ≡ m.odd_lives
