-- The card that the worked cases run on.
use Rattle.std.specs.Prelude.{true, false, [], ◌∷◌, replicate}
use Rattle.medium.specs.Meaning.{Meaning}

-- two blocks of four bytes, all FFH, unlocked, with good supply and 100 lives to a lane
abbrev pub small : Meaning
small =
    record {
      block_size = 4;
      blocks = 2;
      bytes = replicate 8 255;
      locks = false ∷ false ∷ [];
      supply = true;
      even_lives = 100 ∷ 100 ∷ [];
      odd_lives = 100 ∷ 100 ∷ [];
    }
