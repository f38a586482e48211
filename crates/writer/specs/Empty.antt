-- A medium without blocks.
use Rattle.std.specs.Prelude.{true, []}
use Rattle.medium.specs.Meaning.{Meaning}

abbrev pub no_blocks : Meaning
no_blocks =
    record {
      block_size = 2;
      blocks = 0;
      bytes = [];
      locks = [];
      supply = true;
      even_lives = [];
      odd_lives = [];
    }
