-- What a new memory card means, and what its own calls leave and answer.
use Rattle.std.specs.Prelude.{ℕ, ◌*◌, Bool, true, false, cond, List, [], length, replicate, ◌==◌}
use Rattle.medium.specs.Meaning.{Meaning}
use Rattle.medium.specs.Switches.{with_switches}
use Rattle.medium.specs.Faults.{names_even, names_odd}
use Rattle.medium.specs.Wear.{given}
use Rattle.medium.specs.declared.lanes.Lanes.{Lanes}

-- n blocks of size s over xs, unlocked, with good supply and no lives
abbrev pub unused : ℕ → ℕ → List ℕ → Meaning
unused s n xs =
    record {
      block_size = s;
      blocks = n;
      bytes = xs;
      locks = replicate n false;
      supply = true;
      even_lives = replicate n 0;
      odd_lives = replicate n 0;
    }

-- a new card: no blocks if xs is not of the capacity
abbrev pub new_card : ℕ → ℕ → List ℕ → Meaning
new_card s n xs = cond (length xs == n * s) (unused s n xs) (unused s 0 [])

-- m with all its blocks locked or unlocked
abbrev pub with_locks : Meaning → Bool → Meaning
with_locks m l = with_switches m (replicate m.blocks l) m.supply

-- m with the supply good or low
abbrev pub with_supply : Meaning → Bool → Meaning
with_supply m s = with_switches m m.locks s

-- m with n lives on block b in the lanes named
abbrev pub with_lives : Meaning → ℕ → Lanes → ℕ → Meaning
with_lives m b w n =
    record {
      block_size = m.block_size;
      blocks = m.blocks;
      bytes = m.bytes;
      locks = m.locks;
      supply = m.supply;
      even_lives = given (names_even w) m.even_lives b n;
      odd_lives = given (names_odd w) m.odd_lives b n;
    }
