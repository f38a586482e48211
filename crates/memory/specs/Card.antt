-- What a card in plain memory means.
use Rattle.std.specs.Prelude.{ℕ, ◌+◌, ◌/◌, ◌%◌, Bool, not, List, [], ◌∷◌, take, replicate, None, vec_items, Option, bit_and, slice_index}
use Rattle.medium.specs.Meaning.{Meaning}
use Rattle.medium.specs.Jobs.{refuse_if, byte_after, laid}
use Rattle.medium.specs.declared.fault.Fault.{Fault}
use Rattle.medium.specs.declared.fault.Fault.TheVariants.{Locked, LowSupply}
use Rattle.memory.specs.declared.card.MemoryCard.{MemoryCard}

-- its blocks are locked all or none, and of the lives those of its blocks count
abbrev pub card_meaning : MemoryCard → Meaning
card_meaning c =
    record {
      block_size = c.geometry.block_size;
      blocks = c.blocks;
      bytes = vec_items c.bytes;
      locks = replicate c.blocks c.locked;
      supply = c.supply_good;
      even_lives = take c.blocks c.lives.even.left;
      odd_lives = take c.blocks c.lives.odd.left;
    }

-- what the two switches refuse a job with, at place p
abbrev pub switched_off : Bool → Bool → ℕ → Option Fault
switched_off locked good p = refuse_if locked (Locked p) (refuse_if (not good) (LowSupply p) None)

-- bytes a and b after a write of the word v, by whether each lane lives: a worn lane leaves its byte
abbrev pub pair_after : Bool → Bool → ℕ → ℕ → ℕ → List ℕ
pair_after e o v a b = byte_after e (bit_and a (v % 256)) a ∷ byte_after o (bit_and b (v / 256)) b ∷ []

-- and so a row of bytes after a write of the word at p
abbrev pub word_laid : Bool → Bool → ℕ → ℕ → List ℕ → List ℕ
word_laid e o v p xs = laid xs p (pair_after e o v (slice_index xs p) (slice_index xs (p + 1)))
