-- A board keeps the limits of a slot.
use Rattle.std.proofs.Common.{◌≡◌, ℕ, ◌+◌, ◌*◌, ◌/◌, ◌^◌, ◌≤◌, Bool, true, false, None, vec_len, sym, ◌∙◌, arith}
use Rattle.std.proofs.lemmas.Nat.{mul-le}
use Rattle.std.proofs.lemmas.List.{length-take-le, length-replicate}
use Rattle.medium.specs.Limits.{most_blocks, most_per_pair, most_pairs}
use Rattle.medium.proofs.Below.{below_take}
use Rattle.medium.proofs.Power.{block_power}
use Rattle.medium.proofs.Sizes.{block_end}
use Rattle.devices.specs.Table.{table_pairs}
use Rattle.devices.proofs.Tables.{length_chips}
use Rattle.slot.specs.State.{SlotSound, slot_capacity}
use Rattle.slot.specs.Cycles.{cycle_refusal}
use Rattle.slot.proofs.Places.{block_there, in_bytes}
use Rattle.board.specs.declared.board.Board.{Board}
use Rattle.board.specs.Held.{board_blocks, slot_of}

blocks_few : (b : Board) → board_blocks b ≤ most_blocks
blocks_few b =
    mul-le b.geometry.blocks_per_pair (table_pairs b.table) most_per_pair most_pairs b.geometry.within.1.1 (omega arith)

pub board_sound : (b : Board) (supply pin : Bool) → SlotSound (slot_of b supply pin)
board_sound b supply pin =
    let size = b.geometry.within.0 in
    record {
      medium =
          record {
            power = block_power b.geometry.block_size size.0 size.1 size.2;
            few = blocks_few b;
            filled = sym b.bytes.ok.0 ∙ b.filled;
            byte = b.small;
            lock_row = length-replicate (board_blocks b) pin;
            even_row = length-take-le (board_blocks b) b.wear.even.left (omega (arith, b.wear.even.long, blocks_few b));
            odd_row = length-take-le (board_blocks b) b.wear.odd.left (omega (arith, b.wear.odd.long, blocks_few b));
            even_fit = below_take (2 ^ 32) (board_blocks b) b.wear.even.left (omega arith) b.wear.even.fit;
            odd_fit = below_take (2 ^ 32) (board_blocks b) b.wear.odd.left (omega arith) b.wear.odd.fit;
          };
      some = b.geometry.within.1.0;
      few = b.geometry.within.1.1;
      pairs_few = omega arith;
      chip_row = length_chips b.table;
    }

pub capacity_small : (b : Board) → slot_capacity (slot_of b true false) ≤ 20971520
capacity_small b = mul-le (board_blocks b) b.geometry.block_size most_blocks 131072 (blocks_few b) b.geometry.within.0.2

-- the block of a word on the board lies on it
pub block_room : (b : Board) (p : ℕ) → cycle_refusal (slot_of b true false) p ≡ None → p / b.geometry.block_size * b.geometry.block_size + b.geometry.block_size ≤ vec_len b.bytes
block_room b p on =
    let s = slot_of b true false in
    let there = block_there s (board_sound b true false) p on in
    omega (arith, block_end (p / b.geometry.block_size) (board_blocks b) b.geometry.block_size there, b.filled)

-- and the word too
pub word_room : (b : Board) (p : ℕ) → cycle_refusal (slot_of b true false) p ≡ None → p + 2 ≤ vec_len b.bytes
word_room b p on = omega (arith, in_bytes (slot_of b true false) (board_sound b true false) p on, b.bytes.ok.0)
