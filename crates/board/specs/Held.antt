-- What a board stands for.
use Rattle.std.specs.Prelude.{ℕ, ◌*◌, Bool, true, false, take, vec_items}
use Rattle.devices.specs.Table.{table_pairs, table_chips}
use Rattle.slot.specs.State.{SlotState, with_switches}
use Rattle.board.specs.declared.board.Board.{Board}

-- a simulated card: the slot that it is, and the waits that its jobs start
pub record CardState : Type 0 where
  pub slot : SlotState
  pub write_wait : ℕ
  pub wipe_wait : ℕ

abbrev pub with_slot : CardState → SlotState → CardState
with_slot c s = record { slot = s; write_wait = c.write_wait; wipe_wait = c.wipe_wait }

-- c with its switches as given
abbrev pub switched : CardState → Bool → Bool → CardState
switched c supply pin = with_slot c (with_switches c.slot supply pin)

abbrev pub board_blocks : Board → ℕ
board_blocks b = b.geometry.blocks_per_pair * table_pairs b.table

-- a board under a supply and a protect pin; of the lives those of its blocks count
abbrev pub slot_of : Board → Bool → Bool → SlotState
slot_of b supply pin =
    record {
      block_size = b.geometry.block_size;
      per_pair = b.geometry.blocks_per_pair;
      pairs = table_pairs b.table;
      bytes = vec_items b.bytes;
      supply = supply;
      even_lives = take (board_blocks b) b.wear.even.left;
      odd_lives = take (board_blocks b) b.wear.odd.left;
      pin = pin;
      chips = table_chips b.table;
    }

abbrev pub card_of : Board → Bool → Bool → CardState
card_of b supply pin =
    record { slot = slot_of b supply pin; write_wait = b.waits.write; wipe_wait = b.waits.wipe }

-- the same apart from the switches, which a board does not know: as under good supply and with the pin off
abbrev pub board_slot : Board → SlotState
board_slot b = slot_of b true false

abbrev pub board_card : Board → CardState
board_card b = card_of b true false
