-- A new card, and what the card's own calls leave and answer.
use Rattle.std.specs.Prelude.{ℕ, ◌*◌, min, true, false, cond, List, [], length, replicate, ◌==◌}
use Rattle.medium.specs.Faults.{names_even, names_odd}
use Rattle.medium.specs.Wear.{given}
use Rattle.medium.specs.declared.lanes.Lanes.{Lanes}
use Rattle.devices.specs.Chip.{fresh, longest_wait}
use Rattle.slot.specs.State.{SlotState}
use Rattle.board.specs.Sides.{with_work}
use Rattle.board.specs.Held.{CardState}

-- n pairs over xs: unprotected, with good supply, no lives, no waits, and devices as after reset
abbrev pub unused : ℕ → ℕ → ℕ → List ℕ → CardState
unused size per n xs =
    record {
      slot =
          record {
            block_size = size;
            per_pair = per;
            pairs = n;
            bytes = xs;
            supply = true;
            even_lives = replicate (per * n) 0;
            odd_lives = replicate (per * n) 0;
            pin = false;
            chips = replicate (2 * n) fresh;
          };
      write_wait = 0;
      wipe_wait = 0;
    }

-- a new card: no blocks if xs is not of the capacity
abbrev pub new_card : ℕ → ℕ → ℕ → List ℕ → CardState
new_card size per n xs = cond (length xs == (per * n) * size) (unused size per n xs) (unused size per 0 [])

-- n lives on block b in the lanes named; where there is no such block, nothing changes
abbrev pub with_lives : SlotState → ℕ → Lanes → ℕ → SlotState
with_lives s b w n =
    with_work s s.bytes (given (names_even w) s.even_lives b n) (given (names_odd w) s.odd_lives b n) s.chips

-- c with other waits: a number over the longest counts as the longest
abbrev pub with_waits : CardState → ℕ → ℕ → CardState
with_waits c write wipe =
    record { slot = c.slot; write_wait = min write longest_wait; wipe_wait = min wipe longest_wait }
