-- What a raw bus cycle shows and leaves.
use Rattle.std.specs.Prelude.{◌≡◌, ℕ, Bool, cond, None, Ok}
use Rattle.devices.specs.Chip.{longest_wait}
use Rattle.slot.specs.State.{SlotState, slot_capacity}
use Rattle.slot.specs.Cycles.{WordRead, WordWritten, cycle_refusal}
use Rattle.board.specs.declared.side.Reach.{Reach}
use Rattle.board.specs.Held.{CardState, with_slot}
use Rattle.board.specs.Cycle.{cycle_shows, cycle_reads, cycle_sends}
use Rattle.cards.specs.declared.access.Width.{Width}
use Rattle.cards.specs.declared.access.Width.TheVariants.{Word}
use Rattle.cards.specs.Access.{reach, word_of}

-- the word that an address finds, where addresses lead to places as given
abbrev pub found : (ℕ → ℕ → ℕ) → SlotState → ℕ → ℕ
found leads s a = word_of (leads (slot_capacity s) a)

-- a write to the devices that a cycle reaches: with the protect pin on it reaches none
abbrev pub written : CardState → ℕ → Reach → ℕ → CardState
written c p r v = cond c.slot.pin c (cycle_sends c p r v)

-- a read cycle at the address a shows r on the data lines, and leaves c'
pub record RawRead (leads : ℕ → ℕ → ℕ) (picks : ℕ → Bool) (c : CardState) (w : Width) (a r : ℕ) (c' : CardState) : Type 0 where
  pub shown : r ≡ cycle_shows c.slot (found leads c.slot a) (reach w (picks a))
  pub after : c' ≡ with_slot c (cycle_reads c.slot (found leads c.slot a) (reach w (picks a)))
  -- a word cycle at the place of a word on the card is the slot's own
  pub word : w ≡ Word → cycle_refusal c.slot a ≡ None → WordRead c.slot a (Ok r) c'.slot

-- a write cycle at the address a, with v on the data lines, leaves c'
pub record RawWritten (leads : ℕ → ℕ → ℕ) (picks : ℕ → Bool) (c : CardState) (w : Width) (a v : ℕ) (c' : CardState) : Type 0 where
  pub after : c' ≡ written c (found leads c.slot a) (reach w (picks a)) v
  pub word : w ≡ Word → cycle_refusal c.slot a ≡ None → WordWritten longest_wait c.slot a v (Ok tt) c'.slot
