-- What a bus cycle shows and leaves, by the devices that it reaches.
use Rattle.std.specs.Prelude.{ℕ, ◌+◌, ◌*◌, ◌/◌, ◌%◌, Some, None, Option, slice_index, slice_set}
use Rattle.devices.specs.Chip.{shows, was_read}
use Rattle.slot.specs.State.{SlotState, with_chips}
use Rattle.slot.specs.Cycles.{cycle_refusal, unless}
use Rattle.board.specs.declared.side.Side.{Side}
use Rattle.board.specs.declared.side.Reach.{Reach}
use Rattle.board.specs.Sides.{index_at, chip_at, place_at}
use Rattle.board.specs.Held.{CardState}
use Rattle.board.specs.Sent.{sent}

-- one half of the bus at the word p: a half that is not driven reads FFH
abbrev pub half_shown : SlotState → ℕ → Option Side → ℕ
half_shown s p None = 0xff
half_shown s p (Some side) = shows (chip_at s p side) p (slice_index s.bytes (place_at p side))

abbrev pub half_read : SlotState → ℕ → Option Side → SlotState
half_read s p None = s
half_read s p (Some side) = with_chips s (slice_set s.chips (index_at s p side) (was_read (chip_at s p side)))

abbrev pub half_sent : CardState → ℕ → Option Side → ℕ → CardState
half_sent c p None v = c
half_sent c p (Some side) v = sent c p side v

-- both halves, the low one first
abbrev pub word_shown : SlotState → ℕ → Reach → ℕ
word_shown s p r = half_shown s p r.low + 256 * half_shown (half_read s p r.low) p r.high

abbrev pub word_read : SlotState → ℕ → Reach → SlotState
word_read s p r = half_read (half_read s p r.low) p r.high

abbrev pub word_sent : CardState → ℕ → Reach → ℕ → CardState
word_sent c p r v = half_sent (half_sent c p r.low (v % 256)) p r.high (v / 256)

-- a cycle at p: where there is no word, a read shows FFFFH, and nothing changes
abbrev pub cycle_shows : SlotState → ℕ → Reach → ℕ
cycle_shows s p r = unless (cycle_refusal s p) 0xffff (word_shown s p r)

abbrev pub cycle_reads : SlotState → ℕ → Reach → SlotState
cycle_reads s p r = unless (cycle_refusal s p) s (word_read s p r)

abbrev pub cycle_sends : CardState → ℕ → Reach → ℕ → CardState
cycle_sends c p r v = unless (cycle_refusal c.slot p) c (word_sent c p r v)
