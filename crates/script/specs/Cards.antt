-- Cards of three kinds as media.
use Rattle.std.specs.Prelude.{Bool}
use Rattle.medium.specs.Meaning.{Meaning}
use Rattle.memory.specs.Card.{card_meaning}
use Rattle.slot.specs.State.{as_medium}
use Rattle.cards.specs.Meant.{of_series2, of_series100}
use Rattle.script.specs.declared.card.Card.{Card}
use Rattle.script.specs.declared.card.Card.TheVariants.{Memory, Series2, Series100}

-- what a card stands for as a medium, behind the driver if it has a bus
abbrev pub card_medium : Card → Meaning
card_medium (Memory c) = card_meaning c
card_medium (Series2 c) = as_medium (of_series2 c).slot
card_medium (Series100 c) = as_medium (of_series100 c).slot

-- the lock of all its blocks
abbrev pub all_locked : Card → Bool
all_locked (Memory c) = c.locked
all_locked (Series2 c) = (of_series2 c).slot.pin
all_locked (Series100 c) = (of_series100 c).slot.pin
