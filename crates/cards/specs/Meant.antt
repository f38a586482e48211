-- What a card stands for.
use Rattle.std.specs.Prelude.{true, false}
use Rattle.board.specs.Held.{CardState, card_of}
use Rattle.cards.specs.Switches.{Switches}
use Rattle.cards.specs.declared.card.Card.{Card}
use Rattle.cards.specs.declared.series2.Series2.{Series2}
use Rattle.cards.specs.declared.series100.Series100.{Series100}

-- a board under the switches of its wiring
abbrev pub of_card : {W : Type 0} → (W → Switches) → Card W → CardState
of_card switches c = card_of c.board (switches c.wiring).supply (switches c.wiring).pin

-- a Series 2 card: its switches are the supply and the pin
abbrev pub of_series2 : Card Series2 → CardState
of_series2 c = of_card (λ w. record { supply = w.supply_good; pin = w.protect }) c

-- a Series 100 card: its supply is always good, and it has no protection
abbrev pub of_series100 : Card Series100 → CardState
of_series100 c = of_card (λ _. record { supply = true; pin = false }) c
