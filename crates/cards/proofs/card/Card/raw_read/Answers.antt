use Rattle.std.proofs.Common.{◌≡◌, ap, ◌∙◌, arith, rules}
use Rattle.slot.specs.State.{slot_capacity}
use Rattle.board.specs.Held.{CardState, with_slot}
use Rattle.board.specs.Cycle.{cycle_shows, cycle_reads}
use Rattle.board.proofs.Limits.{capacity_small}
use Rattle.cards.specs.declared.access.Width.{Width}
use Rattle.cards.specs.Access.{reach}
use Rattle.cards.specs.Raw.{found}
use Rattle.cards.specs.Meant.{of_card}
use Rattle.cards.proofs.Words.{word_seen, found_there}
use Rattle.cards.proofs.card.Card.raw_read.Goals as goal

pub returns : goal.returns
returns g c =
    let x = of_card g.W.Wiring.switches c.args.self.now in
    let a = c.args.address in
    let t = g.W.Wiring.picks a in
    let shown : c.read_cycle.result ≡ cycle_shows x.slot (found g.W.Wiring.leads x.slot a) (reach c.args.width t) = search rules in
    let after : of_card g.W.Wiring.switches (record { board = c.read_cycle.new.self; wiring = c.args.self.now.wiring })
    ≡ with_slot x (cycle_reads x.slot (found g.W.Wiring.leads x.slot a) (reach c.args.width t)) = search rules in
    record {
      shown = shown;
      after = after;
      word =
          λ is on.
          let at = found_there g.W.Wiring.leads x.slot a on (λ l. g.met.W.Wiring.direct (slot_capacity x.slot) a (omega (arith, capacity_small c.args.self.now.board)) l) in
          word_seen x.slot a c.read_cycle.result _ on
          (shown ∙ (ap (λ p. cycle_shows x.slot p (reach c.args.width t)) at ∙ ap (λ (w : Width). cycle_shows x.slot a (reach w t)) is))
          (ap (λ (k : CardState). k.slot) after ∙ (ap (λ p. cycle_reads x.slot p (reach c.args.width t)) at ∙ ap (λ (w : Width). cycle_reads x.slot a (reach w t)) is));
    }
