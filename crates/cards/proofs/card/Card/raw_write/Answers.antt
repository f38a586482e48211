use Rattle.std.proofs.Common.{◌≡◌, ap, ◌∙◌, arith, rules}
use Rattle.slot.specs.State.{slot_capacity}
use Rattle.board.specs.Held.{CardState}
use Rattle.board.proofs.Limits.{board_sound, capacity_small}
use Rattle.cards.specs.declared.access.Width.{Width}
use Rattle.cards.specs.Access.{reach}
use Rattle.cards.specs.Raw.{found, written}
use Rattle.cards.specs.Meant.{of_card}
use Rattle.cards.proofs.Words.{word_written, found_there}
use Rattle.cards.proofs.card.Card.raw_write.Goals as goal

pub returns : goal.returns
returns g c =
    let self = c.args.self.now in
    let x = of_card g.W.Wiring.switches self in
    let sound = board_sound self.board (g.W.Wiring.switches self.wiring).supply (g.W.Wiring.switches self.wiring).pin in
    let a = c.args.address in
    let v = c.args.word in
    let t = g.W.Wiring.picks a in
    let after : of_card g.W.Wiring.switches c.send.new.self ≡ written x (found g.W.Wiring.leads x.slot a) (reach c.args.width t) v = search rules in
    record {
      after = after;
      word =
          λ is on.
          let at = found_there g.W.Wiring.leads x.slot a on (λ l. g.met.W.Wiring.direct (slot_capacity x.slot) a (omega (arith, capacity_small self.board)) l) in
          word_written x sound self.board.waits.short_write self.board.waits.short_wipe a v on _
          (ap (λ (k : CardState). k.slot) (after ∙ (ap (λ p. written x p (reach c.args.width t) v) at ∙ ap (λ (w : Width). written x a (reach w t) v) is)));
    }
