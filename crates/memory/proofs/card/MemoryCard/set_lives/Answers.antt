use Rattle.std.proofs.Common.{◌<◌, take, refl, ap, ◌∙◌, arith}
use Rattle.medium.specs.Faults.{names_even, names_odd}
use Rattle.medium.proofs.Done.{same_parts}
use Rattle.medium.proofs.Refusals.{block_found}
use Rattle.medium.proofs.Tables.{given_take}
use Rattle.memory.specs.Card.{card_meaning}
use Rattle.memory.proofs.card.MemoryCard.set_lives.Goals as goal

pub returns-clause-after : goal.returns-clause-after
returns-clause-after c =
    let self = c.args.self.now in
    let b = c.args.block in
    let n = c.args.lives in
    let (found, _) = block_found c.extent.result.blocks c.extent.result.block_size b c.in_ok-find_block.field-0 c.in_ok-find_block.ensures in
    let on : b < self.blocks = omega arith in
    same_parts (card_meaning self) _ _ _ _ _ _ refl
    (ap (take self.blocks) c.give.ensures.even ∙ given_take self.blocks b n (names_even c.args.lanes) self.lives.even.left on)
    (ap (take self.blocks) c.give.ensures.odd ∙ given_take self.blocks b n (names_odd c.args.lanes) self.lives.odd.left on)
