use Rattle.std.proofs.Common.{◌<◌, take, ap, ◌∙◌, ap₂, arith}
use Rattle.medium.specs.Faults.{names_even, names_odd}
use Rattle.medium.proofs.Tables.{given_take}
use Rattle.medium.proofs.Refusals.{block_found}
use Rattle.board.specs.Held.{board_blocks, board_card, board_slot, with_slot}
use Rattle.board.specs.Sides.{with_work}
use Rattle.board.proofs.board.Board.set_lives.Goals as goal

pub returns-clause-after : goal.returns-clause-after
returns-clause-after c =
    let x = c.args.self.now in
    let s = board_slot x in
    let n = board_blocks x in
    let b = c.args.block in
    let on : b < n =
    omega (arith, (block_found c.extent.result.blocks c.extent.result.block_size b c.in_ok-find_block.field-0 c.in_ok-find_block.ensures).0, c.extent.ensures.blocks) in
    ap₂ (λ es os. with_slot (board_card x) (with_work s s.bytes es os s.chips))
    (ap (take n) c.give.ensures.even ∙ given_take n b c.args.lives (names_even c.args.lanes) x.wear.even.left on)
    (ap (take n) c.give.ensures.odd ∙ given_take n b c.args.lives (names_odd c.args.lanes) x.wear.odd.left on)
