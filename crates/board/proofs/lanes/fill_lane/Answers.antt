use Rattle.std.proofs.Common.{◌+◌, set, ap, ◌∙◌, arith}
use Rattle.board.specs.Sides.{is_even}
use Rattle.board.proofs.Fills.{first_place, fill_start, fill_more, fill_all}
use Rattle.board.proofs.lanes.fill_lane.Goals as goal

pub loop-place-init : goal.loop-place-init
loop-place-init c =
    let side = c.args.side in
    fill_start (is_even side) c.index-place.result c.args.byte c.args.block.now (c.index-place.ensures ∙ first_place side)

pub loop-place-preserved : goal.loop-place-preserved
loop-place-preserved c =
    let t = is_even c.args.side in (
      ap (λ l. set l c.loop-place.place c.args.byte) c.loop-place.invariant.0
          ∙ fill_more t c.loop-place.place c.args.byte c.args.block.now (omega arith) c.loop-place.invariant.1,
      omega arith,
    )

pub returns : goal.returns
returns c =
    c.loop-place.invariant.0 ∙ fill_all (is_even c.args.side) c.loop-place.place c.args.byte c.args.block.now (omega arith)

-- the last byte of the lane
pub returns-2 : goal.returns-2
returns-2 c =
    let t = is_even c.args.side in
    let k = c.loop-place.place in
    ap (λ l. set l k c.args.byte) c.loop-place.invariant.0
    ∙ (fill_more t k c.args.byte c.args.block.now (omega arith) c.loop-place.invariant.1
    ∙ fill_all t (k + 2) c.args.byte c.args.block.now (omega arith))
