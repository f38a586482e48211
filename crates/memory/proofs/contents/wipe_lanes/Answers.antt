use Rattle.std.proofs.Common.{sym, ◌∙◌, arith, rules}
use Rattle.medium.proofs.Wiped.{wiped_both, wiped_from}
use Rattle.memory.proofs.contents.wipe_lanes.Goals as goal

pub returns-then-live-2 : goal.returns-then-live-2
returns-then-live-2 c =
    let r = c.fill.ensures.after (λ y e. search rules) in
    rw (c.if-live.true, c.if-live-2.true) (r ∙ sym (wiped_both c.args.part.now))

pub returns : goal.returns
returns c =
    wiped_from c.args.live.even c.args.live.odd c.args.part.now c.loop-i.part c.loop-i.auto.part
    (λ k h. c.loop-i.invariant.0 k (omega arith))
