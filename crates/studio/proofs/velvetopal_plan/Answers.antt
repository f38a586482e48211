use Rattle.studio.proofs.Answers.{answered}
use Rattle.studio.proofs.velvetopal_plan.Goals as goal

pub returns : goal.returns
returns c =
    answered c.args.present.now c.args.wanted.now c.args.block_size c.packed.result c.plan.result c.packed.ensures
    c.plan.ensures.no_such_size c.plan.ensures.off_card c.plan.ensures.counted
