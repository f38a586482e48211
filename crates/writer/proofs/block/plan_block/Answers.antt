use Rattle.std.specs.Cmp.Lexicographic.{same_text}
use Rattle.writer.proofs.PlanBlock.{one_block, plan_same}
use Rattle.writer.proofs.block.plan_block.Goals as goal

pub returns-then-eq : goal.returns-then-eq
returns-then-eq c =
    plan_same c.args.present.now c.args.wanted.now
    (one_block c.args.present.now c.args.wanted.now c.if-wanted-n.false c.if-n-ne0.false c.if-n-gt131072.false)
    (same_text c.args.present.now c.args.wanted.now c.if-eq.ensures)
