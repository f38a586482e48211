use Rattle.std.proofs.Common.{ap, ◌∙◌}
use Rattle.writer.specs.Empty.{no_blocks}
use Rattle.writer.specs.declared.jobs.Counting.{Counting}
use Rattle.writer.proofs.PlanBlock.{counts_touched, counts_wiped, is_one_block}
use Rattle.writer.proofs.block.count_jobs.Goals.{then-must_wipe, else-must_wipe}
use Rattle.writer.proofs.block.count_jobs.Goals as goal

pub returns : goal.returns
returns c =
    let old = c.args.present.now in
    let new = c.args.wanted.now in
    let one = is_one_block old new c.requires in
    elim c.if-must_wipe.branch [
      | then-must_wipe w ↦ ap (λ (j : Counting). j.counts) w.jobs-is ∙ counts_wiped old new one.same no_blocks no_blocks w.pass_wiped.new.jobs.counts w.pass_wiped.result
          w.if-must_wipe.ensures w.pass_wiped.ensures
      | else-must_wipe w ↦ ap (λ (j : Counting). j.counts) w.jobs-is ∙ counts_touched old new one.same no_blocks no_blocks w.pass_touched.new.jobs.counts w.pass_touched.result
          w.if-must_wipe.ensures w.pass_touched.ensures
    ]
