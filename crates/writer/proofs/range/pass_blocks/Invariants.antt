use Rattle.writer.specs.Source.{bytes_of}
use Rattle.writer.proofs.BlockLoop.{BlocksLeft}
use Rattle.writer.proofs.range.pass_blocks.Given as goal

abbrev pub invariant-loop-index : goal.invariant-loop-index
invariant-loop-index g l =
    BlocksLeft g.J.Jobs.how l.laying.place (bytes_of l.laying.source) (g.M.Medium.meaning l.initial.medium) (g.J.Jobs.counted l.initial.jobs) l.index (g.M.Medium.meaning l.medium)
    (g.J.Jobs.counted l.jobs) l.block
