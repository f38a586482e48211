use Rattle.std.proofs.Common.{◌/◌, false, length}
use Rattle.medium.specs.Jobs.{laid}
use Rattle.writer.specs.Source.{bytes_of}
use Rattle.writer.specs.Blocks.{differing}
use Rattle.writer.specs.Passes.{passed}
use Rattle.writer.proofs.WordLoop.{WordsLeft}
use Rattle.writer.proofs.block.pass_touched.Given as goal

abbrev pub invariant-loop-k : goal.invariant-loop-k
invariant-loop-k g l =
    WordsLeft g.J.Jobs.how l.start false l.change.block.now (laid l.change.block.now l.change.laying.place (bytes_of l.change.laying.source)) l.end
    (passed g.J.Jobs.how (differing l.start false l.change.block.now (laid l.change.block.now l.change.laying.place (bytes_of l.change.laying.source)) 0 (length l.change.block.now / 2))
    (g.M.Medium.meaning l.initial.medium) (g.J.Jobs.counted l.initial.jobs))
    (g.J.Jobs.counted l.initial.jobs) l.k (g.M.Medium.meaning l.medium) (g.J.Jobs.counted l.jobs)
