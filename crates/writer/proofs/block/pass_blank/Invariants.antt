use Rattle.std.proofs.Common.{◌≡◌, true, ◌*◌, ◌/◌, length, drop}
use Rattle.std.specs.Iterator.Adapters.{enumerate_count, enumerate_source}
use Rattle.std.specs.Slice.Iter.{chunks_exact_rest, chunks_exact_size}
use Rattle.writer.specs.Blocks.{differing}
use Rattle.writer.specs.Passes.{passed}
use Rattle.writer.proofs.WordLoop.{WordsLeft}
use Rattle.writer.proofs.block.pass_blank.Given as goal

abbrev pub invariant-loop-k : goal.invariant-loop-k
invariant-loop-k g l =
    (goal.iterator-loop-k g).can_next l.k-iterator
    × (goal.iterator-loop-k g).is_finite l.k-iterator
    × (chunks_exact_size (enumerate_source l.k-iterator) ≡ 2)
    × (chunks_exact_rest (enumerate_source l.k-iterator) ≡ drop (2 * enumerate_count l.k-iterator) l.block)
    × WordsLeft g.J.Jobs.how l.start true l.block l.block (length l.block / 2)
    (passed g.J.Jobs.how (differing l.start true l.block l.block 0 (length l.block / 2)) (g.M.Medium.meaning l.initial.medium) (g.J.Jobs.counted l.initial.jobs))
    (g.J.Jobs.counted l.initial.jobs) (enumerate_count l.k-iterator) (g.M.Medium.meaning l.medium) (g.J.Jobs.counted l.jobs)
