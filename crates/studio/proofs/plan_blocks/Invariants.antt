use Rattle.std.proofs.Common.{◌≡◌, ◌+◌, ◌*◌, ◌/◌, ◌≤◌, drop, length}
use Rattle.std.specs.Iterator.Adapters.{zip_first, zip_second}
use Rattle.std.specs.Slice.Iter.{chunks_exact_rest, chunks_exact_size}
use Rattle.writer.specs.Jobs.{wipes_of, words_of}
use Rattle.studio.specs.Answer.{all_jobs}
use Rattle.studio.proofs.Sums.{jobs_left}
use Rattle.studio.proofs.plan_blocks.Given as goal

abbrev pub invariant-loop-old : goal.invariant-loop-old
invariant-loop-old l =
    goal.iterator-loop-old.can_next l.old-iterator
    × goal.iterator-loop-old.is_finite l.old-iterator
    × (chunks_exact_size (zip_first l.old-iterator) ≡ l.n)
    × (chunks_exact_size (zip_second l.old-iterator) ≡ l.n)
    × (chunks_exact_rest (zip_first l.old-iterator) ≡ drop (length l.yielded * l.n) l.present)
    × (chunks_exact_rest (zip_second l.old-iterator) ≡ drop (length l.yielded * l.n) l.wanted)
    × (l.counts.wipes + wipes_of (jobs_left l.n l.present l.wanted (length l.present / l.n) (length l.yielded)) ≡ wipes_of (all_jobs l.n l.present l.wanted))
    × (l.counts.words + words_of (jobs_left l.n l.present l.wanted (length l.present / l.n) (length l.yielded)) ≡ words_of (all_jobs l.n l.present l.wanted))
    × (l.counts.wipes + l.counts.words ≤ length l.yielded * 131072)
