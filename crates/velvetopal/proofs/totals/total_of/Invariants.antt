use Rattle.std.proofs.Common.{◌≡◌, take}
use Rattle.writer.specs.Laws.{lanes_told}
use Rattle.velvetopal.specs.Totals.{wipes_told, words_told, summed, capped}
use Rattle.velvetopal.proofs.totals.total_of.Given as goal

-- the totals of the calls so far
abbrev pub invariant-loop-call : goal.invariant-loop-call
invariant-loop-call l =
    (l.sum.wipes ≡ capped (summed wipes_told (take l.call-index l.calls)))
    × ((l.sum.words ≡ capped (summed words_told (take l.call-index l.calls)))
    × (l.sum.lanes ≡ capped (summed lanes_told (take l.call-index l.calls))))
