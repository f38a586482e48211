use Rattle.writer.specs.Laws.{lanes_told}
use Rattle.velvetopal.specs.Totals.{wipes_told, words_told}
use Rattle.velvetopal.proofs.Sums.{capped_more}
use Rattle.velvetopal.proofs.totals.total_of.Goals as goal

pub loop-call-preserved : goal.loop-call-preserved
loop-call-preserved c =
    let calls = c.args.calls.now in
    let k = c.loop-call.call-index in
    let before = c.loop-call.sum in
    let after = c.add.new.self in
    let call = c.call-item.result in (
      capped_more wipes_told calls k before.wipes after.wipes call c.loop-call-test.true c.call-item.is c.loop-call.invariant.0 c.add.ensures.wipes,
      (
        capped_more words_told calls k before.words after.words call c.loop-call-test.true c.call-item.is c.loop-call.invariant.1.0 c.add.ensures.words,
        capped_more lanes_told calls k before.lanes after.lanes call c.loop-call-test.true c.call-item.is c.loop-call.invariant.1.1 c.add.ensures.lanes,
      ),
    )
