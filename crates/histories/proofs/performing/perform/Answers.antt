-- The loop's beginning, a turn of it, and its end.
use Rattle.std.proofs.Common.{arith}
use Rattle.histories.proofs.Histories.{law_of_histories}
use Rattle.histories.proofs.Turns.{none_yet, turn_there, turn_nowhere, all_carried}
use Rattle.histories.proofs.performing.perform.Goals as goal
use Rattle.histories.proofs.performing.perform.Goals.{then-number-media, else-number-media}

pub loop-at-init : goal.loop-at-init
loop-at-init g c = none_yet _ _ _ _ _

pub loop-at-preserved : goal.loop-at-preserved
loop-at-preserved g c =
    elim c.if-number-media.branch [
      | then-number-media w ↦
          turn_there _ _ _ _ _ c.loop-at.media c.loop-at.switches c.loop-at.calls c.loop-at.at c.loop-at.invariant (omega arith) c.index-calls-at.result
          w.index-media-number.result w.carry_out.new.medium _ _ w.carry_out.new.call _ _ w.media-is w.switches-is w.calls-is (omega arith)
          w.carry_out.ensures
      | else-number-media w ↦
          turn_nowhere _ _ _ _ _ c.loop-at.media c.loop-at.switches c.loop-at.calls c.loop-at.at c.loop-at.invariant (omega arith) c.index-calls-at.result
          _ _ _ w.media-is w.switches-is w.calls-is (omega arith)
    ]

pub returns : goal.returns
returns g c =
    record {
      performed = all_carried _ _ _ _ _ g.met.M.Medium.sound _ _ _ _ (omega arith) c.loop-at.invariant;
      law = law_of_histories;
    }
