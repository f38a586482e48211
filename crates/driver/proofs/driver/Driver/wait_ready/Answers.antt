use Rattle.std.proofs.Common.{sym, arith}
use Rattle.devices.proofs.Waits.{ready_from}
use Rattle.driver.proofs.Polls.{still_same, sampled_ready, sampled_wait}
use Rattle.driver.proofs.driver.Driver.wait_ready.Goals as goal

pub returns-then-sample-clause-ready : goal.returns-then-sample-clause-ready
returns-then-sample-clause-ready g c = sampled_ready _ _ c.sample.ensures.after (sym c.if-sample.ensures.answer)

pub loop-preserved : goal.loop-preserved
loop-preserved g c = (
  still_same (g.S.Slot.state c.args.self.now.slot) _ _ _ c.loop.invariant.0 c.sample.ensures.after,
  λ k. omega (arith, sampled_wait _ _ c.sample.ensures.after k, c.loop.invariant.1 k, c.loop-test.true),
)

pub returns-clause-ready : goal.returns-clause-ready
returns-clause-ready g c = ready_from (g.S.Slot.state c.loop.self.slot).chips (λ k. omega (arith, c.loop.invariant.1 k, c.loop-test.false))
