use Rattle.writer.proofs.Laws.{as_put}
use Rattle.writer.proofs.Passes.{plan_done}
use Rattle.writer.proofs.calls.plan.Goals as goal

pub returns : goal.returns
returns g c =
    let m = g.M.Medium.meaning c.args.medium.now in
    let m' = g.M.Medium.meaning c.pass_over.new.medium in
    let p = c.args.place in
    let bs = c.args.bytes.now in
    let buf = c.args.buffer.now in
    let buf' = c.pass_over.new.buffer in
    let r = c.pass_over.result in
    let d = plan_done m p bs buf r m' buf' c.pass_over.ensures in
    record { done = d; as_put = as_put m m' p bs buf buf' r d }
