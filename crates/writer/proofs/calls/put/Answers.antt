use Rattle.medium.specs.Meaning.{EachBelow}
use Rattle.writer.proofs.Laws.{accounted, fewest, holds, stops}
use Rattle.writer.proofs.Fit.{sound_fit}
use Rattle.writer.proofs.calls.put.Goals as goal

pub returns : goal.returns
returns g c =
    let m = g.M.Medium.meaning c.args.medium.now in
    let m' = g.M.Medium.meaning c.pass_over.new.medium in
    let p = c.args.place in
    let bs = c.args.bytes.now in
    let buf = c.args.buffer.now in
    let buf' = c.pass_over.new.buffer in
    let r = c.pass_over.result in
    let s = sound_fit m (g.met.M.Medium.sound c.args.medium.now) in
    let by : EachBelow 256 bs = λ k. (c.type_inv.bytes k).fits in
    let d = c.pass_over.ensures in
    record {
      done = d;
      holds = holds m m' p bs buf buf' r s by d;
      stops = stops m m' p bs buf buf' r s by d;
      fewest = fewest m m' p bs buf buf' r s by d;
      accounted = accounted m m' p bs buf buf' r d;
    }
