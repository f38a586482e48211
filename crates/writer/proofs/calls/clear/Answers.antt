use Rattle.std.proofs.Common.{◌*◌, arith}
use Rattle.medium.proofs.Below.{below_replicate}
use Rattle.writer.specs.Source.{bytes_of}
use Rattle.writer.specs.Put.{clear_bytes, clear_place}
use Rattle.writer.proofs.Laws.{accounted, fewest, holds, stops}
use Rattle.writer.proofs.Passes.{clear_done}
use Rattle.writer.proofs.Fit.{sound_fit}
use Rattle.writer.proofs.calls.clear.Goals as goal

pub returns : goal.returns
returns g c =
    let m = g.M.Medium.meaning c.args.medium.now in
    let m' = g.M.Medium.meaning c.pass_over.new.medium in
    let p = clear_place m c.args.first in
    let bs = clear_bytes m c.args.count in
    let buf = c.args.buffer.now in
    let buf' = c.pass_over.new.buffer in
    let r = c.pass_over.result in
    let s = sound_fit m (g.met.M.Medium.sound c.args.medium.now) in
    let by = below_replicate 256 255 (c.args.count * m.block_size) (omega arith) (omega arith) in
    let d =
    clear_done m c.args.first c.args.count c.size-n.result.block_size (bytes_of c.blank.result) buf r m' buf'
    c.size-n.ensures.block_size c.blank.ensures c.pass_over.ensures in
    record {
      done = d;
      holds = holds m m' p bs buf buf' r s by d;
      stops = stops m m' p bs buf buf' r s by d;
      fewest = fewest m m' p bs buf buf' r s by d;
      accounted = accounted m m' p bs buf buf' r d;
    }
