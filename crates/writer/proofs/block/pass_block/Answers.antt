use Rattle.std.proofs.Common.{◌≡◌, ℕ, ◌*◌, List, length, subst, arith}
use Rattle.medium.specs.Jobs.{laid}
use Rattle.writer.specs.Source.{bytes_of}
use Rattle.writer.specs.Blocks.{block_at, part}
use Rattle.writer.specs.Put.{wanted}
use Rattle.writer.specs.Passes.{BlockPassed}
use Rattle.writer.proofs.Sizes.{block_within}
use Rattle.writer.proofs.Parts.{cut_fits, wanted_part}
use Rattle.writer.proofs.block.pass_block.Goals as goal

pub pass_piece-requires : goal.pass_piece-requires
pass_piece-requires g c =
    let m = g.M.Medium.meaning c.args.medium.now in
    let s = g.met.M.Medium.sound c.args.medium.now in
    let n = length c.args.block.now in
    let p = block_within m n c.args.index c.requires.sized c.requires.here in
    record {
      sized = c.requires.sized;
      here = c.requires.here;
      within =
          cut_fits m.bytes (bytes_of c.args.laying.source) (c.args.index * n) n c.args.laying.place (omega (arith, s.filled)) (omega (arith, s.filled))
          c.requires.low c.requires.high
          c.piece-piece.result.place (bytes_of c.piece-piece.result.source) c.piece-piece.ensures.place c.piece-piece.ensures.bytes;
      room = c.requires.room;
    }

pub returns : goal.returns
returns g c =
    let m = g.M.Medium.meaning c.args.medium.now in
    let s = g.met.M.Medium.sound c.args.medium.now in
    let n = length c.args.block.now in
    let b = c.args.index in
    let ys = bytes_of c.args.laying.source in
    let p = block_within m n b c.requires.sized c.requires.here in
    let off = c.piece-piece.result.place in
    let zs = bytes_of c.piece-piece.result.source in
    let w : laid (part m.bytes (b * n) n) off zs ≡ part (wanted m c.args.laying.place ys) (b * n) n =
    wanted_part m.bytes ys (b * n) n c.args.laying.place (omega (arith, s.filled)) (omega (arith, s.filled)) c.requires.low c.requires.high
    off zs c.piece-piece.ensures.place c.piece-piece.ensures.bytes in
    let v : laid (block_at m.block_size m.bytes b) off zs ≡ block_at m.block_size (wanted m c.args.laying.place ys) b =
    subst (λ (k : ℕ). laid (block_at k m.bytes b) off zs ≡ block_at k (wanted m c.args.laying.place ys) b) c.requires.sized w in
    subst (λ (new : List ℕ).
    BlockPassed g.J.Jobs.how b new m (g.J.Jobs.counted c.args.jobs.now) c.pass_piece.result (g.J.Jobs.counted c.pass_piece.new.jobs)
    (g.M.Medium.meaning c.pass_piece.new.medium) c.pass_piece.new.block)
    v c.pass_piece.ensures
