use Rattle.std.proofs.Common.{◌≡◌, ℕ, ◌*◌, ◌/◌, length, sym, ◌∙◌, subst, arith}
use Rattle.medium.proofs.Sizes.{size_even}
use Rattle.writer.specs.Source.{bytes_of}
use Rattle.writer.specs.Passes.{TouchedPassed}
use Rattle.writer.proofs.Sizes.{block_place}
use Rattle.writer.proofs.OneBlock.{passed_wiped, passed_words, read_block}
use Rattle.writer.proofs.block.pass_piece.Goals as goal

pub overflow_mul-start : goal.overflow_mul-start
overflow_mul-start g c =
    let p = block_place _ (g.met.M.Medium.sound c.args.medium.now) (length c.args.block.now) c.args.index c.requires.sized c.requires.here in
    omega arith

pub pass_wiped-requires : goal.pass_wiped-requires
pass_wiped-requires g c =
    let e : length c.lay_over.new.block ≡ length c.args.block.now = omega arith in
    let p = block_place _ (g.met.M.Medium.sound c.args.medium.now) (length c.lay_over.new.block) c.args.index (e ∙ c.requires.sized) c.requires.here in
    omega arith

pub pass_touched-done-requires : goal.pass_touched-done-requires
pass_touched-done-requires g c =
    let s = g.met.M.Medium.sound c.args.medium.now in
    let e : length c.read.new.buffer ≡ length c.args.block.now = omega arith in
    let p = block_place _ s (length c.args.block.now) c.args.index c.requires.sized c.requires.here in
    record {
      whole = subst (λ (z : ℕ). 2 * (z / 2) ≡ z) (sym (e ∙ c.requires.sized)) (size_even _ s.power);
      reach = omega arith;
      room = omega (arith, c.requires.room);
    }

pub returns-then-must_wipe : goal.returns-then-must_wipe
returns-then-must_wipe g c =
    let m = g.M.Medium.meaning c.args.medium.now in
    let e : length c.read.new.buffer ≡ length c.args.block.now = omega arith in
    passed_wiped g.J.Jobs.how c.args.index c.args.piece.place (bytes_of c.args.piece.source) c.read.new.buffer
    m (g.M.Medium.meaning c.read.new.self) (g.M.Medium.meaning c.pass_wiped.new.medium) (g.J.Jobs.counted c.args.jobs.now) (g.J.Jobs.counted c.pass_wiped.new.jobs)
    c.pass_wiped.result
    (e ∙ c.requires.sized) (c.read.ensures.shown ∙ read_block m c.args.index c.args.block.now c.requires.sized c.requires.here) c.read.ensures.same
    c.if-must_wipe.ensures c.lay_over.new.block c.lay_over.ensures (omega arith) c.pass_wiped.ensures

pub returns-else-must_wipe : goal.returns-else-must_wipe
returns-else-must_wipe g c =
    let m = g.M.Medium.meaning c.args.medium.now in
    let e : length c.read.new.buffer ≡ length c.args.block.now = omega arith in
    passed_words g.J.Jobs.how c.args.index c.args.piece.place (bytes_of c.args.piece.source) c.read.new.buffer
    m (g.M.Medium.meaning c.read.new.self) (g.M.Medium.meaning c.pass_touched-done.new.medium) (g.J.Jobs.counted c.args.jobs.now)
    (g.J.Jobs.counted c.pass_touched-done.new.jobs) c.pass_touched-done.result
    (e ∙ c.requires.sized) (c.read.ensures.shown ∙ read_block m c.args.index c.args.block.now c.requires.sized c.requires.here) c.read.ensures.same
    c.if-must_wipe.ensures c.lay_over-else-must_wipe.new.block c.lay_over-else-must_wipe.ensures
    (subst (λ (z : ℕ).
    TouchedPassed g.J.Jobs.how (c.args.index * z) c.read.new.buffer c.args.piece.place (bytes_of c.args.piece.source) (g.M.Medium.meaning c.read.new.self)
    (g.J.Jobs.counted c.args.jobs.now) c.pass_touched-done.result (g.J.Jobs.counted c.pass_touched-done.new.jobs) (g.M.Medium.meaning c.pass_touched-done.new.medium))
    (sym e) c.pass_touched-done.ensures)
