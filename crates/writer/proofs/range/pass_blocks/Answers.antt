use Rattle.std.proofs.Common.{◌≡◌, ℕ, ◌/◌, ◌≤◌, length, sym, refl, ap, ◌∙◌, subst, arith}
use Rattle.std.proofs.lemmas.Result.{err_from_is_err_and}
use Rattle.medium.proofs.Sizes.{card_small}
use Rattle.writer.specs.Source.{bytes_of}
use Rattle.writer.proofs.Sizes.{block_place, first_last, some_size}
use Rattle.writer.proofs.BlockLoop.{BlocksLeft, blocks_again, blocks_end, blocks_start, blocks_stop, last_computed, placed}
use Rattle.writer.proofs.range.pass_blocks.Goals as goal

pub overflow_add-end : goal.overflow_add-end
overflow_add-end g c =
    let q = card_small (g.M.Medium.meaning c.args.medium.now) (g.met.M.Medium.sound c.args.medium.now) in
    omega arith

pub end-requires : goal.end-requires
end-requires g c =
    let q = card_small (g.M.Medium.meaning c.args.medium.now) (g.met.M.Medium.sound c.args.medium.now) in
    omega arith

pub loop-index-init : goal.loop-index-init
loop-index-init g c =
    let m = g.M.Medium.meaning c.args.medium.now in
    let ys = bytes_of c.args.laying.source in
    subst (λ (n : ℕ). BlocksLeft g.J.Jobs.how c.args.laying.place ys m (g.J.Jobs.counted c.args.jobs.now) (c.args.laying.place / n) m (g.J.Jobs.counted c.args.jobs.now) c.args.block.now) (sym c.requires.sized)
    (blocks_start c.args.laying.place ys m (g.met.M.Medium.sound c.args.medium.now) c.requires.within c.requires.some)

pub pass_block-requires : goal.pass_block-requires
pass_block-requires g c =
    let m = g.M.Medium.meaning c.args.medium.now in
    let s = g.met.M.Medium.sound c.args.medium.now in
    let ys = bytes_of c.args.laying.source in
    let b = c.loop-index.index in
    let left = c.loop-index.invariant in
    let top = last_computed (length c.args.block.now) m.block_size c.args.laying.place (length ys) c.end.result c.requires.sized c.end.ensures in
    let first : c.args.laying.place / m.block_size ≤ b = subst (λ (n : ℕ). c.args.laying.place / n ≤ b) c.requires.sized c.loop-index.auto.index in
    let e : length c.loop-index.block ≡ m.block_size = c.loop-index.auto.block ∙ c.requires.sized in
    let p = placed c.args.laying.place ys m s c.requires.within c.requires.some left first (omega arith) in
    let q = block_place m s m.block_size b refl p.0 in
    let f = left.few in
    record {
      sized = e ∙ sym left.size;
      within = rw (left.size, left.count) c.requires.within;
      here = rw left.count p.0;
      low = rw e p.1;
      high = rw e p.2;
      room = omega arith;
    }

pub returns-in_err-pass_block : goal.returns-in_err-pass_block
returns-in_err-pass_block g c =
    let m = g.M.Medium.meaning c.args.medium.now in
    let ys = bytes_of c.args.laying.source in
    let b = c.loop-index.index in
    let top = last_computed (length c.args.block.now) m.block_size c.args.laying.place (length ys) c.end.result c.requires.sized c.end.ensures in
    let first : c.args.laying.place / m.block_size ≤ b = subst (λ (n : ℕ). c.args.laying.place / n ≤ b) c.requires.sized c.loop-index.auto.index in
    let p = err_from_is_err_and c.from_residual.result c.from_residual.ensures.1 in
    rw (p.1, p.2)
    (blocks_stop c.args.laying.place ys m (g.met.M.Medium.sound c.args.medium.now) c.requires.within c.requires.some c.loop-index.invariant first (omega arith)
    c.in_err-pass_block.ensures)

pub loop-index-preserved : goal.loop-index-preserved
loop-index-preserved g c =
    let m = g.M.Medium.meaning c.args.medium.now in
    let ys = bytes_of c.args.laying.source in
    let b = c.loop-index.index in
    let top = last_computed (length c.args.block.now) m.block_size c.args.laying.place (length ys) c.end.result c.requires.sized c.end.ensures in
    let first : c.args.laying.place / m.block_size ≤ b = subst (λ (n : ℕ). c.args.laying.place / n ≤ b) c.requires.sized c.loop-index.auto.index in
    blocks_again c.args.laying.place ys m (g.met.M.Medium.sound c.args.medium.now) c.requires.within c.requires.some c.loop-index.invariant first (omega arith)
    c.in_ok-pass_block.ensures

pub returns : goal.returns
returns g c =
    let m = g.M.Medium.meaning c.args.medium.now in
    let s = g.met.M.Medium.sound c.args.medium.now in
    let ys = bytes_of c.args.laying.source in
    let b = c.loop-index.index in
    let n = length c.args.block.now in
    let top = last_computed n m.block_size c.args.laying.place (length ys) c.end.result c.requires.sized c.end.ensures in
    let first : c.args.laying.place / m.block_size ≤ b = subst (λ (n : ℕ). c.args.laying.place / n ≤ b) c.requires.sized c.loop-index.auto.index in
    let o = first_last m.block_size c.args.laying.place (length ys) (some_size m s) c.requires.some in
    let same : c.args.laying.place / n ≡ c.args.laying.place / m.block_size = ap (λ (k : ℕ). c.args.laying.place / k) c.requires.sized in
    let u = c.loop-index.auto.index-end (omega arith) in
    let l = c.loop-index-test.false in
    blocks_end c.args.laying.place ys m s c.requires.within c.requires.some c.loop-index.invariant first (omega arith)
