use Rattle.std.proofs.Common.{◌*◌, ◌/◌, true, [], ◌∷◌, length, refl}
use Rattle.std.proofs.lemmas.Result.{err_from_is_err_and}
use Rattle.writer.specs.Jobs.{wipe_of}
use Rattle.writer.specs.Blocks.{differing}
use Rattle.writer.specs.Passes.{passed}
use Rattle.writer.proofs.Runs.{turn_err}
use Rattle.writer.proofs.block.pass_wiped.Goals as goal

pub returns-in_err-pass : goal.returns-in_err-pass
returns-in_err-pass g c =
    let p = err_from_is_err_and c.from_residual.result c.from_residual.ensures.1 in
    let b = c.args.index in
    let new = c.args.block.now in
    let rest = differing (b * length new) true new new 0 (length new / 2) in
    let m = g.M.Medium.meaning c.args.medium.now in
    let counts = g.J.Jobs.counted c.args.jobs.now in
    rw (p.1, p.2)
    (turn_err g.J.Jobs.how (passed g.J.Jobs.how (wipe_of b ∷ rest) m counts) (wipe_of b ∷ rest) (wipe_of b ∷ []) rest m counts
    (g.J.Jobs.counted c.pass.new.self) (g.M.Medium.meaning c.pass.new.medium) refl refl c.in_err-pass.field-0.0
    c.in_err-pass.ensures)
