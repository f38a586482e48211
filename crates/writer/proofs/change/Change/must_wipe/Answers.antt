use Rattle.std.proofs.Common.{◌≡◌, ℕ, ◌-◌, length, take, drop, ap, ◌∙◌, arith}
use Rattle.writer.specs.Source.{bytes_of}
use Rattle.writer.proofs.Rises.{rises_under}
use Rattle.writer.proofs.change.Change.must_wipe.Goals as goal

pub returns : goal.returns
returns c =
    let xs = c.args.self.block.now in
    let p = c.args.self.laying.place in
    let ys = bytes_of c.args.self.laying.source in
    let n : c.end.result - p ≡ length ys = omega (arith, c.end.ensures) in
    c.rises_over.ensures
    ∙ rises_under xs ys (take (c.end.result - p) (drop p xs)) p c.args.self.within (ap (λ (k : ℕ). take k (drop p xs)) n)
