use Rattle.std.proofs.Common.{◌≡◌, ◌<◌, false, leb, length, get_or, refl, ap, ◌∙◌, arith}
use Rattle.std.proofs.lemmas.Bool.{lt-leb}
use Rattle.medium.proofs.Refusals.{block_found}
use Rattle.layers.specs.Fence.{fenced}
use Rattle.layers.specs.Fenced.{lock_marked}
use Rattle.layers.proofs.fence.Fence.mark.Goals as goal

pub returns : goal.returns
returns g c =
    let m = g.M.Medium.meaning c.args.self.now.below in
    let marks = c.args.self.now.marks.marked in
    let sound = g.met.M.Medium.sound c.args.self.now.below in
    let b = c.args.block in
    let found = block_found _ _ _ _ c.in_ok-find_block.ensures in
    let on : b < m.blocks = omega (arith, found.0, c.size.ensures.blocks) in
    let room : b < length marks = omega (arith, sound.few, c.args.self.now.marks.long) in
    let past : leb m.blocks b ≡ false = lt-leb m.blocks b on in
    record {
      answer = rw past;
      marks = rw past c.put.ensures;
      locks = λ _. ap (λ ks. get_or (fenced ks m.locks) b false) c.put.ensures ∙ lock_marked m sound marks b c.args.on on room;
      below = refl;
    }
