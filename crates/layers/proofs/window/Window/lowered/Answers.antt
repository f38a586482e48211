use Rattle.std.proofs.Common.{◌≡◌, ◌+◌, ◌*◌, arith}
use Rattle.std.proofs.lemmas.Bool.{ltb-false}
use Rattle.medium.specs.Meaning.{capacity}
use Rattle.medium.proofs.Refusals.{none_of, refuse_none}
use Rattle.layers.specs.Window.{window_meaning, window_start}
use Rattle.layers.specs.Shown.{window_small}
use Rattle.layers.proofs.window.Window.lowered.Goals as goal

pub overflow_cast-result-2 : goal.overflow_cast-result-2
overflow_cast-result-2 g c =
    let m = g.M.Medium.meaning c.args.self.now.below in
    let r = c.args.self.now.run in
    let small = window_small m r (g.met.M.Medium.sound c.args.self.now.below) in
    let n = c.shown-shown.result.size.blocks * c.shown-shown.result.size.block_size in
    let inside = ltb-false n (c.args.place + c.args.length) (refuse_none _ _ _ (none_of _ _ c.in_ok-test_range.ensures)).0 in
    let room : n ≡ capacity (window_meaning m r) = cc in
    let start : c.start.result ≡ window_start m r = cc in
    omega arith
