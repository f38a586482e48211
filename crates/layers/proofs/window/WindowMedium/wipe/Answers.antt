use Rattle.std.proofs.Common.{◌≡◌, ◌+◌, ◌<◌, refl, ap, ◌∙◌, subst}
use Rattle.medium.specs.Jobs.{WipeDone}
use Rattle.medium.proofs.Refusals.{block_found}
use Rattle.layers.specs.Window.{answer_from, shown_run, window_start}
use Rattle.layers.specs.Shown.{window_wipe, window_wipe_passed}
use Rattle.layers.proofs.window.WindowMedium.wipe.Goals as goal

pub returns : goal.returns
returns g c =
    let m = g.M.Medium.meaning c.args.self.now.below in
    let r = c.args.self.now.run in
    let sound = g.met.M.Medium.sound c.args.self.now.below in
    let b = c.args.block in
    let a = c.wipe.result in
    let m' = g.M.Medium.meaning c.wipe.new.self in
    let shown = c.shown-shown.ensures in
    let inside : b < (shown_run m r).count = subst (λ n. b < n) shown.count (block_found _ _ _ _ c.in_ok-find_block.ensures).0 in
    let done : WipeDone m ((shown_run m r).first + b) a m' = subst (λ k. WipeDone m (k + b) a m') shown.first c.wipe.ensures in
    let start : c.start.result ≡ window_start m r = cc in
    record {
      medium = window_wipe m sound r b a m' inside done _ (c.brought_back.ensures ∙ ap (λ i. answer_from i a) start);
      below = window_wipe_passed m sound r b a m' inside done;
      run = refl;
    }
