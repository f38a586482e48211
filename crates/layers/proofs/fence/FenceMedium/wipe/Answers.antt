use Rattle.std.proofs.Common.{◌≡◌, Some, Err, refl, ap, sym, ◌∙◌, subst, rules}
use Rattle.medium.specs.Jobs.{wipe_refusal, WipeBegun, WipeDone}
use Rattle.medium.proofs.Done.{wipe_refused}
use Rattle.layers.specs.Fence.{of_fence, stops_wipe}
use Rattle.layers.specs.PassedLemmas.{not_passed, refused_by, let_by}
use Rattle.layers.specs.Fenced.{wipe_stopped, fence_wipe, fence_wipe_passed}
use Rattle.layers.proofs.fence.FenceMedium.wipe.Goals as goal

pub returns-in_err-test_wipe_mark : goal.returns-in_err-test_wipe_mark
returns-in_err-test_wipe_mark g c =
    let m = g.M.Medium.meaning c.args.self.now.below in
    let sound = g.met.M.Medium.sound c.args.self.now.below in
    let f = of_fence g.M.Medium.meaning c.args.self.now in
    let fault = c.in_err-test_wipe_mark.field-0.0 in
    let (on, same) = refused_by _ _ _ c.in_err-test_wipe_mark.ensures in
    let stopped : wipe_refusal f c.args.block ≡ Some fault = wipe_stopped m sound c.args.self.now.marks.marked c.args.block on ∙ ap Some same in
    let told : c.from_residual.result ≡ Err fault = search rules in
    record {
      medium = subst (λ a. WipeDone f c.args.block a f) (sym told) (wipe_refused f c.args.block fault stopped);
      below = not_passed (wipe_refusal f c.args.block) m (WipeBegun m c.args.block) fault stopped;
      marks = refl;
    }

pub returns : goal.returns
returns g c =
    let m = g.M.Medium.meaning c.args.self.now.below in
    let sound = g.met.M.Medium.sound c.args.self.now.below in
    let free = let_by (stops_wipe m c.args.self.now.marks.marked c.args.block) _ _ c.in_ok-test_wipe_mark.ensures in
    record {
      medium = fence_wipe m sound _ _ _ _ free c.wipe.ensures;
      below = fence_wipe_passed m sound _ _ _ _ free c.wipe.ensures;
      marks = refl;
    }
