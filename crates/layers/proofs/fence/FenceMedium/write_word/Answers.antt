use Rattle.std.proofs.Common.{◌≡◌, Some, Err, refl, ap, sym, ◌∙◌, subst, rules}
use Rattle.medium.specs.Jobs.{word_refusal, WordBegun, WordDone}
use Rattle.medium.proofs.Done.{word_refused}
use Rattle.layers.specs.Fence.{of_fence, stops_word}
use Rattle.layers.specs.PassedLemmas.{not_passed, refused_by, let_by}
use Rattle.layers.specs.Fenced.{word_stopped, fence_word, fence_word_passed}
use Rattle.layers.proofs.fence.FenceMedium.write_word.Goals as goal

pub returns-in_err-test_word_mark : goal.returns-in_err-test_word_mark
returns-in_err-test_word_mark g c =
    let m = g.M.Medium.meaning c.args.self.now.below in
    let sound = g.met.M.Medium.sound c.args.self.now.below in
    let f = of_fence g.M.Medium.meaning c.args.self.now in
    let fault = c.in_err-test_word_mark.field-0.0 in
    let (on, same) = refused_by _ _ _ c.in_err-test_word_mark.ensures in
    let stopped : word_refusal f c.args.place ≡ Some fault = word_stopped m sound c.args.self.now.marks.marked c.args.place on ∙ ap Some same in
    let told : c.from_residual.result ≡ Err fault = search rules in
    record {
      medium = subst (λ a. WordDone f c.args.place c.args.word a f) (sym told) (word_refused f c.args.place c.args.word fault stopped);
      below = not_passed (word_refusal f c.args.place) m (WordBegun m c.args.place c.args.word) fault stopped;
      marks = refl;
    }

pub returns : goal.returns
returns g c =
    let m = g.M.Medium.meaning c.args.self.now.below in
    let sound = g.met.M.Medium.sound c.args.self.now.below in
    let free = let_by (stops_word m c.args.self.now.marks.marked c.args.place) _ _ c.in_ok-test_word_mark.ensures in
    record {
      medium = fence_word m sound _ _ _ _ _ free c.write_word.ensures;
      below = fence_word_passed m sound _ _ _ _ _ free c.write_word.ensures;
      marks = refl;
    }
