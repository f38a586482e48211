use Rattle.std.proofs.Common.{refl}
use Rattle.layers.specs.Shown.{window_word, window_word_passed}
use Rattle.layers.proofs.window.WindowMedium.write_word.Goals as goal

pub returns : goal.returns
returns g c =
    let r = c.args.self.now.run in
    let sound = g.met.M.Medium.sound c.args.self.now.below in
    record {
      medium = window_word _ sound r _ _ _ _ _ c.in_ok-at.ensures c.write_word.ensures _ c.brought_back.ensures;
      below = window_word_passed _ sound r _ _ _ _ _ c.in_ok-at.ensures c.write_word.ensures;
      run = refl;
    }
