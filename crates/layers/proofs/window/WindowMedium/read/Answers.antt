use Rattle.std.proofs.Common.{refl}
use Rattle.layers.specs.Shown.{window_read}
use Rattle.layers.proofs.window.WindowMedium.read.Goals as goal

pub returns : goal.returns
returns g c =
    let sound = g.met.M.Medium.sound c.args.self.now.below in
    record {
      medium = window_read _ sound c.args.self.now.run _ _ _ _ _ _ c.in_ok-at.ensures c.read.ensures;
      below = c.read.ensures.same;
      run = refl;
    }
