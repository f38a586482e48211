use Rattle.std.proofs.Common.{◌^◌, sym, ◌∙◌, arith}
use Rattle.std.proofs.lemmas.List.{length-set, set_past}
use Rattle.medium.proofs.Below.{below_set}
use Rattle.medium.proofs.lives.LaneLives.give.Goals as goal

pub invariant_of-self : goal.invariant_of-self
invariant_of-self c =
    let self = c.args.self.now in
    record {
      long = length-set self.left c.args.block c.args.lives ∙ self.long;
      fit = below_set (2 ^ 32) c.args.block c.args.lives self.left (omega arith) self.fit;
    }

pub returns-else-block-lt-MOST_BLOCKS : goal.returns-else-block-lt-MOST_BLOCKS
returns-else-block-lt-MOST_BLOCKS c =
    sym (set_past c.args.self.now.left c.args.block c.args.lives (omega (arith, c.args.self.now.long)))
