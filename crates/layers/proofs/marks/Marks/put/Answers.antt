use Rattle.std.proofs.Common.{sym, arith}
use Rattle.std.proofs.lemmas.List.{set_past}
use Rattle.layers.proofs.marks.Marks.put.Goals as goal

pub returns-else-block-lt-MOST_BLOCKS : goal.returns-else-block-lt-MOST_BLOCKS
returns-else-block-lt-MOST_BLOCKS c =
    sym (set_past c.args.self.now.marked c.args.block c.args.on (omega (arith, c.args.self.now.long)))
