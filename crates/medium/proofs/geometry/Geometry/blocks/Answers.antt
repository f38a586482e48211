use Rattle.std.proofs.Common.{refl, arith}
use Rattle.std.proofs.lemmas.Nat.{mul-le}
use Rattle.medium.specs.Limits.{most_per_pair, most_pairs}
use Rattle.medium.proofs.geometry.Geometry.blocks.Goals as goal

pub returns : goal.returns
returns c =
    record {
      value = refl;
      few = mul-le c.args.self.blocks_per_pair c.args.self.pairs most_per_pair most_pairs (omega arith) (omega arith);
    }
