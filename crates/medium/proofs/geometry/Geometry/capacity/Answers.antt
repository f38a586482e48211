use Rattle.std.proofs.Common.{arith}
use Rattle.std.proofs.lemmas.Nat.{mul-le}
use Rattle.medium.specs.Limits.{most_blocks}
use Rattle.medium.proofs.geometry.Geometry.capacity.Goals as goal

pub overflow_mul-result : goal.overflow_mul-result
overflow_mul-result c =
    omega (arith, mul-le c.blocks-2.result c.args.self.block_size most_blocks 131072 c.blocks-2.ensures.few (omega arith))
