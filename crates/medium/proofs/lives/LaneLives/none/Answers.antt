use Rattle.std.proofs.Common.{ℕ, ◌^◌, arith}
use Rattle.std.proofs.lemmas.List.{length-replicate}
use Rattle.medium.specs.Limits.{most_blocks}
use Rattle.medium.proofs.Below.{below_replicate}
use Rattle.medium.proofs.lives.LaneLives.none.Goals as goal

pub invariant_of-result : goal.invariant_of-result
invariant_of-result c =
    record {
      long = length-replicate {A = ℕ} most_blocks 0;
      fit = below_replicate (2 ^ 32) 0 most_blocks (omega arith) (omega arith);
    }
