use Rattle.std.proofs.Common.{◌≡◌, true, refl, ◌∙◌, rules, eq-eqb}
use lib.Count.{ones}
use Rattle.medium.proofs.Power.{limits_within}
use Rattle.medium.proofs.geometry.Geometry.new.Goals as goal

pub returns-then-not-is_power_of_two : goal.returns-then-not-is_power_of_two
returns-then-not-is_power_of_two c =
    let b = c.args.block_size in
    record {
      made = tt;
      refused = (
        refl,
        λ limits.
            let within = limits_within b c.args.blocks_per_pair c.args.pairs limits in
            let power : c.is_power_of_two.result ≡ true = c.is_power_of_two.ensures ∙ eq-eqb (ones b) 1 within.0.0 in
            search rules,
      );
    }
