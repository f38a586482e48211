use Rattle.cases.proofs.Puts.{each_put}
use Rattle.cases.proofs.Pairs.{each_pair}
use Rattle.cases.proofs.table.worked_cases.Goals as goal

pub returns : goal.returns
returns c =
    let t = c.rows.result in
    let k = c.rows.ensures in
    record {
      sequence = k.sequence;
      puts = each_put t.on_one_card k.puts;
      from_third = k.from_third;
      worn = each_put t.with_worn_lanes k.worn;
      device = k.device;
      pairs = each_pair t.pairs k.pairs;
    }
