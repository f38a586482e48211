use Rattle.std.proofs.Common.{sym, ap, ◌∙◌, arith, rules}
use Rattle.devices.specs.Commands.{took, begins}
use Rattle.devices.proofs.Tables.{absent, absent_same, present, changed, fresh_begins}
use Rattle.devices.proofs.table.DeviceTable.take.Goals as goal

pub returns-then-i-count : goal.returns-then-i-count
returns-then-i-count c =
    let t = c.args.self.now in
    record {
      after = absent_same t c.args.i (omega arith) _;
      job = sym (ap (begins c.args.supply c.args.byte) (absent t c.args.i (omega arith)) ∙ fresh_begins c.args.supply c.args.byte);
    }

pub returns : goal.returns
returns c =
    let t = c.args.self.now in
    record {
      after = changed t c.args.i (omega arith) c.take.new.self (took c.args.supply c.args.byte) (search rules) c.take.ensures.after;
      job = c.take.ensures.job ∙ ap (begins c.args.supply c.args.byte) (sym (present t c.args.i (omega arith)));
    }
