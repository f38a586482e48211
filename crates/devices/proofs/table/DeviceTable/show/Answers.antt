use Rattle.std.proofs.Common.{sym, ap, ◌∙◌, arith, rules}
use Rattle.devices.specs.Chip.{Chip, shows, was_read}
use Rattle.devices.proofs.Tables.{absent, absent_same, present, changed}
use Rattle.devices.proofs.table.DeviceTable.show.Goals as goal

pub returns-then-i-count : goal.returns-then-i-count
returns-then-i-count c =
    let t = c.args.self.now in
    record {
      shown = ap (λ (d : Chip). shows d c.args.place c.args.held) (sym (absent t c.args.i (omega arith)));
      after = absent_same t c.args.i (omega arith) _;
    }

pub returns : goal.returns
returns c =
    let t = c.args.self.now in
    record {
      shown = c.show.ensures.shown ∙ ap (λ (d : Chip). shows d c.args.place c.args.held) (sym (present t c.args.i (omega arith)));
      after = changed t c.args.i (omega arith) c.show.new.self was_read (search rules) c.show.ensures.after;
    }
