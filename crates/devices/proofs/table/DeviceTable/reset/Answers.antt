use Rattle.std.proofs.Common.{◌*◌, refl}
use Rattle.devices.specs.Table.{table_pairs}
use Rattle.devices.proofs.Tables.{all_fresh}
use Rattle.devices.proofs.table.DeviceTable.reset.Goals as goal

pub returns : goal.returns
returns c =
    record {
      pairs = refl;
      chips = all_fresh c.new-device.result (2 * table_pairs c.args.self.now) 20 c.new-device.ensures;
    }
