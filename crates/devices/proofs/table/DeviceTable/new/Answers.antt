use Rattle.std.proofs.Common.{◌*◌, min}
use Rattle.medium.specs.Limits.{most_pairs}
use Rattle.devices.proofs.Tables.{all_fresh}
use Rattle.devices.proofs.table.DeviceTable.new.Goals as goal

pub returns-clause-chips : goal.returns-clause-chips
returns-clause-chips c = all_fresh c.new.result (2 * min c.args.pairs most_pairs) 20 c.new.ensures
