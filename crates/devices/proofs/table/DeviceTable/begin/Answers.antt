use Rattle.std.proofs.Common.{min, arith, rules}
use Rattle.devices.specs.Chip.{longest_wait}
use Rattle.devices.specs.Commands.{begun}
use Rattle.devices.proofs.Tables.{absent_same, changed}
use Rattle.devices.proofs.table.DeviceTable.begin.Goals as goal

pub returns-then-i-count : goal.returns-then-i-count
returns-then-i-count c = absent_same c.args.self.now c.args.i (omega arith) _

pub returns : goal.returns
returns c =
    changed c.args.self.now c.args.i (omega arith) c.begin.new.self
    (begun c.args.job c.args.worn (min c.args.wait longest_wait)) (search rules) c.begin.ensures
