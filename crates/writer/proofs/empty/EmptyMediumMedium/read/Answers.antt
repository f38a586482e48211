use Rattle.std.proofs.Common.{◌≡◌, ◌+◌, false, ltb, length, refl, arith}
use Rattle.std.proofs.lemmas.Bool.{le-ltb}
use Rattle.writer.proofs.PlanBlock.{read_nothing}
use Rattle.writer.proofs.empty.EmptyMediumMedium.read.Goals as goal

pub returns : goal.returns
returns c =
    let p = c.args.place in
    let n = length c.args.buffer.now in
    let e : ltb 0 (p + n) ≡ false = le-ltb 0 (p + n) (omega arith) in
    record {
      answer = rw e;
      shown = read_nothing p c.args.buffer.now (omega arith) (omega arith);
      same = refl;
    }
