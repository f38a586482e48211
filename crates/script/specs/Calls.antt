-- What the commands on a medium leave and answer.
use Rattle.std.specs.Prelude.{ℕ, List, vec_items, Result}
use Rattle.medium.specs.Meaning.{Meaning}
use Rattle.writer.specs.Put.{PutDone, PlanDone, ClearDone}
use Rattle.writer.specs.declared.counts.Counts.{Counts}
use Rattle.writer.specs.declared.fault.WriterFault.{WriterFault}
use Rattle.script.specs.declared.command.WriterCall.{WriterCall}
use Rattle.script.specs.declared.command.WriterCall.TheVariants.{Put, Plan, Clear}

-- a call of the writer on m with a buffer answers r, and leaves m' and the buffer buf'
abbrev pub WriteDone : WriterCall → Meaning → List ℕ → Result Counts WriterFault → Meaning → List ℕ → Type 0
WriteDone (Put p v) m buf r m' buf' = PutDone m p (vec_items v) buf r m' buf'
WriteDone (Plan p v) m buf r m' buf' = PlanDone m p (vec_items v) buf r m' buf'
WriteDone (Clear b k) m buf r m' buf' = ClearDone m b k buf r m' buf'
