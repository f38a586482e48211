-- What put, clear and plan answer, and what they leave on the medium and in the buffer. Take is the medium's read (ReadDone).
use Rattle.std.specs.Prelude.{◌≡◌, ℕ, ◌+◌, ◌*◌, ◌%◌, Bool, cond, ◌&&◌, List, [], ◌∷◌, length, replicate, Some, None, Ok, Err, Option, Result, ◌==◌, nat_le, nat_lt}
use Rattle.medium.specs.Meaning.{Meaning, capacity}
use Rattle.medium.specs.Jobs.{refuse_if, laid}
use Rattle.medium.specs.declared.fault.Fault.{Fault}
use Rattle.medium.specs.declared.fault.Fault.TheVariants.{OffCard, ShortBuffer}
use Rattle.writer.specs.Jobs.{Job, Run, finished, stopped, run, Left, job_block, tally, wipes_of, words_of}
use Rattle.writer.specs.Blocks.{listed_jobs, jobs_for, block_at, last_met, blocks_met}
use Rattle.writer.specs.declared.counts.Counts.{Counts}
use Rattle.writer.specs.declared.fault.WriterFault.{WriterFault}

-- the refusal of a put of n bytes at p with a buffer of so many, or none: it tests the range, then the buffer
abbrev pub put_refusal : Meaning → ℕ → ℕ → ℕ → Option Fault
put_refusal m p n room =
    refuse_if (nat_lt (capacity m) (p + n)) (OffCard p)
    (refuse_if (nat_lt room m.block_size) (ShortBuffer p) None)

-- the wanted contents: the present ones with the bytes laid over
abbrev pub wanted : Meaning → ℕ → List ℕ → List ℕ
wanted m p bs = laid m.bytes p bs

-- what block b is to hold
abbrev pub wanted_block : Meaning → ℕ → List ℕ → ℕ → List ℕ
wanted_block m p bs b = block_at m.block_size (wanted m p bs) b

-- the jobs of a put: those of the blocks that the range meets, rising
abbrev pub put_jobs : Meaning → ℕ → List ℕ → List Job
put_jobs m p bs = listed_jobs m.block_size m.bytes (wanted m p bs) (blocks_met m.block_size p (length bs))

abbrev pub put_run : Meaning → ℕ → List ℕ → Run
put_run m p bs = run (put_jobs m p bs) m (tally 0 0)

-- the run of a plan: nothing is done, and all jobs are counted
abbrev pub plan_counts : Meaning → ℕ → List ℕ → Counts
plan_counts m p bs = tally (wipes_of (put_jobs m p bs)) (words_of (put_jobs m p bs))

abbrev pub plan_run : Meaning → ℕ → List ℕ → Run
plan_run m p bs = finished m (plan_counts m p bs)

-- the writer's fault: the medium's, and the jobs begun
abbrev pub failed : Fault → Counts → WriterFault
failed f c = record { fault = f; wipes = c.wipes; words = c.words }

abbrev pub call_answer : Run → Result Counts WriterFault
call_answer (finished m c) = Ok c
call_answer (stopped m j f c) = Err (failed f c)

-- the block of n bytes that a run looked at last
abbrev pub last_seen : ℕ → ℕ → Run → ℕ
last_seen n last (finished m c) = last
last_seen n last (stopped m j f c) = job_block n j

-- the buffer after the run R: its front shows the wanted contents of the block looked at last; an empty range leaves it
abbrev pub put_buffer : Meaning → ℕ → List ℕ → List ℕ → Run → List ℕ
put_buffer m p [] buf R = buf
put_buffer m p (x ∷ bs) buf R =
    laid buf 0 (wanted_block m p (x ∷ bs) (last_seen m.block_size (last_met m.block_size p (length (x ∷ bs))) R))

-- refused with f: nothing begun, nothing changed
pub record Refused (f : Fault) (m : Meaning) (buf : List ℕ) (r : Result Counts WriterFault) (m' : Meaning) (buf' : List ℕ) : Type 0 where
  pub answer : r ≡ Err (failed f (tally 0 0))
  pub same : m' ≡ m
  pub untouched : buf' ≡ buf

-- accepted, with the run R
pub record Accepted (R : Run) (m : Meaning) (p : ℕ) (bs buf : List ℕ) (r : Result Counts WriterFault) (m' : Meaning) (buf' : List ℕ) : Type 0 where
  pub answer : r ≡ call_answer R
  pub left : Left R m'
  pub shown : buf' ≡ put_buffer m p bs buf R

-- a call that tests as put does, and then makes the run R
pub record CallDone (R : Run) (m : Meaning) (p : ℕ) (bs buf : List ℕ) (r : Result Counts WriterFault) (m' : Meaning) (buf' : List ℕ) : Type 0 where
  pub refused : (f : Fault) → put_refusal m p (length bs) (length buf) ≡ Some f → Refused f m buf r m' buf'
  pub accepted : put_refusal m p (length bs) (length buf) ≡ None → Accepted R m p bs buf r m' buf'

-- a put of bs at p with the buffer buf answers r, and leaves m' and buf'
abbrev pub PutDone : Meaning → ℕ → List ℕ → List ℕ → Result Counts WriterFault → Meaning → List ℕ → Type 0
PutDone m p bs buf r m' buf' = CallDone (put_run m p bs) m p bs buf r m' buf'

-- a plan of the same
abbrev pub PlanDone : Meaning → ℕ → List ℕ → List ℕ → Result Counts WriterFault → Meaning → List ℕ → Type 0
PlanDone m p bs buf r m' buf' = CallDone (plan_run m p bs) m p bs buf r m' buf'

-- a clear of k blocks from block b on is a put of FFH over them
abbrev pub clear_place : Meaning → ℕ → ℕ
clear_place m b = b * m.block_size

abbrev pub clear_bytes : Meaning → ℕ → List ℕ
clear_bytes m k = replicate (k * m.block_size) 255

abbrev pub ClearDone : Meaning → ℕ → ℕ → List ℕ → Result Counts WriterFault → Meaning → List ℕ → Type 0
ClearDone m b k buf r m' buf' = PutDone m (clear_place m b) (clear_bytes m k) buf r m' buf'

-- contents that one block may have and others that it may be brought to: of one length, whole words, and no more than the largest block has
abbrev pub of_one_block : List ℕ → List ℕ → Bool
of_one_block old new = length new == length old && (length old % 2 == 0 && nat_le (length old) 131072)

-- the counts of the jobs that bring one block from old to new contents: they are the same wherever the block lies
abbrev pub block_counts : List ℕ → List ℕ → Counts
block_counts old new = tally (wipes_of (jobs_for (length old) 0 old new)) (words_of (jobs_for (length old) 0 old new))

abbrev pub block_plan : List ℕ → List ℕ → Option Counts
block_plan old new = cond (of_one_block old new) (Some (block_counts old new)) None
