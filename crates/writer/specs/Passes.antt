-- Passes over jobs, of which put and plan are made: the clauses of the functions inside.
use Rattle.std.specs.Prelude.{◌≡◌, ℕ, ◌+◌, ◌/◌, ◌^◌, ◌<◌, true, false, List, [], ◌∷◌, length, Result}
use Rattle.medium.specs.Meaning.{Meaning}
use Rattle.medium.specs.Jobs.{laid}
use Rattle.medium.specs.declared.fault.Fault.{Fault}
use Rattle.writer.specs.Jobs.{Job, Run, finished, run, Ran, counted, tally, word_at, wipe_of}
use Rattle.writer.specs.Blocks.{differing, jobs_by, jobs_for, block_at, last_met}
use Rattle.writer.specs.Put.{wanted_block, put_jobs, last_seen, put_buffer, CallDone}
use Rattle.writer.specs.declared.counts.Counts.{Counts}
use Rattle.writer.specs.declared.fault.WriterFault.{WriterFault}
use Rattle.writer.specs.declared.job.Job.{Job as Asked}
use Rattle.writer.specs.declared.job.Job.TheVariants.{Word, Wipe}

-- the job that a program asks for
abbrev pub job_of : Asked → Job
job_of (Word p v) = word_at p v
job_of (Wipe b) = wipe_of b

-- counts have room for n jobs more
abbrev pub Room : Counts → ℕ → Type 0
Room c n = c.wipes + c.words + n < 2 ^ 32

-- a pass over blocks does their jobs, as a put does, or only counts them, as a plan does
pub data Pass : Type 0 where
  doing : Pass
  counting : Pass

abbrev pub counted_all : List Job → Counts → Counts
counted_all [] c = c
counted_all (j ∷ js) c = counted_all js (counted j c)

-- a pass over jobs is a run of them, or it only counts them
abbrev pub passed : Pass → List Job → Meaning → Counts → Run
passed doing js m c = run js m c
passed counting js m c = finished m (counted_all js c)

-- a pass over js, from m with the counts c, answers r and leaves c' and m'
abbrev pub Passed : Pass → List Job → Meaning → Counts → Result (Unit {0}) Fault → Counts → Meaning → Type 0
Passed how js m c r c' m' = Ran (passed how js m c) r c' m'

-- the pass writes each word of the block at start, which holds old, that changes where the bytes ys are laid over it
abbrev pub TouchedPassed : Pass → ℕ → List ℕ → ℕ → List ℕ → Meaning → Counts → Result (Unit {0}) Fault → Counts → Meaning → Type 0
TouchedPassed how start old off ys m c r c' m' = Passed how (differing start false old (laid old off ys) 0 (length old / 2)) m c r c' m'

-- the pass writes in the wiped block at start each word of new other than FFFFH
abbrev pub BlankPassed : Pass → ℕ → List ℕ → Meaning → Counts → Result (Unit {0}) Fault → Counts → Meaning → Type 0
BlankPassed how start new m c r c' m' = Passed how (differing start true new new 0 (length new / 2)) m c r c' m'

-- the pass wipes block b and writes new there
abbrev pub WipedPassed : Pass → ℕ → List ℕ → Meaning → Counts → Result (Unit {0}) Fault → Counts → Meaning → Type 0
WipedPassed how b new m c r c' m' = Passed how (jobs_by true (length new) b new new) m c r c' m'

-- the pass brings block b to new, which the block buffer then shows
pub record BlockPassed (how : Pass) (b : ℕ) (new : List ℕ) (m : Meaning) (c : Counts) (r : Result (Unit {0}) Fault) (c' : Counts) (m' : Meaning)
    (shown : List ℕ) : Type 0 where
  pub ran : Passed how (jobs_for m.block_size b (block_at m.block_size m.bytes b) new) m c r c' m'
  pub shows : shown ≡ new

-- what block b holds with the bytes ys laid over it
abbrev pub laid_block : Meaning → ℕ → ℕ → List ℕ → List ℕ
laid_block m b off ys = laid (block_at m.block_size m.bytes b) off ys

-- the pass goes over the blocks that a range of bytes bs at p meets, of which the block buffer shows the last one looked at
pub record BlocksPassed (how : Pass) (p : ℕ) (bs : List ℕ) (m : Meaning) (c : Counts) (r : Result (Unit {0}) Fault) (c' : Counts) (m' : Meaning)
    (shown : List ℕ) : Type 0 where
  pub ran : Passed how (put_jobs m p bs) m c r c' m'
  pub shows : shown ≡ wanted_block m p bs (last_seen m.block_size (last_met m.block_size p (length bs)) (passed how (put_jobs m p bs) m c))

-- the same for a range that may be empty, with a buffer that may be longer than a block
pub record RangePassed (how : Pass) (p : ℕ) (bs buf : List ℕ) (m : Meaning) (c : Counts) (r : Result (Unit {0}) Fault) (c' : Counts) (m' : Meaning)
    (buf' : List ℕ) : Type 0 where
  pub ran : Passed how (put_jobs m p bs) m c r c' m'
  pub shows : buf' ≡ put_buffer m p bs buf (passed how (put_jobs m p bs) m c)

-- the same with put's tests, and the counts in the answer
abbrev pub PassDone : Pass → Meaning → ℕ → List ℕ → List ℕ → Result Counts WriterFault → Meaning → List ℕ → Type 0
PassDone how m p bs buf r m' buf' = CallDone (passed how (put_jobs m p bs) m (tally 0 0)) m p bs buf r m' buf'
