-- Jobs, and runs of them.
use Rattle.std.specs.Prelude.{◌≡◌, ℕ, ◌+◌, ◌*◌, ◌/◌, Bool, true, List, [], ◌∷◌, replicate, Some, None, Ok, Err, Option, Result, ◌==◌}
use Rattle.medium.specs.Meaning.{Meaning}
use Rattle.medium.specs.Faults.{listed}
use Rattle.medium.specs.Jobs.{word_fault, wipe_fault, word_after, wipe_after, WordDone, WipeDone, word_refusal, wipe_refusal}
use Rattle.medium.specs.declared.fault.Fault.{Fault}
use Rattle.writer.specs.declared.counts.Counts.{Counts}

-- the write of a word at a place, or the wipe of a block
pub data Job : Type 0 where
  word_at : (place word : ℕ) → Job
  wipe_of : (block : ℕ) → Job

-- the place that a job's fault has, and the job's block, where blocks have n bytes
abbrev pub job_place : ℕ → Job → ℕ
job_place n (word_at p v) = p
job_place n (wipe_of b) = b * n

abbrev pub job_block : ℕ → Job → ℕ
job_block n (word_at p v) = p / n
job_block n (wipe_of b) = b

-- why a job is not begun, or what fault it has, or none
abbrev pub job_refusal : Meaning → Job → Option Fault
job_refusal m (word_at p v) = word_refusal m p
job_refusal m (wipe_of b) = wipe_refusal m b

abbrev pub job_fault : Meaning → Job → Option Fault
job_fault m (word_at p v) = word_fault m p
job_fault m (wipe_of b) = wipe_fault m b

-- what a job leaves, with the answer r
abbrev pub JobDone : Meaning → Job → Result (Unit {0}) Fault → Meaning → Type 0
JobDone m (word_at p v) r m' = WordDone m p v r m'
JobDone m (wipe_of b) r m' = WipeDone m b r m'

-- what a job leaves that both lanes do
abbrev pub job_good : Meaning → Job → Meaning
job_good m (word_at p v) = word_after m p v 0 0
job_good m (wipe_of b) = wipe_after m b (replicate m.block_size 255)

-- whether the job with this answer was begun: of all faults only 6 is that of a begun job
abbrev pub was_begun : Result (Unit {0}) Fault → Bool
was_begun (Ok u) = true
was_begun (Err f) = (listed f).number == 6

-- wipes and words
abbrev pub tally : ℕ → ℕ → Counts
tally w d = record { wipes = w; words = d }

abbrev pub wipes_in : Job → ℕ
wipes_in (word_at p v) = 0
wipes_in (wipe_of b) = 1

abbrev pub words_in : Job → ℕ
words_in (word_at p v) = 1
words_in (wipe_of b) = 0

abbrev pub wipes_of : List Job → ℕ
wipes_of [] = 0
wipes_of (j ∷ js) = wipes_in j + wipes_of js

abbrev pub words_of : List Job → ℕ
words_of [] = 0
words_of (j ∷ js) = words_in j + words_of js

-- counts with one more job, which counts unless it was refused
abbrev pub counted : Job → Counts → Counts
counted (word_at p v) c = tally c.wipes (c.words + 1)
counted (wipe_of b) c = tally (c.wipes + 1) c.words

abbrev pub counted_unless : Option Fault → Job → Counts → Counts
counted_unless (Some f) j c = c
counted_unless None j c = counted j c

-- jobs one after the other: all of them done, or stopped before what follows the first that was refused or met a worn lane;
-- the meaning is then that before this job
pub data Run : Type 0 where
  finished : Meaning → Counts → Run
  stopped : Meaning → Job → Fault → Counts → Run

-- a run that begins with the job j, by its fault or none, and goes on as rest
abbrev pub onward : Option Fault → Meaning → Job → Counts → Run → Run
onward (Some f) m j c rest = stopped m j f (counted_unless (job_refusal m j) j c)
onward None m j c rest = rest

abbrev pub run : List Job → Meaning → Counts → Run
run [] m c = finished m c
run (j ∷ js) m c = onward (job_fault m j) m j c (run js (job_good m j) (counted j c))

-- what a run answers, what it counted, and what it leaves: of this only a worn lane's bytes are free
abbrev pub run_answer : Run → Result (Unit {0}) Fault
run_answer (finished m c) = Ok tt
run_answer (stopped m j f c) = Err f

abbrev pub run_counts : Run → Counts
run_counts (finished m c) = c
run_counts (stopped m j f c) = c

abbrev pub Left : Run → Meaning → Type 0
Left (finished m c) m' = m' ≡ m
Left (stopped m j f c) m' = JobDone m j (Err f) m'

pub record Ran (R : Run) (r : Result (Unit {0}) Fault) (c : Counts) (m' : Meaning) : Type 0 where
  pub answer : r ≡ run_answer R
  pub counts : c ≡ run_counts R
  pub left : Left R m'
