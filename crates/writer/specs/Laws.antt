-- What holds of every put and clear, and of plan, in the words of someone who uses them.
use Rattle.std.specs.Prelude.{◌≡◌, ℕ, ◌+◌, ◌-◌, ◌*◌, ◌/◌, ◌%◌, ◌<◌, ◌≤◌, Bool, false, cond, List, [], ◌∷◌, length, replicate, Ok, Err, sum, Result, bit_and, slice_index}
use Rattle.medium.specs.Meaning.{Meaning}
use Rattle.medium.specs.Faults.{listed}
use Rattle.medium.specs.Jobs.{laid}
use Rattle.medium.specs.declared.fault.Fault.{Fault}
use Rattle.writer.specs.Jobs.{Job, word_at, wipe_of, words_of, wipes_of, job_place, was_begun}
use Rattle.writer.specs.Blocks.{must_wipe}
use Rattle.writer.specs.Put.{wanted, PutDone}
use Rattle.writer.specs.declared.counts.Counts.{Counts}
use Rattle.writer.specs.declared.fault.WriterFault.{WriterFault}

-- a finished call leaves exactly the wanted contents
abbrev pub Holds : Meaning → ℕ → List ℕ → Result Counts WriterFault → Meaning → Type 0
Holds m p bs (Ok c) m' = m'.bytes ≡ wanted m p bs
Holds m p bs (Err e) m' = Unit {0}

-- a fault that stops a call at a job: locked, low supply or worn; a refusal of the call itself is none of these
abbrev pub ByJob : Fault → Type 0
ByJob f = (4 ≤ (listed f).number) × ((listed f).number ≤ 6)

-- the block of n bytes that holds a fault's place
abbrev pub faulty_block : ℕ → Fault → ℕ
faulty_block n f = (listed f).place / n

-- in block b, of a word fault at p, words before it are as wanted, and those after it are old, or FFFFH if the block was wiped
pub record WordsAround (n b : ℕ) (wiped : Bool) (old want xs : List ℕ) (p : ℕ) : Type 0 where
  pub before : (i : ℕ) → b * n ≤ i → i < p → slice_index xs i ≡ slice_index want i
  pub after : (i : ℕ) → p + 2 ≤ i → i < b * n + n → slice_index xs i ≡ cond wiped 255 (slice_index old i)

abbrev pub InBlock : ℕ → ℕ → List ℕ → List ℕ → List ℕ → Job → Type 0
InBlock n b old want xs (word_at p v) = WordsAround n b (must_wipe n old want b) old want xs p
InBlock n b old want xs (wipe_of b') = Unit {0}

-- contents xs, once old, of blocks of n bytes that were to hold want, after a job met the fault f
pub record Halted (n : ℕ) (old want xs : List ℕ) (f : Fault) : Type 0 where
  -- the job, whose place the fault has: a word's own, or the first of the block to wipe
  pub job : Job
  pub place : (listed f).place ≡ job_place n job
  -- earlier blocks are as wanted, and later ones as they were
  pub earlier : (i : ℕ) → i < faulty_block n f * n → slice_index xs i ≡ slice_index want i
  pub later : (i : ℕ) → faulty_block n f * n + n ≤ i → slice_index xs i ≡ slice_index old i
  pub words : InBlock n (faulty_block n f) old want xs job
  -- where the job was refused, the whole block is as it was
  pub refused : was_begun (Err f) ≡ false → (i : ℕ) → faulty_block n f * n ≤ i → i < faulty_block n f * n + n → slice_index xs i ≡ slice_index old i

-- what stands where after a call that a job stopped
abbrev pub Stops : Meaning → ℕ → List ℕ → Result Counts WriterFault → Meaning → Type 0
Stops m p bs (Ok c) m' = Unit {0}
Stops m p bs (Err e) m' = ByJob e.fault → Halted m.block_size m.bytes (wanted m p bs) m'.bytes e.fault

-- what a successful job makes of the contents: both lanes do their part, and lock, supply and lives don't limit it
abbrev pub effect : ℕ → Job → List ℕ → List ℕ
effect n (word_at p v) xs = laid xs p (bit_and (slice_index xs p) (v % 256) ∷ bit_and (slice_index xs (p + 1)) (v / 256) ∷ [])
effect n (wipe_of b) xs = laid xs (b * n) (replicate n 255)

abbrev pub effects : ℕ → List Job → List ℕ → List ℕ
effects n [] xs = xs
effects n (j ∷ js) xs = effects n js (effect n j xs)

-- the job lies on a medium of len bytes, a word at an even place
abbrev pub Fits : ℕ → ℕ → Job → Type 0
Fits n len (word_at p v) = (p % 2 ≡ 0) × (p + 2 ≤ len)
Fits n len (wipe_of b) = b * n + n ≤ len

abbrev pub AllFit : ℕ → ℕ → List Job → Type 0
AllFit n len [] = Unit {0}
AllFit n len (j ∷ js) = Fits n len j × AllFit n len js

-- no list of successful jobs from the contents before a finished call to those after it has fewer wipes, or fewer words, than it answered
abbrev pub Fewest : Meaning → Result Counts WriterFault → Meaning → Type 0
Fewest m (Ok c) m' =
    (js : List Job) → AllFit m.block_size (length m.bytes) js → effects m.block_size js m.bytes ≡ m'.bytes →
    (c.wipes ≤ wipes_of js) × (c.words ≤ words_of js)
Fewest m (Err e) m' = Unit {0}

-- the lives left on all lanes
abbrev pub lives : Meaning → ℕ
lives m = sum m.even_lives + sum m.odd_lives

-- how many lanes a fault names as worn
abbrev pub named : Fault → ℕ
named f = cond (listed f).even 1 0 + cond (listed f).odd 1 0

-- the jobs begun, and the lanes named, as an answer has them
abbrev pub jobs_told : Result Counts WriterFault → ℕ
jobs_told (Ok c) = c.wipes + c.words
jobs_told (Err e) = e.wipes + e.words

abbrev pub lanes_told : Result Counts WriterFault → ℕ
lanes_told (Ok c) = 0
lanes_told (Err e) = named e.fault

-- lives lost and lanes named are two for each job begun
pub record Accounted (m : Meaning) (r : Result Counts WriterFault) (m' : Meaning) : Type 0 where
  pub none_won : lives m' ≤ lives m
  pub account : lives m - lives m' + lanes_told r ≡ 2 * jobs_told r

-- a plan's counts are those of every put of the same bytes over the same contents that finishes, whatever its locks, supply and lives
abbrev pub AsPut : Meaning → ℕ → List ℕ → Result Counts WriterFault → Type 0
AsPut m p bs (Ok c) =
    (m₁ m₁' : Meaning) (buf buf' : List ℕ) (d : Counts) → m₁.block_size ≡ m.block_size → m₁.bytes ≡ m.bytes →
    PutDone m₁ p bs buf (Ok d) m₁' buf' → d ≡ c
AsPut m p bs (Err e) = Unit {0}
