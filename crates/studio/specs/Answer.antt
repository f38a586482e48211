-- What the call answers.
use Rattle.std.specs.Prelude.{◌≡◌, ℕ, ◌+◌, ◌*◌, ◌/◌, ◌%◌, ◌^◌, ◌≤◌, Bool, ◌&&◌, List, length, Ok, Err, Result, ◌==◌, nat_le, nat_lt}
use Rattle.medium.specs.Limits.{BlockSize, most_blocks}
use Rattle.medium.specs.Meaning.{Meaning}
use Rattle.medium.specs.Faults.{listed}
use Rattle.medium.specs.declared.fault.Fault.{Fault}
use Rattle.medium.specs.declared.fault.Fault.TheVariants.{OffCard, NoSuchGeometry}
use Rattle.writer.specs.Jobs.{Job, tally, wipes_of, words_of}
use Rattle.writer.specs.Blocks.{listed_jobs, rising}
use Rattle.writer.specs.Put.{PutDone, plan_counts}
use Rattle.writer.specs.declared.counts.Counts.{Counts}

-- two lengths are equal, and those of whole blocks of n bytes, no more of them than a card has
abbrev pub Lengths : ℕ → ℕ → ℕ → Type 0
Lengths n present wanted = (wanted ≡ present) × ((k : ℕ) × ((k ≤ most_blocks) × (present ≡ k * n)))

-- a refusal, and counts, in one number of 64 bits
abbrev pub refusal_of : Fault → ℕ
refusal_of f = 2 ^ 63 + (listed f).number

abbrev pub pack : Counts → ℕ
pack c = c.wipes * 2 ^ 32 + c.words

abbrev pub number_of : Result Counts Fault → ℕ
number_of (Ok c) = pack c
number_of (Err f) = refusal_of f

-- for runs present and wanted, and blocks of n bytes, the call answers r
pub record Answered (present wanted : List ℕ) (n r : ℕ) : Type 0 where
  -- no block has so many bytes: 7
  pub no_such_size : (BlockSize n → ⊥) → r ≡ refusal_of NoSuchGeometry
  -- else, the runs are no contents of a card: 1
  pub off_card : BlockSize n → (Lengths n (length present) (length wanted) → ⊥) → r ≡ refusal_of (OffCard 0)
  -- else, what a plan answers over any medium with such blocks and these contents
  pub planned : BlockSize n → Lengths n (length present) (length wanted) →
      (m : Meaning) → m.block_size ≡ n → m.bytes ≡ present → r ≡ pack (plan_counts m 0 wanted)
  -- and so what every put over such a medium counts that finishes
  pub as_put : BlockSize n → Lengths n (length present) (length wanted) →
      (m m' : Meaning) (buf buf' : List ℕ) (c : Counts) → m.block_size ≡ n → m.bytes ≡ present → PutDone m 0 wanted buf (Ok c) m' buf' → r ≡ pack c

-- for the functions inside: the test of the lengths
abbrev pub whole_blocks : ℕ → ℕ → ℕ → Bool
whole_blocks n present wanted = present == wanted && (nat_lt 0 n && (present % n == 0 && nat_le (present / n) most_blocks))

-- the jobs of all blocks, and their counts
abbrev pub all_jobs : ℕ → List ℕ → List ℕ → List Job
all_jobs n present wanted = listed_jobs n present wanted (rising 0 (length present / n))

abbrev pub blocks_counted : ℕ → List ℕ → List ℕ → Counts
blocks_counted n present wanted = tally (wipes_of (all_jobs n present wanted)) (words_of (all_jobs n present wanted))
