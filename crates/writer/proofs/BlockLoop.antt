-- The loop over the blocks that a range meets.
use Rattle.std.proofs.Common.{◌≡◌, ℕ, suc, ◌+◌, ◌-◌, ◌*◌, ◌/◌, ◌<◌, ◌≤◌, List, ◌++◌, length, get_or, Ok, Err, Result, sym, refl, ap, ◌∙◌, subst, arith}
use Rattle.medium.specs.Meaning.{Meaning, Sound, capacity}
use Rattle.medium.specs.Jobs.{laid}
use Rattle.medium.specs.declared.fault.Fault.{Fault}
use Rattle.medium.proofs.Sizes.{size_even, size_two}
use Rattle.writer.specs.Jobs.{Job, Ran, Run, finished}
use Rattle.writer.specs.Blocks.{block_at, block_jobs, jobs_for, last_met, listed_jobs, must_wipe, rising}
use Rattle.writer.specs.Put.{last_seen, put_jobs, wanted, wanted_block}
use Rattle.writer.specs.Passes.{BlockPassed, BlocksPassed, Passed, passed, Pass}
use Rattle.writer.specs.declared.counts.Counts.{Counts}
use Rattle.writer.proofs.Sizes.{block_within, first_last, in_range, met_some, some_size}
use Rattle.writer.specs.Source.{piece}
use Rattle.writer.proofs.Parts.{part_laid, part_same}
use Rattle.writer.proofs.Words.{length_jobs}
use Rattle.writer.proofs.Runs.{jobs, pass_count, pass_none, ran_left, turn_ok, turn_stops}
use Rattle.writer.proofs.Frames.{PassedIn, all_on, finished_in, pass_in, stopped_in}

-- the jobs of the blocks that a range of bytes ys at p meets, from block b on
abbrev pub jobs_from : Meaning → ℕ → List ℕ → ℕ → List Job
jobs_from m p ys b = listed_jobs m.block_size m.bytes (wanted m p ys) (rising b (last_met m.block_size p (length ys) + 1 - b))

-- the last block as a program computes it
pub last_computed : (n size p len end : ℕ) → n ≡ size → end ≡ p + len → (end - 1) / n ≡ last_met size p len
last_computed n size p len end e f = rw (e, f)

-- from block b on all is as it was before the loop, which began with m₀ and c₀, and the blocks left give its whole run
pub record BlocksLeft (how : Pass) (p : ℕ) (ys : List ℕ) (m₀ : Meaning) (c₀ : Counts) (b : ℕ) (m : Meaning) (c : Counts) (shown : List ℕ) : Type 0 where
  pub gives : passed how (jobs_from m₀ p ys b) m c ≡ passed how (put_jobs m₀ p ys) m₀ c₀
  pub size : m.block_size ≡ m₀.block_size
  pub count : m.blocks ≡ m₀.blocks
  pub long : length m.bytes ≡ length m₀.bytes
  pub past : (i : ℕ) → b * m₀.block_size ≤ i → get_or m.bytes i 0 ≡ get_or m₀.bytes i 0
  pub few : jobs c ≤ jobs c₀ + b * m₀.block_size
  pub shows : p / m₀.block_size < b → shown ≡ wanted_block m₀ p ys (b - 1)

module _ (p : ℕ) (ys : List ℕ) (m₀ : Meaning) (s : Sound m₀) (within : p + length ys ≤ capacity m₀) (some : 0 < length ys) where
  abbrev size₀ : ℕ
  size₀ = m₀.block_size

  abbrev last : ℕ
  last = last_met size₀ p (length ys)

  whole : jobs_from m₀ p ys (p / size₀) ≡ put_jobs m₀ p ys
  whole = ap (λ (k : ℕ). listed_jobs size₀ m₀.bytes (wanted m₀ p ys) (rising (p / size₀) k)) (sym (met_some size₀ p (length ys) some))

  pub blocks_start : {how : Pass} {c₀ : Counts} {shown : List ℕ} → BlocksLeft how p ys m₀ c₀ (p / size₀) m₀ c₀ shown
  blocks_start {how} {c₀} = record {
    gives = ap (λ (z : List Job). passed how z m₀ c₀) whole;
    size = refl;
    count = refl;
    long = refl;
    past = λ i _. refl;
    few = omega arith;
    shows = λ h. absurd (omega arith);
  }

  module _ {how : Pass} {c₀ : Counts} {b : ℕ} {m : Meaning} {c : Counts} {shown : List ℕ} (left : BlocksLeft how p ys m₀ c₀ b m c shown) where
    -- no block is left
    pub blocks_end : p / size₀ ≤ b → b ≡ last + 1 → BlocksPassed how p ys m₀ c₀ (Ok tt) c m shown
    blocks_end low e =
        let z : last + 1 - b ≡ 0 = omega arith in
        let done : finished m c ≡ passed how (put_jobs m₀ p ys) m₀ c₀ = sym (pass_none how m c) ∙ rw z at left.gives in
        let o = first_last size₀ p (length ys) (some_size m₀ s) some in
        let top : b - 1 ≡ last = omega arith in
        record {
          ran = subst (λ (R : Run). Ran R (Ok tt) c m) done (ran_left m (finished m c) refl);
          shows = left.shows (omega arith)
              ∙ (ap (wanted_block m₀ p ys) top ∙ ap (λ (R : Run). wanted_block m₀ p ys (last_seen size₀ last R)) done);
        }

    -- block b is next
    module _ (low : p / size₀ ≤ b) (high : b < last + 1) where
      pub placed : (b < m₀.blocks) × (p < b * size₀ + size₀) × (b * size₀ < p + length ys)
      placed = in_range size₀ p (length ys) b m₀.blocks (some_size m₀ s) some within low high

      inside : b * size₀ + size₀ ≤ length m₀.bytes
      inside = let q = block_within m₀ size₀ b refl placed.0 in let f = s.filled in omega arith

      -- it holds what it held, and is to hold what it was to hold
      same_part : block_at size₀ m.bytes b ≡ block_at size₀ m₀.bytes b
      same_part = part_same m₀.bytes m.bytes (b * size₀) size₀ inside left.long (λ i l _. left.past i l)

      same_wanted : block_at size₀ (wanted m p ys) b ≡ wanted_block m₀ p ys b
      same_wanted =
          let f = s.filled in
          let l = left.long in
          let i = inside in
          part_laid m.bytes ys (b * size₀) size₀ p (omega arith) (omega arith) placed.1 placed.2
          ∙ (ap (λ (z : List ℕ). laid z (p - b * size₀) (piece ys p (b * size₀) size₀)) same_part
          ∙ sym (part_laid m₀.bytes ys (b * size₀) size₀ p i (omega arith) placed.1 placed.2))

      here : List Job
      here = block_jobs size₀ m₀.bytes (wanted m₀ p ys) b

      rest : List Job
      rest = jobs_from m₀ p ys (b + 1)

      turn : jobs_from m₀ p ys b ≡ here ++ rest
      unfolding here rest
      turn = let e : last + 1 - b ≡ suc (last + 1 - (b + 1)) = omega arith in rw e

      framed_here : PassedIn size₀ b m (passed how here m c)
      unfolding here
      framed_here =
          let l = left.long in
          let i = inside in
          pass_in how size₀ b here m c (all_on size₀ b (block_at size₀ m₀.bytes b) (block_at size₀ (wanted m₀ p ys) b) (size_even size₀ s.power)) left.size
          (omega arith)

      -- what the pass over the block answered and left
      module _ {r : Result (Unit {0}) Fault} {c' : Counts} {m' : Meaning} {shown' : List ℕ}
          (done : BlockPassed how b (wanted_block m p ys b) m c r c' m' shown') where
        ran_here : Passed how here m c r c' m'
        unfolding here
        ran_here =
            subst (λ (new : List ℕ). Passed how (jobs_for size₀ b (block_at size₀ m₀.bytes b) new) m c r c' m') same_wanted
            (subst (λ (old : List ℕ). Passed how (jobs_for size₀ b old (block_at size₀ (wanted m p ys) b)) m c r c' m') same_part
            (subst (λ (n : ℕ). Passed how (jobs_for n b (block_at n m.bytes b) (block_at n (wanted m p ys) b)) m c r c' m') left.size done.ran))

        shows_here : shown' ≡ wanted_block m₀ p ys b
        shows_here = done.shows ∙ (ap (λ (n : ℕ). block_at n (wanted m p ys) b) left.size ∙ same_wanted)

      -- it finished
      pub blocks_again : {c' : Counts} {m' : Meaning} {shown' : List ℕ} → BlockPassed how b (wanted_block m p ys b) m c (Ok tt) c' m' shown' →
          BlocksLeft how p ys m₀ c₀ (b + 1) m' c' shown'
      unfolding here rest
      blocks_again {c'} {m'} {shown'} done =
          let ran = ran_here done in
          let k = finished_in size₀ b m (passed how here m c) c' m' framed_here ran in
          let e : (b + 1) * size₀ ≡ b * size₀ + size₀ = omega arith in
          let z : b + 1 - 1 ≡ b = omega arith in
          let n = pass_count how here m c c' m' (Ok tt) ran in
          let l = length_jobs (must_wipe size₀ m₀.bytes (wanted m₀ p ys) b) size₀ b (block_at size₀ m₀.bytes b) (block_at size₀ (wanted m₀ p ys) b) in
          let t = size_two size₀ s.power in
          let f = left.few in
          record {
            gives = turn_ok how (passed how (put_jobs m₀ p ys) m₀ c₀) (jobs_from m₀ p ys b) here rest m c c' m'
                left.gives turn ran;
            size = k.0.size ∙ left.size;
            count = k.0.count ∙ left.count;
            long = k.1.long ∙ left.long;
            past = λ i h. k.1.high i (omega arith) ∙ left.past i (omega arith);
            few = omega arith;
            shows = λ _. shows_here done ∙ ap (wanted_block m₀ p ys) (sym z);
          }

      -- it stopped
      pub blocks_stop : {f : Fault} {c' : Counts} {m' : Meaning} {shown' : List ℕ} →
          BlockPassed how b (wanted_block m p ys b) m c (Err f) c' m' shown' →
          BlocksPassed how p ys m₀ c₀ (Err f) c' m' shown'
      unfolding here rest
      blocks_stop {f} {c'} {m'} {shown'} done =
          let ran = ran_here done in
          let stops = turn_stops how (passed how (put_jobs m₀ p ys) m₀ c₀) (jobs_from m₀ p ys b) here rest m c c' m'
          left.gives turn f ran in
          let seen : last_seen size₀ last (passed how (put_jobs m₀ p ys) m₀ c₀) ≡ b =
          ap (last_seen size₀ last) (sym stops) ∙ stopped_in size₀ b last m (passed how here m c) f c' m' framed_here ran in
          record {
            ran = subst (λ (R : Run). Ran R (Err f) c' m') stops ran;
            shows = shows_here done ∙ ap (wanted_block m₀ p ys) (sym seen);
          }
