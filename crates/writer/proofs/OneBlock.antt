-- One block: what a read of it shows, and the pass that brings it to what is wanted.
use Rattle.std.proofs.Common.{◌≡◌, ℕ, ◌+◌, ◌*◌, ◌/◌, ◌<◌, true, false, List, ◌∷◌, length, Result, sym, ap, ◌∙◌, subst}
use Rattle.std.proofs.lemmas.Bool.{cond-false, le-ltb}
use Rattle.medium.specs.Meaning.{Meaning, capacity}
use Rattle.medium.specs.Jobs.{laid, read_into}
use Rattle.medium.specs.declared.fault.Fault.{Fault}
use Rattle.writer.specs.Jobs.{Job, wipe_of}
use Rattle.writer.specs.Blocks.{block_at, differing, jobs_by, jobs_for, part, rises}
use Rattle.writer.specs.Passes.{BlockPassed, Passed, WipedPassed, laid_block, Pass}
use Rattle.writer.specs.declared.counts.Counts.{Counts}
use Rattle.writer.proofs.Sizes.{block_within}
use Rattle.writer.proofs.Words.{differing_wiped}

-- a read of a block shows what it holds
pub read_block : (m : Meaning) (b : ℕ) (buf : List ℕ) → length buf ≡ m.block_size → b < m.blocks →
    read_into m (b * length buf) buf ≡ block_at m.block_size m.bytes b
read_block m b buf e h =
    cond-false _ _ _ (le-ltb (capacity m) (b * length buf + length buf) (block_within m (length buf) b e h)) ∙ ap (λ (n : ℕ). part m.bytes (b * n) n) e

-- one block: buf is what it holds, over which the piece is laid
module _ (how : Pass) (b off : ℕ) (piece buf : List ℕ) (m m₁ m' : Meaning) (c c' : Counts) (r : Result (Unit {0}) Fault)
    (sized : length buf ≡ m.block_size) (holds : buf ≡ block_at m.block_size m.bytes b) (same : m₁ ≡ m) where
  same_jobs : jobs_for m.block_size b (block_at m.block_size m.bytes b) (laid_block m b off piece) ≡ jobs_for (length buf) b buf (laid buf off piece)
  same_jobs =
      ap (λ (z : List ℕ). jobs_for m.block_size b z (laid z off piece)) (sym holds) ∙ ap (λ (n : ℕ). jobs_for n b buf (laid buf off piece)) (sym sized)

  passed_as : (js : List Job) → jobs_for (length buf) b buf (laid buf off piece) ≡ js → Passed how js m₁ c r c' m' →
      BlockPassed how b (laid_block m b off piece) m c r c' m' (laid buf off piece)
  passed_as js e h =
      record {
        ran = subst (λ (z : List Job). Passed how z m c r c' m') (sym (same_jobs ∙ e)) (subst (λ (z : Meaning). Passed how js z c r c' m') same h);
        shows = ap (λ (z : List ℕ). laid z off piece) holds;
      }

  -- it had to be wiped
  pub passed_wiped : true ≡ rises buf (laid buf off piece) 0 (length buf) → (new : List ℕ) → new ≡ laid buf off piece → length new ≡ length buf →
      WipedPassed how b new m₁ c r c' m' →
      BlockPassed how b (laid_block m b off piece) m c r c' m' new
  passed_wiped e new q l h =
      rw q
      (passed_as (jobs_by true (length new) b new new)
      (rw (← e, l, q) (ap (λ (z : List Job). wipe_of b ∷ z) (differing_wiped (b * length buf) buf (laid buf off piece) (laid buf off piece) 0 (length buf / 2)))) h)

  -- it had not
  pub passed_words : false ≡ rises buf (laid buf off piece) 0 (length buf) → (new : List ℕ) → new ≡ laid buf off piece →
      Passed how (differing (b * length buf) false buf (laid buf off piece) 0 (length buf / 2)) m₁ c r c' m' →
      BlockPassed how b (laid_block m b off piece) m c r c' m' new
  passed_words e new q h =
      rw q (passed_as (differing (b * length buf) false buf (laid buf off piece) 0 (length buf / 2)) (rw (← e)) h)
