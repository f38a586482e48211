-- The plan of one block.
use Rattle.std.proofs.Common.{◌≡◌, ℕ, ◌+◌, ◌-◌, ◌*◌, ◌/◌, ◌%◌, ◌≤◌, true, false, List, [], ◌∷◌, length, get_or, Some, Result, sym, ap, ◌∙◌, arith}
use lib.Bits.{and_self}
use Rattle.std.proofs.lemmas.List.{ext_get_or}
use Rattle.std.proofs.lemmas.Bool.{eq-eqb, le-leb}
use Rattle.medium.specs.Meaning.{Meaning}
use Rattle.medium.specs.Jobs.{laid, read_into}
use Rattle.medium.specs.declared.fault.Fault.{Fault}
use Rattle.medium.proofs.Laid.{laid_in, length_laid}
use Rattle.writer.specs.Jobs.{Job, tally, wipe_of, wipes_of, words_of}
use Rattle.writer.specs.Blocks.{differing, jobs_by, jobs_for, rises}
use Rattle.writer.specs.Put.{block_counts, block_plan, of_one_block}
use Rattle.writer.specs.Passes.{Passed, TouchedPassed, WipedPassed, counting}
use Rattle.writer.specs.Empty.{no_blocks}
use Rattle.writer.specs.declared.counts.Counts.{Counts}
use Rattle.writer.proofs.Passes.{all_counted}
use Rattle.writer.proofs.Rises.{rises_not}
use Rattle.writer.proofs.Words.{differing_none, differing_wiped}

-- a read of nothing from nothing
pub read_nothing : (p : ℕ) (buf : List ℕ) → p ≤ 0 → length buf ≤ 0 → buf ≡ read_into no_blocks p buf
read_nothing p [] h l = let e : p ≡ 0 = omega arith in rw e
read_nothing p (x ∷ buf) h l = absurd (omega arith)

-- bytes laid over as many
pub laid_all : (xs ys : List ℕ) → length ys ≡ length xs → laid xs 0 ys ≡ ys
laid_all xs ys e =
    ext_get_or 0 (laid xs 0 ys) ys (length_laid xs ys 0 (omega arith) ∙ sym e)
    (λ i h.
    let l = length_laid xs ys 0 (omega arith) in
    let z : i - 0 ≡ i = omega arith in
    laid_in xs ys 0 i 0 (omega arith) (omega arith) (omega arith) ∙ ap (λ (k : ℕ). get_or ys k 0) z)

-- where a block has its plan
pub one_block : (old new : List ℕ) → length new ≡ length old → length old % 2 ≡ 0 → length old ≤ 131072 → of_one_block old new ≡ true
one_block old new same whole small = rw (eq-eqb (length new) (length old) same, eq-eqb (length old % 2) 0 whole, le-leb (length old) 131072 small)

-- what that says of the lengths
pub record OneBlock (old new : List ℕ) : Type 0 where
  pub same : length new ≡ length old
  pub whole : length old % 2 ≡ 0
  pub small : length old ≤ 131072

pub is_one_block : (old new : List ℕ) → of_one_block old new ≡ true → OneBlock old new
is_one_block old new t = record { same = grind arith; whole = grind arith; small = grind arith }

counts_as : (old new : List ℕ) (js : List Job) → jobs_for (length old) 0 old new ≡ js → tally (wipes_of js) (words_of js) ≡ block_counts old new
counts_as old new js e = rw e

-- nothing changes
pub plan_same : (old new : List ℕ) → of_one_block old new ≡ true → old ≡ new → Some (tally 0 0) ≡ block_plan old new
plan_same old new one e =
    let at : (i : ℕ) → get_or old i 0 ≡ get_or new i 0 = λ i. ap (λ (z : List ℕ). get_or z i 0) e in
    let flat : rises old new 0 (length old) ≡ false =
    rises_not old new 0 (length old)
    (λ i _ _. let q = at i in rw q (and_self (get_or new i 0))) in
    let none : jobs_for (length old) 0 old new ≡ [] =
    rw flat (differing_none (0 * length old) old new 0 (length old / 2) (λ j _ _. (at (2 * j), at (2 * j + 1)))) in
    rw one (ap (λ (c : Counts). Some c) (counts_as old new [] none))

-- it must be wiped, or not
module _ (old new : List ℕ) (same : length new ≡ length old) (m m' : Meaning) (c' : Counts) (r : Result (Unit {0}) Fault) where
  all_passed : (js : List Job) → jobs_for (length old) 0 old new ≡ js → Passed counting js m (tally 0 0) r c' m' → c' ≡ block_counts old new
  all_passed js e h = h.counts ∙ (all_counted js ∙ counts_as old new js e)

  pub counts_wiped : true ≡ rises old (laid old 0 new) 0 (length old) → WipedPassed counting 0 new m (tally 0 0) r c' m' → c' ≡ block_counts old new
  counts_wiped t h =
      let l = laid_all old new same in
      let up : rises old new 0 (length old) ≡ true = sym (rw l at t) in
      all_passed (jobs_by true (length new) 0 new new)
      (rw (up, same) (ap (λ (z : List Job). wipe_of 0 ∷ z) (differing_wiped (0 * length old) old new new 0 (length old / 2)))) h

  pub counts_touched : false ≡ rises old (laid old 0 new) 0 (length old) → TouchedPassed counting 0 old 0 new m (tally 0 0) r c' m' → c' ≡ block_counts old new
  counts_touched t h =
      let l = laid_all old new same in
      let flat : rises old new 0 (length old) ≡ false = sym (rw l at t) in
      let z : 0 * length old ≡ 0 = omega arith in
      all_passed (differing 0 false old new 0 (length old / 2)) (rw (flat, z)) (rw l at h)
