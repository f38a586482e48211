-- The loop over the words of a block.
use Rattle.std.proofs.Common.{◌≡◌, ℕ, ◌+◌, ◌-◌, ◌*◌, ◌<◌, ◌≤◌, Bool, List, ◌++◌, Ok, Err, sym, refl, ◌∙◌, subst, arith}
use Rattle.medium.specs.Meaning.{Meaning}
use Rattle.medium.specs.declared.fault.Fault.{Fault}
use Rattle.writer.specs.Jobs.{Ran, Run, finished}
use Rattle.writer.specs.Blocks.{differing, old_word, word_if, word_of}
use Rattle.writer.specs.Passes.{Passed, passed, Pass}
use Rattle.writer.specs.declared.counts.Counts.{Counts}
use Rattle.writer.proofs.Words.{differing_more, length_word_if}
use Rattle.writer.proofs.Runs.{jobs, pass_count, pass_none, ran_left, turn_err, turn_ok}

-- the words from k to before end are left, and give the whole run R; those before k counted one job each at most
pub record WordsLeft (how : Pass) (p : ℕ) (w : Bool) (old new : List ℕ) (end : ℕ) (R : Run) (c₀ : Counts) (k : ℕ) (m : Meaning) (c : Counts) : Type 0 where
  pub gives : passed how (differing p w old new k (end - k)) m c ≡ R
  pub few : jobs c ≤ jobs c₀ + k

module _ {how : Pass} {p : ℕ} {w : Bool} {old new : List ℕ} {end : ℕ} {R : Run} {c₀ : Counts} {k : ℕ} {m : Meaning} {c : Counts}
    (left : WordsLeft how p w old new end R c₀ k m c) where
  -- none is left
  pub words_end : end ≤ k → Ran R (Ok tt) c m
  words_end h =
      let z : end - k ≡ 0 = omega arith in
      let e : finished m c ≡ R = sym (pass_none how m c) ∙ rw z at left.gives in
      subst (λ (q : Run). Ran q (Ok tt) c m) e (ran_left m (finished m c) refl)

  -- one turn: the word v, where st stands
  module _ {st v : ℕ} (h : k < end) (es : st ≡ old_word w old (2 * k)) (ev : v ≡ word_of new (2 * k)) where
    one : differing p w old new k (end - k) ≡ word_if (p + 2 * k) st v ++ differing p w old new (k + 1) (end - (k + 1))
    one = differing_more p w old new k end st v h es ev

    pub words_again : {c' : Counts} {m' : Meaning} → Passed how (word_if (p + 2 * k) st v) m c (Ok tt) c' m' → WordsLeft how p w old new end R c₀ (k + 1) m' c'
    words_again {c'} {m'} a =
        let n = pass_count how (word_if (p + 2 * k) st v) m c c' m' (Ok tt) a in
        let l = length_word_if (p + 2 * k) st v in
        let f = left.few in
        record {
          gives = turn_ok how R (differing p w old new k (end - k)) (word_if (p + 2 * k) st v) (differing p w old new (k + 1) (end - (k + 1))) m c c' m'
              left.gives one a;
          few = omega arith;
        }

    pub words_stop : {f : Fault} {c' : Counts} {m' : Meaning} → Passed how (word_if (p + 2 * k) st v) m c (Err f) c' m' → Ran R (Err f) c' m'
    words_stop {f} {c'} {m'} a = turn_err how R (differing p w old new k (end - k)) (word_if (p + 2 * k) st v) (differing p w old new (k + 1) (end - (k + 1))) m c c' m'
        left.gives one f a
