-- A job is done as a medium does it: from its refusal, or from what it leaves.
use Rattle.std.proofs.Common.{◌≡◌, ℕ, ◌-◌, ◌*◌, ◌/◌, true, false, cond, List, length, get_or, Some, None, Err, Result, sym, refl, ap, ◌∙◌}
use Rattle.std.proofs.lemmas.List.{length-set}
use Rattle.medium.specs.Meaning.{Meaning}
use Rattle.medium.specs.Wear.{alive, spend, lane_after}
use Rattle.medium.specs.Jobs.{WordDone, WipeDone, WordBegun, WipeBegun, word_refusal, wipe_refusal, worn_at, answers, or_else}
use Rattle.medium.specs.declared.fault.Fault.{Fault}
use Rattle.medium.proofs.Refusals.{never}

pub word_refused : (m : Meaning) (p v : ℕ) (f : Fault) → word_refusal m p ≡ Some f → WordDone m p v (Err f) m
word_refused m p v f e =
    record {
      answer = sym (ap (λ o. answers (or_else o (worn_at m (p / m.block_size) p))) e);
      refused = λ _ _. refl;
      begun = λ n. never f (word_refusal m p) e n;
    }

pub wipe_refused : (m : Meaning) (b : ℕ) (f : Fault) → wipe_refusal m b ≡ Some f → WipeDone m b (Err f) m
wipe_refused m b f e =
    record {
      answer = sym (ap (λ o. answers (or_else o (worn_at m b (b * m.block_size)))) e);
      refused = λ _ _. refl;
      begun = λ n. never f (wipe_refusal m b) e n;
    }

pub word_begun : (m m' : Meaning) (p v : ℕ) (r : Result (Unit {0}) Fault) → word_refusal m p ≡ None → WordBegun m p v m' → r ≡ answers (worn_at m (p / m.block_size) p) → WordDone m p v r m'
word_begun m m' p v r n b a =
    record {
      answer = a ∙ sym (ap (λ o. answers (or_else o (worn_at m (p / m.block_size) p))) n);
      refused = λ f q. never f (word_refusal m p) q n;
      begun = λ _. b;
    }

pub wipe_begun : (m m' : Meaning) (b : ℕ) (r : Result (Unit {0}) Fault) → wipe_refusal m b ≡ None → WipeBegun m b m' → r ≡ answers (worn_at m b (b * m.block_size)) → WipeDone m b r m'
wipe_begun m m' b r n w a =
    record {
      answer = a ∙ sym (ap (λ o. answers (or_else o (worn_at m b (b * m.block_size)))) n);
      refused = λ f q. never f (wipe_refusal m b) q n;
      begun = λ _. w;
    }

pub length_lane : (xs : List ℕ) (b : ℕ) → length (lane_after xs b) ≡ length xs
length_lane xs b =
    elim (alive xs b) as (λ v. length (cond v (spend xs b) xs) ≡ length xs) [ true ↦ length-set xs b (get_or xs b 0 - 1) | false ↦ refl ]

-- a meaning with other contents and lives
abbrev pub with_parts : Meaning → List ℕ → List ℕ → List ℕ → Meaning
with_parts m bs es os =
    record {
      block_size = m.block_size;
      blocks = m.blocks;
      bytes = bs;
      locks = m.locks;
      supply = m.supply;
      even_lives = es;
      odd_lives = os;
    }

pub same_parts : (m : Meaning) (bs es os bs' es' os' : List ℕ) → bs ≡ bs' → es ≡ es' → os ≡ os' → with_parts m bs es os ≡ with_parts m bs' es' os'
same_parts m bs es os bs' es' os' p q r =
    ap (λ x. with_parts m x es os) p ∙ ap (λ x. with_parts m bs' x os) q ∙ ap (λ x. with_parts m bs' es' x) r
