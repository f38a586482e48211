-- Jobs on a fence: a marked block is locked, and any other job is the job below.
use Rattle.std.specs.Prelude.{◌≡◌, ℕ, zero, suc, ◌+◌, ◌*◌, ◌/◌, ◌%◌, ◌<◌, ◌≤◌, Bool, true, false, ◌&&◌, ◌||◌, List, [], ◌∷◌, length, get_or, Some, Result, ◌==◌, nat_eq, nat_le, nat_lt, slice_index_or, slice_set, refl}
use Rattle.std.proofs.Common.{sym, ap, ◌∙◌, ⊎_elim, arith}
use Rattle.std.proofs.lemmas.Bool.{and_parts, leb-true, ltb-true, eqb-true, lt-ltb, le-leb, cases_lt, cases_Bool}
use Rattle.std.proofs.lemmas.List.{get_or-set_same}
use Rattle.medium.specs.Meaning.{Meaning, Sound, capacity}
use Rattle.medium.specs.Jobs.{or_else, answers, closed, word_refusal, wipe_refusal, worn_at, WordDone, WipeDone, WordBegun, WipeBegun}
use Rattle.medium.specs.declared.fault.Fault.{Fault}
use Rattle.medium.specs.declared.fault.Fault.TheVariants.{Locked}
use Rattle.medium.proofs.Sizes.{size_two, place_block}
use Rattle.medium.proofs.Refusals.{wipe_past, word_past}
use Rattle.layers.specs.Fence.{fenced, fence_meaning, stops_word, stops_wipe}
use Rattle.layers.specs.Passed.{Passed}

length_fenced : (marks locks : List Bool) → length (fenced marks locks) ≡ length locks
length_fenced [] locks = refl
length_fenced (k ∷ marks) [] = refl
length_fenced (k ∷ marks) (l ∷ locks) = ap suc (length_fenced marks locks)

pub get_or_fenced : (marks locks : List Bool) (b : ℕ) → b < length locks → slice_index_or (fenced marks locks) b false ≡ (slice_index_or marks b false || slice_index_or locks b false)
get_or_fenced [] locks b h = refl
get_or_fenced (k ∷ marks) [] b h = absurd (omega arith)
get_or_fenced (k ∷ marks) (l ∷ locks) zero h = refl
get_or_fenced (k ∷ marks) (l ∷ locks) (suc b) h = get_or_fenced marks locks b (omega arith)

pub fence_sound : (m : Meaning) (marks : List Bool) → Sound m → Sound (fence_meaning m marks)
fence_sound m marks s =
    record {
      power = s.power;
      few = s.few;
      filled = s.filled;
      byte = s.byte;
      lock_row = length_fenced marks m.locks ∙ s.lock_row;
      even_row = s.even_row;
      odd_row = s.odd_row;
      even_fit = s.even_fit;
      odd_fit = s.odd_fit;
    }

module _ (m : Meaning) (s : Sound m) (marks : List Bool) where
  lock_fenced : (b : ℕ) → b < m.blocks → slice_index_or (fence_meaning m marks).locks b false ≡ (slice_index_or marks b false || slice_index_or m.locks b false)
  lock_fenced b h = get_or_fenced marks m.locks b (omega (arith, s.lock_row))

  -- a mark locks what lies on the card
  closed_marked : (b p : ℕ) → b < m.blocks → slice_index_or marks b false ≡ true → closed (fence_meaning m marks) b p ≡ Some (Locked p)
  closed_marked b p h e = let l = lock_fenced b h in rw (l, e)

  closed_unmarked : (b p : ℕ) → b < m.blocks → slice_index_or marks b false ≡ false → closed (fence_meaning m marks) b p ≡ closed m b p
  closed_unmarked b p h e = let l = lock_fenced b h in rw (l, e)

  -- the block of a word on the card
  word_block : (p : ℕ) → p + 2 ≤ capacity m → p / m.block_size < m.blocks
  word_block p h =
      place_block p m.block_size m.block_size m.blocks (capacity m) refl (size_two m.block_size s.power) refl (omega arith)

  pub word_stopped : (p : ℕ) → true ≡ stops_word m marks p → word_refusal (fence_meaning m marks) p ≡ Some (Locked p)
  word_stopped p e =
      let parts = and_parts (nat_le (p + 2) (capacity m) && p % 2 == 0) (slice_index_or marks (p / m.block_size) false) (sym e) in
      let place = and_parts (nat_le (p + 2) (capacity m)) (p % 2 == 0) parts.0 in
      let on = leb-true (p + 2) (capacity m) place.0 in
      word_past (fence_meaning m marks) p on (eqb-true (p % 2) 0 place.1) ∙ closed_marked (p / m.block_size) p (word_block p on) parts.1

  pub word_unstopped : (p : ℕ) → false ≡ stops_word m marks p → word_refusal (fence_meaning m marks) p ≡ word_refusal m p
  word_unstopped p e =
      ⊎_elim (λ (off : capacity m < p + 2). let t = lt-ltb (capacity m) (p + 2) off in rw t)
      (λ (on : p + 2 ≤ capacity m).
      ⊎_elim
      (λ (even : nat_eq (p % 2) 0 ≡ true).
      let t = le-leb (p + 2) (capacity m) on in
      let mark : get_or marks (p / m.block_size) false ≡ false = sym (e ∙ rw (t, even)) in
      let h = eqb-true (p % 2) 0 even in
      word_past (fence_meaning m marks) p on h ∙ closed_unmarked (p / m.block_size) p (word_block p on) mark ∙ sym (word_past m p on h))
      (λ (odd : nat_eq (p % 2) 0 ≡ false). rw odd)
      (cases_Bool (p % 2 == 0)))
      (cases_lt (capacity m) (p + 2))

  pub wipe_stopped : (b : ℕ) → true ≡ stops_wipe m marks b → wipe_refusal (fence_meaning m marks) b ≡ Some (Locked (b * m.block_size))
  wipe_stopped b e =
      let parts = and_parts (nat_lt b m.blocks) (slice_index_or marks b false) (sym e) in
      let on = ltb-true b m.blocks parts.0 in
      wipe_past (fence_meaning m marks) b on ∙ closed_marked b (b * m.block_size) on parts.1

  pub wipe_unstopped : (b : ℕ) → false ≡ stops_wipe m marks b → wipe_refusal (fence_meaning m marks) b ≡ wipe_refusal m b
  wipe_unstopped b e =
      ⊎_elim
      (λ (on : b < m.blocks).
      let t = lt-ltb b m.blocks on in
      let mark : get_or marks b false ≡ false = sym (e ∙ rw t) in
      wipe_past (fence_meaning m marks) b on ∙ closed_unmarked b (b * m.block_size) on mark ∙ sym (wipe_past m b on))
      (λ (off : m.blocks ≤ b). let t = le-leb m.blocks b off in rw t)
      (cases_lt b m.blocks)

  -- a job that no mark stops
  pub fence_word_passed : (p v : ℕ) (a : Result (Unit {0}) Fault) (m' : Meaning) → false ≡ stops_word m marks p → WordDone m p v a m' → Passed (word_refusal (fence_meaning m marks) p) m (WordBegun m p v) m'
  fence_word_passed p v a m' e d =
      let same = sym (word_unstopped p e) in
      record { refused = λ f q. d.refused f (same ∙ q); begun = λ n. d.begun (same ∙ n) }

  pub fence_word : (p v : ℕ) (a : Result (Unit {0}) Fault) (m' : Meaning) → false ≡ stops_word m marks p → WordDone m p v a m' → WordDone (fence_meaning m marks) p v a (fence_meaning m' marks)
  fence_word p v a m' e d =
      let passed = fence_word_passed p v a m' e d in
      record {
        answer = d.answer ∙ ap (λ o. answers (or_else o (worn_at m (p / m.block_size) p))) (sym (word_unstopped p e));
        refused = λ f q. ap (λ x. fence_meaning x marks) (passed.refused f q);
        begun =
            λ n.
            let b = passed.begun n in
            record {
              even = b.even;
              odd = b.odd;
              even_between = b.even_between;
              odd_between = b.odd_between;
              after = ap (λ x. fence_meaning x marks) b.after;
            };
      }

  pub fence_wipe_passed : (b : ℕ) (a : Result (Unit {0}) Fault) (m' : Meaning) → false ≡ stops_wipe m marks b → WipeDone m b a m' → Passed (wipe_refusal (fence_meaning m marks) b) m (WipeBegun m b) m'
  fence_wipe_passed b a m' e d =
      let same = sym (wipe_unstopped b e) in
      record { refused = λ f q. d.refused f (same ∙ q); begun = λ n. d.begun (same ∙ n) }

  pub fence_wipe : (b : ℕ) (a : Result (Unit {0}) Fault) (m' : Meaning) → false ≡ stops_wipe m marks b → WipeDone m b a m' → WipeDone (fence_meaning m marks) b a (fence_meaning m' marks)
  fence_wipe b a m' e d =
      let passed = fence_wipe_passed b a m' e d in
      record {
        answer = d.answer ∙ ap (λ o. answers (or_else o (worn_at m b (b * m.block_size)))) (sym (wipe_unstopped b e));
        refused = λ f q. ap (λ x. fence_meaning x marks) (passed.refused f q);
        begun =
            λ n.
            let w = passed.begun n in
            record { left = w.left; long = w.long; byte = w.byte; after = ap (λ x. fence_meaning x marks) w.after };
      }

  -- the lock of a block that was just marked or cleared
  pub lock_marked : (b : ℕ) (on : Bool) → b < m.blocks → b < length marks → slice_index_or (fenced (slice_set marks b on) m.locks) b false ≡ (on || slice_index_or m.locks b false)
  lock_marked b on h l =
      get_or_fenced (slice_set marks b on) m.locks b (omega (arith, s.lock_row)) ∙ ap (λ k. k || slice_index_or m.locks b false) (get_or-set_same marks b on false l)
