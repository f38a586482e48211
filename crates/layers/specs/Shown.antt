-- Calls of a window, which shows a run that fits the medium below.
use Rattle.std.specs.Prelude.{◌≡◌, ℕ, ◌+◌, ◌-◌, ◌<◌, ◌≤◌, Bool, true, false, cond, ltb, List, length, Ok, Err, Result, nat_le, nat_lt, refl}
use Rattle.std.proofs.Common.{sym, ap, subst, ◌∙◌, arith}
use Rattle.std.proofs.lemmas.Bool.{cond_both, leb-true, ltb-false, le-ltb}
use Rattle.medium.specs.Meaning.{Meaning, Sound, capacity}
use Rattle.medium.specs.Jobs.{word_refusal, wipe_refusal, ReadDone, WordBegun, WipeBegun, WordDone, WipeDone}
use Rattle.medium.specs.declared.fault.Fault.{Fault}
use Rattle.medium.specs.declared.fault.Fault.TheVariants.{OffCard}
use Rattle.medium.proofs.Sizes.{card_small}
use Rattle.layers.specs.declared.window.Run.{Run}
use Rattle.layers.specs.Window.{part, run_meaning, shown_run, window_start, window_meaning, answer_from, place_below}
use Rattle.layers.specs.Passed.{Passed}
use Rattle.layers.specs.PassedLemmas.{passed_blocks}
use Rattle.layers.specs.Parts.{part_part}
use Rattle.layers.specs.Places.{run_end}
use Rattle.layers.specs.Runs.{run_sound, word_run, word_passed_run, wipe_run, wipe_passed_run}

pub shown_fits : (m : Meaning) (r : Run) → (shown_run m r).first + (shown_run m r).count ≤ m.blocks
shown_fits m r =
    cond_both (nat_le (r.first + r.count) m.blocks) r (record { first = 0; count = 0 }) (λ (x : Run). x.first + x.count ≤ m.blocks)
    (λ e. leb-true (r.first + r.count) m.blocks e) (λ e. omega arith)

pub window_sound : (m : Meaning) (r : Run) → Sound m → Sound (window_meaning m r)
window_sound m r s = run_sound m s (shown_run m r) (shown_fits m r)

-- what lies in a window lies on the medium below
pub window_end : (m : Meaning) (r : Run) → window_start m r + capacity (window_meaning m r) ≤ capacity m
window_end m r = run_end (shown_run m r).first (shown_run m r).count m.blocks m.block_size (shown_fits m r)

pub window_small : (m : Meaning) (r : Run) → Sound m → window_start m r + capacity (window_meaning m r) ≤ 20971520
window_small m r s = let e = window_end m r in let c = card_small m s in omega arith

-- bytes that a window has lie below where it says
passed_test : (t : Bool) (f : Fault) (q q' : ℕ) → Ok q ≡ cond t (Err f) (Ok q') → (t ≡ false) × (q ≡ q')
passed_test true f q q' e = let z : ◌≡◌ {A = ℕ} 0 1 = cc in absurd (omega arith)
passed_test false f q q' e = (refl, cc)

module _ (m : Meaning) (r : Run) (p n q : ℕ) (l : Ok q ≡ place_below m r p n) where
  pub place_inside : p + n ≤ capacity (window_meaning m r)
  place_inside =
      ltb-false (capacity (window_meaning m r)) (p + n) (passed_test (nat_lt (capacity (window_meaning m r)) (p + n)) (OffCard p) q (window_start m r + p) l).0

  pub place_is : q ≡ window_start m r + p
  place_is = (passed_test (nat_lt (capacity (window_meaning m r)) (p + n)) (OffCard p) q (window_start m r + p) l).1

-- a window goes on showing the same run
same_run : (m m' : Meaning) (r : Run) → m'.blocks ≡ m.blocks → run_meaning m' (shown_run m r) ≡ window_meaning m' r
same_run m m' r e = ap (λ n. run_meaning m' (cond (nat_le (r.first + r.count) n) r (record { first = 0; count = 0 }))) (sym e)

module _ (m : Meaning) (s : Sound m) (r : Run) where
  pub window_read : (p q : ℕ) (buf buf' : List ℕ) (a : Result (Unit {0}) Fault) (m' : Meaning) → Ok q ≡ place_below m r p (length buf) → ReadDone m q buf a m' buf' → ReadDone (window_meaning m r) p buf a (window_meaning m' r) buf'
  window_read p q buf buf' a m' l d =
      let w = window_meaning m r in
      let n = length buf in
      let inside = place_inside m r p n q l in
      let end = window_end m r in
      let here : ltb (capacity w) (p + n) ≡ false = le-ltb (capacity w) (p + n) inside in
      let below : ltb (capacity m) (q + n) ≡ false = le-ltb (capacity m) (q + n) (omega (arith, place_is m r p n q l)) in
      let same : part q n m.bytes ≡ part p n w.bytes = ap (λ i. part i n m.bytes) (place_is m r p n q l) ∙ sym (part_part (window_start m r) (capacity w) p n m.bytes inside) in
      record {
        answer = d.answer ∙ rw (below, here);
        shown = d.shown ∙ rw (below, here) same;
        same = ap (λ x. window_meaning x r) d.same;
      }

  module _ (p v q : ℕ) (a : Result (Unit {0}) Fault) (m' : Meaning) (l : Ok q ≡ place_below m r p 2) (d : WordDone m q v a m') where
    word_below : WordDone m (window_start m r + p) v a m'
    word_below = subst (λ i. WordDone m i v a m') (place_is m r p 2 q l) d

    pub window_word_passed : Passed (word_refusal (window_meaning m r) p) m (WordBegun m (window_start m r + p) v) m'
    window_word_passed = word_passed_run m s (shown_run m r) (shown_fits m r) p v a m' (place_inside m r p 2 q l) word_below

    pub window_word : (a' : Result (Unit {0}) Fault) → a' ≡ answer_from (q - p) a → WordDone (window_meaning m r) p v a' (window_meaning m' r)
    window_word a' e =
        let start : q - p ≡ window_start m r = omega (arith, place_is m r p 2 q l) in
        subst (λ x. WordDone (window_meaning m r) p v x (window_meaning m' r)) (sym (e ∙ ap (λ i. answer_from i a) start))
        (subst (λ x. WordDone (window_meaning m r) p v (answer_from (window_start m r) a) x)
        (same_run m m' r (passed_blocks (word_refusal (window_meaning m r) p) m m' (WordBegun m (window_start m r + p) v) window_word_passed (λ b. ap (λ (x : Meaning). x.blocks) b.after)))
        (word_run m s (shown_run m r) (shown_fits m r) p v a m' (place_inside m r p 2 q l) word_below))

  module _ (b : ℕ) (a : Result (Unit {0}) Fault) (m' : Meaning) (h : b < (shown_run m r).count) (d : WipeDone m ((shown_run m r).first + b) a m') where
    pub window_wipe_passed : Passed (wipe_refusal (window_meaning m r) b) m (WipeBegun m ((shown_run m r).first + b)) m'
    window_wipe_passed = wipe_passed_run m s (shown_run m r) (shown_fits m r) b a m' h d

    pub window_wipe : (a' : Result (Unit {0}) Fault) → a' ≡ answer_from (window_start m r) a → WipeDone (window_meaning m r) b a' (window_meaning m' r)
    window_wipe a' e =
        subst (λ x. WipeDone (window_meaning m r) b x (window_meaning m' r)) (sym e)
        (subst (λ x. WipeDone (window_meaning m r) b (answer_from (window_start m r) a) x) (same_run m m' r (passed_blocks (wipe_refusal (window_meaning m r) b) m m' (WipeBegun m ((shown_run m r).first + b)) window_wipe_passed (λ w. ap (λ (x : Meaning). x.blocks) w.after)))
        (wipe_run m s (shown_run m r) (shown_fits m r) b a m' h d))
