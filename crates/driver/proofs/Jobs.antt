-- The driver's jobs are those of a medium, from the job of a pair.
use Rattle.std.proofs.Common.{◌≡◌, ℕ, ◌+◌, ◌*◌, ◌/◌, ◌%◌, Bool, true, false, List, get_or, None, Err, Result, sym, ap, ◌∙◌, subst, arith}
use lib.Bits.{bit_and}
use Rattle.medium.specs.Wear.{alive, lane_after}
use Rattle.medium.specs.Jobs.{answers, or_else, worn_at, byte_after, word_after, wipe_after, WordDone, WipeDone}
use Rattle.medium.specs.declared.fault.Fault.{Fault}
use Rattle.medium.specs.declared.fault.Fault.TheVariants.{LowSupply}
use Rattle.medium.proofs.Done.{word_refused, wipe_refused, word_begun, wipe_begun, with_parts}
use Rattle.devices.specs.declared.device.Job.{Job}
use Rattle.devices.specs.declared.device.Job.TheVariants.{Write, Wipe}
use Rattle.slot.specs.State.{SlotState, SlotSound, as_medium}
use Rattle.slot.specs.Lane.{Free, mixed, lane_wiped}
use Rattle.slot.proofs.Refused.{unless_none}
use Rattle.slot.proofs.Places.{in_bytes}
use Rattle.slot.proofs.Lanes.{word_bytes, lanes_wiped, length_mixed, below_mixed}
use Rattle.driver.specs.Driven.{word_kept, wipe_kept, driven, WipeLeaves}
use Rattle.driver.specs.Steps.{Ran}
use Rattle.driver.proofs.Kept.{low, word_split, wipe_split, word_on, whole_block, its_block}
use Rattle.driver.proofs.Runs.{under}

-- the contents xs after both lanes of block k were wiped, one after the other
abbrev lanes_at : ℕ → ℕ → Bool → Bool → Free → Free → List ℕ → List ℕ
lanes_at k size e o w w' xs =
    lane_wiped (record { even = false; size = size; block = k; place = k * size + 1 }) o w'
    (lane_wiped (record { even = true; size = size; block = k; place = k * size }) e w xs)

-- one that was not is begun, unless the supply is low
pub word_tried : (n : ℕ) (s : SlotState) (p v : ℕ) (r : Result (Unit {0}) Fault) (s' : SlotState) (t : Bool) → SlotSound (under s t) → word_kept (under s t) p ≡ None → Ran n Write (under s t) p v r s' → WordDone (as_medium (under s t)) p v r (as_medium s')
word_tried n s p v r s' true sound free h =
    let S = under s true in
    let b = p / s.block_size in
    let m' = word_after (as_medium S) p v h.even.byte h.odd.byte in
    word_begun (as_medium S) (as_medium s') p v r (word_split S p ∙ ap (λ o. or_else o None) free)
    (record {
      even = h.even.byte;
      odd = h.odd.byte;
      even_between = h.even_bounded.between;
      odd_between = h.odd_bounded.between;
      after =
          ap as_medium h.after
          ∙ ap (λ xs. with_parts m' xs m'.even_lives m'.odd_lives)
          (word_bytes s.bytes p (byte_after (alive s.even_lives b) (bit_and (get_or s.bytes p 0) (v % 256)) h.even.byte) (alive s.odd_lives b) (v / 256) h.odd.byte
          (in_bytes S sound p (word_on S sound p free)));
    })
    h.answer
word_tried n s p v r s' false sound free h =
    let S = under s false in
    let done = word_refused (as_medium S) p v (LowSupply p) (word_split S p ∙ ap (λ o. or_else o (low false p)) free) in
    subst (λ x. WordDone (as_medium S) p v x (as_medium s')) (sym h.answer)
    (subst (λ x. WordDone (as_medium S) p v (Err (LowSupply p)) x) (sym (ap as_medium h.after)) done)

-- what such a job leaves of the slot
pub ran_driven : (n : ℕ) (j : Job) (s : SlotState) (p v : ℕ) (r : Result (Unit {0}) Fault) (s' : SlotState) → Ran n j s p v r s' → s' ≡ driven j s (p / s.block_size) p (as_medium s')
ran_driven n j s p v r s' h = h.after ∙ ap (λ x. driven j s (p / s.block_size) p (as_medium x)) (sym h.after)

-- a wipe is run at its block's first place
module _ (n : ℕ) (s : SlotState) (b : ℕ) (r : Result (Unit {0}) Fault) (s' : SlotState) where
  pub wipe_tried : (t : Bool) → SlotSound (under s t) → wipe_kept (under s t) b ≡ None → Ran n Wipe (under s t) (b * s.block_size) 0xd0d0 r s' → WipeDone (as_medium (under s t)) b r (as_medium s')
  wipe_tried true sound free h =
      let S = under s true in
      let p = b * s.block_size in
      let at : p / s.block_size ≡ b = its_block S sound b free in
      let left = mixed true h.even.block h.odd.block in
      let m' = wipe_after (as_medium S) b left in
      wipe_begun (as_medium S) (as_medium s') b r (wipe_split S b ∙ ap (λ o. or_else o None) free)
      (record {
        left = left;
        long = length_mixed true h.even.block h.odd.block ∙ h.odd_bounded.long;
        byte = below_mixed true h.even.block h.odd.block h.even_bounded.below h.odd_bounded.below;
        after =
            ap as_medium h.after
            ∙ (ap (λ k. with_parts (as_medium S) (lanes_at k s.block_size (alive s.even_lives k) (alive s.odd_lives k) h.even h.odd s.bytes) (lane_after s.even_lives k) (lane_after s.odd_lives k)) at
            ∙ ap (λ xs. with_parts m' xs m'.even_lives m'.odd_lives)
            (lanes_wiped s.bytes p s.block_size (alive s.even_lives b) (alive s.odd_lives b) h.even.block h.odd.block
            (omega (arith, whole_block S sound b free, sound.medium.filled)) h.even_bounded.long h.odd_bounded.long));
      })
      (h.answer ∙ ap (λ k. answers (worn_at (as_medium S) k p)) at)
  wipe_tried false sound free h =
      let S = under s false in
      let p = b * s.block_size in
      let done = wipe_refused (as_medium S) b (LowSupply p) (wipe_split S b ∙ ap (λ o. or_else o (low false p)) free) in
      subst (λ x. WipeDone (as_medium S) b x (as_medium s')) (sym h.answer)
      (subst (λ x. WipeDone (as_medium S) b (Err (LowSupply p)) x) (sym (ap as_medium h.after)) done)

  pub wipe_leaves : SlotSound s → wipe_kept s b ≡ None → Ran n Wipe s (b * s.block_size) 0xd0d0 r s' → WipeLeaves s b s'
  wipe_leaves sound free h =
      let p = b * s.block_size in
      ran_driven n Wipe s p 0xd0d0 r s' h
      ∙ (ap (λ k. driven Wipe s k p (as_medium s')) (its_block s sound b free)
      ∙ sym (unless_none (wipe_kept s b) s (driven Wipe s b p (as_medium s')) free))
