-- A word that reaches its devices.
use Rattle.std.proofs.Common.{◌≡◌, ℕ, false, None, Result, ap, ◌∙◌}
use Rattle.std.proofs.lemmas.Bool.{cond-false}
use Rattle.medium.specs.declared.fault.Fault.{Fault}
use Rattle.devices.specs.Chip.{Chip}
use Rattle.slot.specs.State.{SlotState, even_chip, odd_chip}
use Rattle.slot.specs.Cycles.{WordWritten, cycle_refusal, cycle_write, pair_took}
use Rattle.slot.proofs.Refused.{unless_none}

-- with the pin off, a word on the card is taken by both devices, which are x and y
pub word_taken : (n : ℕ) (s : SlotState) (p v : ℕ) (r : Result (Unit {0}) Fault) (s' : SlotState) (w : WordWritten n s p v r s') (x y : Chip) → cycle_refusal s p ≡ None → s.pin ≡ false → even_chip s p ≡ x → odd_chip s p ≡ y → s' ≡ pair_took s p v w.even w.odd x y
unfolding cycle_write
word_taken n s p v r s' w x y on off ex ey =
    w.after
    ∙ (unless_none (cycle_refusal s p) s (cycle_write s p v w.even w.odd) on
    ∙ (cond-false s.pin s (pair_took s p v w.even w.odd (even_chip s p) (odd_chip s p)) off
    ∙ (ap (λ d. pair_took s p v w.even w.odd d (odd_chip s p)) ex
    ∙ ap (pair_took s p v w.even w.odd x) ey)))
