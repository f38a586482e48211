-- What the bits of a status byte say.
use Rattle.std.proofs.Common.{◌≡◌, ℕ, ◌+◌, ◌*◌, ◌/◌, ◌%◌, ◌<◌, ◌≤◌, Bool, true, false, cond, not, eqb, None, Ok, Option, Result, sym, refl, ap, ◌∙◌, arith, lit<}
use Rattle.std.proofs.lemmas.Bool.{eqb-true}
use Rattle.medium.specs.Jobs.{gives, refuse_if, worn}
use Rattle.medium.specs.declared.fault.Fault.{Fault}
use Rattle.medium.specs.declared.fault.Fault.TheVariants.{LowSupply}
use Rattle.devices.specs.declared.device.Mode.{Mode}
use Rattle.devices.specs.declared.device.Mode.TheVariants.{Array, Ident, Status, WriteArmed, WipeArmed}
use Rattle.devices.specs.declared.device.Job.{Job}
use Rattle.devices.specs.declared.device.Job.TheVariants.{Write, Wipe}
use Rattle.devices.specs.Chip.{Chip, ready, status, ident, with_wait, lowered, shows_in}
use Rattle.medium.proofs.Refusals.{gave_value}
use Rattle.driver.specs.Status.{flag, verdict, rested}
use Rattle.driver.specs.Driven.{ended}

-- the status byte over its four bits
abbrev status_of : Bool → Bool → Bool → Bool → ℕ
status_of r w v s = cond r 0x80 0 + (cond w 0x20 0 + (cond v 0x10 0 + cond s 0x08 0))

cond_most : (t : Bool) (n : ℕ) → cond t n 0 ≤ n
cond_most true n = omega arith
cond_most false n = omega arith

status_below : (d : Chip) → status d < 256
status_below d =
    omega (arith, cond_most (ready d) 0x80, cond_most d.wipe_error 0x20, cond_most d.write_error 0x10, cond_most d.supply_error 0x08)

ident_below : (p : ℕ) → ident p < 256
ident_below p = elim (eqb (p / 2 % 2) 0) as (λ t. cond t 0x89 0xa2 < 256) [ true ↦ lit< tt | false ↦ lit< tt ]

-- what a device shows is a byte
pub shows_below : (m : Mode) (d : Chip) (p x : ℕ) → x < 256 → shows_in m d p x < 256
shows_below Array d p x h = h
shows_below Ident d p x h = ident_below p
shows_below Status d p x h = status_below d
shows_below WriteArmed d p x h = status_below d
shows_below WipeArmed d p x h = status_below d

ready_bit : (r w v s : Bool) → flag 0x80 (status_of r w v s) ≡ r
ready_bit true true true true = refl
ready_bit true true true false = refl
ready_bit true true false true = refl
ready_bit true true false false = refl
ready_bit true false true true = refl
ready_bit true false true false = refl
ready_bit true false false true = refl
ready_bit true false false false = refl
ready_bit false true true true = refl
ready_bit false true true false = refl
ready_bit false true false true = refl
ready_bit false true false false = refl
ready_bit false false true true = refl
ready_bit false false true false = refl
ready_bit false false false true = refl
ready_bit false false false false = refl

-- a device shows 80H only if it is ready
pub ready_shown : (d : Chip) → flag 0x80 (status d) ≡ true → ready d ≡ true
ready_shown d h = sym (ready_bit (ready d) d.wipe_error d.write_error d.supply_error) ∙ h

-- a ready device is at rest, and so is what a read leaves of it
pub status_rested : (d : Chip) → ready d ≡ true → status d ≡ status (rested d)
status_rested d h = ap (λ t. status_of t d.wipe_error d.write_error d.supply_error) h

pub lowered_rested : (d : Chip) → ready d ≡ true → lowered d ≡ rested d
lowered_rested d h = let z : d.wait ≡ 0 = eqb-true d.wait 0 h in ap (with_wait d) (omega arith)

-- what two devices say once their job is over
pub verdict_ended : (j : Job) (supply x y : Bool) (p : ℕ) → verdict (status (ended j supply x)) (status (ended j supply y)) p ≡ refuse_if (not supply) (LowSupply p) (worn p x y)
verdict_ended Write false x y p = refl
verdict_ended Write true true true p = refl
verdict_ended Write true true false p = refl
verdict_ended Write true false true p = refl
verdict_ended Write true false false p = refl
verdict_ended Wipe false x y p = refl
verdict_ended Wipe true true true p = refl
verdict_ended Wipe true true false p = refl
verdict_ended Wipe true false true p = refl
verdict_ended Wipe true false false p = refl

-- the two bytes of a word that was read
pub halves : (x y w : ℕ) (r : Result ℕ Fault) (o : Option Fault) → o ≡ None → r ≡ gives o (x + 256 * y) → r ≡ Ok w → x < 256 → (w % 256 ≡ x) × (w / 256 ≡ y)
halves x y w r o n e q h =
    let z : w ≡ x + 256 * y = (gave_value o (x + 256 * y) w (sym q ∙ e)).1 in
    (omega arith, omega arith)
