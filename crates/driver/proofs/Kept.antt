-- What keeps the driver from asking the devices, and a medium's job from beginning.
use Rattle.std.proofs.Common.{◌≡◌, ℕ, ◌+◌, ◌*◌, ◌/◌, ◌%◌, ◌<◌, ◌≤◌, Bool, true, false, not, eqb, ltb, leb, get_or, replicate, None, Option, sym, refl, ap, ◌∙◌, mul-div_cancel, mul_left_comm, arith}
use Rattle.std.proofs.lemmas.Bool.{leb-false}
use Rattle.std.proofs.lemmas.List.{get_or-replicate}
use Rattle.medium.specs.declared.fault.Fault.{Fault}
use Rattle.medium.specs.declared.fault.Fault.TheVariants.{OffCard, OddPlace, Locked, LowSupply}
use Rattle.medium.specs.Jobs.{refuse_if, or_else, closed, word_refusal, wipe_refusal}
use Rattle.medium.proofs.Refusals.{refuse_none, or_none}
use Rattle.medium.proofs.Sizes.{size_two, size_even, block_end}
use Rattle.slot.specs.State.{SlotState, SlotSound, slot_blocks, slot_capacity, as_medium}
use Rattle.slot.specs.Cycles.{cycle_refusal}
use Rattle.slot.proofs.Places.{word_there, block_there}
use Rattle.driver.specs.Driven.{supplied, word_kept, wipe_kept}

-- the test of the supply, which comes last
abbrev pub low : Bool → ℕ → Option Fault
low supply p = refuse_if (not supply) (LowSupply p) None

supply_last : (a b c : Bool) (f g h : Fault) (o : Option Fault) → refuse_if a f (refuse_if b g (refuse_if c h o)) ≡ or_else (refuse_if a f (refuse_if b g (refuse_if c h None))) o
supply_last true b c f g h o = refl
supply_last false true c f g h o = refl
supply_last false false true f g h o = refl
supply_last false false false f g h o = refl

pub word_split : (s : SlotState) (p : ℕ) → word_refusal (as_medium s) p ≡ or_else (word_kept s p) (low s.supply p)
word_split s p =
    supply_last (ltb (slot_capacity s) (p + 2)) (not (eqb (p % 2) 0)) (get_or (replicate (slot_blocks s) s.pin) (p / s.block_size) false)
    (OffCard p) (OddPlace p) (Locked p) (low s.supply p)

pub wipe_split : (s : SlotState) (b : ℕ) → wipe_refusal (as_medium s) b ≡ or_else (wipe_kept s b) (low s.supply (b * s.block_size))
wipe_split s b =
    let p = b * s.block_size in
    supply_last (leb (slot_blocks s) b) false (get_or (replicate (slot_blocks s) s.pin) b false)
    (OffCard p) (OddPlace p) (Locked p) (low s.supply p)

-- a block that is there is locked when the pin is on
pin_locks : (s : SlotState) (b p : ℕ) → b < slot_blocks s → closed (supplied (as_medium s)) b p ≡ refuse_if s.pin (Locked p) None
pin_locks s b p h = ap (λ t. refuse_if t (Locked p) None) (get_or-replicate (slot_blocks s) b s.pin false h)

pin_last : (a b : Bool) (f g : Fault) (o o' : Option Fault) → (refuse_if a f (refuse_if b g None) ≡ None → o ≡ o') → refuse_if a f (refuse_if b g o) ≡ or_else (refuse_if a f (refuse_if b g None)) o'
pin_last true b f g o o' h = refl
pin_last false true f g o o' h = refl
pin_last false false f g o o' h = h refl

pub word_kept_is : (s : SlotState) → SlotSound s → (p : ℕ) → word_kept s p ≡ or_else (cycle_refusal s p) (refuse_if s.pin (Locked p) None)
word_kept_is s sound p =
    pin_last (ltb (slot_capacity s) (p + 2)) (not (eqb (p % 2) 0)) (OffCard p) (OddPlace p)
    (closed (supplied (as_medium s)) (p / s.block_size) p) (refuse_if s.pin (Locked p) None)
    (λ on. pin_locks s (p / s.block_size) p (block_there s sound p on))

pub wipe_kept_is : (s : SlotState) (b : ℕ) → wipe_kept s b ≡ refuse_if (leb (slot_blocks s) b) (OffCard (b * s.block_size)) (refuse_if s.pin (Locked (b * s.block_size)) None)
wipe_kept_is s b = go (leb (slot_blocks s) b) (λ e. pin_locks s b (b * s.block_size) (leb-false (slot_blocks s) b e))
  where
    go : (t : Bool) → (t ≡ false → closed (supplied (as_medium s)) b (b * s.block_size) ≡ refuse_if s.pin (Locked (b * s.block_size)) None) → refuse_if t (OffCard (b * s.block_size)) (closed (supplied (as_medium s)) b (b * s.block_size)) ≡ refuse_if t (OffCard (b * s.block_size)) (refuse_if s.pin (Locked (b * s.block_size)) None)
    go true h = refl
    go false h = h refl

-- a word that nothing keeps from the devices
module _ (s : SlotState) (sound : SlotSound s) (p : ℕ) (free : word_kept s p ≡ None) where
  split : or_else (cycle_refusal s p) (refuse_if s.pin (Locked p) None) ≡ None
  split = sym (word_kept_is s sound p) ∙ free

  pub word_on : cycle_refusal s p ≡ None
  word_on = or_none (cycle_refusal s p) (refuse_if s.pin (Locked p) None) split

  pub word_off : s.pin ≡ false
  word_off =
      (refuse_none s.pin (Locked p) None
      (sym (ap (λ o. or_else o (refuse_if s.pin (Locked p) None)) word_on) ∙ split)).0

-- and a wipe
module _ (s : SlotState) (sound : SlotSound s) (b : ℕ) (free : wipe_kept s b ≡ None) where
  tests : (leb (slot_blocks s) b ≡ false) × (refuse_if s.pin (Locked (b * s.block_size)) None ≡ None)
  tests =
      refuse_none (leb (slot_blocks s) b) (OffCard (b * s.block_size)) (refuse_if s.pin (Locked (b * s.block_size)) None)
      (sym (wipe_kept_is s b) ∙ free)

  pub whole_block : b * s.block_size + s.block_size ≤ slot_capacity s
  whole_block = block_end b (slot_blocks s) s.block_size (leb-false (slot_blocks s) b tests.0)

  two : 2 ≤ s.block_size
  two = size_two s.block_size sound.medium.power

  pub wipe_on : cycle_refusal s (b * s.block_size) ≡ None
  wipe_on =
      let n = s.block_size / 2 in
      let even : b * s.block_size ≡ 2 * (b * n) = ap (λ x. b * x) (sym (size_even s.block_size sound.medium.power)) ∙ mul_left_comm b 2 n in
      word_there (slot_capacity s) (b * s.block_size) (omega (arith, whole_block, two)) (omega arith)

  pub its_block : b * s.block_size / s.block_size ≡ b
  its_block = mul-div_cancel b (omega (arith, two))
