-- Places on a card, their blocks and their pairs.
use Rattle.std.proofs.Common.{◌≡◌, ℕ, ◌+◌, ◌*◌, ◌/◌, ◌%◌, ◌<◌, ◌≤◌, eqb, length, None, refl, mul_comm, arith}
use Rattle.std.proofs.lemmas.Bool.{le-ltb, eq-eqb, not_from_true}
use Rattle.std.proofs.lemmas.Nat.{div_below}
use Rattle.medium.specs.Jobs.{no_word}
use Rattle.medium.proofs.Refusals.{word_found}
use Rattle.medium.proofs.Sizes.{size_two, place_block}
use Rattle.slot.specs.State.{SlotState, SlotSound, slot_blocks, slot_capacity, odd_at}
use Rattle.slot.specs.Cycles.{cycle_refusal}

-- a word that a card of n bytes has, and the other way
pub word_there : (n p : ℕ) → p + 2 ≤ n → p % 2 ≡ 0 → no_word n p ≡ None
word_there n p l e =
    let t = le-ltb n (p + 2) l in
    let u = not_from_true (eqb (p % 2) 0) (eq-eqb (p % 2) 0 e) in
    rw (t, u)

module _ (s : SlotState) (sound : SlotSound s) (p : ℕ) (on : cycle_refusal s p ≡ None) where
  pub on_card : p + 2 ≤ slot_capacity s
  on_card = (word_found (slot_capacity s) p on).0

  pub in_bytes : p + 2 ≤ length s.bytes
  in_bytes = omega (arith, on_card, sound.medium.filled)

  pub block_there : p / s.block_size < slot_blocks s
  block_there =
      place_block p s.block_size s.block_size (slot_blocks s) (slot_capacity s) refl (size_two s.block_size sound.medium.power) refl (omega (arith, on_card))

  pub pair_there : odd_at s p < 2 * s.pairs
  pair_there =
      let q : p / s.block_size / s.per_pair < s.pairs =
      div_below (p / s.block_size) s.per_pair s.pairs sound.some (omega (arith, block_there, mul_comm s.per_pair s.pairs)) in
      omega arith
