-- A buffer filled from a card, word by word.
use Rattle.std.proofs.Common.{◌≡◌, ℕ, zero, suc, ◌+◌, ◌-◌, ◌*◌, ◌/◌, ◌%◌, ◌<◌, ◌≤◌, ◌≢◌, List, length, get_or, take, drop, set, None, sym, ap, ◌∙◌, mul_left_comm, arith, below_more}
use Rattle.std.proofs.lemmas.List.{ext_get_or, get_or-take, get_or-drop, get_or-set_same, get_or-set_other, length-take-le, length-drop}
use Rattle.medium.proofs.Sizes.{size_even, card_small}
use Rattle.devices.specs.Chip.{Chip, fresh, shows, read_in}
use Rattle.slot.specs.State.{SlotState, SlotSound, slot_blocks, slot_capacity, as_medium, with_chips, with_pair, even_at, odd_at, even_chip, odd_chip}
use Rattle.slot.specs.Cycles.{was_reset, cycle_refusal, cycle_read, even_shown, odd_shown}
use Rattle.slot.proofs.Pairs.{pair_self, get_d_fresh}
use Rattle.slot.proofs.Places.{word_there}

-- the word of a place on a card is on the card
pub word_of : (s : SlotState) → SlotSound s → (p : ℕ) → p < slot_capacity s → cycle_refusal s (p - p % 2) ≡ None
word_of s sound p h =
    let n = s.block_size / 2 in
    let x = slot_blocks s in
    let even : x * s.block_size ≡ 2 * (x * n) = ap (λ k. x * k) (sym (size_even s.block_size sound.medium.power)) ∙ mul_left_comm x 2 n in
    word_there (slot_capacity s) (p - p % 2) (omega arith) (omega arith)

pub capacity_small : (s : SlotState) → SlotSound s → slot_capacity s ≤ 20971520
capacity_small s sound = card_small (as_medium s) sound.medium

-- devices that are as after reset show the contents, and a read leaves them so
module _ (s : SlotState) (h : s ≡ was_reset s) (p : ℕ) where
  even_fresh : even_chip s p ≡ fresh
  even_fresh = ap (λ (x : SlotState). get_or x.chips (even_at s p) fresh) h ∙ get_d_fresh (2 * s.pairs) (even_at s p)

  odd_fresh : odd_chip s p ≡ fresh
  odd_fresh = ap (λ (x : SlotState). get_or x.chips (odd_at s p) fresh) h ∙ get_d_fresh (2 * s.pairs) (odd_at s p)

  pub even_held : even_shown s p ≡ get_or s.bytes p 0
  even_held = ap (λ d. shows d p (get_or s.bytes p 0)) even_fresh

  pub odd_held : odd_shown s p ≡ get_or s.bytes (p + 1) 0
  odd_held = ap (λ d. shows d p (get_or s.bytes (p + 1) 0)) odd_fresh

  pub read_same : cycle_read s p ≡ s
  read_same =
      ap (λ (d : Chip). with_chips s (with_pair s p (read_in d.mode (even_chip s p)) (read_in (odd_chip s p).mode (odd_chip s p)))) even_fresh
      ∙ (ap (λ (d : Chip). with_chips s (with_pair s p (even_chip s p) (read_in d.mode (odd_chip s p)))) odd_fresh
      ∙ ap (with_chips s) (pair_self s.chips (even_at s p)))

-- the bytes w are those of the word that holds the place p
pub record HoldsWord (xs w : List ℕ) (p : ℕ) : Type 0 where
  pub even : get_or w 0 0 ≡ get_or xs (p - p % 2) 0
  pub odd : get_or w 1 0 ≡ get_or xs (p - p % 2 + 1) 0

pub word_read : (s : SlotState) → s ≡ was_reset s → (p : ℕ) (w : List ℕ) → get_or w 0 0 ≡ even_shown s (p - p % 2) → get_or w 1 0 ≡ odd_shown s (p - p % 2) → HoldsWord s.bytes w p
word_read s h p w e o = record { even = e ∙ even_held s h (p - p % 2); odd = o ∙ odd_held s h (p - p % 2) }

-- the byte at the place itself
pub held_byte : (xs w : List ℕ) (p k : ℕ) → HoldsWord xs w p → k ≡ p % 2 → get_or w k 0 ≡ get_or xs p 0
held_byte xs w p zero h e = let q : p - p % 2 ≡ p = omega arith in h.even ∙ ap (λ k. get_or xs k 0) q
held_byte xs w p (suc zero) h e = let q : p - p % 2 + 1 ≡ p = omega arith in h.odd ∙ ap (λ k. get_or xs k 0) q
held_byte xs w p (suc (suc k)) h e = absurd (omega arith)

-- an odd place is held by the word of the place before it
pub held_next : (xs w : List ℕ) (p q : ℕ) → HoldsWord xs w p → p + 1 ≡ q → q % 2 ≡ 1 → HoldsWord xs w q
held_next xs w p q h e o =
    let same : p - p % 2 ≡ q - q % 2 = omega arith in
    record { even = h.even ∙ ap (λ k. get_or xs k 0) same; odd = h.odd ∙ ap (λ k. get_or xs (k + 1) 0) same }

-- the first n bytes of a buffer are those of xs from p on
abbrev pub Filled : List ℕ → ℕ → List ℕ → ℕ → Type 0
Filled xs p buf n = (k : ℕ) → k < n → get_or buf k 0 ≡ get_or xs (p + k) 0

-- one byte more in a buffer
pub filled_more : (xs : List ℕ) (p : ℕ) (buf : List ℕ) (i x : ℕ) → i < length buf → Filled xs p buf i → x ≡ get_or xs (p + i) 0 → Filled xs p (set buf i x) (i + 1)
filled_more xs p buf i x l h e =
    below_more _ _
    (λ k j. let ne : k ≢ i = omega arith in get_or-set_other buf i k x 0 ne ∙ h k j)
    (get_or-set_same buf i x 0 l ∙ e)

pub filled_all : (xs : List ℕ) (p : ℕ) (buf : List ℕ) (n : ℕ) → length buf ≡ n → p + n ≤ length xs → Filled xs p buf n → buf ≡ take n (drop p xs)
filled_all xs p buf n l h f =
    ext_get_or 0 buf (take n (drop p xs)) (l ∙ sym (length-take-le n (drop p xs) (omega (arith, length-drop p xs))))
    (λ k j. f k (omega arith) ∙ sym (get_or-take n (drop p xs) k 0 (omega arith) ∙ get_or-drop p xs k 0))
