-- Places, blocks and ranges in numbers.
use Rattle.std.proofs.Common.{◌≡◌, ℕ, zero, suc, ◌+◌, ◌-◌, ◌*◌, ◌/◌, ◌%◌, ◌<◌, ◌≤◌, ◌⊎◌, sym, refl, ap, ◌∙◌, inl, inr, ⊎_elim, mul-le-mul_right, mul_left_comm, arith}
use Rattle.std.proofs.lemmas.Nat.{div_below, div-add-mod', mod_below, le-div, div-mul-add}
use Rattle.std.proofs.lemmas.Bool.{cases_lt}
use Rattle.medium.specs.Meaning.{Meaning, Sound, capacity}
use Rattle.medium.proofs.Sizes.{size_two, card_small, block_end}
use Rattle.writer.specs.Blocks.{last_met, met_count}

pub cases_le : (a b : ℕ) → (a ≤ b) ⊎ (b < a)
cases_le a b = ⊎_elim (λ (l : b < a). inr l) (λ (l : a ≤ b). inl l) (cases_lt b a)

pub some_size : (m : Meaning) → Sound m → 0 < m.block_size
some_size m s = let p = size_two m.block_size s.power in omega arith

-- block b lies on the card; n is the block size under another name
pub block_within : (m : Meaning) (n b : ℕ) → n ≡ m.block_size → b < m.blocks → b * n + n ≤ capacity m
block_within m n b e h =
    let p = block_end b m.blocks n h in
    let q : m.blocks * n ≡ m.blocks * m.block_size = ap (λ (x : ℕ). m.blocks * x) e in
    omega arith

pub block_place : (m : Meaning) → Sound m → (n b : ℕ) → n ≡ m.block_size → b < m.blocks → b * n + n ≤ 20971520
block_place m s n b e h = let p = block_within m n b e h in let q = card_small m s in omega arith

-- a block begins at an even place
pub even_start : (n b : ℕ) → 2 * (n / 2) ≡ n → (b * n) % 2 ≡ 0
even_start n b e = let q : b * n ≡ 2 * (b * (n / 2)) = ap (λ (z : ℕ). b * z) (sym e) ∙ mul_left_comm b 2 (n / 2) in omega arith

-- the block of a place
pub block_of_place : (n b p : ℕ) → b * n ≤ p → p < b * n + n → p / n ≡ b
block_of_place n b p h k =
    let q : b * n + (p - b * n) ≡ p = omega arith in ap (λ (z : ℕ). z / n) (sym q) ∙ div-mul-add b n (p - b * n) (omega arith)

-- two blocks lie apart
pub blocks_apart : (n b c : ℕ) → b < c → b * n + n ≤ c * n
blocks_apart n b c h = let q : (b + 1) * n ≤ c * n = mul-le-mul_right n (omega arith) in omega arith

-- the blocks that a range meets: they lie on the card, and overlap the range
pub in_range : (n p len b blocks : ℕ) → 0 < n → 0 < len → p + len ≤ blocks * n → p / n ≤ b → b < last_met n p len + 1 →
    (b < blocks) × (p < b * n + n) × (b * n < p + len)
in_range n p len b blocks hn hl h lo hi =
    let q = div_below (p + len - 1) n blocks hn (omega arith) in
    let e₁ = div-add-mod' p n in
    let r₁ = mod_below p n hn in
    let e₂ = div-add-mod' (p + len - 1) n in
    let f₁ : p / n * n ≤ b * n = mul-le-mul_right n lo in
    let f₂ : b * n ≤ (p + len - 1) / n * n = mul-le-mul_right n (omega arith) in
    (omega arith, omega arith, omega arith)

pub first_last : (n p len : ℕ) → 0 < n → 0 < len → p / n ≤ last_met n p len
first_last n p len hn hl = let e = div-add-mod' p n in le-div (p / n) (p + len - 1) n hn (omega arith)

pub met_some : (n p len : ℕ) → 0 < len → met_count n p len ≡ last_met n p len + 1 - p / n
met_some n p zero h = absurd (omega arith)
met_some n p (suc k) h = refl

-- all of them together: they begin at or below the range, end at or past it, and lie on a card of so many blocks
pub record Spans (n p len blocks : ℕ) : Type 0 where
  pub begins : p / n * n ≤ p
  pub ends : p + len ≤ p / n * n + met_count n p len * n
  pub few : p / n + met_count n p len ≤ blocks
  pub inside : p / n * n + met_count n p len * n ≤ blocks * n

pub spans : (n p len blocks : ℕ) → 0 < n → 0 < len → p + len ≤ blocks * n → Spans n p len blocks
spans n p len blocks hn hl h =
    let o = first_last n p len hn hl in
    let r = in_range n p len (last_met n p len) blocks hn hl h o (omega arith) in
    let c = met_some n p len hl in
    let d = div-add-mod' p n in
    let d₂ = div-add-mod' (p + len - 1) n in
    let d₃ = mod_below (p + len - 1) n hn in
    let t : (p / n + met_count n p len) * n ≡ (last_met n p len + 1) * n = ap (λ (z : ℕ). z * n)
    (let z : p / n + met_count n p len ≡ last_met n p len + 1 = omega arith in z) in
    let u : (p / n + met_count n p len) * n ≤ blocks * n = mul-le-mul_right n (omega (arith, r.0)) in
    record { begins = omega arith; ends = omega arith; few = omega (arith, r.0); inside = omega arith }
