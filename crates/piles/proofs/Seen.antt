-- Blocks behind a layer.
use Rattle.std.proofs.Common.{◌≡◌, ℕ, ◌+◌, ◌<◌, ◌≤◌, min, Some, None, Option, true, false, ◌||◌, leb, get_or, sym, ap, ◌∙◌, subst, ⊎_elim, arith}
use native.Mathlib.Nat.{min-eq_left, min-le_left}
use Rattle.std.proofs.lemmas.Bool.{cases_Bool, cond-true, cond-false, leb-true}
use Rattle.medium.specs.Meaning.{Meaning, Sound}
use Rattle.layers.specs.declared.window.Run.{Run}
use Rattle.layers.specs.Window.{run_meaning, shown_run}
use Rattle.layers.specs.Parts.{get_d_part}
use Rattle.layers.specs.Fenced.{get_or_fenced, fence_sound}
use Rattle.layers.specs.Shown.{window_sound}
use Rattle.piles.specs.declared.layered.Layer.{Layer}
use Rattle.piles.specs.declared.layered.Layer.TheVariants.{Window, Fence}
use Rattle.piles.specs.declared.block.BlockState.{BlockState}
use Rattle.piles.specs.Layered.{layer_meaning}
use Rattle.piles.specs.Shown.{IsBlock, block_below, locked_by}

in_run : (m : Meaning) (f n b : ℕ) (s r : BlockState) → b < n → IsBlock m (f + b) s → r.locked ≡ s.locked → r.even ≡ s.even → r.odd ≡ s.odd → IsBlock (run_meaning m (record { first = f; count = n })) b r
in_run m f n b s r h i lock even odd = (
  lock ∙ i.0 ∙ sym (get_d_part f n b false m.locks h),
  even ∙ i.1 ∙ sym (get_d_part f n b 0 m.even_lives h),
  odd ∙ i.2 ∙ sym (get_d_part f n b 0 m.odd_lives h),
)

in_window : (m : Meaning) (f n b : ℕ) (s r : BlockState) → Sound m → b < (layer_meaning (Some (Window f n)) m).blocks → IsBlock m (min (f + b) 4294967295) s → r.locked ≡ s.locked → r.even ≡ s.even → r.odd ≡ s.odd → IsBlock (layer_meaning (Some (Window f n)) m) b r
in_window m f n b s r d h i lock even odd =
    let own : Run = record { first = f; count = n } in
    let none : Run = record { first = 0; count = 0 } in
    ⊎_elim
    (λ (e : leb (f + n) m.blocks ≡ true).
    let shown : shown_run m own ≡ own = cond-true (leb (f + n) m.blocks) own none e in
    let near : b < n = subst (λ (x : Run). b < x.count) shown h in
    let fits : f + b ≤ 4294967295 = omega (arith, leb-true (f + n) m.blocks e, d.few) in
    let at : IsBlock m (f + b) s = subst (λ (k : ℕ). IsBlock m k s) (min-eq_left fits) i in
    subst (λ (x : Run). IsBlock (run_meaning m x) b r) (sym shown) (in_run m f n b s r near at lock even odd))
    (λ (e : leb (f + n) m.blocks ≡ false).
    let shown : shown_run m own ≡ none = cond-false (leb (f + n) m.blocks) own none e in
    let far : b < 0 = subst (λ (x : Run). b < x.count) shown h in
    absurd (omega arith))
    (cases_Bool (leb (f + n) m.blocks))

-- what a layer shows of a block is what it makes of the block below
pub seen_is : (l : Option Layer) (m : Meaning) (b : ℕ) (s r : BlockState) → Sound m → b < (layer_meaning l m).blocks → IsBlock m (block_below l b) s → r.locked ≡ (locked_by l b || s.locked) → r.even ≡ s.even → r.odd ≡ s.odd → IsBlock (layer_meaning l m) b r
seen_is None m b s r d h i lock even odd = (lock ∙ i.0, even ∙ i.1, odd ∙ i.2)
seen_is (Some (Window f n)) m b s r d h i lock even odd = in_window m f n b s r d h i lock even odd
seen_is (Some (Fence k)) m b s r d h i lock even odd = (
  lock ∙ ap (λ t. get_or k.marked b false || t) i.0
      ∙ sym (get_or_fenced k.marked m.locks b (omega (arith, h, d.lock_row))),
  even ∙ i.1,
  odd ∙ i.2,
)

pub layer_sound : (l : Option Layer) (m : Meaning) → Sound m → Sound (layer_meaning l m)
layer_sound None m d = d
layer_sound (Some (Window f n)) m d = window_sound m (record { first = f; count = n }) d
layer_sound (Some (Fence k)) m d = fence_sound m k.marked d

-- a block behind a layer is one below
pub below_there : (l : Option Layer) (m : Meaning) (b : ℕ) → b < (layer_meaning l m).blocks → block_below l b < m.blocks
below_there None m b h = h
below_there (Some (Window f n)) m b h =
    let own : Run = record { first = f; count = n } in
    let none : Run = record { first = 0; count = 0 } in
    ⊎_elim
    (λ (e : leb (f + n) m.blocks ≡ true).
    let near : b < n = subst (λ (x : Run). b < x.count) (cond-true (leb (f + n) m.blocks) own none e) h in
    omega (arith, leb-true (f + n) m.blocks e, min-le_left (f + b) 4294967295))
    (λ (e : leb (f + n) m.blocks ≡ false).
    let far : b < 0 = subst (λ (x : Run). b < x.count) (cond-false (leb (f + n) m.blocks) own none e) h in
    absurd (omega arith))
    (cases_Bool (leb (f + n) m.blocks))
below_there (Some (Fence k)) m b h = h
