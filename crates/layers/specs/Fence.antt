-- A fence: the medium below with marks, which lock blocks.
use Rattle.std.specs.Prelude.{◌≡◌, ℕ, ◌+◌, ◌/◌, ◌%◌, ◌<◌, Bool, false, cond, ◌&&◌, ◌||◌, List, [], ◌∷◌, Result, ◌==◌, nat_le, nat_lt, slice_index_or, slice_set}
use Rattle.medium.specs.Meaning.{Meaning, capacity}
use Rattle.medium.specs.Switches.{with_switches}
use Rattle.medium.specs.Jobs.{answers, no_block, word_refusal, wipe_refusal, WordBegun, WipeBegun}
use Rattle.medium.specs.declared.fault.Fault.{Fault}
use Rattle.layers.specs.Passed.{Passed}
use Rattle.layers.specs.declared.fence.Fence.{Fence}

-- locks block by block, each set if marked or locked below; marks past the last block do not count
abbrev pub fenced : List Bool → List Bool → List Bool
fenced [] locks = locks
fenced (k ∷ marks) [] = []
fenced (k ∷ marks) (l ∷ locks) = (k || l) ∷ fenced marks locks

-- what a medium stands for behind a fence with these marks
abbrev pub fence_meaning : Meaning → List Bool → Meaning
fence_meaning m marks = with_switches m (fenced marks m.locks) m.supply

-- a mark locks the word at p, or block b: these lie on the card, and p is even
abbrev pub stops_word : Meaning → List Bool → ℕ → Bool
stops_word m marks p = nat_le (p + 2) (capacity m) && p % 2 == 0 && slice_index_or marks (p / m.block_size) false

abbrev pub stops_wipe : Meaning → List Bool → ℕ → Bool
stops_wipe m marks b = nat_lt b m.blocks && slice_index_or marks b false

-- what a fence stands for, by what the medium below stands for
abbrev pub of_fence : {M : Type 0} → (M → Meaning) → Fence M → Meaning
of_fence meaning f = fence_meaning (meaning f.below) f.marks.marked

-- block b of f was marked (on) or its mark cleared: the answer is a, and f' is left
pub record MarkDone {M : Type 0} (meaning : M → Meaning) (f : Fence M) (b : ℕ) (on : Bool) (a : Result (Unit {0}) Fault) (f' : Fence M) : Type 0 where
  pub answer : a ≡ answers (no_block (meaning f.below) b)
  pub marks : f'.marks.marked ≡ cond (nat_le (meaning f.below).blocks b) f.marks.marked (slice_set f.marks.marked b on)
  pub locks : b < (meaning f.below).blocks → slice_index_or (of_fence meaning f').locks b false ≡ (on || slice_index_or (meaning f.below).locks b false)
  pub below : f'.below ≡ f.below

-- what a write of the word v at p, and a wipe of block b, leave of the medium below
abbrev pub FenceWord : {M : Type 0} → (M → Meaning) → Fence M → ℕ → ℕ → Fence M → Type 0
FenceWord meaning f p v f' =
    let m = meaning f.below in Passed (word_refusal (of_fence meaning f) p) m (WordBegun m p v) (meaning f'.below)

abbrev pub FenceWipe : {M : Type 0} → (M → Meaning) → Fence M → ℕ → Fence M → Type 0
FenceWipe meaning f b f' =
    let m = meaning f.below in Passed (wipe_refusal (of_fence meaning f) b) m (WipeBegun m b) (meaning f'.below)
