-- A layer or none over a medium.
use Rattle.std.specs.Prelude.{Some, None, Option}
use Rattle.medium.specs.Meaning.{Meaning}
use Rattle.layers.specs.Window.{of_window, window_meaning}
use Rattle.layers.specs.Fence.{of_fence, fence_meaning}
use Rattle.piles.specs.declared.layered.Layer.{Layer}
use Rattle.piles.specs.declared.layered.Layer.TheVariants.{Window, Fence}
use Rattle.piles.specs.declared.layered.Layered.{Layered}
use Rattle.piles.specs.declared.layered.Layered.TheVariants.{Bare, Windowed, Fenced}

-- what a layer, or none, makes of what the medium below stands for
abbrev pub layer_meaning : Option Layer → Meaning → Meaning
layer_meaning None m = m
layer_meaning (Some (Window f n)) m = window_meaning m (record { first = f; count = n })
layer_meaning (Some (Fence marks)) m = fence_meaning m marks.marked

-- what a medium behind a layer stands for, by what the medium below stands for
abbrev pub of_layered : {M : Type 0} → (M → Meaning) → Layered M → Meaning
of_layered meaning (Bare m) = meaning m
of_layered meaning (Windowed w) = of_window meaning w
of_layered meaning (Fenced f) = of_fence meaning f

-- the medium below
abbrev pub below_of : {M : Type 0} → Layered M → M
below_of (Bare m) = m
below_of (Windowed w) = w.below
below_of (Fenced f) = f.below
