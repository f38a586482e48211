use Rattle.std.proofs.Common.{◌≡◌, ◌%◌, cond, replicate}
use Rattle.slot.specs.Lane.{mixed}
use Rattle.board.specs.Sides.{is_even}
use Rattle.board.proofs.lanes.fill_lane.Given as goal

-- the lane is filled before its next place
abbrev pub invariant-loop-place : goal.invariant-loop-place
invariant-loop-place l =
    (l.block ≡ mixed (is_even l.fn.side) (replicate l.place l.byte) l.initial.block) × (l.place % 2 ≡ cond (is_even l.fn.side) 0 1)
