-- The wear of a lane. Everything else speaks of lives by these names alone.
use Rattle.std.specs.Prelude.{ℕ, ◌-◌, Bool, cond, List, nat_lt, slice_index, slice_set}

-- the lane has a life on block b; if not, it is worn there
abbrev pub alive : List ℕ → ℕ → Bool
alive lives b = nat_lt 0 (slice_index lives b)

abbrev pub spend : List ℕ → ℕ → List ℕ
spend lives b = slice_set lives b (slice_index lives b - 1)

-- a lane's lives after a begun job on block b: one less there, if it had one
abbrev pub lane_after : List ℕ → ℕ → List ℕ
lane_after lives b = cond (alive lives b) (spend lives b) lives

-- a lane's lives with n of them on block b, if the lane is meant; where there is no block b, they stay
abbrev pub given : Bool → List ℕ → ℕ → ℕ → List ℕ
given meant lives b n = cond meant (slice_set lives b n) lives
