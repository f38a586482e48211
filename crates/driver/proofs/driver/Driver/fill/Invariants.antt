use Rattle.std.proofs.Common.{◌≡◌, ℕ, ◌+◌, ◌≤◌}
use Rattle.driver.proofs.Fills.{Filled}
use Rattle.driver.proofs.Fills.{HoldsWord}
use Rattle.driver.proofs.driver.Driver.fill.Given as goal

-- the buffer is filled so far, and the word of the last place was read
abbrev pub invariant-loop-i : goal.invariant-loop-i
invariant-loop-i g l =
    (g.S.Slot.state l.self.slot ≡ g.S.Slot.state l.initial.self.slot)
    × Filled (g.S.Slot.state l.initial.self.slot).bytes l.place l.buffer l.i
    × ((p : ℕ) → p + 1 ≡ l.place + l.i → 1 ≤ l.i → HoldsWord (g.S.Slot.state l.initial.self.slot).bytes l.word p)
