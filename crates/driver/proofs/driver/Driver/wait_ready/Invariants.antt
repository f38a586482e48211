use Rattle.std.proofs.Common.{◌≡◌, ℕ, ◌+◌, ◌≤◌, get_or}
use Rattle.devices.specs.Chip.{fresh}
use Rattle.slot.specs.State.{with_chips}
use Rattle.driver.proofs.driver.Driver.wait_ready.Given as goal

-- nothing but the waits has changed, and they fall with the turns
abbrev pub invariant-loop : goal.invariant-loop
invariant-loop g l =
    (g.S.Slot.state l.self.slot ≡ with_chips (g.S.Slot.state l.initial.self.slot) (g.S.Slot.state l.self.slot).chips)
    × ((k : ℕ) → (get_or (g.S.Slot.state l.self.slot).chips k fresh).wait + l.counter ≤ l.end)
