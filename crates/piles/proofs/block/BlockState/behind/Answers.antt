use Rattle.std.proofs.Common.{◌||◌, refl, ap, ◌∙◌}
use Rattle.piles.proofs.Seen.{seen_is}
use Rattle.piles.proofs.block.BlockState.behind.Goals as goal

pub returns-then-is_locked_by : goal.returns-then-is_locked_by
returns-then-is_locked_by c m d h i =
    let s = c.args.self in
    seen_is c.args.layer m c.args.block s (record { locked = c.is_locked_by.result; even = s.even; odd = s.odd }) d h i
    (c.if-is_locked_by.true ∙ ap (λ t. t || s.locked) c.if-is_locked_by.ensures) refl refl

pub returns-else-is_locked_by : goal.returns-else-is_locked_by
returns-else-is_locked_by c m d h i =
    let s = c.args.self in
    seen_is c.args.layer m c.args.block s s d h i (ap (λ t. t || s.locked) c.if-is_locked_by.ensures) refl refl
