use Rattle.std.proofs.Common.{◌*◌, ap, arith}
use Rattle.medium.proofs.Sizes.{block_end}
use Rattle.slot.specs.State.{slot_blocks}
use Rattle.medium.proofs.Refusals.{block_found}
use Rattle.driver.proofs.Fills.{capacity_small}
use Rattle.driver.proofs.driver.Driver.admit_wipe.Goals as goal

pub overflow_cast-result : goal.overflow_cast-result
overflow_cast-result g c =
    let s = g.S.Slot.state c.args.self.now.slot in
    let size = c.extent.result in
    let b = c.args.block in
    let found = block_found size.blocks size.block_size b c.in_ok-place.place c.in_ok-place.ensures in
    omega (
      arith,
      found.1,
      ap (λ n. b * n) c.extent.ensures.block_size,
      block_end b (slot_blocks s) s.block_size (omega (arith, found.0, c.extent.ensures.blocks)),
      capacity_small s (g.met.S.Slot.sound c.args.self.now.slot),
    )
