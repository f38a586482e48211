use Rattle.std.proofs.Common.{◌*◌, ap, ◌∙◌, subst}
use Rattle.devices.specs.declared.device.Job.TheVariants.{Wipe}
use Rattle.slot.specs.Cycles.{cycle_refusal}
use Rattle.medium.proofs.Refusals.{gave_value}
use Rattle.driver.specs.Driven.{wipe_kept}
use Rattle.driver.specs.Steps.{Ran}
use Rattle.driver.proofs.Kept.{wipe_on}
use Rattle.driver.proofs.Jobs.{wipe_tried, wipe_leaves}
use Rattle.driver.proofs.driver.DriverMedium.wipe.Goals as goal

pub run-requires-clause-on : goal.run-requires-clause-on
run-requires-clause-on g c =
    let s = g.S.Slot.state c.args.self.now.slot in
    let sound = g.met.S.Slot.sound c.args.self.now.slot in
    let v = gave_value (wipe_kept s c.args.block) (c.args.block * s.block_size) c.in_ok-place.place c.in_ok-place.ensures in
    ap (cycle_refusal s) v.1 ∙ wipe_on s sound c.args.block v.0

pub returns : goal.returns
returns g c =
    let s = g.S.Slot.state c.args.self.now.slot in
    let sound = g.met.S.Slot.sound c.args.self.now.slot in
    let v = gave_value (wipe_kept s c.args.block) (c.args.block * s.block_size) c.in_ok-place.place c.in_ok-place.ensures in
    let h = subst (λ p. Ran g.S.Slot.patience Wipe s p 0xd0d0 c.run.result (g.S.Slot.state c.run.new.self.slot)) v.1 c.run.ensures in
    record {
      medium = wipe_tried _ s c.args.block _ _ s.supply sound v.0 h;
      slot = wipe_leaves _ s c.args.block _ _ sound v.0 h;
    }
