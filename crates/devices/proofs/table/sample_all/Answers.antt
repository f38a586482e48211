use Rattle.std.proofs.Common.{◌≡◌, ◌<◌, ◌&&◌, ◌≢◌, map, length, get_or, sym, ap, ◌∙◌, arith, below_more}
use Rattle.std.proofs.lemmas.List.{length-map, take_all}
use Rattle.devices.specs.Chip.{chip, fresh, ready, lowered}
use Rattle.devices.specs.Table.{row, all_ready}
use Rattle.devices.proofs.Rows.{row_take}
use Rattle.devices.proofs.Tables.{set_here, set_elsewhere, was_here}
use Rattle.devices.proofs.Waits.{ready_more, all_lowered}
use Rattle.devices.proofs.table.sample_all.Goals as goal

pub loop-device-preserved : goal.loop-device-preserved
loop-device-preserved c =
    let i = c.loop-device.device-index in
    let ds = c.loop-device.devices in
    let cs = map chip c.args.devices.now in
    let d = c.lower.new.self in
    let long : i < length ds = omega arith in
    let was : chip (get_or ds i _) ≡ get_or cs i fresh = sym (was_here ds i d long) ∙ c.loop-device.invariant.2 i (omega arith) in (
      ap (λ t. t && c.is_ready-ready.result) c.loop-device.invariant.0
          ∙ (ap (λ t. all_ready (row fresh i cs) && t) (c.is_ready-ready.ensures ∙ ap ready was) ∙ sym (ready_more i cs)),
      below_more _ _
          (λ k h. let ne : k ≢ i = omega arith in set_elsewhere ds i d long k ne ∙ c.loop-device.invariant.1 k h)
          (set_here ds i d long ∙ (c.lower.ensures ∙ ap lowered was)),
      λ k h. let ne : k ≢ i = omega arith in set_elsewhere ds i d long k ne ∙ c.loop-device.invariant.2 k (omega arith),
    )

pub returns : goal.returns
returns c =
    let cs = map chip c.args.devices.now in
    let es = c.loop-device.devices in
    let i = c.loop-device.device-index in
    let end : i ≡ length cs = omega (arith, length-map c.args.devices.now chip) in
    let all : row fresh i cs ≡ cs = row_take fresh i cs (omega arith) ∙ take_all i cs (omega arith) in
    record {
      answer = c.loop-device.invariant.0 ∙ ap all_ready all;
      after = all_lowered cs (map chip es) (omega (arith, end, length-map es chip, c.loop-device.auto.devices)) (λ k h. c.loop-device.invariant.1 k (omega arith));
    }
