use Rattle.std.proofs.Common.{◌+◌, ◌*◌, ◌/◌, ◌≤◌, min, false, not, length, vec_items, vec_len, sym, ap, ◌∙◌, subst, arith}
use Rattle.std.proofs.lemmas.List.{with_items_is}
use Rattle.medium.specs.Meaning.{EachBelow}
use Rattle.medium.specs.Wear.{alive, lane_after}
use Rattle.devices.specs.Chip.{longest_wait}
use Rattle.devices.specs.Commands.{took, begins, begun}
use Rattle.devices.specs.Table.{Changed, device_at}
use Rattle.board.specs.Sides.{pick, is_even}
use Rattle.board.specs.Held.{card_of, with_slot}
use Rattle.board.specs.Sent.{worked_bytes}
use Rattle.board.proofs.Limits.{block_room}
use Rattle.board.proofs.Sends.{wait_short, job_sent}
use Rattle.board.proofs.board.Board.send.Goals as goal

pub run-requires-clause-room : goal.run-requires-clause-room
run-requires-clause-room c =
    let x = c.args.self.now in
    omega (arith, x.bytes.ok.0, ap length c.deref_mut.ensures.value, subst (λ n. c.args.place / n * n + n ≤ vec_len x.bytes) (sym c.block_size-size.ensures) (block_room x c.args.place c.requires))

pub invariant_of-self-2-clause-small : goal.invariant_of-self-2-clause-small
invariant_of-self-2-clause-small c =
    let x = c.args.self.now in
    let kept = with_items_is x.bytes c.run.new.bytes (omega (arith, x.bytes.ok.0, ap length c.deref_mut.ensures.value, c.run.auto.bytes)) in
    subst (EachBelow 256) (sym kept) c.run.ensures.small

pub returns : goal.returns
returns c =
    let x = c.args.self.now in
    let p = c.args.place in
    let v = c.args.byte in
    let side = c.args.side in
    let supply = c.args.supply in
    let j = c.in-Some.job in
    let live = c.spend-live.result in
    let es = x.wear.even.left in
    let os = x.wear.odd.left in
    let index = c.device-device.ensures in
    let size = c.block_size-size.ensures in
    let kept = with_items_is x.bytes c.run.new.bytes (omega (arith, x.bytes.ok.0, ap length c.deref_mut.ensures.value, c.run.auto.bytes)) in
    ap (with_slot (card_of x supply false))
    (job_sent x supply p v side c.requires j c.take.new.self c.begin.new.self c.spend-live.new.lives (_) live c.after.result
    (ap (λ n. begins supply v (device_at x.table n)) (sym index) ∙ sym c.in-Some.ensures.job)
    (subst (λ n. Changed x.table n (took supply v (device_at x.table n)) c.take.new.self) index c.take.ensures.after)
    (subst (λ n. Changed c.take.new.self n (begun j (not live) (min c.after.result longest_wait) (device_at c.take.new.self n)) c.begin.new.self) index c.begin.ensures)
    (wait_short x.waits j c.after.result c.after.ensures)
    (c.spend-live.ensures.did ∙ ap (λ n. alive (pick side es os) (p / n)) size)
    (c.spend-live.ensures.even ∙ ap (λ n. pick side (lane_after es (p / n)) es) size)
    (c.spend-live.ensures.odd ∙ ap (λ n. pick side os (lane_after os (p / n))) size)
    (kept
    ∙ c.run.ensures.items
    ∙ (ap (worked_bytes j (is_even side) (p / c.block_size-size.result * c.block_size-size.result) c.block_size-size.result c.place.result live v) c.deref_mut.ensures.value
    ∙ ap (λ n. worked_bytes j (is_even side) (p / n * n) n c.place.result live v (vec_items x.bytes)) size
    ∙ ap (λ n. worked_bytes j (is_even side) (p / x.geometry.block_size * x.geometry.block_size) x.geometry.block_size n live v (vec_items x.bytes)) c.place.ensures)))
