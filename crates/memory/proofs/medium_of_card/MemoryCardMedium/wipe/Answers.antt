use Rattle.std.proofs.Common.{◌≡◌, ◌+◌, ◌*◌, ◌<◌, take, refl, sym, ap, ◌∙◌, arith}
use Rattle.std.proofs.lemmas.List.Edits.{length-between}
use Rattle.std.specs.List.{between}
use Rattle.medium.specs.Wear.{alive}
use Rattle.medium.specs.Jobs.{laid, wiped}
use Rattle.medium.proofs.Sizes.{block_end}
use Rattle.medium.proofs.Refusals.{block_found, none_of}
use Rattle.medium.proofs.Done.{wipe_begun, same_parts}
use Rattle.memory.specs.Card.{card_meaning, switched_off}
use Rattle.medium.proofs.Relaid.{below_between}
use Rattle.memory.proofs.Parts.{below_wipe, left_in}
use Rattle.memory.proofs.Switched.{wipe_switched}
use Rattle.medium.proofs.Tables.{alive_take, lane_take}
use Rattle.memory.proofs.medium_of_card.MemoryCardMedium.wipe.Goals as goal

pub wipe_block-requires : goal.wipe_block-requires
wipe_block-requires c =
    let self = c.args.self.now in
    let (on, at) = block_found c.extent.result.blocks c.extent.result.block_size c.args.block c.in_ok-at.at c.in_ok-at.ensures in
    let place : c.in_ok-at.at ≡ c.args.block * self.geometry.block_size = at ∙ ap (λ s. c.args.block * s) c.extent.ensures.block_size in
    let end = block_end c.args.block self.blocks self.geometry.block_size (omega arith) in
    (omega arith, omega (arith, self.filled, c.deref_mut.ensures.len, c.block_size.ensures))

pub invariant_of-self : goal.invariant_of-self
invariant_of-self c =
    let self = c.args.self.now in
    let at = c.in_ok-at.at in
    record {
      few = self.few;
      filled = self.filled;
      small =
          below_wipe self.bytes.items _ at c.spend-live.result.even c.spend-live.result.odd at (at + c.block_size.result) self.small
          (left_in c.args.self.now.bytes c.deref_mut.result.now c.wipe_block.new.bytes
          (λ l. laid l at (wiped c.spend-live.result.even c.spend-live.result.odd (between at (at + c.block_size.result) l)))
          c.wipe_block.auto.bytes c.deref_mut.ensures.len c.deref_mut.ensures.value c.wipe_block.ensures);
    }

pub returns : goal.returns
returns c =
    let self = c.args.self.now in
    let m = card_meaning self in
    let b = c.args.block in
    let s = self.geometry.block_size in
    let at = c.in_ok-at.at in
    let live = c.spend-live.result in
    let (on, same) = block_found c.extent.result.blocks c.extent.result.block_size b at c.in_ok-at.ensures in
    let there : b < self.blocks = omega arith in
    let place : at ≡ b * s = same ∙ ap (λ n. b * n) c.extent.ensures.block_size in
    let even : live.even ≡ alive (take self.blocks self.lives.even.left) b = ap (λ l. l.even) c.spend-live.ensures.did ∙ sym (alive_take self.blocks self.lives.even.left b there) in
    let odd : live.odd ≡ alive (take self.blocks self.lives.odd.left) b = ap (λ l. l.odd) c.spend-live.ensures.did ∙ sym (alive_take self.blocks self.lives.odd.left b there) in
    let ends = block_end b self.blocks s there in
    wipe_begun m _ b c.answer.result
    (wipe_switched m self.locked b refl there ∙ ap (λ p. switched_off self.locked self.supply_good p) (sym place) ∙ none_of _ _ c.in_ok-admit.ensures)
    (record {
      left = between (b * s) (b * s + s) self.bytes.items;
      long = length-between self.bytes.items (b * s) (b * s + s) (omega (arith, self.filled, self.bytes.ok.0)) ∙ omega arith;
      byte = below_between self.bytes.items (b * s) (b * s + s) self.small;
      after = same_parts m _ _ _ _ _ _
          (left_in self.bytes c.deref_mut.result.now c.wipe_block.new.bytes
          (λ l. laid l at (wiped live.even live.odd (between at (at + c.block_size.result) l)))
          c.wipe_block.auto.bytes c.deref_mut.ensures.len c.deref_mut.ensures.value c.wipe_block.ensures
          ∙ rw (place, c.block_size.ensures, even, odd) refl)
          (ap (take self.blocks) c.spend-live.ensures.even ∙ lane_take self.blocks self.lives.even.left b there)
          (ap (take self.blocks) c.spend-live.ensures.odd ∙ lane_take self.blocks self.lives.odd.left b there);
    })
    (c.answer.ensures ∙ rw (place, even, odd) refl)
