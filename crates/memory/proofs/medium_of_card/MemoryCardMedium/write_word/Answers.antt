use Rattle.std.proofs.Common.{◌≡◌, ◌+◌, ◌*◌, ◌/◌, take, get_or, refl, sym, ap, ◌∙◌, ap₂}
use Rattle.medium.specs.Meaning.{capacity}
use Rattle.medium.specs.Wear.{alive, lane_after}
use Rattle.medium.proofs.Bits.{between_old}
use Rattle.medium.proofs.Refusals.{none_of}
use Rattle.medium.proofs.Done.{word_begun, same_parts}
use Rattle.medium.proofs.Tables.{alive_take, lane_take}
use Rattle.memory.specs.Card.{card_meaning, word_laid}
use Rattle.memory.proofs.Parts.{below_word, left_in}
use Rattle.memory.proofs.Switched.{word_switched, word_there}
use Rattle.memory.proofs.medium_of_card.MemoryCardMedium.write_word.Goals as goal

pub invariant_of-self : goal.invariant_of-self
invariant_of-self c =
    let self = c.args.self.now in
    let live = c.spend-live.result in
    record {
      few = self.few;
      filled = self.filled;
      small =
          below_word self.bytes.items _ c.args.place live.even live.odd c.args.word self.small
          (left_in self.bytes c.deref_mut.result.now c.write_word_at.new.bytes (λ l. word_laid live.even live.odd c.args.word c.args.place l)
          c.write_word_at.auto.bytes c.deref_mut.ensures.len c.deref_mut.ensures.value c.write_word_at.ensures);
    }

pub returns : goal.returns
returns c =
    let self = c.args.self.now in
    let m = card_meaning self in
    let p = c.args.place in
    let b = p / self.geometry.block_size in
    let live = c.spend-live.result in
    let size : c.capacity.result ≡ capacity m = c.capacity.ensures ∙ ap₂ (λ n s. n * s) c.extent.ensures.blocks c.extent.ensures.block_size in
    let (room, whole, there) = word_there m p c.capacity.result size self.geometry.within.0.1 (none_of _ _ c.in_ok-test_word.ensures) in
    let block : p / c.block_size.result ≡ b = ap (λ s. p / s) c.block_size.ensures in
    let even : live.even ≡ alive (take self.blocks self.lives.even.left) b =
    ap (λ l. l.even) c.spend-live.ensures.did ∙ ap (λ k. alive self.lives.even.left k) block ∙ sym (alive_take self.blocks self.lives.even.left b there) in
    let odd : live.odd ≡ alive (take self.blocks self.lives.odd.left) b =
    ap (λ l. l.odd) c.spend-live.ensures.did ∙ ap (λ k. alive self.lives.odd.left k) block ∙ sym (alive_take self.blocks self.lives.odd.left b there) in
    word_begun m _ p c.args.word c.answer.result
    (word_switched m self.locked p refl room whole there ∙ none_of _ _ c.in_ok-admit.ensures)
    (record {
      even = get_or self.bytes.items p 0;
      odd = get_or self.bytes.items (p + 1) 0;
      even_between = between_old _ _;
      odd_between = between_old _ _;
      after = same_parts m _ _ _ _ _ _
          (left_in self.bytes c.deref_mut.result.now c.write_word_at.new.bytes (λ l. word_laid live.even live.odd c.args.word p l)
          c.write_word_at.auto.bytes c.deref_mut.ensures.len c.deref_mut.ensures.value c.write_word_at.ensures
          ∙ rw (even, odd) refl)
          (ap (take self.blocks) (c.spend-live.ensures.even ∙ ap (λ k. lane_after self.lives.even.left k) block) ∙ lane_take self.blocks self.lives.even.left b there)
          (ap (take self.blocks) (c.spend-live.ensures.odd ∙ ap (λ k. lane_after self.lives.odd.left k) block) ∙ lane_take self.blocks self.lives.odd.left b there);
    })
    (c.answer.ensures ∙ rw (even, odd) refl)
