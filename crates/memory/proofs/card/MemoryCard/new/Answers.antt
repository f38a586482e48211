use Rattle.std.proofs.Common.{◌≡◌, ◌*◌, length, vec_items, sym, ap, ◌∙◌, ap₂, arith}
use Rattle.memory.proofs.NewCard.{new_fits, new_not}
use Rattle.memory.proofs.card.MemoryCard.new.Goals as goal
use Rattle.memory.proofs.card.MemoryCard.new.Goals.{then-len-blocks, else-len-blocks}

pub returns : goal.returns
returns c =
    let s = c.args.geometry.block_size in
    let n = c.args.geometry.blocks_per_pair * c.args.geometry.pairs in
    let size : c.blocks-blocks.result * c.block_size.result ≡ n * s = ap₂ (λ a b. a * b) c.blocks-blocks.ensures.value c.block_size.ensures in
    let len : c.len.result ≡ length c.args.bytes.items = c.len.ensures ∙ c.args.bytes.ok.0 in
    elim c.if-len-blocks.branch [
      | then-len-blocks w ↦ new_not s n c.if-len-blocks.blocks c.args.bytes.items c.if-len-blocks.bytes.items c.none.result.even.left c.none.result.odd.left
          (λ e. w.if-len-blocks.true (len ∙ e ∙ sym size)) w.blocks-is (ap vec_items w.bytes-is ∙ w.clear.ensures.items) c.none.ensures.even c.none.ensures.odd
      | else-len-blocks w ↦ new_fits s n c.if-len-blocks.blocks c.args.bytes.items c.if-len-blocks.bytes.items c.none.result.even.left c.none.result.odd.left
          (omega arith) (sym len ∙ w.if-len-blocks.false ∙ size) (w.blocks-is ∙ c.blocks-blocks.ensures.value) (ap vec_items w.bytes-is) c.none.ensures.even c.none.ensures.odd
    ]
