use Rattle.std.proofs.Common.{◌≡◌, ◌*◌, ◌≤◌, length, replicate, vec_items, sym, ap, ◌∙◌, arith}
use Rattle.std.proofs.lemmas.Nat.{mul-le}
use Rattle.medium.specs.Limits.{most_blocks, most_per_pair, most_pairs}
use Rattle.devices.specs.Chip.{fresh}
use Rattle.devices.specs.Table.{table_chips, table_pairs}
use Rattle.board.proofs.NewBoard.{new_fits, new_not}
use Rattle.board.proofs.board.Board.new.Goals as goal
use Rattle.board.proofs.board.Board.new.Goals.{then-len-capacity, else-len-capacity}

pub returns : goal.returns
returns c =
    let g = c.args.geometry in
    let t = c.new.result in
    let w = c.new-2.result in
    let es = c.none.result.even.left in
    let os = c.none.result.odd.left in
    let xs = vec_items c.args.bytes in
    let ys = vec_items c.if-len-capacity.bytes in
    let chips : table_chips t ≡ replicate (2 * table_pairs t) fresh = c.new.ensures.chips ∙ ap (λ n. replicate (2 * n) fresh) (sym c.new.ensures.pairs) in
    let len : c.len.result ≡ length xs = c.len.ensures ∙ c.args.bytes.ok.0 in
    let few : g.blocks_per_pair * g.pairs ≤ most_blocks = mul-le g.blocks_per_pair g.pairs most_per_pair most_pairs g.within.1.1 g.within.2.1 in
    elim c.if-len-capacity.branch [
      | then-len-capacity v ↦ new_not g.block_size g.blocks_per_pair es os (table_chips t) w.write w.wipe
          c.none.ensures.even c.none.ensures.odd c.new-2.ensures.write c.new-2.ensures.wipe
          g.pairs (table_pairs t) xs ys
          (λ e. v.if-len-capacity.true (len ∙ e ∙ sym c.capacity.ensures))
          (omega (arith, c.new.ensures.pairs, v.pairs-is))
          (ap vec_items v.bytes-is ∙ v.clear.ensures.items) chips
      | else-len-capacity v ↦ new_fits g.block_size g.blocks_per_pair es os (table_chips t) w.write w.wipe
          c.none.ensures.even c.none.ensures.odd c.new-2.ensures.write c.new-2.ensures.wipe
          g.pairs (table_pairs t) xs ys few
          (sym len ∙ v.if-len-capacity.false ∙ c.capacity.ensures)
          (omega (arith, c.new.ensures.pairs, v.pairs-is, c.pairs-pairs.ensures, g.within.2.1))
          (ap vec_items v.bytes-is) chips
    ]
