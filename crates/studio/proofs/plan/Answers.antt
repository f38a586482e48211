use Rattle.std.proofs.Common.{◌≡◌, ℕ, length, sym, ◌∙◌, arith}
use Rattle.medium.proofs.Sizes.{size_two}
use Rattle.studio.proofs.Lengths.{lengths_tested, size_made, tested_lengths}
use Rattle.studio.proofs.plan.Goals as goal

pub returns-then-not-are_whole_blocks-clause-no_such_size : goal.returns-then-not-are_whole_blocks-clause-no_such_size
returns-then-not-are_whole_blocks-clause-no_such_size c = λ none. absurd (none (size_made c.args.block_size c.in_ok-new.field-0 c.in_ok-new.ensures.made.0))

pub returns-then-not-are_whole_blocks-clause-counted : goal.returns-then-not-are_whole_blocks-clause-counted
returns-then-not-are_whole_blocks-clause-counted c = λ s l.
    let two = size_two c.args.block_size s in
    let e = c.if-not-are_whole_blocks.ensures ∙ tested_lengths c.args.block_size (length c.args.present.now) (length c.args.wanted.now) (omega arith) l in
    let z : ◌≡◌ {A = ℕ} 0 1 = cc in
    absurd (omega arith)

pub plan_blocks-requires-clause-sized : goal.plan_blocks-requires-clause-sized
plan_blocks-requires-clause-sized c = size_made c.args.block_size c.in_ok-new.field-0 c.in_ok-new.ensures.made.0

pub plan_blocks-requires-clause-whole : goal.plan_blocks-requires-clause-whole
plan_blocks-requires-clause-whole c =
    lengths_tested c.args.block_size (length c.args.present.now) (length c.args.wanted.now) (sym c.if-not-are_whole_blocks.ensures)

pub returns-clause-no_such_size : goal.returns-clause-no_such_size
returns-clause-no_such_size c = λ none. absurd (none (size_made c.args.block_size c.in_ok-new.field-0 c.in_ok-new.ensures.made.0))

pub returns-clause-off_card : goal.returns-clause-off_card
returns-clause-off_card c = λ s none.
    absurd (none (lengths_tested c.args.block_size (length c.args.present.now) (length c.args.wanted.now) (sym c.if-not-are_whole_blocks.ensures)))
