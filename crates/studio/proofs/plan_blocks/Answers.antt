use Rattle.std.proofs.Common.{◌≡◌, ◌+◌, ◌*◌, ◌/◌, ◌<◌, [], ◌∷◌, ◌++◌, drop, length, sym, ◌∙◌, arith}
use Rattle.std.proofs.lemmas.Nat.{le-div}
use Rattle.std.proofs.lemmas.List.{length-append}
use Rattle.std.specs.Iterator.Adapters.{zip_first, zip_second}
use Rattle.std.specs.Slice.Iter.{chunks_exact_rest, chunks_exact_size}
use Rattle.medium.proofs.Sizes.{size_two}
use Rattle.writer.specs.Blocks.{block_at}
use Rattle.writer.proofs.Parts.{part_taken}
use Rattle.studio.proofs.Sums.{counted_here, few_more, has_plan, wipes_left, words_left}
use Rattle.studio.proofs.plan_blocks.Goals.{In-Some}
use Rattle.studio.proofs.plan_blocks.Goals as goal

-- the two parts that a turn takes are those of one block, which is among them
record Taken (c : In-Some) : Type 0 where
  old : c.in-Some.old.now ≡ block_at c.args.n c.args.present.now (length c.loop-old.yielded)
  new : c.in-Some.new.now ≡ block_at c.args.n c.args.wanted.now (length c.loop-old.yielded)
  old_rest : chunks_exact_rest (zip_first c.next.new.self) ≡ drop ((length c.loop-old.yielded + 1) * c.args.n) c.args.present.now
  new_rest : chunks_exact_rest (zip_second c.next.new.self) ≡ drop ((length c.loop-old.yielded + 1) * c.args.n) c.args.wanted.now
  here : length c.loop-old.yielded < length c.args.present.now / c.args.n

taken : (c : In-Some) → Taken c
taken c =
    let t = c.in-Some.ensures.steps in
    let i = c.loop-old.invariant in
    let b = length c.loop-old.yielded in
    let n = c.args.n in
    let p = part_taken c.args.present.now c.in-Some.old.now (chunks_exact_rest (zip_first c.next.new.self)) n b (sym i.4 ∙ t.0.1.0) (t.0.1.1 ∙ i.2) in
    let q = part_taken c.args.wanted.now c.in-Some.new.now (chunks_exact_rest (zip_second c.next.new.self)) n b (sym i.5 ∙ t.1.1.0) (t.1.1.1 ∙ i.3) in
    let two = size_two n c.requires.sized in
    let l = p.2 (omega arith) in
    let h = le-div (b + 1) (length c.args.present.now) n (omega arith) (omega arith) in
    record { old = p.0; new = q.0; old_rest = p.1; new_rest = q.1; here = omega arith }

pub plan_whole-block-requires : goal.plan_whole-block-requires
plan_whole-block-requires c =
    let t = taken (goal.at.plan_whole-block-requires c).In-Some in
    has_plan c.args.n c.args.present.now c.args.wanted.now c.requires.sized c.requires.whole (length c.loop-old.yielded) t.here
    c.in-Some.old.now c.in-Some.new.now t.old t.new

pub overflow_add-counts : goal.overflow_add-counts
overflow_add-counts c =
    let t = taken (goal.at.overflow_add-counts c).In-Some in
    let f = few_more c.args.n c.args.present.now c.args.wanted.now c.requires.sized c.requires.whole (length c.loop-old.yielded) t.here
    c.in-Some.old.now c.in-Some.new.now t.old t.new c.plan_whole-block.result c.plan_whole-block.ensures
    c.loop-old.counts.wipes c.loop-old.counts.words c.loop-old.invariant.8 in
    omega arith

pub overflow_add-counts-in-loop-old : goal.overflow_add-counts-in-loop-old
overflow_add-counts-in-loop-old c =
    let t = taken (goal.at.overflow_add-counts-in-loop-old c).In-Some in
    let f = few_more c.args.n c.args.present.now c.args.wanted.now c.requires.sized c.requires.whole (length c.loop-old.yielded) t.here
    c.in-Some.old.now c.in-Some.new.now t.old t.new c.plan_whole-block.result c.plan_whole-block.ensures
    c.loop-old.counts.wipes c.loop-old.counts.words c.loop-old.invariant.8 in
    omega arith

pub loop-old-preserved : goal.loop-old-preserved
loop-old-preserved c =
    let t = taken (goal.at.loop-old-preserved c).In-Some in
    let b = length c.loop-old.yielded in
    let e = counted_here c.args.n c.args.present.now c.args.wanted.now c.requires.sized c.requires.whole b t.here
    c.in-Some.old.now c.in-Some.new.now t.old t.new c.plan_whole-block.result c.plan_whole-block.ensures in
    let f = few_more c.args.n c.args.present.now c.args.wanted.now c.requires.sized c.requires.whole b t.here
    c.in-Some.old.now c.in-Some.new.now t.old t.new c.plan_whole-block.result c.plan_whole-block.ensures
    c.loop-old.counts.wipes c.loop-old.counts.words c.loop-old.invariant.8 in
    let wipes = wipes_left c.args.n c.args.present.now c.args.wanted.now c.requires.sized c.requires.whole b t.here in
    let words = words_left c.args.n c.args.present.now c.args.wanted.now c.requires.sized c.requires.whole b t.here in
    let i = c.loop-old.invariant in
    let s = c.in-Some.ensures.steps in
    let two = size_two c.args.n c.requires.sized in
    let first : chunks_exact_size (zip_first c.next.new.self) ≡ c.args.n = s.0.0 ∙ i.2 in
    let second : chunks_exact_size (zip_second c.next.new.self) ≡ c.args.n = s.1.0 ∙ i.3 in
    let z : length (c.loop-old.yielded ++ (c.in-Some.old, c.in-Some.new) ∷ []) ≡ b + 1 = length-append _ _ in
    rw z ((omega arith, omega arith), tt, first, second, t.old_rest, t.new_rest, omega arith, omega arith, omega arith)
