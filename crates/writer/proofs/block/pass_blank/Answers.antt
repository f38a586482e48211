use Rattle.std.proofs.Common.{◌≡◌, sym, refl, ◌∙◌, rules}
use Rattle.std.proofs.lemmas.Result.{err_from_is_err_and}
use Rattle.std.specs.Iterator.Adapters.{enumerate_count, enumerate_source}
use Rattle.std.specs.Slice.Iter.{chunks_exact_rest}
use Rattle.writer.proofs.Words.{pair_taken}
use Rattle.writer.proofs.WordLoop.{words_again, words_stop}
use Rattle.writer.proofs.block.pass_blank.Goals as goal

pub loop-k-preserved : goal.loop-k-preserved
loop-k-preserved g c =
    let t = c.in-Some.ensures.steps in
    let i = c.loop-k.invariant in
    let k = enumerate_count c.loop-k.k-iterator in
    let p = pair_taken c.args.block.now c.in-Some.pair.now (chunks_exact_rest (enumerate_source c.next.new.self)) k (sym i.3 ∙ t.0.1.0) (t.0.1.1 ∙ i.2) in
    let e : c.in-Some.k ≡ k = t.1 in
    let w = words_again i.4 p.2 refl (c.word_in-word.ensures ∙ p.0) (rw e at c.in_ok-pass_changed.ensures) in
    (search rules, tt, t.0.0 ∙ i.2, rw (t.2) p.1, rw (t.2) w)

pub returns-in_err-pass_changed : goal.returns-in_err-pass_changed
returns-in_err-pass_changed g c =
    let t = c.in-Some.ensures.steps in
    let i = c.loop-k.invariant in
    let k = enumerate_count c.loop-k.k-iterator in
    let p = pair_taken c.args.block.now c.in-Some.pair.now (chunks_exact_rest (enumerate_source c.next.new.self)) k (sym i.3 ∙ t.0.1.0) (t.0.1.1 ∙ i.2) in
    let e : c.in-Some.k ≡ k = t.1 in
    let q = err_from_is_err_and c.from_residual.result c.from_residual.ensures.1 in
    rw (q.1, q.2) (words_stop i.4 p.2 refl (c.word_in-word.ensures ∙ p.0) (rw e at c.in_err-pass_changed.ensures))
