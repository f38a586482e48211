use Rattle.std.proofs.Common.{◌≡◌, ℕ, ◌+◌, ◌/◌, ◌%◌, min, List, ap, subst, arith}
use Rattle.std.proofs.lemmas.Result.{err_from_is_err_and}
use Rattle.writer.specs.Source.{bytes_of}
use Rattle.writer.specs.Jobs.{Job}
use Rattle.writer.specs.Passes.{passed}
use Rattle.writer.proofs.Words.{differing_touched}
use Rattle.writer.proofs.WordLoop.{words_again, words_stop}
use Rattle.writer.proofs.block.pass_touched.Goals as goal

pub loop-k-init : goal.loop-k-init
loop-k-init g c =
    record {
      gives = ap (λ (z : List Job). passed g.J.Jobs.how z (g.M.Medium.meaning c.args.medium.now) (g.J.Jobs.counted c.args.jobs.now))
          (differing_touched c.args.start c.args.change.block.now (bytes_of c.args.change.laying.source) c.args.change.laying.place c.div_ceil-end.result c.args.change.within c.requires.whole
          (subst (λ (z : ℕ). c.div_ceil-end.result ≡ z / 2 + min 1 (z % 2)) c.end.ensures c.div_ceil-end.ensures));
      few = omega arith;
    }

pub returns-in_err-pass_changed : goal.returns-in_err-pass_changed
returns-in_err-pass_changed g c =
    let p = err_from_is_err_and c.from_residual.result c.from_residual.ensures.1 in
    rw (p.1, p.2) (words_stop c.loop-k.invariant c.loop-k-test.true c.word_in-standing.ensures c.wanted_word-word.ensures c.in_err-pass_changed.ensures)

pub loop-k-preserved : goal.loop-k-preserved
loop-k-preserved g c =
    words_again c.loop-k.invariant c.loop-k-test.true c.word_in-standing.ensures c.wanted_word-word.ensures c.in_ok-pass_changed.ensures
