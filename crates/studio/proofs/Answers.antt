-- The answer of the call, from what the plan answers.
use Rattle.std.proofs.Common.{◌≡◌, ℕ, List, length, Ok, Err, Result, sym, ap, ◌∙◌}
use Rattle.medium.specs.Limits.{BlockSize}
use Rattle.medium.specs.declared.fault.Fault.{Fault}
use Rattle.medium.specs.declared.fault.Fault.TheVariants.{OffCard, NoSuchGeometry}
use Rattle.writer.specs.declared.counts.Counts.{Counts}
use Rattle.writer.proofs.Laws.{put_counts}
use Rattle.studio.specs.Answer.{Answered, Lengths, blocks_counted, number_of, pack}
use Rattle.studio.proofs.Sums.{all_planned}

pub answered : (present wanted : List ℕ) (n r : ℕ) (a : Result Counts Fault) → r ≡ number_of a →
    ((BlockSize n → ⊥) → a ≡ Err NoSuchGeometry) →
    (BlockSize n → (Lengths n (length present) (length wanted) → ⊥) → a ≡ Err (OffCard 0)) →
    (BlockSize n → Lengths n (length present) (length wanted) → a ≡ Ok (blocks_counted n present wanted)) →
    Answered present wanted n r
answered present wanted n r a e size runs counted = record {
  no_such_size = λ none. e ∙ ap number_of (size none);
  off_card = λ s none. e ∙ ap number_of (runs s none);
  planned = λ s l m b c. e ∙ (ap number_of (counted s l) ∙ ap pack (all_planned n present wanted s l m b c));
  as_put = λ s l m m' buf buf' d b c done.
      e ∙ (ap number_of (counted s l) ∙ ap pack (all_planned n present wanted s l m b c ∙ sym (put_counts m m' 0 wanted buf buf' d done)));
}
