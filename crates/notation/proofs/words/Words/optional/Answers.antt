use Rattle.std.proofs.Common.{◌≡◌, ℕ, List, drop, length, not, slice_get, sym, ap, ◌∙◌, arith}
use Rattle.std.proofs.lemmas.Bool.{eqb-true, eqb-false}
use Rattle.notation.specs.Words.{is_blank}
use Rattle.notation.proofs.Cut.{cut_at, none_left, one_left}
use Rattle.notation.proofs.words.Words.optional.Goals as goal

pub returns-then-is_empty : goal.returns-then-is_empty
returns-then-is_empty c =
    let blanks = cut_at (λ (b : ℕ). not (is_blank b)) _ _ _ c.word_start.result c.word_start.ensures c.cut.ensures.front c.cut.ensures.back in
    let word = cut_at is_blank _ _ _ c.word_end.result c.word_end.ensures c.cut-2.ensures.front c.cut-2.ensures.back in
    let empty : length c.cut-2.result.0.now ≡ 0 = eqb-true _ _ (sym c.is_empty.ensures ∙ c.if-is_empty.true) in
    let none = none_left is_blank _ _ _ _ _ blanks word empty in
    record { word = none.0; left = none.1 ∙ ap (drop 1) (sym none.0) }

pub returns-else-is_empty : goal.returns-else-is_empty
returns-else-is_empty c =
    let blanks = cut_at (λ (b : ℕ). not (is_blank b)) _ _ _ c.word_start.result c.word_start.ensures c.cut.ensures.front c.cut.ensures.back in
    let word = cut_at is_blank _ _ _ c.word_end.result c.word_end.ensures c.cut-2.ensures.front c.cut-2.ensures.back in
    let some = eqb-false (length c.cut-2.result.0.now) 0 (sym c.is_empty.ensures ∙ c.if-is_empty.false) in
    let one = one_left is_blank _ _ _ _ _ blanks word (omega (arith, some)) in
    record { word = ap (λ (ws : List (List ℕ)). slice_get ws 0) one; left = sym (ap (λ (ws : List (List ℕ)). drop 1 ws) one) }
