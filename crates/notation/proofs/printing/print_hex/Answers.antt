use Rattle.std.proofs.Common.{◌≡◌, ℕ, List, ◌++◌, length, Some, None, Option, sym, ap, ◌∙◌, arith, rules, append_assoc, length-append, length-drop}
use Rattle.std.specs.Io.KnownBytes.{Appends}
use Rattle.std.specs.List.{flat_map}
use Rattle.std.specs.Slice.Iter.{chunks_rest}
use Rattle.std.proofs.lemmas.List.{length-map}
use Rattle.std.proofs.lemmas.Grind.{flat_map-append}
use Rattle.std.proofs.lemmas.List.Folds.{flat_map-map}
use Rattle.notation.specs.Hex.{digits_of, hex_text}
use Rattle.notation.proofs.printing.print_hex.Goals as goal

-- two writes in a row
appended : (a b c : Option (List ℕ)) (xs ys : List ℕ) → Appends a b xs → Appends b c ys → Appends a c (xs ++ ys)
appended None b c xs ys p q = tt
appended (Some a) (Some b) (Some c) xs ys p q = q ∙ ap (λ (t : List ℕ). t ++ ys) p ∙ append_assoc a xs ys
appended (Some a) (Some b) None xs ys p q = absurd q
appended (Some a) None c xs ys p q = absurd p

pub loop-chunk-preserved : goal.loop-chunk-preserved
loop-chunk-preserved g c =
    let steps = c.in-Some.ensures.steps in
    let size = c.loop-chunk.invariant.2 in
    let long = c.loop-chunk.invariant.3 in
    let so_far = c.loop-chunk.invariant.4 in
    let chunk = c.in-Some.chunk.now in
    let rest = chunks_rest c.next.new.self in
    let text = c.as_flattened.result.now in
    let pairs : length c.pair_up.new.pairs ≡ length chunk = ap length c.pair_up.ensures.pairs ∙ length-map chunk digits_of in
    let shown : text ≡ hex_text chunk = c.as_flattened.ensures.value ∙ ap (flat_map (λ (x : List ℕ). x)) c.pair_up.ensures.pairs ∙ flat_map-map (λ (x : List ℕ). x) digits_of chunk in (
      search rules,
      tt,
      steps.0 ∙ size,
      length-append c.pair_up.new.pairs _ ∙ omega (arith, pairs, length-drop (length chunk) c.loop-chunk.digits),
      (
        so_far.0 ++ text,
        appended _ _ _ _ _ so_far.1 c.in_ok-write_all.ensures.bytes,
        append_assoc so_far.0 text (hex_text rest)
            ∙ ap (λ (t : List ℕ). so_far.0 ++ t) (ap (λ (t : List ℕ). t ++ hex_text rest) shown ∙ sym (flat_map-append digits_of chunk rest) ∙ ap hex_text (sym steps.1.0))
            ∙ so_far.2,
      ),
    )
