use Rattle.std.proofs.Common.{◌≡◌, suc, ◌+◌, ◌*◌, ◌/◌, ◌%◌, ◌≤◌, ◌++◌, length, get_or, take, vec_items, ap, ◌∙◌, arith}
use Rattle.std.specs.List.{repeat}
use Rattle.std.proofs.lemmas.List.{length-take-le}
use Rattle.std.proofs.lemmas.Nat.{div-add-mod'}
use Rattle.std.proofs.Math.Nat.{mod-lt}
use Rattle.notation.proofs.Patterns.{repeat_and_front, repeat_long, repeat_more}
use Rattle.notation.proofs.pairs.repeated.Goals as goal

pub loop-copies-preserved : goal.loop-copies-preserved
loop-copies-preserved c =
    let xs = c.args.pattern.now in
    let n = c.loop-copies.copies in
    let next : suc n ≡ n + 1 = omega arith in
    c.in_ok-extend_from_slice.ensures.items ∙ ap (λ l. l ++ xs) c.loop-copies.invariant ∙ repeat_more n xs ∙ ap (λ m. repeat m xs) next

pub returns-clause-made : goal.returns-clause-made
returns-clause-made c h =
    let xs = c.args.pattern.now in
    let n = c.args.count in
    let q = n / length xs in
    let r = n % length xs in
    let few : r ≤ length xs = omega (arith, mod-lt n h) in
    let all : q * length xs + r ≡ n = div-add-mod' n (length xs) in
    let turns : c.loop-copies.copies ≡ q = omega (arith, c.loop-copies-test.false, c.loop-copies.auto.copies-end) in
    let whole : vec_items c.loop-copies.bytes ≡ repeat q xs = c.loop-copies.invariant ∙ ap (λ m. repeat m xs) turns in
    let long = ap length whole ∙ repeat_long q xs in
    let made = c.in_ok-extend_from_slice-2.ensures.items ∙ ap (λ l. l ++ take r xs) whole in (
      omega (arith, c.in_ok-extend_from_slice-2.ensures.len, c.loop-copies.bytes.ok.0, long, length-take-le r xs few, all),
      λ k low. ap (λ l. get_or l k 0) made ∙ repeat_and_front q r xs k few (omega (arith, low, all)),
    )
