use Rattle.std.proofs.Common.{inr, refl, ◌+◌, ◌*◌, drop, sym, ◌∙◌, arith}
use Rattle.notation.proofs.Spelling.{some_digits, spelled_at, spelled_grows}
use Rattle.notation.proofs.digits.spelled.Goals as goal

pub returns-then-number-most : goal.returns-then-number-most
returns-then-number-most c = inr (
  refl,
  λ n e.
      let xs = c.args.digits.now in
      let i = c.loop-byte.byte-index in
      let at =
      spelled_at c.args.base c.loop-byte.number xs i c.in-Some.value c.loop-byte-test.true
      (sym c.digit.ensures ∙ c.in-Some.is) in
      let grows =
      spelled_grows c.args.base (c.loop-byte.number * c.args.base + c.in-Some.value) (drop (i + 1) xs) n (omega arith)
      (sym at ∙ c.loop-byte.invariant.1 ∙ sym (some_digits c.args.base xs (λ z. omega (arith, z, c.loop-byte-test.true))) ∙ e) in
      omega (arith, grows, c.if-number-most.true),
)
