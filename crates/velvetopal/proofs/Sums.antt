-- Sums over the calls of a list, one call after another.
use Rattle.std.proofs.Common.{◌≡◌, ℕ, zero, suc, ◌+◌, ◌<◌, List, [], ◌∷◌, length, get_or, take, Result, ap, arith}
use Rattle.writer.specs.declared.counts.Counts.{Counts}
use Rattle.writer.specs.declared.fault.WriterFault.{WriterFault}
use Rattle.histories.specs.declared.call.Call.{Call}
use Rattle.velvetopal.specs.Totals.{of_answer, summed, capped}

-- one call more
summed_more : (f : Result Counts WriterFault → ℕ) (calls : List Call) (k : ℕ) (c : Call) → k < length calls → c ≡ get_or calls k c →
    summed f (take (suc k) calls) ≡ summed f (take k calls) + of_answer f c.answer
summed_more f [] k c h e = absurd (omega arith)
summed_more f (x ∷ calls) zero c h e = let q = ap (λ (z : Call). of_answer f z.answer) e in omega (arith, q)
summed_more f (x ∷ calls) (suc k) c h e = let q = summed_more f calls k c (omega arith) e in omega (arith, q)

pub capped_more : (f : Result Counts WriterFault → ℕ) (calls : List Call) (k before after : ℕ) (c : Call) → k < length calls → c ≡ get_or calls k c →
    before ≡ capped (summed f (take k calls)) → after ≡ capped (before + of_answer f c.answer) → after ≡ capped (summed f (take (k + 1) calls))
capped_more f calls k before after c h e p q =
    let one : k + 1 ≡ suc k = omega arith in
    let s = summed_more f calls k c h e in
    rw one (omega arith)
