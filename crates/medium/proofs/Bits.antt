-- AND of numbers, bit by bit.
use Rattle.std.proofs.Common.{◌≡◌, ℕ, zero, suc, ◌/◌, ◌%◌, ◌≤◌, min, sym, ap, ◌∙◌, arith}
use lib.Bits.{bit_and, and_step, and_zero_l, and_self}
use Rattle.medium.specs.Jobs.{Between}

upto : (d x y : ℕ) → x ≤ d → bit_and x (bit_and x y) ≡ bit_and x y
upto zero x y h =
    let z : x ≡ 0 = omega arith in
    ap (λ n. bit_and n (bit_and n y)) z ∙ and_zero_l (bit_and 0 y) ∙ sym (and_zero_l y) ∙ ap (λ n. bit_and n y) (sym z)
upto (suc d) x y h =
    let one = and_step x y in
    let two = and_step x (bit_and x y) in
    let low : bit_and x y % 2 ≡ min (x % 2) (y % 2) = omega arith in
    let high : bit_and x y / 2 ≡ bit_and (x / 2) (y / 2) = omega arith in
    let back : bit_and (x / 2) (bit_and x y / 2) ≡ bit_and (x / 2) (y / 2) = ap (λ n. bit_and (x / 2) n) high ∙ upto d (x / 2) (y / 2) (omega arith) in
    omega arith

pub and_and : (x y : ℕ) → bit_and x (bit_and x y) ≡ bit_and x y
and_and x y = upto x x y (omega arith)

-- a worn lane may leave the old byte
pub between_old : (x y : ℕ) → Between x y x
between_old x y = record { no_rise = and_self x; no_more = and_and x y }
