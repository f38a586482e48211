-- Which devices a bus cycle reaches, and which word an address finds.
use Rattle.std.specs.Prelude.{ℕ, ◌-◌, ◌%◌, ◌^◌, Bool, cond, Some, None, ◌==◌}
use Rattle.board.specs.declared.side.Side.TheVariants.{Even, Odd}
use Rattle.board.specs.declared.side.Reach.{Reach}
use Rattle.cards.specs.declared.access.Width.{Width}
use Rattle.cards.specs.declared.access.Width.TheVariants.{Word, Byte, OddByte}

-- the access table; odd says that a byte cycle is the odd device's
abbrev pub reach : Width → Bool → Reach
reach Word odd = record { low = Some Even; high = Some Odd }
reach Byte odd = record { low = Some (cond odd Odd Even); high = None }
reach OddByte odd = record { low = None; high = Some Odd }

-- the even place at or below a place
abbrev pub word_of : ℕ → ℕ
word_of p = p - p % 2

-- Series 2 has the address lines A0 to A24, and A0 picks the device of a byte cycle
abbrev pub leads_2 : ℕ → ℕ → ℕ
leads_2 n a = a % 2 ^ 25

abbrev pub picks_2 : ℕ → Bool
picks_2 a = a % 2 == 1

-- Series 100 wraps at its capacity; where it has no bytes, any place is past the last one
abbrev pub leads_100 : ℕ → ℕ → ℕ
leads_100 n a = cond (n == 0) a (a % n)
