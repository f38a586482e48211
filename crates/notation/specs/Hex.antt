-- Bytes as pairs of hexadecimal digits, and bytes of a pattern.
use Rattle.std.specs.Prelude.{◌≡◌, ℕ, ◌+◌, ◌*◌, ◌/◌, ◌%◌, ◌<◌, cond, List, [], ◌∷◌, length, flat_map, Some, None, Option, nat_lt, slice_index}
use Rattle.notation.specs.Digits.{digit_value}

-- the byte of two digits' values, the first counting most
abbrev pub paired : Option ℕ → Option ℕ → Option ℕ
paired (Some h) (Some l) = Some (16 * h + l)
paired (Some h) None = None
paired None l = None

-- the byte that two digits stand for
abbrev pub byte_value : ℕ → ℕ → Option ℕ
byte_value h l = paired (digit_value h) (digit_value l)

-- digits stand for bytes, pair by pair
pub record Pairs (digits bytes : List ℕ) : Type 0 where
  pub long : length digits ≡ 2 * length bytes
  pub each : (k : ℕ) → k < length bytes → byte_value (slice_index digits (2 * k)) (slice_index digits (2 * k + 1)) ≡ Some (slice_index bytes k)

-- the digit of a value below sixteen, with capital letters
abbrev pub capital : ℕ → ℕ
capital v = cond (nat_lt v 10) (48 + v) (55 + v)

-- the two digits of a byte, the first counting most
abbrev pub digits_of : ℕ → List ℕ
digits_of b = capital (b / 16) ∷ capital (b % 16) ∷ []

-- the digits of bytes, pair by pair
abbrev pub hex_text : List ℕ → List ℕ
hex_text bytes = flat_map digits_of bytes

-- text begins with the digits of bytes, pair by pair
abbrev pub Written : List ℕ → List ℕ → ℕ → Type 0
Written bytes text n = (k : ℕ) → k < n → (slice_index text (2 * k) ≡ capital (slice_index bytes k / 16)) × (slice_index text (2 * k + 1) ≡ capital (slice_index bytes k % 16))

-- the first n of bytes that repeat a pattern
abbrev pub Repeats : List ℕ → ℕ → List ℕ → Type 0
Repeats pattern n bytes = (k : ℕ) → k < n → slice_index bytes k ≡ slice_index pattern (k % length pattern)
