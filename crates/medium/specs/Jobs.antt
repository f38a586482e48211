-- What a medium's read and its two jobs answer and leave.
use Rattle.std.specs.Prelude.{◌≡◌, ℕ, ◌+◌, ◌*◌, ◌/◌, ◌%◌, Bool, true, false, cond, not, List, [], ◌∷◌, ◌++◌, length, take, drop, Some, None, Ok, Err, Option, Result, ◌==◌, bit_and, nat_le, nat_lt, slice_index, slice_index_or}
use Rattle.medium.specs.Meaning.{Meaning, EachBelow, capacity}
use Rattle.medium.specs.Wear.{alive, lane_after}
use Rattle.medium.specs.declared.fault.Fault.{Fault}
use Rattle.medium.specs.declared.fault.Fault.TheVariants.{OffCard, OddPlace, Locked, LowSupply, Worn}
use Rattle.medium.specs.declared.lanes.Lanes.TheVariants.{Even, Odd, Both}
use Rattle.medium.specs.declared.lives.BlockLives.{BlockLives}

-- the fault where a test fails, or else what the later tests give
abbrev pub refuse_if : Bool → Fault → Option Fault → Option Fault
refuse_if true f rest = Some f
refuse_if false f rest = rest

-- the first of two faults, if any
abbrev pub or_else : Option Fault → Option Fault → Option Fault
or_else (Some f) rest = Some f
or_else None rest = rest

-- the answer that goes with a fault or none
abbrev pub answers : Option Fault → Result (Unit {0}) Fault
answers (Some f) = Err f
answers None = Ok tt

-- the fault, or else the value x
abbrev pub gives : {X : Type 0} → Option Fault → X → Result X Fault
gives (Some f) x = Err f
gives None x = Ok x

-- the refusal of block b where there are n of s bytes, or none
abbrev pub off_block : ℕ → ℕ → ℕ → Option Fault
off_block n s b = refuse_if (nat_le n b) (OffCard (b * s)) None

-- the refusal of k bytes from p on where there are n, or none
abbrev pub no_range : ℕ → ℕ → ℕ → Option Fault
no_range n p k = refuse_if (nat_lt n (p + k)) (OffCard p) None

-- the refusal of a word at p where there are n bytes, or none
abbrev pub no_word : ℕ → ℕ → Option Fault
no_word n p = refuse_if (nat_lt n (p + 2)) (OffCard p) (refuse_if (not (p % 2 == 0)) (OddPlace p) None)

-- the refusal of a call that names block b, where there is none
abbrev pub no_block : Meaning → ℕ → Option Fault
no_block m b = off_block m.blocks m.block_size b

-- what a card answers when asked for the lives left on block b
abbrev pub lives_answer : Meaning → ℕ → Result BlockLives Fault
lives_answer m b =
    cond (nat_le m.blocks b) (Err (OffCard (b * m.block_size)))
    (Ok (record { even = slice_index m.even_lives b; odd = slice_index m.odd_lives b }))

-- what keeps a job on block b from beginning, past the tests of its place; its faults have the place p
abbrev pub closed : Meaning → ℕ → ℕ → Option Fault
closed m b p =
    refuse_if (slice_index_or m.locks b false) (Locked p)
    (refuse_if (not m.supply) (LowSupply p) None)

-- the refusal of a word write at p, and of the wipe of block b, or none: then the job is begun
abbrev pub word_refusal : Meaning → ℕ → Option Fault
word_refusal m p =
    refuse_if (nat_lt (capacity m) (p + 2)) (OffCard p)
    (refuse_if (not (p % 2 == 0)) (OddPlace p) (closed m (p / m.block_size) p))

abbrev pub wipe_refusal : Meaning → ℕ → Option Fault
wipe_refusal m b =
    refuse_if (nat_le m.blocks b) (OffCard (b * m.block_size)) (closed m b (b * m.block_size))

-- what a begun job answers at p, by whether each lane is alive: 6 names exactly the worn ones
abbrev pub worn : ℕ → Bool → Bool → Option Fault
worn p true true = None
worn p false true = Some (Worn p Even)
worn p true false = Some (Worn p Odd)
worn p false false = Some (Worn p Both)

abbrev pub worn_at : Meaning → ℕ → ℕ → Option Fault
worn_at m b p = worn p (alive m.even_lives b) (alive m.odd_lives b)

-- the fault of a job, or none
abbrev pub word_fault : Meaning → ℕ → Option Fault
word_fault m p = or_else (word_refusal m p) (worn_at m (p / m.block_size) p)

abbrev pub wipe_fault : Meaning → ℕ → Option Fault
wipe_fault m b = or_else (wipe_refusal m b) (worn_at m b (b * m.block_size))

-- a byte after a job: what a living lane makes of it, or what a worn lane left
abbrev pub byte_after : Bool → ℕ → ℕ → ℕ
byte_after lives made left = cond lives made left

-- the bytes of a block after its wipe, from an even place on, by whether each lane lives: a worn lane leaves those of l
abbrev pub wiped : Bool → Bool → List ℕ → List ℕ
wiped e o [] = []
wiped e o (x ∷ l) = byte_after e 255 x ∷ wiped o e l

-- xs with ys laid over it from place p on
abbrev pub laid : List ℕ → ℕ → List ℕ → List ℕ
laid xs p ys = take p xs ++ (ys ++ drop (p + length ys) xs)

-- m with other contents, and both lanes' lives as after a begun job on block b
abbrev pub worked : Meaning → ℕ → List ℕ → Meaning
worked m b xs =
    record {
      block_size = m.block_size;
      blocks = m.blocks;
      bytes = xs;
      locks = m.locks;
      supply = m.supply;
      even_lives = lane_after m.even_lives b;
      odd_lives = lane_after m.odd_lives b;
    }

-- after a begun write of the word v at p: a living lane ANDs its byte, a worn one leaves e or o
abbrev pub word_after : Meaning → ℕ → ℕ → ℕ → ℕ → Meaning
word_after m p v e o =
    worked m (p / m.block_size)
    (laid m.bytes p
    (byte_after (alive m.even_lives (p / m.block_size)) (bit_and (slice_index m.bytes p) (v % 256)) e
    ∷ byte_after (alive m.odd_lives (p / m.block_size)) (bit_and (slice_index m.bytes (p + 1)) (v / 256)) o
    ∷ []))

-- after a begun wipe of block b: a living lane's bytes are FFH, a worn one leaves those of l
abbrev pub wipe_after : Meaning → ℕ → List ℕ → Meaning
wipe_after m b l =
    worked m b (laid m.bytes (b * m.block_size) (wiped (alive m.even_lives b) (alive m.odd_lives b) l))

-- each bit of x is that of old, or that of old AND asked
pub record Between (old asked x : ℕ) : Type 0 where
  pub no_rise : bit_and x old ≡ x
  pub no_more : bit_and x (bit_and old asked) ≡ bit_and old asked

-- a begun word write: free is only the byte that a worn lane leaves
pub record WordBegun (m : Meaning) (p v : ℕ) (m' : Meaning) : Type 0 where
  pub even : ℕ
  pub odd : ℕ
  pub even_between : Between (slice_index m.bytes p) (v % 256) even
  pub odd_between : Between (slice_index m.bytes (p + 1)) (v / 256) odd
  pub after : m' ≡ word_after m p v even odd

-- a begun wipe: free are only the bytes that a worn lane leaves
pub record WipeBegun (m : Meaning) (b : ℕ) (m' : Meaning) : Type 0 where
  pub left : List ℕ
  pub long : length left ≡ m.block_size
  pub byte : EachBelow 256 left
  pub after : m' ≡ wipe_after m b left

-- a write of the word v at p answers r and leaves m'
pub record WordDone (m : Meaning) (p v : ℕ) (r : Result (Unit {0}) Fault) (m' : Meaning) : Type 0 where
  pub answer : r ≡ answers (word_fault m p)
  pub refused : (f : Fault) → word_refusal m p ≡ Some f → m' ≡ m
  pub begun : word_refusal m p ≡ None → WordBegun m p v m'

-- a wipe of block b answers r and leaves m'
pub record WipeDone (m : Meaning) (b : ℕ) (r : Result (Unit {0}) Fault) (m' : Meaning) : Type 0 where
  pub answer : r ≡ answers (wipe_fault m b)
  pub refused : (f : Fault) → wipe_refusal m b ≡ Some f → m' ≡ m
  pub begun : wipe_refusal m b ≡ None → WipeBegun m b m'

-- the refusal of a read of n bytes from p, or none
abbrev pub read_refusal : Meaning → ℕ → ℕ → Option Fault
read_refusal m p n = no_range (capacity m) p n

-- the buffer after it: refused, as it was
abbrev pub read_into : Meaning → ℕ → List ℕ → List ℕ
read_into m p buf = cond (nat_lt (capacity m) (p + length buf)) buf (take (length buf) (drop p m.bytes))

-- a read from p into a buffer answers r, and leaves m' and the buffer buf'
pub record ReadDone (m : Meaning) (p : ℕ) (buf : List ℕ) (r : Result (Unit {0}) Fault) (m' : Meaning) (buf' : List ℕ) : Type 0 where
  pub answer : r ≡ answers (read_refusal m p (length buf))
  pub shown : buf' ≡ read_into m p buf
  pub same : m' ≡ m
