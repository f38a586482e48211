-- Tests in their order: what a refusal, or none, says of them.
use Rattle.std.proofs.Common.{◌≡◌, ℕ, ◌+◌, ◌*◌, ◌/◌, ◌%◌, ◌<◌, ◌≤◌, Bool, true, false, not, eqb, ltb, leb, Some, None, Ok, Err, Option, refl, arith}
use Rattle.std.proofs.lemmas.Bool.{lt-leb, le-ltb, eq-eqb, eqb-true, not-false, ltb-false, leb-false}
use Rattle.medium.specs.Meaning.{Meaning, capacity}
use Rattle.medium.specs.Jobs.{refuse_if, or_else, answers, gives, off_block, no_word, closed, word_refusal, wipe_refusal}
use Rattle.medium.specs.declared.fault.Fault.{Fault}
use Rattle.medium.specs.declared.fault.Fault.TheVariants.{OffCard, OddPlace}

-- a fault and no fault at once
pub never : {X : Type 0} (f : Fault) (o : Option Fault) → o ≡ Some f → o ≡ None → X
never f o p q = absurd (let z : ◌≡◌ {A = ℕ} 0 1 = cc in omega arith)

-- where nothing is refused, each test passed
pub refuse_none : (t : Bool) (f : Fault) (rest : Option Fault) → refuse_if t f rest ≡ None → (t ≡ false) × (rest ≡ None)
refuse_none true f rest e = let z : ◌≡◌ {A = ℕ} 0 1 = cc in absurd (omega arith)
refuse_none false f rest e = (refl, e)

pub or_none : (o rest : Option Fault) → or_else o rest ≡ None → o ≡ None
or_none (Some f) rest e = e
or_none None rest e = refl

-- the fault that an answer tells
pub fault_of : (o : Option Fault) (f : Fault) → Err f ≡ answers o → o ≡ Some f
fault_of (Some g) f e = cc
fault_of None f e = let z : ◌≡◌ {A = ℕ} 0 1 = cc in absurd (omega arith)

-- an answer without a fault tells that there is none
pub none_of : (o : Option Fault) (x : Unit {0}) → Ok x ≡ answers o → o ≡ None
none_of (Some f) x e = let z : ◌≡◌ {A = ℕ} 0 1 = cc in absurd (omega arith)
none_of None x e = refl

-- an answer with a value tells that there is no fault, and what the value is
pub gave_value : {X : Type 0} (o : Option Fault) (x y : X) → Ok y ≡ gives o x → (o ≡ None) × (y ≡ x)
gave_value (Some g) x y e = let z : ◌≡◌ {A = ℕ} 0 1 = cc in absurd (omega arith)
gave_value None x y e = (refl, cc)

-- a block that was found is there, and one that was not is past the last
pub block_found : (n s b at : ℕ) → Ok at ≡ gives (off_block n s b) (b * s) → (b < n) × (at ≡ b * s)
block_found n s b at e =
    let (none, same) = gave_value (off_block n s b) (b * s) at e in
    (leb-false n b (refuse_none (leb n b) (OffCard (b * s)) None none).0, same)

-- a word that passed its tests has a place
pub word_found : (n p : ℕ) → no_word n p ≡ None → (p + 2 ≤ n) × (p % 2 ≡ 0)
word_found n p e =
    let (there, rest) = refuse_none (ltb n (p + 2)) (OffCard p) (refuse_if (not (eqb (p % 2) 0)) (OddPlace p) None) e in
    (ltb-false n (p + 2) there, eqb-true (p % 2) 0 (not-false (eqb (p % 2) 0) (refuse_none (not (eqb (p % 2) 0)) (OddPlace p) None rest).0))

-- past the tests of its place, lock and supply decide whether a job begins
pub wipe_past : (m : Meaning) (b : ℕ) → b < m.blocks → wipe_refusal m b ≡ closed m b (b * m.block_size)
wipe_past m b h = let t : leb m.blocks b ≡ false = lt-leb m.blocks b h in rw t

pub word_past : (m : Meaning) (p : ℕ) → p + 2 ≤ capacity m → p % 2 ≡ 0 → word_refusal m p ≡ closed m (p / m.block_size) p
word_past m p c h =
    let t : ltb (capacity m) (p + 2) ≡ false = le-ltb (capacity m) (p + 2) c in
    let u : eqb (p % 2) 0 ≡ true = eq-eqb (p % 2) 0 h in
    rw (t, u)

-- a begun job lies on the card
pub word_room : (m : Meaning) (p : ℕ) → word_refusal m p ≡ None → p + 2 ≤ capacity m
word_room m p e = ltb-false (capacity m) (p + 2) (refuse_none (ltb (capacity m) (p + 2)) (OffCard p) (refuse_if (not (eqb (p % 2) 0)) (OddPlace p) (closed m (p / m.block_size) p)) e).0

pub wipe_room : (m : Meaning) (b : ℕ) → wipe_refusal m b ≡ None → b < m.blocks
wipe_room m b e = leb-false m.blocks b (refuse_none (leb m.blocks b) (OffCard (b * m.block_size)) (closed m b (b * m.block_size)) e).0
