-- What a job leaves in a vector; bytes that it leaves are bytes.
use Rattle.std.proofs.Common.{◌≡◌, ℕ, ◌+◌, ◌/◌, ◌%◌, Bool, List, Vec, length, get_or, ap, ◌∙◌, arith}
use Rattle.std.specs.Vec.{with_items}
use Rattle.std.proofs.lemmas.List.{with_items_is}
use lib.Bits.{and_le_l}
use Rattle.std.specs.List.{between}
use Rattle.medium.specs.Meaning.{EachBelow}
use Rattle.medium.specs.Jobs.{laid, wiped}
use Rattle.medium.proofs.Below.{below_same, below_laid, below_two, below_wiped, byte_below}
use Rattle.medium.proofs.Relaid.{below_between}
use Rattle.memory.specs.Card.{pair_after, word_laid}

-- what a vector holds whose items were borrowed as xs and left as ws
pub left_in : {Z : Type 0} (v : Vec ℕ Z) (xs ws : List ℕ) (f : List ℕ → List ℕ) → length ws ≡ length xs → length xs ≡ v.len → xs ≡ v.items → ws ≡ f xs → (with_items v ws).items ≡ f v.items
left_in v xs ws f kept long e w = with_items_is v ws (kept ∙ long) ∙ w ∙ ap f e

-- bytes stay bytes
pub below_wipe : (xs ws : List ℕ) (p : ℕ) (e o : Bool) (i j : ℕ) → EachBelow 256 xs → ws ≡ laid xs p (wiped e o (between i j xs)) → EachBelow 256 ws
below_wipe xs ws p e o i j h q =
    below_same 256 (laid xs p (wiped e o (between i j xs))) ws q
    (below_laid 256 xs (wiped e o (between i j xs)) p (omega arith) h (below_wiped e o (between i j xs) (below_between xs i j h)))

pub below_word : (xs ws : List ℕ) (p : ℕ) (e o : Bool) (v : ℕ) → EachBelow 256 xs → ws ≡ word_laid e o v p xs → EachBelow 256 ws
below_word xs ws p e o v h q =
    let a = get_or xs p 0 in
    let b = get_or xs (p + 1) 0 in
    let low = h p in
    let high = h (p + 1) in
    below_same 256 (word_laid e o v p xs) ws q
    (below_laid 256 xs (pair_after e o v a b) p (omega arith) h
    (below_two 256 _ _ (byte_below e _ a (omega (arith, and_le_l a (v % 256))) low) (byte_below o _ b (omega (arith, and_le_l b (v / 256))) high)))
