-- What a wipe leaves of a block, place by place.
use Rattle.std.proofs.Common.{◌≡◌, ℕ, zero, suc, ◌%◌, ◌<◌, Bool, true, cond, eqb, List, [], ◌∷◌, length, get_or, replicate, sym, refl, ap, ◌∙◌, arith}
use Rattle.std.proofs.lemmas.Bool.Decides.{nat_tests}
use Rattle.std.proofs.lemmas.List.{ext_get_or}
use Rattle.medium.specs.Jobs.{wiped, byte_after}

pub length_wiped : (e o : Bool) (l : List ℕ) → length (wiped e o l) ≡ length l
length_wiped e o [] = refl
length_wiped e o (x ∷ l) = ap suc (length_wiped o e l)

-- whether the lane of place k lives
abbrev pub lane : Bool → Bool → ℕ → Bool
lane e o k = cond (eqb (k % 2) 0) e o

lane_suc : (e o : Bool) (k : ℕ) → lane e o (suc k) ≡ lane o e k
lane_suc e o k = grind (arith, nat_tests)

pub get_or_wiped : (e o : Bool) (l : List ℕ) (k : ℕ) → k < length l → get_or (wiped e o l) k 0 ≡ byte_after (lane e o k) 255 (get_or l k 0)
get_or_wiped e o [] k h = omega arith
get_or_wiped e o (x ∷ l) zero h = refl
get_or_wiped e o (x ∷ l) (suc k) h = get_or_wiped o e l k (omega arith) ∙ ap (λ t. byte_after t 255 (get_or l k 0)) (sym (lane_suc e o k))

-- a list is what a wipe leaves, if it is so at each place
pub wiped_from : (e o : Bool) (l s : List ℕ) → length s ≡ length l → ((k : ℕ) → k < length l → get_or s k 0 ≡ byte_after (lane e o k) 255 (get_or l k 0)) → s ≡ wiped e o l
wiped_from e o l s n h =
    ext_get_or 0 s (wiped e o l) (n ∙ sym (length_wiped e o l))
    (λ k i. h k (omega arith) ∙ sym (get_or_wiped e o l k (omega arith)))

pub wiped_both : (l : List ℕ) → wiped true true l ≡ replicate (length l) 255
wiped_both [] = refl
wiped_both (x ∷ l) = ap (λ t. 255 ∷ t) (wiped_both l)
