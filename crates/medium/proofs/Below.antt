-- Lists of numbers below a bound.
use Rattle.std.proofs.Common.{◌≡◌, ℕ, zero, suc, ◌+◌, ◌-◌, ◌<◌, Bool, true, false, cond, List, [], ◌∷◌, ◌++◌, length, get_or, take, drop, set, replicate, sym, subst, arith}
use Rattle.medium.specs.Meaning.{EachBelow}
use Rattle.medium.specs.Wear.{alive, spend, lane_after}
use Rattle.medium.specs.Jobs.{laid, wiped, byte_after}

pub below_same : (n : ℕ) (xs ys : List ℕ) → ys ≡ xs → EachBelow n xs → EachBelow n ys
below_same n xs ys e h = subst (EachBelow n) (sym e) h

pub below_take : (n k : ℕ) (xs : List ℕ) → 0 < n → EachBelow n xs → EachBelow n (take k xs)
below_take n zero xs z h i = z
below_take n (suc k) [] z h i = z
below_take n (suc k) (x ∷ xs) z h zero = h 0
below_take n (suc k) (x ∷ xs) z h (suc i) = below_take n k xs z (λ j. h (suc j)) i

pub below_drop : (n k : ℕ) (xs : List ℕ) → EachBelow n xs → EachBelow n (drop k xs)
below_drop n zero xs h = h
below_drop n (suc k) [] h = h
below_drop n (suc k) (x ∷ xs) h = below_drop n k xs (λ j. h (suc j))

pub below_append : (n : ℕ) (xs ys : List ℕ) → EachBelow n xs → EachBelow n ys → EachBelow n (xs ++ ys)
below_append n [] ys h k i = k i
below_append n (x ∷ xs) ys h k zero = h 0
below_append n (x ∷ xs) ys h k (suc i) = below_append n xs ys (λ j. h (suc j)) k i

pub below_set : (n k v : ℕ) (xs : List ℕ) → v < n → EachBelow n xs → EachBelow n (set xs k v)
below_set n k v [] l h i = h i
below_set n zero v (x ∷ xs) l h zero = l
below_set n zero v (x ∷ xs) l h (suc i) = h (suc i)
below_set n (suc k) v (x ∷ xs) l h zero = h 0
below_set n (suc k) v (x ∷ xs) l h (suc i) = below_set n k v xs l (λ j. h (suc j)) i

pub below_replicate : (n v k : ℕ) → 0 < n → v < n → EachBelow n (replicate k v)
below_replicate n v zero z l i = z
below_replicate n v (suc k) z l zero = l
below_replicate n v (suc k) z l (suc i) = below_replicate n v k z l i

pub below_laid : (n : ℕ) (xs ys : List ℕ) (p : ℕ) → 0 < n → EachBelow n xs → EachBelow n ys → EachBelow n (laid xs p ys)
below_laid n xs ys p z hx hy =
    below_append n (take p xs) (ys ++ drop (p + length ys) xs) (below_take n p xs z hx)
    (below_append n ys (drop (p + length ys) xs) hy (below_drop n (p + length ys) xs hx))

-- the bytes that a job leaves
pub byte_below : (e : Bool) (x y : ℕ) → x < 256 → y < 256 → byte_after e x y < 256
byte_below true x y p q = p
byte_below false x y p q = q

pub below_two : (n x y : ℕ) → x < n → y < n → EachBelow n (x ∷ y ∷ [])
below_two n x y a b zero = a
below_two n x y a b (suc zero) = b
below_two n x y a b (suc (suc k)) = omega arith

pub below_wiped : (e o : Bool) (l : List ℕ) → EachBelow 256 l → EachBelow 256 (wiped e o l)
below_wiped e o [] h k = omega arith
below_wiped e o (x ∷ l) h zero = byte_below e 255 x (omega arith) (h 0)
below_wiped e o (x ∷ l) h (suc k) = below_wiped o e l (λ i. h (suc i)) k

-- a lane's lives after a job
pub below_lane : (n : ℕ) (xs : List ℕ) (b : ℕ) → EachBelow n xs → EachBelow n (lane_after xs b)
below_lane n xs b h = go (alive xs b)
  where
    go : (t : Bool) → EachBelow n (cond t (spend xs b) xs)
    go true = below_set n b (get_or xs b 0 - 1) xs (let q = h b in omega arith) h
    go false = h
