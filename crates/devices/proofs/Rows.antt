-- The first elements of a list, filled up where it ends before.
use Rattle.std.proofs.Common.{◌≡◌, ℕ, zero, suc, ◌<◌, ◌≤◌, List, [], ◌∷◌, ◌++◌, map, length, get_or, set, take, drop, replicate, sym, refl, ap, ◌∙◌, arith}
use Rattle.std.proofs.lemmas.List.{take-append-drop, length-take-le}
use Rattle.devices.specs.Table.{row}

pub length_row : {X : Type 0} (d : X) (n : ℕ) (xs : List X) → length (row d n xs) ≡ n
length_row d zero xs = refl
length_row d (suc n) [] = ap suc (length_row d n [])
length_row d (suc n) (x ∷ xs) = ap suc (length_row d n xs)

pub get_or_row : {X : Type 0} (d : X) (n : ℕ) (xs : List X) (k : ℕ) → k < n → get_or (row d n xs) k d ≡ get_or xs k d
get_or_row d zero xs k h = absurd (omega arith)
get_or_row d (suc n) [] zero h = refl
get_or_row d (suc n) [] (suc k) h = get_or_row d n [] k (omega arith)
get_or_row d (suc n) (x ∷ xs) zero h = refl
get_or_row d (suc n) (x ∷ xs) (suc k) h = get_or_row d n xs k (omega arith)

pub set_row : {X : Type 0} (d : X) (n : ℕ) (xs : List X) (k : ℕ) (v : X) → k < length xs → row d n (set xs k v) ≡ set (row d n xs) k v
set_row d zero xs k v h = refl
set_row d (suc n) [] k v h = absurd (omega arith)
set_row d (suc n) (x ∷ xs) zero v h = refl
set_row d (suc n) (x ∷ xs) (suc k) v h = ap (λ l. x ∷ l) (set_row d n xs k v (omega arith))

pub row_replicate : {X : Type 0} (d : X) (n m : ℕ) → row d n (replicate m d) ≡ replicate n d
row_replicate d zero m = refl
row_replicate d (suc n) zero = ap (λ l. d ∷ l) (row_replicate d n zero)
row_replicate d (suc n) (suc m) = ap (λ l. d ∷ l) (row_replicate d n m)

pub map_replicate : {X Y : Type 0} (f : X → Y) (n : ℕ) (x : X) → map f (replicate n x) ≡ replicate n (f x)
map_replicate f zero x = refl
map_replicate f (suc n) x = ap (λ l. f x ∷ l) (map_replicate f n x)

pub row_append : {X : Type 0} (d : X) (n : ℕ) (xs ys : List X) → length xs ≡ n → row d n (xs ++ ys) ≡ xs
row_append d zero [] ys e = refl
row_append d (suc n) [] ys e = absurd (omega arith)
row_append d zero (x ∷ xs) ys e = absurd (omega arith)
row_append d (suc n) (x ∷ xs) ys e = ap (λ l. x ∷ l) (row_append d n xs ys (omega arith))

pub row_take : {X : Type 0} (d : X) (n : ℕ) (xs : List X) → n ≤ length xs → row d n xs ≡ take n xs
row_take d n xs h = ap (row d n) (sym (take-append-drop n xs)) ∙ row_append d n (take n xs) (drop n xs) (length-take-le n xs h)
