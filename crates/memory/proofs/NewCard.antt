-- What a new card means.
use Rattle.std.proofs.Common.{◌≡◌, ℕ, ◌*◌, ◌≤◌, true, false, eqb, List, [], length, take, replicate, ap, ◌∙◌, arith}
use Rattle.std.proofs.lemmas.List.{take-replicate}
use Rattle.std.proofs.lemmas.Bool.{eq-eqb, ne_eqb}
use Rattle.medium.specs.Limits.{most_blocks}
use Rattle.medium.specs.Meaning.{Meaning}
use Rattle.memory.specs.Switches.{unused, new_card}

-- an unlocked card with good supply, both of whose lanes have the lives l and k
abbrev pub lived : ℕ → ℕ → List ℕ → List ℕ → List ℕ → Meaning
lived s n xs l k =
    record {
      block_size = s;
      blocks = n;
      bytes = xs;
      locks = replicate n false;
      supply = true;
      even_lives = take n l;
      odd_lives = take n k;
    }

lived_none : (s n : ℕ) (xs l k : List ℕ) → n ≤ most_blocks → l ≡ replicate most_blocks 0 → k ≡ replicate most_blocks 0 → lived s n xs l k ≡ unused s n xs
lived_none s n xs l k h e f =
    let t : take n (replicate {A = ℕ} most_blocks 0) ≡ replicate n 0 = take-replicate n most_blocks 0 h in
    rw (e, f, t)

pub new_fits : (s n m : ℕ) (xs ys l k : List ℕ) → n ≤ most_blocks → length xs ≡ n * s → m ≡ n → ys ≡ xs → l ≡ replicate most_blocks 0 → k ≡ replicate most_blocks 0 → lived s m ys l k ≡ new_card s n xs
new_fits s n m xs ys l k h e p q f g =
    let t : eqb (length xs) (n * s) ≡ true = eq-eqb (length xs) (n * s) e in
    ap (λ i. lived s i ys l k) p ∙ ap (λ z. lived s n z l k) q ∙ lived_none s n xs l k h f g ∙ rw t

pub new_not : (s n m : ℕ) (xs ys l k : List ℕ) → (length xs ≡ n * s → ⊥) → m ≡ 0 → ys ≡ [] → l ≡ replicate most_blocks 0 → k ≡ replicate most_blocks 0 → lived s m ys l k ≡ new_card s n xs
new_not s n m xs ys l k e p q f g =
    let t : eqb (length xs) (n * s) ≡ false = ne_eqb (length xs) (n * s) e in
    ap (λ i. lived s i ys l k) p ∙ ap (λ z. lived s 0 z l k) q ∙ lived_none s 0 [] l k (omega arith) f g ∙ rw t
