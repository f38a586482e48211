-- What a new board stands for.
use Rattle.std.proofs.Common.{◌≡◌, ℕ, ◌*◌, ◌≤◌, true, false, eqb, List, [], length, take, replicate, ap, ◌∙◌, arith}
use Rattle.std.proofs.lemmas.List.{take-replicate}
use Rattle.std.proofs.lemmas.Bool.{eq-eqb, ne_eqb}
use Rattle.medium.specs.Limits.{most_blocks}
use Rattle.devices.specs.Chip.{Chip, fresh}
use Rattle.board.specs.Held.{CardState}
use Rattle.board.specs.Made.{unused, new_card}

-- a card of n pairs whose lanes have the lives es and os, with the devices ds and the waits a and b
abbrev pub parts : ℕ → ℕ → ℕ → List ℕ → List ℕ → List ℕ → List Chip → ℕ → ℕ → CardState
parts size per n xs es os ds a b =
    record {
      slot =
          record {
            block_size = size;
            per_pair = per;
            pairs = n;
            bytes = xs;
            supply = true;
            even_lives = take (per * n) es;
            odd_lives = take (per * n) os;
            pin = false;
            chips = ds;
          };
      write_wait = a;
      wipe_wait = b;
    }

module _ (size per : ℕ) (es os : List ℕ) (ds : List Chip) (a b : ℕ) (no_evens : es ≡ replicate most_blocks 0) (no_odds : os ≡ replicate most_blocks 0) (no_write : a ≡ 0) (no_wipe : b ≡ 0) where
  parts_unused : (n m : ℕ) (xs ys : List ℕ) → per * n ≤ most_blocks → m ≡ n → ys ≡ xs → ds ≡ replicate (2 * m) fresh → parts size per m ys es os ds a b ≡ unused size per n xs
  parts_unused n m xs ys few em ex ed =
      let none : take (per * n) (replicate {A = ℕ} most_blocks 0) ≡ replicate (per * n) 0 = take-replicate (per * n) most_blocks 0 few in
      ap (λ l. parts size per m l es os ds a b) ex
      ∙ (ap (λ l. parts size per m xs es os l a b) ed
      ∙ (ap (λ k. parts size per k xs es os (replicate (2 * k) fresh) a b) em
      ∙ rw (no_evens, no_odds, no_write, no_wipe, none)))

  pub new_fits : (n m : ℕ) (xs ys : List ℕ) → per * n ≤ most_blocks → length xs ≡ (per * n) * size → m ≡ n → ys ≡ xs → ds ≡ replicate (2 * m) fresh → parts size per m ys es os ds a b ≡ new_card size per n xs
  new_fits n m xs ys few e em ex ed =
      let t : eqb (length xs) ((per * n) * size) ≡ true = eq-eqb (length xs) ((per * n) * size) e in
      parts_unused n m xs ys few em ex ed ∙ rw t

  pub new_not : (n m : ℕ) (xs ys : List ℕ) → (length xs ≡ (per * n) * size → ⊥) → m ≡ 0 → ys ≡ [] → ds ≡ replicate (2 * m) fresh → parts size per m ys es os ds a b ≡ new_card size per n xs
  new_not n m xs ys e em ex ed =
      let t : eqb (length xs) ((per * n) * size) ≡ false = ne_eqb (length xs) ((per * n) * size) e in
      parts_unused 0 m [] ys (omega arith) em ex ed ∙ rw t
