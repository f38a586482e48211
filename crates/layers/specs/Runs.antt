-- A run of a medium's blocks: its jobs are the jobs below.
use Rattle.std.specs.Prelude.{◌≡◌, ℕ, ◌+◌, ◌-◌, ◌*◌, ◌/◌, ◌%◌, ◌^◌, ◌<◌, ◌≤◌, Bool, true, false, not, ltb, leb, List, [], ◌∷◌, length, Some, None, Result, ◌==◌, bit_and, nat_le, nat_lt, slice_index, slice_index_or, refl}
use Rattle.std.proofs.Common.{sym, ap, subst, ◌∙◌, arith}
use Rattle.medium.specs.declared.fault.Fault.{Fault}
use Rattle.std.proofs.lemmas.Bool.{le-ltb, lt-leb}
use Rattle.std.proofs.lemmas.Nat.{div_below}
use Rattle.medium.specs.Meaning.{Meaning, Sound, capacity}
use Rattle.medium.specs.Wear.{alive, lane_after}
use Rattle.medium.specs.Jobs.{refuse_if, or_else, answers, word_refusal, wipe_refusal, worn, worn_at, word_fault, wipe_fault, byte_after, wiped, laid, worked, word_after, wipe_after, Between, WordBegun, WipeBegun, WordDone, WipeDone}
use Rattle.medium.specs.declared.fault.Fault.TheVariants.{OffCard, OddPlace, Locked, LowSupply}
use Rattle.medium.proofs.Sizes.{size_two, block_end}
use Rattle.medium.proofs.Wiped.{length_wiped}
use Rattle.medium.proofs.Done.{same_parts}
use Rattle.layers.specs.declared.window.Run.{Run}
use Rattle.layers.specs.Window.{part, run_start, run_meaning, answer_from}
use Rattle.layers.specs.Passed.{Passed}
use Rattle.layers.specs.Parts.{length_part, get_d_part, below_part, part_laid, alive_part, part_lane}
use Rattle.layers.specs.Places.{run_end, block_below, parity_below, first_below}
use Rattle.layers.specs.Counted.{option_from, answers_from, else_from, worn_from, some_below, none_below}

-- the tests of a job in their order, with the place that a window tells
tests_from : (s p q : ℕ) (off odd locked low : Bool) → q - s ≡ p → option_from s (refuse_if off (OffCard q) (refuse_if odd (OddPlace q) (refuse_if locked (Locked q) (refuse_if low (LowSupply q) None)))) ≡ refuse_if off (OffCard p) (refuse_if odd (OddPlace p) (refuse_if locked (Locked p) (refuse_if low (LowSupply p) None)))
tests_from s p q true odd locked low e = ap (λ x. Some (OffCard x)) e
tests_from s p q false true locked low e = ap (λ x. Some (OddPlace x)) e
tests_from s p q false false true low e = ap (λ x. Some (Locked x)) e
tests_from s p q false false false true e = ap (λ x. Some (LowSupply x)) e
tests_from s p q false false false false e = refl

module _ (m : Meaning) (s : Sound m) (r : Run) (fit : r.first + r.count ≤ m.blocks) where
  run_room : run_start m r + capacity (run_meaning m r) ≤ length m.bytes
  run_room = let e = run_end r.first r.count m.blocks m.block_size fit in omega (arith, s.filled)

  pub run_sound : Sound (run_meaning m r)
  run_sound =
      record {
        power = s.power;
        few = let few = s.few in omega arith;
        filled = length_part (run_start m r) (capacity (run_meaning m r)) m.bytes run_room;
        byte = below_part 256 (run_start m r) (capacity (run_meaning m r)) m.bytes (omega arith) s.byte;
        lock_row = length_part r.first r.count m.locks (omega (arith, s.lock_row));
        even_row = length_part r.first r.count m.even_lives (omega (arith, s.even_row));
        odd_row = length_part r.first r.count m.odd_lives (omega (arith, s.odd_row));
        even_fit = below_part (2 ^ 32) r.first r.count m.even_lives (omega arith) s.even_fit;
        odd_fit = below_part (2 ^ 32) r.first r.count m.odd_lives (omega arith) s.odd_fit;
      }

  -- the block of a place
  place_in : (p : ℕ) → p + 2 ≤ capacity (run_meaning m r) → p / m.block_size < r.count
  place_in p h = let two = size_two m.block_size s.power in div_below p m.block_size r.count (omega arith) (omega arith)

  lock_run : (b : ℕ) → b < r.count → slice_index_or (run_meaning m r).locks b false ≡ slice_index_or m.locks (r.first + b) false
  lock_run b h = get_d_part r.first r.count b false m.locks h

  byte_run : (p : ℕ) → p < capacity (run_meaning m r) → slice_index (run_meaning m r).bytes p ≡ slice_index m.bytes (run_start m r + p)
  byte_run p h = get_d_part (run_start m r) (capacity (run_meaning m r)) p 0 m.bytes h

  worn_run : (b p q : ℕ) → b < r.count → q - run_start m r ≡ p → option_from (run_start m r) (worn_at m (r.first + b) q) ≡ worn_at (run_meaning m r) b p
  worn_run b p q h e =
      worn_from (run_start m r) q (alive m.even_lives (r.first + b)) (alive m.odd_lives (r.first + b))
      ∙ ap (λ x. worn x (alive m.even_lives (r.first + b)) (alive m.odd_lives (r.first + b))) e
      ∙ ap (λ t. worn p t (alive m.odd_lives (r.first + b))) (sym (alive_part r.first r.count b m.even_lives h))
      ∙ ap (λ t. worn p (alive (run_meaning m r).even_lives b) t) (sym (alive_part r.first r.count b m.odd_lives h))

  worked_run : (b : ℕ) (xs : List ℕ) → b < r.count → run_meaning (worked m (r.first + b) xs) r ≡ worked (run_meaning m r) b (part (run_start m r) (capacity (run_meaning m r)) xs)
  worked_run b xs h =
      let ys = part (run_start m r) (capacity (run_meaning m r)) xs in
      same_parts (run_meaning m r) ys (part r.first r.count (lane_after m.even_lives (r.first + b)))
      (part r.first r.count (lane_after m.odd_lives (r.first + b))) ys (lane_after (run_meaning m r).even_lives b)
      (lane_after (run_meaning m r).odd_lives b) refl (part_lane r.first r.count b m.even_lives h)
      (part_lane r.first r.count b m.odd_lives h)

  -- a word
  word_refusal_run : (p : ℕ) → p + 2 ≤ capacity (run_meaning m r) → option_from (run_start m r) (word_refusal m (run_start m r + p)) ≡ word_refusal (run_meaning m r) p
  word_refusal_run p h =
      let below : ltb (capacity m) (run_start m r + p + 2) ≡ false = le-ltb (capacity m) (run_start m r + p + 2) (let room = run_room in omega (arith, s.filled)) in
      let here : ltb (capacity (run_meaning m r)) (p + 2) ≡ false = le-ltb (capacity (run_meaning m r)) (p + 2) h in
      let odd : (run_start m r + p) % 2 ≡ p % 2 = parity_below r.first m.block_size p s.power in
      let block : (run_start m r + p) / m.block_size ≡ r.first + p / m.block_size = block_below r.first m.block_size p s.power in
      let lock = lock_run (p / m.block_size) (place_in p h) in
      tests_from (run_start m r) p (run_start m r + p) (nat_lt (capacity m) (run_start m r + p + 2)) (not ((run_start m r + p) % 2 == 0))
      (slice_index_or m.locks ((run_start m r + p) / m.block_size) false) (not m.supply) (omega arith)
      ∙ rw (below, here, odd, block, lock)

  word_fault_run : (p : ℕ) → p + 2 ≤ capacity (run_meaning m r) → option_from (run_start m r) (word_fault m (run_start m r + p)) ≡ word_fault (run_meaning m r) p
  word_fault_run p h =
      let q = run_start m r + p in
      let block : q / m.block_size ≡ r.first + p / m.block_size = block_below r.first m.block_size p s.power in
      else_from (run_start m r) (word_refusal m q) (worn_at m (q / m.block_size) q)
      ∙ ap (λ o. or_else o (option_from (run_start m r) (worn_at m (q / m.block_size) q))) (word_refusal_run p h)
      ∙ ap (λ b. or_else (word_refusal (run_meaning m r) p) (option_from (run_start m r) (worn_at m b q))) block
      ∙ ap (or_else (word_refusal (run_meaning m r) p)) (worn_run (p / m.block_size) p q (place_in p h) (omega arith))

  word_after_run : (p v e o : ℕ) → p + 2 ≤ capacity (run_meaning m r) → run_meaning (word_after m (run_start m r + p) v e o) r ≡ word_after (run_meaning m r) p v e o
  word_after_run p v e o h =
      let q = run_start m r + p in
      let b = p / m.block_size in
      let inside = place_in p h in
      let word : Bool → Bool → ℕ → ℕ → List ℕ = λ l k x y. byte_after l (bit_and x (v % 256)) e ∷ byte_after k (bit_and y (v / 256)) o ∷ [] in
      let high : q + 1 ≡ run_start m r + (p + 1) = omega arith in
      let ys = word (alive m.even_lives (r.first + b)) (alive m.odd_lives (r.first + b)) (slice_index m.bytes q) (slice_index m.bytes (q + 1)) in
      let same : ys ≡ word (alive (run_meaning m r).even_lives b) (alive (run_meaning m r).odd_lives b) (slice_index (run_meaning m r).bytes p) (slice_index (run_meaning m r).bytes (p + 1)) =
      ap (λ i. word (alive m.even_lives (r.first + b)) (alive m.odd_lives (r.first + b)) (slice_index m.bytes q) (slice_index m.bytes i)) high
      ∙ rw (alive_part r.first r.count b m.even_lives inside, alive_part r.first r.count b m.odd_lives inside, byte_run p (omega arith), byte_run (p + 1) (omega arith)) in
      ap (λ k. run_meaning (worked m k (laid m.bytes q (word (alive m.even_lives k) (alive m.odd_lives k) (slice_index m.bytes q) (slice_index m.bytes (q + 1))))) r)
      (block_below r.first m.block_size p s.power)
      ∙ worked_run b (laid m.bytes q ys) inside
      ∙ ap (worked (run_meaning m r) b) (part_laid (run_start m r) (capacity (run_meaning m r)) p m.bytes ys h run_room)
      ∙ ap (λ x. worked (run_meaning m r) b (laid (run_meaning m r).bytes p x)) same

  pub word_passed_run : (p v : ℕ) (a : Result (Unit {0}) Fault) (m' : Meaning) → p + 2 ≤ capacity (run_meaning m r) → WordDone m (run_start m r + p) v a m' → Passed (word_refusal (run_meaning m r) p) m (WordBegun m (run_start m r + p) v) m'
  word_passed_run p v a m' h d =
      let refusal = word_refusal_run p h in
      let below = word_refusal m (run_start m r + p) in
      record {
        refused = λ f e. let g = some_below (run_start m r) below f (refusal ∙ e) in d.refused g.0 g.1;
        begun = λ n. d.begun (none_below (run_start m r) below (refusal ∙ n));
      }

  pub word_run : (p v : ℕ) (a : Result (Unit {0}) Fault) (m' : Meaning) → p + 2 ≤ capacity (run_meaning m r) → WordDone m (run_start m r + p) v a m' → WordDone (run_meaning m r) p v (answer_from (run_start m r) a) (run_meaning m' r)
  word_run p v a m' h d =
      let q = run_start m r + p in
      let high : q + 1 ≡ run_start m r + (p + 1) = omega arith in
      let passed = word_passed_run p v a m' h d in
      record {
        answer = ap (answer_from (run_start m r)) d.answer ∙ answers_from (run_start m r) (word_fault m q) ∙ ap answers (word_fault_run p h);
        refused = λ f e. ap (λ x. run_meaning x r) (passed.refused f e);
        begun =
            λ n.
            let b = passed.begun n in
            record {
              even = b.even;
              odd = b.odd;
              even_between = subst (λ x. Between x (v % 256) b.even) (sym (byte_run p (omega arith))) b.even_between;
              odd_between = subst (λ x. Between x (v / 256) b.odd) (ap (λ i. slice_index m.bytes i) high ∙ sym (byte_run (p + 1) (omega arith))) b.odd_between;
              after = ap (λ x. run_meaning x r) b.after ∙ word_after_run p v b.even b.odd h;
            };
      }

  -- a wipe
  wipe_refusal_run : (b : ℕ) → b < r.count → option_from (run_start m r) (wipe_refusal m (r.first + b)) ≡ wipe_refusal (run_meaning m r) b
  wipe_refusal_run b h =
      let below : leb m.blocks (r.first + b) ≡ false = lt-leb m.blocks (r.first + b) (omega arith) in
      let here : leb r.count b ≡ false = lt-leb r.count b h in
      let lock = lock_run b h in
      tests_from (run_start m r) (b * m.block_size) ((r.first + b) * m.block_size) (nat_le m.blocks (r.first + b)) false
      (slice_index_or m.locks (r.first + b) false) (not m.supply) (omega arith)
      ∙ rw (below, here, lock)

  wipe_fault_run : (b : ℕ) → b < r.count → option_from (run_start m r) (wipe_fault m (r.first + b)) ≡ wipe_fault (run_meaning m r) b
  wipe_fault_run b h =
      let q = (r.first + b) * m.block_size in
      else_from (run_start m r) (wipe_refusal m (r.first + b)) (worn_at m (r.first + b) q)
      ∙ ap (λ o. or_else o (option_from (run_start m r) (worn_at m (r.first + b) q))) (wipe_refusal_run b h)
      ∙ ap (or_else (wipe_refusal (run_meaning m r) b)) (worn_run b (b * m.block_size) q h (omega arith))

  wipe_after_run : (b : ℕ) (l : List ℕ) → b < r.count → length l ≡ m.block_size → run_meaning (wipe_after m (r.first + b) l) r ≡ wipe_after (run_meaning m r) b l
  wipe_after_run b l h long =
      let ys = wiped (alive m.even_lives (r.first + b)) (alive m.odd_lives (r.first + b)) l in
      let same : ys ≡ wiped (alive (run_meaning m r).even_lives b) (alive (run_meaning m r).odd_lives b) l =
      rw (alive_part r.first r.count b m.even_lives h, alive_part r.first r.count b m.odd_lives h) in
      let size : length ys ≡ m.block_size = length_wiped (alive m.even_lives (r.first + b)) (alive m.odd_lives (r.first + b)) l ∙ long in
      let end = block_end b r.count m.block_size h in
      worked_run b (laid m.bytes ((r.first + b) * m.block_size) ys) h
      ∙ ap (λ q. worked (run_meaning m r) b (part (run_start m r) (capacity (run_meaning m r)) (laid m.bytes q ys))) (first_below r.first b m.block_size)
      ∙ ap (worked (run_meaning m r) b) (part_laid (run_start m r) (capacity (run_meaning m r)) (b * m.block_size) m.bytes ys (omega arith) run_room)
      ∙ ap (λ x. worked (run_meaning m r) b (laid (run_meaning m r).bytes (b * m.block_size) x)) same

  pub wipe_passed_run : (b : ℕ) (a : Result (Unit {0}) Fault) (m' : Meaning) → b < r.count → WipeDone m (r.first + b) a m' → Passed (wipe_refusal (run_meaning m r) b) m (WipeBegun m (r.first + b)) m'
  wipe_passed_run b a m' h d =
      let refusal = wipe_refusal_run b h in
      let below = wipe_refusal m (r.first + b) in
      record {
        refused = λ f e. let g = some_below (run_start m r) below f (refusal ∙ e) in d.refused g.0 g.1;
        begun = λ n. d.begun (none_below (run_start m r) below (refusal ∙ n));
      }

  pub wipe_run : (b : ℕ) (a : Result (Unit {0}) Fault) (m' : Meaning) → b < r.count → WipeDone m (r.first + b) a m' → WipeDone (run_meaning m r) b (answer_from (run_start m r) a) (run_meaning m' r)
  wipe_run b a m' h d =
      let passed = wipe_passed_run b a m' h d in
      record {
        answer = ap (answer_from (run_start m r)) d.answer ∙ answers_from (run_start m r) (wipe_fault m (r.first + b)) ∙ ap answers (wipe_fault_run b h);
        refused = λ f e. ap (λ x. run_meaning x r) (passed.refused f e);
        begun =
            λ n.
            let w = passed.begun n in
            record {
              left = w.left;
              long = w.long;
              byte = w.byte;
              after = ap (λ x. run_meaning x r) w.after ∙ wipe_after_run b w.left h w.long;
            };
      }
