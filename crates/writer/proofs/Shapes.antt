-- Every run of jobs keeps the shape of a card.
use Rattle.std.proofs.Common.{◌≡◌, ℕ, ◌+◌, ◌*◌, ◌/◌, ◌%◌, ◌<◌, ◌≤◌, List, [], ◌∷◌, length, get_or, replicate, Some, None, Err, Option, Result, sym, refl, ap, ◌∙◌, subst, arith}
use lib.Bits.{bit_and}
use Rattle.std.proofs.lemmas.Nat.{and_le_l, and_le_r}
use Rattle.std.proofs.lemmas.List.{length-replicate}
use Rattle.medium.specs.Meaning.{EachBelow, Meaning, capacity}
use Rattle.medium.specs.Wear.{alive}
use Rattle.medium.specs.Jobs.{byte_after, laid, wipe_after, wipe_refusal, wiped, word_after, word_refusal}
use Rattle.medium.specs.declared.fault.Fault.{Fault}
use Rattle.medium.proofs.Below.{below_laid, below_replicate, below_two, below_wiped, byte_below}
use Rattle.medium.proofs.Laid.{length_laid}
use Rattle.medium.proofs.Wiped.{length_wiped}
use Rattle.medium.proofs.Refusals.{wipe_room, word_room}
use Rattle.writer.specs.Jobs.{Job, JobDone, Left, counted, job_fault, job_good, onward, run, wipe_of, word_at}
use Rattle.writer.specs.declared.counts.Counts.{Counts}
use Rattle.writer.proofs.Sizes.{block_within}
use Rattle.writer.proofs.Faults.{faultless}
use Rattle.writer.proofs.Fit.{Fit}

-- the same card, with other contents
pub record Alike (m m' : Meaning) : Type 0 where
  pub size : m'.block_size ≡ m.block_size
  pub count : m'.blocks ≡ m.blocks
  pub fit : Fit m'

pub alike_same : (m m' : Meaning) → Fit m → m' ≡ m → Alike m m'
alike_same m m' f e = subst (Alike m) (sym e) (record { size = refl; count = refl; fit = f })

alike_then : (a b c : Meaning) → Alike a b → Alike b c → Alike a c
alike_then a b c h k = record { size = k.size ∙ h.size; count = k.count ∙ h.count; fit = k.fit }

alike_laid : (m m' : Meaning) (p : ℕ) (ys : List ℕ) → Fit m → m'.block_size ≡ m.block_size → m'.blocks ≡ m.blocks → m'.bytes ≡ laid m.bytes p ys →
    p + length ys ≤ capacity m → EachBelow 256 ys → Alike m m'
alike_laid m m' p ys f s b l h by =
    let room : p + length ys ≤ length m.bytes = omega (arith, f.filled) in
    record {
      size = s;
      count = b;
      fit = record {
        some = subst (λ (z : ℕ). 0 < z) (sym s) f.some;
        even = subst (λ (z : ℕ). 2 * (z / 2) ≡ z) (sym s) f.even;
        filled = ap length l ∙ (length_laid m.bytes ys p room ∙ (f.filled ∙ rw (s, b)));
        byte = subst (EachBelow 256) (sym l) (below_laid 256 m.bytes ys p (omega arith) f.byte by);
      };
    }

module _ (m : Meaning) (f : Fit m) where
  alike_word : (p v e o : ℕ) (m' : Meaning) → p + 2 ≤ capacity m → e < 256 → o < 256 → m' ≡ word_after m p v e o → Alike m m'
  alike_word p v e o m' h be bo q =
      subst (Alike m) (sym q)
      (alike_laid m (word_after m p v e o) p
      (byte_after (alive m.even_lives (p / m.block_size)) (bit_and (get_or m.bytes p 0) (v % 256)) e
      ∷ byte_after (alive m.odd_lives (p / m.block_size)) (bit_and (get_or m.bytes (p + 1) 0) (v / 256)) o ∷ [])
      f refl refl refl h
      (below_two 256 _ _
      (byte_below (alive m.even_lives (p / m.block_size)) _ e (omega (arith, and_le_l (get_or m.bytes p 0) (v % 256), f.byte p)) be)
      (byte_below (alive m.odd_lives (p / m.block_size)) _ o (omega (arith, and_le_l (get_or m.bytes (p + 1) 0) (v / 256), f.byte (p + 1))) bo)))

  alike_wipe : (b : ℕ) (l : List ℕ) (m' : Meaning) → b < m.blocks → length l ≡ m.block_size → EachBelow 256 l → m' ≡ wipe_after m b l → Alike m m'
  alike_wipe b l m' h k by q =
      let r = block_within m m.block_size b refl h in
      let w = length_wiped (alive m.even_lives b) (alive m.odd_lives b) l in
      subst (Alike m) (sym q)
      (alike_laid m (wipe_after m b l) (b * m.block_size) (wiped (alive m.even_lives b) (alive m.odd_lives b) l) f refl refl refl (omega arith)
      (below_wiped (alive m.even_lives b) (alive m.odd_lives b) l by))

  alike_good : (j : Job) → job_fault m j ≡ None → Alike m (job_good m j)
  alike_good (word_at p v) e = alike_word p v 0 0 (job_good m (word_at p v)) (word_room m p (faultless m (word_at p v) e).begun) (omega arith) (omega arith) refl
  alike_good (wipe_of b) e =
      alike_wipe b (replicate m.block_size 255) (job_good m (wipe_of b)) (wipe_room m b (faultless m (wipe_of b) e).begun) (length-replicate m.block_size 255)
      (below_replicate 256 255 m.block_size (omega arith) (omega arith)) refl

  alike_done : (j : Job) (r : Result (Unit {0}) Fault) (m' : Meaning) → JobDone m j r m' → Alike m m'
  alike_done (word_at p v) r m' d = go (word_refusal m p) refl
    where
      go : (o : Option Fault) → word_refusal m p ≡ o → Alike m m'
      go (Some g) e = alike_same m m' f (d.refused g e)
      go None e =
          let t = d.begun e in
          alike_word p v t.even t.odd m' (word_room m p e)
          (omega (arith, and_le_r t.even (get_or m.bytes p 0), t.even_between.no_rise, f.byte p))
          (omega (arith, and_le_r t.odd (get_or m.bytes (p + 1) 0), t.odd_between.no_rise, f.byte (p + 1)))
          t.after
  alike_done (wipe_of b) r m' d = go (wipe_refusal m b) refl
    where
      go : (o : Option Fault) → wipe_refusal m b ≡ o → Alike m m'
      go (Some g) e = alike_same m m' f (d.refused g e)
      go None e = let t = d.begun e in alike_wipe b t.left m' (wipe_room m b e) t.long t.byte t.after

pub alike_left : (js : List Job) (m m' : Meaning) (c : Counts) → Fit m → Left (run js m c) m' → Alike m m'
alike_left [] m m' c f h = alike_same m m' f h
alike_left (j ∷ js) m m' c f h = go (job_fault m j) refl (λ g. alike_left js (job_good m j) m' (counted j c) g) h
  where
    go : (o : Option Fault) → job_fault m j ≡ o → (Fit (job_good m j) → Left (run js (job_good m j) (counted j c)) m' → Alike (job_good m j) m') →
        Left (onward o m j c (run js (job_good m j) (counted j c))) m' → Alike m m'
    go (Some g) e rest h = alike_done m f j (Err g) m' h
    go None e rest h = let k = alike_good m f j e in alike_then m (job_good m j) m' k (rest k.fit h)
