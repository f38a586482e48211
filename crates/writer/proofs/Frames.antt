-- The jobs of one block lie in it, and leave all other places as they were.
use Rattle.std.proofs.Common.{◌≡◌, ℕ, zero, suc, ◌+◌, ◌-◌, ◌*◌, ◌/◌, ◌%◌, ◌<◌, ◌≤◌, Bool, true, false, eqb, List, [], ◌∷◌, ◌++◌, length, get_or, replicate, Some, None, Ok, Err, Option, sym, refl, ap, ◌∙◌, subst, arith}
use lib.Bits.{bit_and}
use Rattle.std.proofs.lemmas.List.{length-replicate, get_or-replicate}
use Rattle.std.proofs.lemmas.Bool.{cond_both}
use Rattle.medium.specs.Meaning.{Meaning}
use Rattle.medium.specs.Jobs.{laid}
use Rattle.medium.specs.declared.fault.Fault.{Fault}
use Rattle.medium.proofs.Laid.{laid_below, laid_past, length_laid, laid_in}
use Rattle.writer.specs.Jobs.{Job, Run, job_block, job_place, wipe_of, word_at, Ran, finished, stopped}
use Rattle.writer.specs.Blocks.{differing, jobs_by, jobs_for, old_word, rises, word_if, word_of}
use Rattle.writer.specs.Put.{last_seen}
use Rattle.writer.specs.Laws.{effect, Fits}
use Rattle.writer.specs.Passes.{passed, Pass, counting, doing}
use Rattle.writer.specs.declared.counts.Counts.{Counts}
use Rattle.writer.proofs.Sizes.{block_of_place, even_start}
use Rattle.writer.proofs.Walks.{Open, Same, Walks, found_of, next_of, run_same, run_walks}

-- the job lies in block b of n bytes
abbrev pub On : ℕ → ℕ → Job → Type 0
On n b (word_at p v) = (b * n ≤ p) × (p + 2 ≤ b * n + n) × (p % 2 ≡ 0)
On n b (wipe_of b') = b' ≡ b

pub on_block : (n b : ℕ) (j : Job) → On n b j → job_block n j ≡ b
on_block n b (word_at p v) h = block_of_place n b p h.0 (omega (arith, h.1))
on_block n b (wipe_of b') h = h

-- and so does the place of its fault
pub on_place : (n b : ℕ) (j : Job) → 0 < n → On n b j → job_place n j / n ≡ b
on_place n b (word_at p v) some h = block_of_place n b p h.0 (omega (arith, h.1))
on_place n b (wipe_of b') some h = let q : b' * n ≡ b * n = ap (λ (z : ℕ). z * n) h in block_of_place n b (b' * n) (omega arith) (omega arith)

abbrev pub AllOn : ℕ → ℕ → List Job → Type 0
AllOn n b [] = Unit {0}
AllOn n b (j ∷ js) = On n b j × AllOn n b js

all_on_append : (n b : ℕ) (xs ys : List Job) → AllOn n b xs → AllOn n b ys → AllOn n b (xs ++ ys)
all_on_append n b [] ys h k = k
all_on_append n b (x ∷ xs) ys h k = (h.0, all_on_append n b xs ys h.1 k)

all_on_word : (n b p old new : ℕ) → On n b (word_at p new) → AllOn n b (word_if p old new)
all_on_word n b p old new h = cond_both (eqb old new) _ _ (λ (z : List Job). AllOn n b z) (λ _. tt) (λ _. (h, tt))

all_on_differing : (n b : ℕ) (w : Bool) (old new : List ℕ) (k c : ℕ) → 2 * (n / 2) ≡ n → 2 * (k + c) ≤ n → AllOn n b (differing (b * n) w old new k c)
all_on_differing n b w old new k zero even h = tt
all_on_differing n b w old new k (suc c) even h =
    let s = even_start n b even in
    all_on_append n b (word_if (b * n + 2 * k) (old_word w old (2 * k)) (word_of new (2 * k))) (differing (b * n) w old new (k + 1) c)
    (all_on_word n b (b * n + 2 * k) (old_word w old (2 * k)) (word_of new (2 * k)) (omega arith, omega arith, omega arith))
    (all_on_differing n b w old new (k + 1) c even (omega arith))

pub all_on : (n b : ℕ) (old new : List ℕ) → 2 * (n / 2) ≡ n → AllOn n b (jobs_for n b old new)
all_on n b old new even = go (rises old new 0 n)
  where
    go : (w : Bool) → AllOn n b (jobs_by w n b old new)
    go true = (refl, all_on_differing n b true old new 0 (n / 2) even (omega arith))
    go false = all_on_differing n b false old new 0 (n / 2) even (omega arith)

-- nothing below a or from z on has changed
pub record Apart (a z : ℕ) (xs ys : List ℕ) : Type 0 where
  pub long : length ys ≡ length xs
  pub low : (i : ℕ) → i < a → get_or ys i 0 ≡ get_or xs i 0
  pub high : (i : ℕ) → z ≤ i → get_or ys i 0 ≡ get_or xs i 0

pub apart_same : (a z : ℕ) (xs ys : List ℕ) → ys ≡ xs → Apart a z xs ys
apart_same a z xs ys e = record { long = ap length e; low = λ i _. ap (λ t. get_or t i 0) e; high = λ i _. ap (λ t. get_or t i 0) e }

apart_then : (a z : ℕ) (xs ys zs : List ℕ) → Apart a z xs ys → Apart a z ys zs → Apart a z xs zs
apart_then a z xs ys zs h k = record { long = k.long ∙ h.long; low = λ i l. k.low i l ∙ h.low i l; high = λ i l. k.high i l ∙ h.high i l }

pub apart_laid : (a z p : ℕ) (xs ys zs : List ℕ) → zs ≡ laid xs p ys → a ≤ p → p + length ys ≤ z → z ≤ length xs → Apart a z xs zs
apart_laid a z p xs ys zs e h k l = record {
  long = ap length e ∙ length_laid xs ys p (omega arith);
  low = λ i u. ap (λ t. get_or t i 0) e ∙ laid_below xs ys p i 0 (omega arith) (omega arith);
  high = λ i u. ap (λ t. get_or t i 0) e ∙ laid_past xs ys p i 0 (omega arith) (omega arith);
}

-- a successful job changes its own places alone, and they lie in its block
abbrev pub job_end : ℕ → Job → ℕ
job_end n (word_at p v) = p + 2
job_end n (wipe_of b) = b * n + n

pub on_within : (n b : ℕ) (j : Job) → On n b j → (b * n ≤ job_place n j) × (job_end n j ≤ b * n + n)
on_within n b (word_at p v) h = (h.0, h.1)
on_within n b (wipe_of b') h = let q : b' * n ≡ b * n = ap (λ (z : ℕ). z * n) h in (omega arith, omega arith)

on_fits : (n b len : ℕ) (j : Job) → On n b j → b * n + n ≤ len → Fits n len j
on_fits n b len (word_at p v) h l = (h.2, omega (arith, h.1))
on_fits n b len (wipe_of b') h l = let q : b' * n ≡ b * n = ap (λ (z : ℕ). z * n) h in omega arith

pub effect_places : (n : ℕ) (j : Job) (xs : List ℕ) → Fits n (length xs) j → Apart (job_place n j) (job_end n j) xs (effect n j xs)
effect_places n (word_at p v) xs f =
    apart_laid p (p + 2) p xs (bit_and (get_or xs p 0) (v % 256) ∷ bit_and (get_or xs (p + 1) 0) (v / 256) ∷ []) (effect n (word_at p v) xs) refl (omega arith)
    (omega arith) f.1
effect_places n (wipe_of b) xs f =
    let w : length (replicate {A = ℕ} n 255) ≡ n = length-replicate n 255 in
    apart_laid (b * n) (b * n + n) (b * n) xs (replicate n 255) (effect n (wipe_of b) xs) refl (omega arith) (omega arith) f

pub effect_apart : (n b : ℕ) (j : Job) (xs : List ℕ) → On n b j → b * n + n ≤ length xs → Apart (b * n) (b * n + n) xs (effect n j xs)
effect_apart n b j xs h l =
    let w = on_within n b j h in
    let a = effect_places n j xs (on_fits n b (length xs) j h l) in
    record { long = a.long; low = λ i u. a.low i (omega (arith, w.0)); high = λ i u. a.high i (omega (arith, w.1)) }

-- a wipe leaves FFH in all of it
pub wipe_blank : (n b : ℕ) (xs : List ℕ) → b * n + n ≤ length xs → (i : ℕ) → b * n ≤ i → i < b * n + n → get_or (effect n (wipe_of b) xs) i 0 ≡ 255
wipe_blank n b xs l i h k =
    let w : length (replicate {A = ℕ} n 255) ≡ n = length-replicate n 255 in
    laid_in xs (replicate n 255) (b * n) i 0 h (omega arith) (omega arith) ∙ get_or-replicate n (i - b * n) 255 0 (omega arith)

-- the next job of a walk lies in block b
abbrev pub NextOn : ℕ → ℕ → Option Job → Type 0
NextOn n b None = Unit {0}
NextOn n b (Some j) = On n b j

pub record Framed (n b : ℕ) (xs : List ℕ) (next : Option Job) (ys : List ℕ) : Type 0 where
  pub apart : Apart (b * n) (b * n + n) xs ys
  pub on : NextOn n b next

all_on_walks : (Opened : ℕ → Type 0) (n b : ℕ) (js : List Job) (xs ys : List ℕ) → AllOn n b js → b * n + n ≤ length xs → Apart (b * n) (b * n + n) xs ys →
    Walks Opened n js ys (Framed n b xs)
all_on_walks Opened n b [] xs ys h l a = record { apart = a; on = tt }
all_on_walks Opened n b (j ∷ js) xs ys h l a = (
  record { apart = a; on = h.0 },
  λ _. all_on_walks Opened n b js xs (effect n j ys) h.1 l
      (apart_then (b * n) (b * n + n) xs ys (effect n j ys) a (effect_apart n b j ys h.0 (let e = a.long in omega arith))),
)

pub framed : (Opened : ℕ → Type 0) (n b : ℕ) (js : List Job) (xs : List ℕ) → AllOn n b js → b * n + n ≤ length xs → Walks Opened n js xs (Framed n b xs)
framed Opened n b js xs h l = all_on_walks Opened n b js xs xs h l (apart_same (b * n) (b * n + n) xs xs refl)

-- and so does a pass over the jobs of a block
pub record PassedIn (n b : ℕ) (m : Meaning) (R : Run) : Type 0 where
  pub same : Same m (found_of R)
  pub frame : Framed n b m.bytes (next_of R) (found_of R).bytes

pub pass_in : (how : Pass) (n b : ℕ) (js : List Job) (m : Meaning) (c : Counts) → AllOn n b js → m.block_size ≡ n → b * n + n ≤ length m.bytes →
    PassedIn n b m (passed how js m c)
pass_in doing n b js m c h s l =
    record {
      same = run_same js m c;
      frame = run_walks js m c (Framed n b m.bytes)
          (subst (λ (k : ℕ). Walks (Open m) k js m.bytes (Framed n b m.bytes)) (sym s) (framed (Open m) n b js m.bytes h l));
    }
pass_in counting n b js m c h s l =
    record {
      same = record { size = refl; count = refl; locks = refl; supply = refl };
      frame = record { apart = apart_same (b * n) (b * n + n) m.bytes m.bytes refl; on = tt };
    }

-- what it leaves if it finishes, and where it stopped if not
pub finished_in : (n b : ℕ) (m : Meaning) (R : Run) (c' : Counts) (m' : Meaning) → PassedIn n b m R → Ran R (Ok tt) c' m' →
    Same m m' × Apart (b * n) (b * n + n) m.bytes m'.bytes
finished_in n b m (finished m₁ c) c' m' k h =
    subst (λ (z : Meaning). Same m z × Apart (b * n) (b * n + n) m.bytes z.bytes) (sym h.left) (k.same, k.frame.apart)
finished_in n b m (stopped m₁ j f c) c' m' k h = let z : ◌≡◌ {A = ℕ} 0 1 = (let a = h.answer in cc) in absurd (omega arith)

pub stopped_in : (n b last : ℕ) (m : Meaning) (R : Run) (f : Fault) (c' : Counts) (m' : Meaning) → PassedIn n b m R → Ran R (Err f) c' m' → last_seen n last R ≡ b
stopped_in n b last m (finished m₁ c) f c' m' k h = let a = h.answer in cc
stopped_in n b last m (stopped m₁ j g c) f c' m' k h = on_block n b j k.frame.on
