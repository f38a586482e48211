-- What the jobs of a block, and of several, make of the contents as far as they are done.
use Rattle.std.proofs.Common.{◌≡◌, ℕ, zero, suc, ◌+◌, ◌-◌, ◌*◌, ◌/◌, ◌%◌, ◌<◌, ◌≤◌, Bool, true, false, cond, eqb, ◌⊎◌, List, [], ◌∷◌, ◌++◌, length, get_or, Some, None, Option, sym, refl, ap, ◌∙◌, subst, inl, inr, ⊎_elim, mul-le-mul_right, arith}
use lib.Bits.{bit_and}
use Rattle.std.proofs.lemmas.Bool.{cases_lt, eqb-true}
use Rattle.medium.specs.Meaning.{EachBelow, Meaning, capacity}
use Rattle.medium.specs.Jobs.{laid}
use Rattle.medium.proofs.Below.{below_laid}
use Rattle.writer.specs.Jobs.{Job, wipe_of, word_at}
use Rattle.writer.specs.Blocks.{differing, old_word, word_of, block_at, block_jobs, jobs_by, must_wipe, jobs_for, listed_jobs, rises, rising, met_count}
use Rattle.writer.specs.Put.{put_jobs, wanted}
use Rattle.writer.specs.Laws.{effect}
use Rattle.writer.proofs.Sizes.{block_of_place, blocks_apart, spans}
use Rattle.writer.proofs.Parts.{get_d_part, part_same, two_places, word_laid}
use Rattle.writer.proofs.Rises.{Falls, falls_from, full_left}
use Rattle.writer.proofs.Walks.{Walks, walks_as, walks_both, walks_then}
use Rattle.writer.proofs.Frames.{apart_laid, Apart, Framed, all_on, effect_apart, framed, wipe_blank, On}
use Rattle.writer.proofs.Fit.{Fit}

-- ys is xs with what is wanted from one place to another
pub record Now (xs : List ℕ) (from to : ℕ) (want ys : List ℕ) : Type 0 where
  pub long : length ys ≡ length xs
  pub at : (i : ℕ) → from ≤ i → i < to → get_or ys i 0 ≡ get_or want i 0
  pub low : (i : ℕ) → i < from → get_or ys i 0 ≡ get_or xs i 0
  pub high : (i : ℕ) → to ≤ i → get_or ys i 0 ≡ get_or xs i 0

now_none : (a : ℕ) (want xs : List ℕ) → Now xs a a want xs
now_none a want xs = record { long = refl; at = λ i h k. absurd (omega arith); low = λ i h. refl; high = λ i h. refl }

now_then : (a b c : ℕ) (want xs ys zs : List ℕ) → a ≤ b → b ≤ c → Now xs a b want ys → Now ys b c want zs → Now xs a c want zs
now_then a b c want xs ys zs ab bc h k = record {
  long = k.long ∙ h.long;
  at = λ i l r. ⊎_elim (λ (q : i < b). k.low i q ∙ h.at i l q) (λ (q : b ≤ i). k.at i q r) (cases_lt i b);
  low = λ i l. k.low i (omega arith) ∙ h.low i l;
  high = λ i l. k.high i l ∙ h.high i (omega arith);
}

now_byte : (a z : ℕ) (want xs ys : List ℕ) → Now xs a z want ys → EachBelow 256 want → EachBelow 256 xs → EachBelow 256 ys
now_byte a z want xs ys h bw bx i =
    ⊎_elim (λ (l : i < a). rw (h.low i l) (bx i))
    (λ (l : a ≤ i). ⊎_elim (λ (r : i < z). rw (h.at i l r) (bw i)) (λ (r : z ≤ i). rw (h.high i r) (bx i)) (cases_lt i z)) (cases_lt i a)

-- one word: written, or standing already
now_word : (q : ℕ) (want xs : List ℕ) → q + 2 ≤ length xs → Now xs q (q + 2) want (laid xs q (get_or want q 0 ∷ get_or want (q + 1) 0 ∷ []))
now_word q want xs h =
    let a = apart_laid q (q + 2) q xs (get_or want q 0 ∷ get_or want (q + 1) 0 ∷ []) _ refl (omega arith) (omega arith) h in
    let w = word_laid xs q (get_or want q 0) (get_or want (q + 1) 0) h in
    record {
      long = a.long;
      at = λ i l r. two_places (λ (k : ℕ). get_or (laid xs q (get_or want q 0 ∷ get_or want (q + 1) 0 ∷ [])) k 0 ≡ get_or want k 0) q i l r w.0 w.1;
      low = a.low;
      high = a.high;
    }

now_standing : (q : ℕ) (want xs : List ℕ) → get_or xs q 0 ≡ get_or want q 0 → get_or xs (q + 1) 0 ≡ get_or want (q + 1) 0 → Now xs q (q + 2) want xs
now_standing q want xs e f = record {
  long = refl;
  at = λ i l r. two_places (λ (k : ℕ). get_or xs k 0 ≡ get_or want k 0) q i l r e f;
  low = λ i l. refl;
  high = λ i l. refl;
}

-- from one place to another, old tells what stands in the block at p, and words alone lead to what is wanted
record Ready (p : ℕ) (w : Bool) (old want xs : List ℕ) (from to : ℕ) : Type 0 where
  stands : (k : ℕ) → from ≤ p + 2 * k → p + 2 * k + 2 ≤ to → old_word w old (2 * k) ≡ word_of xs (p + 2 * k)
  falls : Falls xs want from to
  byte : (i : ℕ) → from ≤ i → i < to → get_or xs i 0 < 256

ready_later : (p : ℕ) (w : Bool) (old want xs ys : List ℕ) (from to : ℕ) → Ready p w old want xs from to → Now xs from (from + 2) want ys →
    Ready p w old want ys (from + 2) to
ready_later p w old want xs ys from to r n = record {
  stands = λ k l h. rw (n.high (p + 2 * k) l, n.high (p + 2 * k + 1) (omega arith)) (r.stands k (omega arith) h);
  falls = λ i l h. rw (n.high i l) (r.falls i (omega arith) h);
  byte = λ i l h. rw (n.high i l) (r.byte i (omega arith) h);
}

halves : (a b c d : ℕ) → a < 256 → c < 256 → a + 256 * b ≡ c + 256 * d → (a ≡ c) × (b ≡ d)
halves a b c d h k e = (omega arith, omega arith)

effect_word : (n q v : ℕ) (want xs : List ℕ) → v ≡ word_of want q → get_or want q 0 < 256 →
    bit_and (get_or xs q 0) (get_or want q 0) ≡ get_or want q 0 → bit_and (get_or xs (q + 1) 0) (get_or want (q + 1) 0) ≡ get_or want (q + 1) 0 →
    effect n (word_at q v) xs ≡ laid xs q (get_or want q 0 ∷ get_or want (q + 1) 0 ∷ [])
effect_word n q v want xs ev b f₀ f₁ =
    let lo : v % 256 ≡ get_or want q 0 = omega arith in
    let hi : v / 256 ≡ get_or want (q + 1) 0 = omega arith in
    rw (lo, hi, f₀, f₁)

-- the words before the next one are as wanted, or all of them if none is left; before a next one Fresh holds too
record WordNext (Fresh : List ℕ → Type 0) (xs : List ℕ) (from to : ℕ) (want : List ℕ) (q : ℕ) (ys : List ℕ) : Type 0 where
  low : from ≤ q
  high : q + 2 ≤ to
  done : Now xs from q want ys
  fresh : Fresh ys

abbrev WordsDone : (List ℕ → Type 0) → List ℕ → ℕ → ℕ → List ℕ → Option Job → List ℕ → Type 0
WordsDone Fresh xs from to want None ys = Now xs from to want ys
WordsDone Fresh xs from to want (Some (word_at q v)) ys = WordNext Fresh xs from to want q ys
WordsDone Fresh xs from to want (Some (wipe_of b)) ys = ⊥

-- the words of block b from the k-th on
module _ (Opened : ℕ → Type 0) (n b : ℕ) (w : Bool) (old new want xs : List ℕ) (Fresh : List ℕ → Type 0) (again : Opened b → (ys : List ℕ) → Fresh ys)
    (even : 2 * (n / 2) ≡ n) (within : b * n + n ≤ length xs) (byte : EachBelow 256 want) (asks : (i : ℕ) → i < n → get_or new i 0 ≡ get_or want (b * n + i) 0) where
  walk_words : (k c : ℕ) (ys : List ℕ) → 2 * (k + c) ≡ n → Now xs (b * n) (b * n + 2 * k) want ys →
      Ready (b * n) w old want ys (b * n + 2 * k) (b * n + n) → Fresh ys →
      Walks Opened n (differing (b * n) w old new k c) ys (WordsDone Fresh xs (b * n) (b * n + n) want)
  walk_words k zero ys e done ready fresh = let z : b * n + 2 * k ≡ b * n + n = omega arith in subst (λ (q : ℕ). Now xs (b * n) q want ys) z done
  walk_words k (suc c) ys e done ready fresh =
      go (eqb (old_word w old (2 * k)) (word_of new (2 * k))) refl
      (λ zs one. walk_words (k + 1) c zs (omega arith)
      (subst (λ (q : ℕ). Now xs (b * n) q want zs) step (now_then (b * n) (b * n + 2 * k) (b * n + 2 * k + 2) want xs ys zs (omega arith) (omega arith) done one))
      (subst (λ (q : ℕ). Ready (b * n) w old want zs q (b * n + n)) step (ready_later (b * n) w old want ys zs (b * n + 2 * k) (b * n + n) ready one)))
    where
      step : b * n + 2 * k + 2 ≡ b * n + 2 * (k + 1)
      step = omega arith

      asked : word_of new (2 * k) ≡ word_of want (b * n + 2 * k)
      asked =
          let z : b * n + (2 * k + 1) ≡ b * n + 2 * k + 1 = omega arith in
          let x = asks (2 * k) (omega arith) in
          let y : get_or new (2 * k + 1) 0 ≡ get_or want (b * n + 2 * k + 1) 0 = asks (2 * k + 1) (omega arith) ∙ ap (λ (i : ℕ). get_or want i 0) z in
          rw (x, y)

      room : b * n + 2 * k + 2 ≤ length ys
      room = let l = done.long in omega arith

      go : (t : Bool) → eqb (old_word w old (2 * k)) (word_of new (2 * k)) ≡ t →
          ((zs : List ℕ) → Now ys (b * n + 2 * k) (b * n + 2 * k + 2) want zs → Fresh zs →
          Walks Opened n (differing (b * n) w old new (k + 1) c) zs (WordsDone Fresh xs (b * n) (b * n + n) want)) →
          Walks Opened n (cond t [] (word_at (b * n + 2 * k) (word_of new (2 * k)) ∷ []) ++ differing (b * n) w old new (k + 1) c) ys
          (WordsDone Fresh xs (b * n) (b * n + n) want)
      go true s next =
          let h = halves (get_or ys (b * n + 2 * k) 0) (get_or ys (b * n + 2 * k + 1) 0) (get_or want (b * n + 2 * k) 0) (get_or want (b * n + 2 * k + 1) 0)
          (ready.byte (b * n + 2 * k) (omega arith) (omega arith)) (byte (b * n + 2 * k))
          (sym (ready.stands k (omega arith) (omega arith)) ∙ (eqb-true (old_word w old (2 * k)) (word_of new (2 * k)) s ∙ asked)) in
          next ys (now_standing (b * n + 2 * k) want ys h.0 h.1) fresh
      go false s next = (
        record { low = omega arith; high = omega arith; done = done; fresh = fresh },
        λ o. next (effect n (word_at (b * n + 2 * k) (word_of new (2 * k))) ys)
            (subst (λ (zs : List ℕ). Now ys (b * n + 2 * k) (b * n + 2 * k + 2) want zs)
            (sym (effect_word n (b * n + 2 * k) (word_of new (2 * k)) want ys asked (byte (b * n + 2 * k))
            (ready.falls (b * n + 2 * k) (omega arith) (omega arith)) (ready.falls (b * n + 2 * k + 1) (omega arith) (omega arith))))
            (now_word (b * n + 2 * k) want ys room))
            (again (subst Opened (block_of_place n b (b * n + 2 * k) (omega arith) (omega arith)) o) _),
      )

-- in block b, before the word at q: words before it are as wanted, and from it on all is as it was, or FFH if the block was wiped
pub record Halfway (n b : ℕ) (w : Bool) (want xs : List ℕ) (q : ℕ) (ys : List ℕ) : Type 0 where
  pub before : (i : ℕ) → b * n ≤ i → i < q → get_or ys i 0 ≡ get_or want i 0
  pub after : (i : ℕ) → q ≤ i → i < b * n + n → get_or ys i 0 ≡ cond w 255 (get_or xs i 0)

abbrev pub WordsBefore : ℕ → ℕ → Bool → List ℕ → List ℕ → Job → List ℕ → Type 0
WordsBefore n b w want xs (word_at q v) ys = Halfway n b w want xs q ys
WordsBefore n b w want xs (wipe_of b') ys = Unit {0}

-- the jobs of block b: where none is left it is as wanted; before its first job nothing has changed, and before a later one the block was open
abbrev BlockDone : (ℕ → Type 0) → ℕ → ℕ → Bool → List ℕ → List ℕ → Option Job → List ℕ → Type 0
BlockDone Opened n b w want xs None ys = Now xs (b * n) (b * n + n) want ys
BlockDone Opened n b w want xs (Some j) ys = WordsBefore n b w want xs j ys × ((ys ≡ xs) ⊎ Opened b)

module _ (Opened : ℕ → Type 0) (n b : ℕ) (want xs : List ℕ) (even : 2 * (n / 2) ≡ n) (within : b * n + n ≤ length xs) (byte : EachBelow 256 want)
    (old_byte : EachBelow 256 xs) where
  abbrev Fresh : List ℕ → Type 0
  Fresh ys = (ys ≡ xs) ⊎ Opened b

  abbrev blank : List ℕ
  blank = effect n (wipe_of b) xs

  starts : b * n + 2 * 0 ≡ b * n
  starts = omega arith

  walk_from : (w : Bool) (ys : List ℕ) → length ys ≡ length xs → Ready (b * n) w (block_at n xs b) want ys (b * n) (b * n + n) → Fresh ys →
      Walks Opened n (differing (b * n) w (block_at n xs b) (block_at n want b) 0 (n / 2)) ys (WordsDone Fresh ys (b * n) (b * n + n) want)
  walk_from w ys l ready fresh =
      walk_words Opened n b w (block_at n xs b) (block_at n want b) want ys Fresh (λ o _. inr o) even (omega arith) byte (λ i h. get_d_part want (b * n) n i 0 h) 0
      (n / 2) ys (omega arith)
      (subst (λ (q : ℕ). Now ys (b * n) q want ys) (sym starts) (now_none (b * n) want ys))
      (subst (λ (q : ℕ). Ready (b * n) w (block_at n xs b) want ys q (b * n + n)) (sym starts) ready) fresh

  -- without a wipe
  unwiped : must_wipe n xs want b ≡ false → Ready (b * n) false (block_at n xs b) want xs (b * n) (b * n + n)
  unwiped e = record {
    stands = λ k l h.
        let x = get_d_part xs (b * n) n (2 * k) 0 (omega arith) in
        let y = get_d_part xs (b * n) n (2 * k + 1) 0 (omega arith) in
        let z : b * n + (2 * k + 1) ≡ b * n + 2 * k + 1 = omega arith in
        rw (x, y, z);
    falls = λ i l h.
        let z : b * n + (i - b * n) ≡ i = omega arith in
        let x : get_or (block_at n xs b) (i - b * n) 0 ≡ get_or xs i 0 = get_d_part xs (b * n) n (i - b * n) 0 (omega arith) ∙ ap (λ (k : ℕ). get_or xs k 0) z in
        let y : get_or (block_at n want b) (i - b * n) 0 ≡ get_or want i 0 = get_d_part want (b * n) n (i - b * n) 0 (omega arith) ∙ ap (λ (k : ℕ). get_or want k 0) z in
        rw (x, y) at (falls_from (block_at n xs b) (block_at n want b) 0 n e (i - b * n) (omega arith) (omega arith));
    byte = λ i _ _. old_byte i;
  }

  from_old : (next : Option Job) (ys : List ℕ) → WordsDone Fresh xs (b * n) (b * n + n) want next ys → BlockDone Opened n b false want xs next ys
  from_old None ys h = h
  from_old (Some (word_at q v)) ys h = (record { before = h.done.at; after = λ i l _. h.done.high i l }, h.fresh)
  from_old (Some (wipe_of b')) ys h = absurd h

  -- after a wipe
  wiped_apart : Apart (b * n) (b * n + n) xs blank
  wiped_apart = effect_apart n b (wipe_of b) xs refl within

  wiped_ready : Ready (b * n) true (block_at n xs b) want blank (b * n) (b * n + n)
  wiped_ready = record {
    stands = λ k l h. rw (wipe_blank n b xs within (b * n + 2 * k) l (omega arith), wipe_blank n b xs within (b * n + 2 * k + 1) (omega arith) (omega arith));
    falls = λ i l h. rw (wipe_blank n b xs within i l h) (full_left (get_or want i 0) (byte i));
    byte = λ i l h. rw (wipe_blank n b xs within i l h) (omega arith);
  }

  from_blank : (next : Option Job) (ys : List ℕ) → WordsDone Fresh blank (b * n) (b * n + n) want next ys → BlockDone Opened n b true want xs next ys
  from_blank None ys h = record {
    long = h.long ∙ wiped_apart.long;
    at = h.at;
    low = λ i l. h.low i l ∙ wiped_apart.low i l;
    high = λ i l. h.high i l ∙ wiped_apart.high i l;
  }
  from_blank (Some (word_at q v)) ys h =
      (record { before = h.done.at; after = λ i l r. h.done.high i l ∙ wipe_blank n b xs within i (let k = h.low in omega arith) r }, h.fresh)
  from_blank (Some (wipe_of b')) ys h = absurd h

  walk_by : (w : Bool) → must_wipe n xs want b ≡ w → Walks Opened n (jobs_by w n b (block_at n xs b) (block_at n want b)) xs (BlockDone Opened n b w want xs)
  walk_by true e = (
    (tt, inl refl),
    λ o. walks_as Opened n (differing (b * n) true (block_at n xs b) (block_at n want b) 0 (n / 2)) blank (WordsDone Fresh blank (b * n) (b * n + n) want)
        (BlockDone Opened n b true want xs) from_blank
        (walk_from true blank wiped_apart.long wiped_ready (inr o)),
  )
  walk_by false e =
      walks_as Opened n (differing (b * n) false (block_at n xs b) (block_at n want b) 0 (n / 2)) xs (WordsDone Fresh xs (b * n) (b * n + n) want)
      (BlockDone Opened n b false want xs) from_old
      (walk_from false xs refl (unwiped e) (inl refl))

  walk_block : Walks Opened n (block_jobs n xs want b) xs (λ next ys. BlockDone Opened n b (must_wipe n xs want b) want xs next ys × Framed n b xs next ys)
  walk_block =
      walks_both Opened n (block_jobs n xs want b) xs (BlockDone Opened n b (must_wipe n xs want b) want xs) (Framed n b xs) (walk_by (must_wipe n xs want b) refl)
      (framed Opened n b (block_jobs n xs want b) xs (all_on n b (block_at n xs b) (block_at n want b) even) within)

-- several blocks, from b on to before e: one is being written, of which the job j is next; those before it are as wanted, and the others as they were
pub record StopIn (Opened : ℕ → Type 0) (n b e : ℕ) (want xs : List ℕ) (j : Job) (ys : List ℕ) : Type 0 where
  pub seen : ℕ
  pub few : seen < e
  pub long : length ys ≡ length xs
  pub on : On n seen j
  pub before : (i : ℕ) → b * n ≤ i → i < seen * n → get_or ys i 0 ≡ get_or want i 0
  pub low : (i : ℕ) → i < b * n → get_or ys i 0 ≡ get_or xs i 0
  pub high : (i : ℕ) → seen * n + n ≤ i → get_or ys i 0 ≡ get_or xs i 0
  pub words : WordsBefore n seen (must_wipe n xs want seen) want xs j ys
  pub fresh : ((i : ℕ) → seen * n ≤ i → i < seen * n + n → get_or ys i 0 ≡ get_or xs i 0) ⊎ Opened seen

abbrev pub BlocksDone : (ℕ → Type 0) → ℕ → ℕ → ℕ → List ℕ → List ℕ → Option Job → List ℕ → Type 0
BlocksDone Opened n b e want xs None ys = Now xs (b * n) (e * n) want ys
BlocksDone Opened n b e want xs (Some j) ys = StopIn Opened n b e want xs j ys

module _ (Opened : ℕ → Type 0) (n b e : ℕ) (want xs : List ℕ) (even : 2 * (n / 2) ≡ n) (within : e * n ≤ length xs) (byte : EachBelow 256 want)
    (old_byte : EachBelow 256 xs) where
  -- the blocks before d are as wanted, and ys is what stands: block d is next
  module _ (d : ℕ) (ys : List ℕ) (low : b ≤ d) (high : d < e) (done : Now xs (b * n) (d * n) want ys) where
    same : (i : ℕ) → d * n ≤ i → get_or ys i 0 ≡ get_or xs i 0
    same i l = done.high i l

    inside : d * n + n ≤ length xs
    inside = let q = blocks_apart n d e high in omega arith

    begins : b * n ≤ d * n
    begins = mul-le-mul_right n low

    same_block : block_at n ys d ≡ block_at n xs d
    same_block = part_same xs ys (d * n) n inside done.long (λ i l _. same i l)

    words_as : (w : Bool) (j : Job) (zs : List ℕ) → On n d j → WordsBefore n d w want ys j zs → WordsBefore n d w want xs j zs
    words_as w (word_at q v) zs o h = record { before = h.before; after = λ i l r. h.after i l r ∙ ap (cond w 255) (same i (omega (arith, o.0))) }
    words_as w (wipe_of b') zs o h = tt

    stop_in : (j : Job) (zs : List ℕ) → BlockDone Opened n d (must_wipe n ys want d) want ys (Some j) zs × Framed n d ys (Some j) zs →
        StopIn Opened n b e want xs j zs
    stop_in j zs h =
        let a = h.1.apart in
        record {
          seen = d;
          few = high;
          long = a.long ∙ done.long;
          on = h.1.on;
          before = λ i l r. a.low i r ∙ done.at i l r;
          low = λ i l. a.low i (let q = begins in omega arith) ∙ done.low i l;
          high = λ i l. a.high i l ∙ same i (omega arith);
          words = words_as (must_wipe n xs want d) j zs h.1.on
              (subst (λ (z : List ℕ). WordsBefore n d (rises z (block_at n want d) 0 n) want ys j zs) same_block h.0.0);
          fresh = ⊎_elim (λ (q : zs ≡ ys). inl (λ i l _. ap (λ (z : List ℕ). get_or z i 0) q ∙ same i l)) (λ (o : Opened d). inr o) h.0.1;
        }

    pub walk_next : (rest : List Job) → ((zs : List ℕ) → Now xs (b * n) ((d + 1) * n) want zs → Walks Opened n rest zs (BlocksDone Opened n b e want xs)) →
        Walks Opened n (block_jobs n xs want d ++ rest) ys (BlocksDone Opened n b e want xs)
    walk_next rest next =
        let l = done.long in
        let i = inside in
        let step : d * n + n ≡ (d + 1) * n = omega arith in
        subst (λ (z : List ℕ). Walks Opened n (jobs_for n d z (block_at n want d) ++ rest) ys (BlocksDone Opened n b e want xs)) same_block
        (walks_then Opened n (block_jobs n ys want d) rest ys (λ x zs. BlockDone Opened n d (must_wipe n ys want d) want ys x zs × Framed n d ys x zs)
        (BlocksDone Opened n b e want xs) stop_in
        (λ zs h. next zs (subst (λ (q : ℕ). Now xs (b * n) q want zs) step (now_then (b * n) (d * n) (d * n + n) want xs ys zs begins (omega arith) done h.0)))
        (walk_block Opened n d want ys even (omega arith) byte (now_byte (b * n) (d * n) want xs ys done byte old_byte)))

  walk_blocks : (d k : ℕ) (ys : List ℕ) → d + k ≡ e → b ≤ d → Now xs (b * n) (d * n) want ys →
      Walks Opened n (listed_jobs n xs want (rising d k)) ys (BlocksDone Opened n b e want xs)
  walk_blocks d zero ys q low done = let z : d ≡ e = omega arith in subst (λ (x : ℕ). Now xs (b * n) (x * n) want ys) z done
  walk_blocks d (suc k) ys q low done =
      walk_next d ys low (omega arith) done (listed_jobs n xs want (rising (d + 1) k)) (λ zs h. walk_blocks (d + 1) k zs (omega arith) (omega arith) h)

-- how far a put has come
abbrev pub PutDoneSoFar : (ℕ → Type 0) → Meaning → ℕ → List ℕ → Option Job → List ℕ → Type 0
PutDoneSoFar Opened m p bs next ys =
    BlocksDone Opened m.block_size (p / m.block_size) (p / m.block_size + met_count m.block_size p (length bs)) (wanted m p bs) m.bytes next ys

pub walk_put : (Opened : ℕ → Type 0) (m : Meaning) (p : ℕ) (bs : List ℕ) → Fit m → p + length bs ≤ capacity m → 0 < length bs → EachBelow 256 bs →
    Walks Opened m.block_size (put_jobs m p bs) m.bytes (PutDoneSoFar Opened m p bs)
walk_put Opened m p bs fit l some by =
    let n = m.block_size in
    let b = p / m.block_size in
    let k = met_count m.block_size p (length bs) in
    let s = spans m.block_size p (length bs) m.blocks fit.some some l in
    let f = fit.filled in
    let t : (b + k) * n ≤ m.blocks * n = mul-le-mul_right m.block_size s.few in
    walk_blocks Opened n b (b + k) (wanted m p bs) m.bytes fit.even (omega arith) (below_laid 256 m.bytes bs p (omega arith) fit.byte by) fit.byte
    b k m.bytes refl (omega arith) (now_none (b * n) (wanted m p bs) m.bytes)
