-- A row of the table that is a put: the definitions run on it, and what they give is compared.
use Rattle.std.proofs.Common.{◌≡◌, ℕ, ◌+◌, ◌*◌, ◌/◌, ◌%◌, ◌≤◌, Bool, true, false, ◌||◌, eqb, ltb, List, [], ◌∷◌, ◌++◌, length, get_or, drop, Some, None, Option, Result, sym, refl, ap, ◌∙◌, zero-add, zero-mul}
use lib.Bits.{bit_and}
use Rattle.std.proofs.lemmas.List.Prefix.{front_rest}
use Rattle.std.proofs.lemmas.Bool.{eqb-true, le-ltb}
use Rattle.medium.specs.Meaning.{Meaning, capacity}
use Rattle.medium.specs.Wear.{alive}
use Rattle.medium.specs.Jobs.{Between, byte_after, laid, refuse_if, wiped, worked}
use Rattle.medium.specs.declared.fault.Fault.{Fault}
use Rattle.medium.specs.declared.fault.Fault.TheVariants.{OffCard}
use Rattle.medium.proofs.Wiped.{length_wiped}
use Rattle.writer.specs.Jobs.{Job, Left, Run, finished, stopped, tally, wipe_of, word_at}
use Rattle.writer.specs.Put.{PutDone, call_answer, put_refusal, put_run}
use Rattle.writer.specs.declared.counts.Counts.{Counts}
use Rattle.writer.specs.declared.fault.WriterFault.{WriterFault}
use Rattle.writer.proofs.Laws.{accounted}
use Rattle.cases.specs.Table.{EachPut, PutHolds, PutShown, asked, card_at, on_card}
use Rattle.cases.specs.Computed.{Checked, EachChecked, JobChecked, PutChecked, RunChecked}
use Rattle.cases.specs.declared.table.PutCase.{PutCase}

-- with a buffer that holds a block, only the range is tested
room : (m : Meaning) (p n l : ℕ) → m.block_size ≤ l → put_refusal m p n l ≡ refuse_if (ltb (capacity m) (p + n)) (OffCard p) None
room m p n l h = rw (le-ltb l m.block_size h)

-- a lane that lives, or of which nothing is asked to fall, leaves what it held
same_byte : (t : Bool) (made old v x : ℕ) → (t || eqb (bit_and old v) old) ≡ true → Between old v x → byte_after t made x ≡ byte_after t made old
same_byte true made old v x e b = refl
same_byte false made old v x e b =
    let q : bit_and old v ≡ old = eqb-true (bit_and old v) old e in
    let m = b.no_more in
    let n = b.no_rise in
    let z : bit_and x old ≡ old = rw q at m in
    sym n ∙ z

-- m with other contents
abbrev with_bytes : Meaning → List ℕ → Meaning
with_bytes m xs =
    record {
      block_size = m.block_size;
      blocks = m.blocks;
      bytes = xs;
      locks = m.locks;
      supply = m.supply;
      even_lives = m.even_lives;
      odd_lives = m.odd_lives;
    }

-- the contents past a block that was laid over from 0 on
past_laid : (xs ys : List ℕ) (n : ℕ) → length ys ≡ n → drop n (laid xs 0 ys) ≡ drop n xs
past_laid xs ys n e =
    let z : 0 + length ys ≡ n = zero-add (length ys) ∙ e in
    ap (λ (k : ℕ). drop k (ys ++ drop (0 + length ys) xs)) (sym e) ∙ (front_rest (ys ++ drop (0 + length ys) xs) ys (drop (0 + length ys) xs) refl ∙ ap (λ (k : ℕ). drop k xs) z)

module _ (c : PutCase) where
  -- contents and all else
  abbrev Kept : Meaning → Type 0
  Kept m' = (drop c.untold m'.bytes ≡ drop c.untold c.after.bytes) × (m' ≡ on_card c.after m'.bytes)

  kept_whole : (m' : Meaning) → m' ≡ card_at c.after → Kept m'
  kept_whole m' e =
      let b : m'.bytes ≡ c.after.bytes = ap (λ (m : Meaning). m.bytes) e in
      (ap (drop c.untold) b, e ∙ ap (on_card c.after) (sym b))

  kept_job : (m m' : Meaning) (j : Job) (f : Fault) → JobChecked c m j → Left (stopped m j f (tally 0 0)) m' → Kept m'
  kept_job m m' (word_at p v) f (none, even, odd, is) h =
      let b = h.begun none in
      let e = same_byte (alive m.even_lives (p / m.block_size)) (bit_and (get_or m.bytes p 0) (v % 256)) (get_or m.bytes p 0) (v % 256) b.even even b.even_between in
      let o =
      same_byte (alive m.odd_lives (p / m.block_size)) (bit_and (get_or m.bytes (p + 1) 0) (v / 256)) (get_or m.bytes (p + 1) 0) (v / 256) b.odd odd b.odd_between in
      kept_whole m'
      (b.after
      ∙ (ap (λ (x : ℕ). worked m (p / m.block_size) (laid m.bytes p (x ∷ byte_after (alive m.odd_lives (p / m.block_size)) (bit_and (get_or m.bytes (p + 1) 0) (v / 256)) b.odd ∷ []))) e
      ∙ (ap (λ (y : ℕ). worked m (p / m.block_size) (laid m.bytes p (byte_after (alive m.even_lives (p / m.block_size)) (bit_and (get_or m.bytes p 0) (v % 256)) (get_or m.bytes p 0) ∷ y ∷ []))) o
      ∙ is)))
  kept_job m m' (wipe_of b) f (none, first, size, is) h =
      let w = h.begun none in
      let ys = wiped (alive m.even_lives b) (alive m.odd_lives b) w.left in
      let n : length ys ≡ c.untold = length_wiped (alive m.even_lives b) (alive m.odd_lives b) w.left ∙ (w.long ∙ sym size) in
      let z : b * m.block_size ≡ 0 = ap (λ (k : ℕ). k * m.block_size) first ∙ zero-mul m.block_size in
      let xs : m'.bytes ≡ laid m.bytes 0 ys =
      ap (λ (k : Meaning). k.bytes) w.after ∙ ap (λ (p : ℕ). laid m.bytes p ys) z in
      let same : m.bytes ≡ c.after.bytes = ap (λ (k : Meaning). k.bytes) is in (
        ap (drop c.untold) xs ∙ (past_laid m.bytes ys c.untold n ∙ ap (drop c.untold) same),
        w.after
            ∙ (ap (λ (k : Meaning). with_bytes k (laid m.bytes (b * m.block_size) ys)) is
            ∙ ap (on_card c.after) (sym (ap (λ (k : Meaning). k.bytes) w.after))),
      )

  kept_run : (R : Run) (r : Result Counts WriterFault) (m' : Meaning) → RunChecked c R → r ≡ call_answer R → Left R m' → (r ≡ c.answer) × Kept m'
  kept_run (finished m d) r m' k a l = (a ∙ k.0, kept_whole m' (l ∙ k.1))
  kept_run (stopped m j f d) r m' k a l = (a ∙ k.0, kept_job m m' j f k.1 l)

  shown : PutChecked c →
      (buf buf' : List ℕ) (r : Result Counts WriterFault) (m' : Meaning) → 4 ≤ length buf →
      PutDone (card_at c.before) c.place (asked c) buf r m' buf' → PutShown c r m'
  shown k buf buf' r m' h d =
      let g = go (refuse_if (ltb 8 (c.place + length (asked c))) (OffCard c.place) None) (room m c.place (length (asked c)) (length buf) h) k in
      record { answer = g.0; contents = g.1.0; rest = g.1.1; accounted = accounted m m' c.place (asked c) buf buf' r d }
    where
      m : Meaning
      m = card_at c.before

      go : (o : Option Fault) → put_refusal m c.place (length (asked c)) (length buf) ≡ o → Checked c o (put_run m c.place (asked c)) → (r ≡ c.answer) × Kept m'
      go (Some f) e k = let q = d.refused f e in (q.answer ∙ k.0, kept_whole m' (q.same ∙ k.1))
      go None e k = let q = d.accepted e in kept_run (put_run m c.place (asked c)) r m' k q.answer q.left

  put_holds : PutChecked c → PutHolds c
  put_holds k = record { holds = shown k }

pub each_put : (cs : List PutCase) → EachChecked cs → EachPut cs
each_put [] k = tt
each_put (c ∷ cs) k = (put_holds c k.0, each_put cs k.1)
