-- One medium: what each event leaves of it, and what holds after every past.
use Rattle.std.proofs.Common.{◌≡◌, ℕ, ◌+◌, ◌-◌, ◌*◌, ◌/◌, ◌<◌, ◌≤◌, Bool, true, false, cond, ltb, List, [], ◌∷◌, length, get_or, take, drop, replicate, Some, None, Ok, Option, Result, sym, refl, ap, ◌∙◌, subst, arith}
use Rattle.std.proofs.lemmas.List.{length-take}
use Rattle.medium.specs.Meaning.{Meaning, EachBelow, capacity}
use Rattle.medium.specs.Jobs.{refuse_if, answers, ReadDone}
use Rattle.medium.specs.declared.fault.Fault.{Fault}
use Rattle.medium.specs.declared.fault.Fault.TheVariants.{OffCard}
use Rattle.medium.proofs.Below.{below_replicate}
use Rattle.writer.specs.Put.{put_refusal, PutDone, PlanDone, clear_place, clear_bytes}
use Rattle.writer.specs.Laws.{Fewest, lives, lanes_told, jobs_told}
use Rattle.writer.specs.declared.counts.Counts.{Counts}
use Rattle.writer.specs.declared.fault.WriterFault.{WriterFault}
use Rattle.writer.proofs.Fit.{Fit}
use Rattle.writer.proofs.Parts.{get_d_part}
use Rattle.writer.proofs.Shapes.{Alike, alike_same}
use Rattle.writer.proofs.Laws.{fewest, accounted, alike_put}
use Rattle.histories.specs.Events.{Event, put_of, clear_of, take_of, plan_of, switching, Step, Moment, state, Throughout, Past}
use Rattle.medium.specs.Switches.{OnlySwitched}
use Rattle.histories.specs.Law.{Asking, asks, reached, worn_named, told_after, told, ShownAsTold, counted_by, Kept}
use Rattle.histories.proofs.Reached.{asking, Leaves, put_leaves}

-- what an event, which asks a of the medium m, leaves
record After (m : Meaning) (a : Option Asking) (m' : Meaning) : Type 0 where
  alike : Alike m m'
  as_told : (k : ℕ) (before : Option ℕ) → ((v : ℕ) → before ≡ Some v → get_or m.bytes k 0 ≡ v) →
      (v : ℕ) → told_after m.block_size a k before ≡ Some v → get_or m'.bytes k 0 ≡ v
  fewest : (x : Asking) → a ≡ Some x → Fewest m x.answer m'
  none_won : lives m' ≤ lives m
  account : lives m - lives m' + counted_by lanes_told a ≡ 2 * counted_by jobs_told a

some_is : (x y : ℕ) → Some x ≡ Some y → x ≡ y
some_is x y e = cc

leaves_as_told : (n : ℕ) (old new : List ℕ) (a : Asking) → Leaves n a old new → (k : ℕ) (before : Option ℕ) → ((v : ℕ) → before ≡ Some v → get_or old k 0 ≡ v) →
    (v : ℕ) → told_after n (Some a) k before ≡ Some v → get_or new k 0 ≡ v
leaves_as_told n old new a h k before was v t = go (reached n a k) refl (worn_named n a.answer (k / n)) refl t
  where
    go : (x : Bool) → reached n a k ≡ x → (y : Bool) → worn_named n a.answer (k / n) ≡ y →
        cond x (Some (get_or a.bytes (k - a.place) 0)) (cond y None before) ≡ Some v → get_or new k 0 ≡ v
    go true ex y ey e = h.asked k ex ∙ some_is (get_or a.bytes (k - a.place) 0) v e
    go false ex true ey e = let z : ◌≡◌ {A = ℕ} 0 1 = cc in absurd (omega arith)
    go false ex false ey e = h.kept k ex ey ∙ was v e

after_put : (m : Meaning) (p : ℕ) (bs buf : List ℕ) (r : Result Counts WriterFault) (m' : Meaning) (buf' : List ℕ) → Fit m → EachBelow 256 bs →
    PutDone m p bs buf r m' buf' → After m (Some (asking p bs r)) m'
after_put m p bs buf r m' buf' f below d =
    record {
      alike = alike_put m m' p bs buf buf' r f d;
      as_told = leaves_as_told m.block_size m.bytes m'.bytes (asking p bs r) (put_leaves m p bs buf r m' buf' f below d);
      fewest = λ x e. let z : asking p bs r ≡ x = cc in subst (λ (a : Asking). Fewest m a.answer m') z (fewest m m' p bs buf buf' r f below d);
      none_won = (accounted m m' p bs buf buf' r d).none_won;
      account = (accounted m m' p bs buf buf' r d).account;
    }

-- an event that asks nothing leaves bytes and lives as they were
after_other : (m m' : Meaning) → Alike m m' → m'.bytes ≡ m.bytes → lives m' ≡ lives m → After m None m'
after_other m m' alike bytes same =
    record {
      alike = alike;
      as_told = λ k before was v t. ap (λ (xs : List ℕ). get_or xs k 0) bytes ∙ was v t;
      fewest = λ x e. let z : ◌≡◌ {A = ℕ} 0 1 = cc in absurd (omega arith);
      none_won = omega arith;
      account = omega arith;
    }

after_same : (m m' : Meaning) → Fit m → m' ≡ m → After m None m'
after_same m m' f e = after_other m m' (alike_same m m' f e) (ap (λ (x : Meaning). x.bytes) e) (ap lives e)

after_switched : (m m' : Meaning) → Fit m → OnlySwitched m m' → After m None m'
after_switched m m' f h =
    after_other m m'
    (record {
      size = h.size;
      count = h.number;
      fit = record {
        some = subst (λ (n : ℕ). 0 < n) (sym h.size) f.some;
        even = subst (λ (n : ℕ). 2 * (n / 2) ≡ n) (sym h.size) f.even;
        filled = ap length h.contents ∙ (f.filled ∙ rw (h.size, h.number));
        byte = subst (EachBelow 256) (sym h.contents) f.byte;
      };
    })
    h.contents (rw (h.even, h.odd))

plan_leaves_same : (m : Meaning) (p : ℕ) (bs buf : List ℕ) (r : Result Counts WriterFault) (m' : Meaning) (buf' : List ℕ) → PlanDone m p bs buf r m' buf' → m' ≡ m
plan_leaves_same m p bs buf r m' buf' d = go (put_refusal m p (length bs) (length buf)) refl
  where
    go : (o : Option Fault) → put_refusal m p (length bs) (length buf) ≡ o → m' ≡ m
    go (Some f) e = (d.refused f e).same
    go None e = (d.accepted e).left

after_step : (m : Meaning) (e : Event) (m' : Meaning) → Fit m → Step m e m' → After m (asks m e) m'
after_step m (put_of p bs buf r buf') m' f s = after_put m p bs buf r m' buf' f s.0 s.1
after_step m (clear_of b k buf r buf') m' f s =
    after_put m (clear_place m b) (clear_bytes m k) buf r m' buf' f (below_replicate 256 255 (k * m.block_size) (omega arith) (omega arith)) s
after_step m (take_of p buf r buf') m' f s = after_same m m' f s.same
after_step m (plan_of p bs buf r buf') m' f s = after_same m m' f (plan_leaves_same m p bs buf r m' buf' s)
after_step m switching m' f s = after_switched m m' f s

-- what an event asks depends on the medium's block size alone
asks_by_size : (m m₀ : Meaning) (e : Event) → m.block_size ≡ m₀.block_size → asks m e ≡ asks m₀ e
asks_by_size m m₀ (put_of p bs buf r buf') n = refl
asks_by_size m m₀ (clear_of b k buf r buf') n = ap (λ (x : ℕ). Some (asking (b * x) (replicate (k * x) 255) r)) n
asks_by_size m m₀ (take_of p buf r buf') n = refl
asks_by_size m m₀ (plan_of p bs buf r buf') n = refl
asks_by_size m m₀ switching n = refl

-- a take without a fault shows what is on the medium
take_shows : (m : Meaning) (p : ℕ) (buf : List ℕ) (m' : Meaning) (buf' : List ℕ) → ReadDone m p buf (Ok tt) m' buf' → (k : ℕ) → k < length buf' →
    get_or buf' k 0 ≡ get_or m.bytes (p + k) 0
take_shows m p buf m' buf' h k l = go (ltb (capacity m) (p + length buf)) h.answer h.shown
  where
    go : (t : Bool) → Ok tt ≡ answers (refuse_if t (OffCard p) None) → buf' ≡ cond t buf (take (length buf) (drop p m.bytes)) → get_or buf' k 0 ≡ get_or m.bytes (p + k) 0
    go true a s = let z : ◌≡◌ {A = ℕ} 0 1 = cc in absurd (omega arith)
    go false a s =
        let q = ap length s ∙ length-take (length buf) (drop p m.bytes) in
        ap (λ (xs : List ℕ). get_or xs k 0) s ∙ get_d_part m.bytes p (length buf) k 0 (omega arith)

-- the past of a medium that was first so
module _ (first : Meaning) where
  -- after a past it is still the same card, with the bytes told, and has kept the law
  record Known (past : List Moment) : Type 0 where
    size : (state first past).block_size ≡ first.block_size
    fits : Fit (state first past)
    on_it : (k v : ℕ) → told first past k ≡ Some v → get_or (state first past).bytes k 0 ≡ v
    kept : Kept first past

  take_shows_told : (past : List Moment) → ((k v : ℕ) → told first past k ≡ Some v → get_or (state first past).bytes k 0 ≡ v) →
      (p : ℕ) (buf : List ℕ) (m' : Meaning) (buf' : List ℕ) → ReadDone (state first past) p buf (Ok tt) m' buf' → ShownAsTold (told first past) p buf'
  take_shows_told past on_it p buf m' buf' d k v l t = take_shows (state first past) p buf m' buf' d k l ∙ on_it (p + k) v t

  took_told : (past : List Moment) → Known past → (e : Event) (m' : Meaning) → Step (state first past) e m' →
      (p : ℕ) (buf buf' : List ℕ) → e ≡ take_of p buf (Ok tt) buf' → ShownAsTold (told first past) p buf'
  took_told past l e m' s p buf buf' is = take_shows_told past l.on_it p buf m' buf' (subst (λ (x : Event). Step (state first past) x m') is s)

  past_begins : Fit first → Known []
  past_begins f =
      let on_it : (k v : ℕ) → told first [] k ≡ Some v → get_or first.bytes k 0 ≡ v = λ k v e. some_is (get_or first.bytes k 0) v e in
      record {
        size = refl;
        fits = f;
        on_it = on_it;
        kept = record {
          bytes = record { on_it = λ k v l t. on_it k v t; take_now = take_shows_told [] on_it; takes = tt };
          fewest = tt;
          accounted = record { none_won = omega arith; account = omega arith };
        };
      }

  past_goes_on : (x : Moment) (past : List Moment) → Known past → Step (state first past) x.event x.after → Known (x ∷ past)
  past_goes_on x past l s =
      let m = state first past in
      let h : After m (asks first x.event) x.after =
      subst (λ (a : Option Asking). After m a x.after) (asks_by_size m first x.event l.size) (after_step m x.event x.after l.fits s) in
      let on_it : (k v : ℕ) → told first (x ∷ past) k ≡ Some v → get_or x.after.bytes k 0 ≡ v =
      λ k v t. h.as_told k (told first past k) (l.on_it k) v
      (subst (λ (n : ℕ). told_after n (asks first x.event) k (told first past k) ≡ Some v) (sym l.size) t) in
      record {
        size = h.alike.size ∙ l.size;
        fits = h.alike.fit;
        on_it = on_it;
        kept = record {
          bytes = record {
            on_it = λ k v i t. on_it k v t;
            take_now = take_shows_told (x ∷ past) on_it;
            takes = (took_told past l x.event x.after s, l.kept.bytes.takes);
          };
          fewest = (h.fewest, l.kept.fewest);
          accounted = record {
            none_won = omega (arith, h.none_won, l.kept.accounted.none_won);
            account = omega (arith, h.none_won, h.account, l.kept.accounted.none_won, l.kept.accounted.account);
          };
        };
      }

  every_past : (moments : List Moment) → Fit first → Past first moments → Known moments
  every_past [] f h = past_begins f
  every_past (x ∷ moments) f h = past_goes_on x moments (every_past moments f h.1) h.0

  pub kept_throughout : (moments : List Moment) → Fit first → Past first moments → Throughout (Kept first) moments
  kept_throughout [] f h = (every_past [] f h).kept
  kept_throughout (x ∷ moments) f h = ((every_past (x ∷ moments) f h).kept, kept_throughout moments f h.1)
