-- The history that calls make, one after the other.
use Rattle.std.proofs.Common.{◌≡◌, ℕ, suc, ◌+◌, ◌<◌, ◌≤◌, Bool, true, false, cond, eqb, List, [], ◌∷◌, ◌++◌, length, set, sym, refl, ap, ◌∙◌, subst, add-zero, arith}
use Rattle.std.proofs.lemmas.Bool.{eqb-true, eqb-false, eq-eqb, cond-true}
use Rattle.std.proofs.lemmas.List.{get_or-set_same, get_or-set_other}
use Rattle.medium.specs.Meaning.{Meaning}
use Rattle.histories.specs.Events.{Step, Entry, world, Happened}
use Rattle.histories.specs.Performed.{absent, numbered, with_answer, Carried, with_call, Recorded, no_more, there, nowhere}
use Rattle.histories.specs.declared.call.Call.{Call}
use Rattle.histories.specs.declared.answer.Answer.TheVariants.{NoSuchMedium}

module _ {S : Type 0} (moves : S → ℕ → Meaning → Meaning → S → Type 0) (media : List Meaning) where
  -- what was recorded, and then more
  recorded_append : {t u : S} {g h : List Entry} {at : ℕ} {s : S} {history : List Entry} {bs zs ds ys : List Call} →
      Recorded moves media t g at s history bs zs → Recorded moves media u h (at + length bs) t g ds ys →
      Recorded moves media u h at s history (bs ++ ds) (zs ++ ys)
  recorded_append {t} {u} {g} {h} {at} {ds = ds} {ys = ys} no_more rest = subst (λ (n : ℕ). Recorded moves media u h n t g ds ys) (add-zero at) rest
  recorded_append {t} {u} {g} {h} {at} {ds = ds} {ys = ys} (there {before = bs} on c more) rest =
      let e : at + suc (length bs) ≡ at + 1 + length bs = omega arith in
      there on c (recorded_append more (subst (λ (n : ℕ). Recorded moves media u h n t g ds ys) e rest))
  recorded_append {t} {u} {g} {h} {at} {ds = ds} {ys = ys} (nowhere {before = bs} off more) rest =
      let e : at + suc (length bs) ≡ at + 1 + length bs = omega arith in
      nowhere off (recorded_append more (subst (λ (n : ℕ). Recorded moves media u h n t g ds ys) e rest))

  -- calls carried out so far: their history, which leads to what the media mean now
  pub record Story (now : List Meaning) (s t : S) (bs zs : List Call) : Type 0 where
    pub history : List Entry
    pub recorded : Recorded moves media t history 0 s [] bs zs
    pub happened : Happened (numbered media) history
    pub arrives : (i : ℕ) → world (numbered media) history i ≡ numbered now i

  pub begins : (s : S) → Story media s s [] []
  begins s = record { history = []; recorded = no_more; happened = tt; arrives = λ i. refl }

  -- medium i has changed twice, to x and then to m, and no other has
  twice_set : (ms : List Meaning) (i j : ℕ) (x m y : Meaning) → i < length ms → y ≡ numbered ms j → cond (eqb j i) m (cond (eqb j i) x y) ≡ numbered (set ms i m) j
  twice_set ms i j x m y within was = go (eqb j i) refl
    where
      go : (t : Bool) → eqb j i ≡ t → cond t m (cond t x y) ≡ numbered (set ms i m) j
      go true e = sym (get_or-set_same ms i m absent within) ∙ ap (numbered (set ms i m)) (sym (eqb-true j i e))
      go false e = was ∙ sym (get_or-set_other ms i j m absent (eqb-false j i e))

  module _ (now : List Meaning) (s t : S) (bs zs : List Call) (story : Story now s t bs zs) (b : Call) (long : length now ≡ length media) where
    -- a call on a medium that is there
    pub on_medium : (a : Call) (m' : Meaning) (u : S) → b.medium < length now →
        Carried moves (world (numbered media) story.history b.medium) m' (0 + length bs) t u b a → Story (set now b.medium m') s u (bs ++ b ∷ []) (zs ++ a ∷ [])
    on_medium a m' u within c =
        let i = b.medium in
        let m = world (numbered media) story.history i in
        let between = c.between in
        record {
          history = with_call moves i c story.history;
          recorded = recorded_append story.recorded (there (subst (λ (n : ℕ). i < n) long within) c no_more);
          happened = (
            subst (λ (x : Meaning). Step x c.made.event m') (sym (cond-true (eqb i i) between m (eq-eqb i i refl))) c.made.step,
            (c.move.only, story.happened),
          );
          arrives = λ j. twice_set now i j between m' (world (numbered media) story.history j) within (story.arrives j);
        }

    -- a call on none
    pub on_none : length now ≤ b.medium → Story now s t (bs ++ b ∷ []) (zs ++ with_answer b NoSuchMedium ∷ [])
    on_none off =
        record {
          history = story.history;
          recorded = recorded_append story.recorded (nowhere (subst (λ (n : ℕ). n ≤ b.medium) long off) no_more);
          happened = story.happened;
          arrives = story.arrives;
        }
