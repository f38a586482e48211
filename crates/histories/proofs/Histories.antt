-- Several media: each one's own past leads to where it is, and keeps the law.
use Rattle.std.proofs.Common.{◌≡◌, ℕ, Bool, true, false, cond, eqb, List, [], ◌∷◌, sym, refl, subst}
use Rattle.std.proofs.lemmas.Bool.{eqb-true}
use Rattle.medium.specs.Meaning.{Meaning}
use Rattle.writer.proofs.Fit.{sound_fit}
use Rattle.histories.specs.Events.{Moment, Step, state, Past, Entry, world, Happened, own}
use Rattle.histories.specs.Law.{LawOfHistories}
use Rattle.histories.proofs.Pasts.{kept_throughout}

record OwnPast (first : Meaning) (past : List Moment) (last : Meaning) : Type 0 where
  ends : state first past ≡ last
  led : Past first past

own_past : (first : ℕ → Meaning) (history : List Entry) → Happened first history → (i : ℕ) → OwnPast (first i) (own i history) (world first history i)
own_past first [] h i = record { ends = refl; led = tt }
own_past first (e ∷ history) h i = go (own_past first history h.1 i) (eqb i e.medium) refl
  where
    go : OwnPast (first i) (own i history) (world first history i) → (t : Bool) → eqb i e.medium ≡ t →
        OwnPast (first i) (cond t (e.moment ∷ own i history) (own i history)) (cond t e.moment.after (world first history i))
    go l true q =
        let s : Step (world first history i) e.moment.event e.moment.after =
        subst (λ (j : ℕ). Step (world first history j) e.moment.event e.moment.after) (sym (eqb-true i e.medium q)) h.0 in
        record { ends = refl; led = (subst (λ (m : Meaning). Step m e.moment.event e.moment.after) (sym l.ends) s, l.led) }
    go l false q = l

pub law_of_histories : LawOfHistories
law_of_histories first history h i s =
    let l = own_past first history h i in
    record { led = l.led; ends = l.ends; kept = kept_throughout (first i) (own i history) (sound_fit (first i) s) l.led }
