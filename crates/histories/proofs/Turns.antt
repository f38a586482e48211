-- The loop of perform: the calls carried out so far, a turn more, and the end.
use Rattle.std.proofs.Common.{◌≡◌, ℕ, zero, suc, ◌+◌, ◌<◌, ◌≤◌, List, [], ◌∷◌, ◌++◌, map, length, get_or, take, drop, set, sym, refl, ap, ◌∙◌, subst, add-zero, arith}
use Rattle.std.proofs.lemmas.List.{get_or-map, map-set, length-map, length-set, length-take-le, take_more, take_more_set, drop-set-lt, drop-drop, get_or-drop, take_all}
use Rattle.medium.specs.Meaning.{Meaning, Sound}
use Rattle.histories.specs.Events.{world, own}
use Rattle.histories.specs.Law.{LawKept}
use Rattle.histories.specs.Performed.{absent, numbered, with_answer, Carried, Recorded, Performed}
use Rattle.histories.specs.declared.call.Call.{Call}
use Rattle.histories.specs.declared.answer.Answer.TheVariants.{NoSuchMedium}
use Rattle.histories.proofs.Histories.{law_of_histories}
use Rattle.histories.proofs.Recording.{Story, begins, on_medium, on_none}

absent_sound : Sound absent
absent_sound =
    record {
      power = (1, (omega arith, omega arith, refl));
      few = omega arith;
      filled = refl;
      byte = λ k. omega arith;
      lock_row = refl;
      even_row = refl;
      odd_row = refl;
      even_fit = λ k. omega arith;
      odd_fit = λ k. omega arith;
    }

-- media of type X, which mean f of them, the switches and the calls before the loop
module _ {S X : Type 0} (moves : S → ℕ → Meaning → Meaning → S → Type 0) (f : X → Meaning) (xs₀ : List X) (s₀ : S) (calls₀ : List Call) where
  -- k calls are carried out, and the others wait as they were
  pub record SoFar (xs : List X) (s : S) (calls : List Call) (k : ℕ) : Type 0 where
    pub media : length xs ≡ length xs₀
    pub listed : length calls ≡ length calls₀
    pub waiting : drop k calls ≡ drop k calls₀
    pub story : Story moves (map f xs₀) (map f xs) s₀ s (take k calls₀) (take k calls)

  pub none_yet : SoFar xs₀ s₀ calls₀ 0
  none_yet = record { media = refl; listed = refl; waiting = refl; story = begins moves (map f xs₀) s₀ }

  -- call number k, which the code reads with some default d
  module _ (xs : List X) (s : S) (calls : List Call) (k : ℕ) (so : SoFar xs s calls k) (within : k < length calls) (d : Call) where
    abbrev b : Call
    b = get_or calls k d

    as_asked : get_or calls₀ k d ≡ b
    as_asked =
        let at : (cs : List Call) → get_or (drop k cs) 0 d ≡ get_or cs k d = λ cs. get_or-drop k cs 0 d ∙ ap (λ (n : ℕ). get_or cs n d) (add-zero k) in
        sym (at calls₀) ∙ (ap (λ (z : List Call). get_or z 0 d) (sym so.waiting) ∙ at calls)

    asked_so_far : take (k + 1) calls₀ ≡ take k calls₀ ++ b ∷ []
    asked_so_far = take_more calls₀ k d (subst (λ (n : ℕ). k < n) so.listed within) ∙ ap (λ (z : Call). take k calls₀ ++ z ∷ []) as_asked

    still_waiting : (a : Call) → drop (k + 1) (set calls k a) ≡ drop (k + 1) calls₀
    still_waiting a =
        drop-set-lt (k + 1) calls k a (omega arith) ∙ (sym (drop-drop 1 k calls) ∙ (ap (drop 1) so.waiting ∙ drop-drop 1 k calls₀))

    same_number : length (map f xs) ≡ length (map f xs₀)
    same_number = length-map xs f ∙ (so.media ∙ sym (length-map xs₀ f))

    -- with its story told on to the call left as a
    one_more : (a : Call) (ys : List X) (t : S) → length ys ≡ length xs₀ → Story moves (map f xs₀) (map f ys) s₀ t (take k calls₀ ++ b ∷ []) (take k calls ++ a ∷ []) →
        SoFar ys t (set calls k a) (k + 1)
    one_more a ys t long story =
        record {
          media = long;
          listed = length-set calls k a ∙ so.listed;
          waiting = still_waiting a;
          story = rw (asked_so_far, take_more_set calls k a within) story;
        }

    pub turn_there : (dx x' : X) (t u : S) (a : Call) (ys : List X) (calls' : List Call) → ys ≡ set xs b.medium x' → u ≡ t → calls' ≡ set calls k a →
        b.medium < length xs → Carried moves (f (get_or xs b.medium dx)) (f x') k s t b a → SoFar ys u calls' (k + 1)
    turn_there dx x' t u a ys calls' is-ys is-u is-calls on carried =
        let i = b.medium in
        let here : f (get_or xs i dx) ≡ world (numbered (map f xs₀)) so.story.history i = sym (get_or-map f xs i dx absent on) ∙ sym (so.story.arrives i) in
        let many : k ≡ 0 + length (take k calls₀) = let e = length-take-le k calls₀ (omega (arith, so.listed)) in omega arith in
        rw (is-ys, is-u, is-calls)
        (one_more a (set xs i x') t (length-set xs i x' ∙ so.media)
        (rw (map-set f xs i x')
        (on_medium moves (map f xs₀) (map f xs) s₀ s (take k calls₀) (take k calls) so.story b same_number a (f x') t
        (rw (length-map xs f) on)
        (subst (λ (n : ℕ). Carried moves (world (numbered (map f xs₀)) so.story.history i) (f x') n s t b a) many
        (subst (λ (m : Meaning). Carried moves m (f x') k s t b a) here carried)))))

    pub turn_nowhere : (ys : List X) (u : S) (calls' : List Call) → ys ≡ xs → u ≡ s → calls' ≡ set calls k (with_answer b NoSuchMedium) → length xs ≤ b.medium →
        SoFar ys u calls' (k + 1)
    turn_nowhere ys u calls' is-ys is-u is-calls off =
        rw (is-ys, is-u, is-calls)
        (one_more (with_answer b NoSuchMedium) xs s so.media
        (on_none moves (map f xs₀) (map f xs) s₀ s (take k calls₀) (take k calls) so.story b same_number (rw (length-map xs f) off)))

  module _ (sound : (x : X) → Sound (f x)) where
    each_sound : (xs : List X) (i : ℕ) → Sound (numbered (map f xs) i)
    each_sound [] i = absent_sound
    each_sound (x ∷ xs) zero = sound x
    each_sound (x ∷ xs) (suc i) = each_sound xs i

    -- all calls carried out: their history keeps the law, as every history does
    pub all_carried : (xs : List X) (s : S) (calls : List Call) (k : ℕ) → length calls ≤ k → SoFar xs s calls k → Performed moves (map f xs₀) (map f xs) s₀ s calls₀ calls
    all_carried xs s calls k end so =
        let story = so.story in
        let history = story.history in
        record {
          history = history;
          recorded =
              subst (λ (z : List Call). Recorded moves (map f xs₀) s history 0 s₀ [] z calls) (take_all k calls₀ (omega (arith, so.listed)))
              (subst (λ (z : List Call). Recorded moves (map f xs₀) s history 0 s₀ [] (take k calls₀) z) (take_all k calls end) story.recorded);
          happened = story.happened;
          by_law = λ i.
              subst (LawKept (numbered (map f xs₀) i) (own i history)) (story.arrives i)
              (law_of_histories (numbered (map f xs₀)) history story.happened i (each_sound xs₀ i));
        }
