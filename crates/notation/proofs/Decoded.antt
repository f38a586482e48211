-- Pairs of digits, as the library decodes them.
use Rattle.std.proofs.Common.{◌≡◌, ℕ, zero, suc, ◌+◌, ◌*◌, ◌%◌, ◌<◌, List, [], ◌∷◌, length, Some, None, Option, Ok, Err, Result, IfErr, IsErrAnd, slice_index, sym, refl, ap, ◌∙◌, subst, arith, ◌⊎◌, inl, inr}
use Rattle.notation.specs.Digits.{digit_value}
use Rattle.notation.specs.Hex.{Pairs, byte_value, paired}
use Rattle.hex.specs.Hex.{decode_of, decode_pairs, hex_digit_value, digit_or_error, pair_value, ◌>>=◌}
use Rattle.hex.proofs.HexLemmas.{decode_of-ok, decode_of-even}
use Rattle.hex.proofs.Pairs.{cons_byte, decode_pairs-ok_pair}
use Rattle.hex.specs.declared.error.FromHexError.{FromHexError}
use Rattle.hex.specs.declared.error.FromHexError.TheVariants.{InvalidHexCharacter, OddLength, InvalidStringLength, OutOfMemory as NoMemory}
use Rattle.notation.specs.Refused.{of_hex}
use Rattle.notation.specs.declared.why.Why.{Why}
use Rattle.notation.specs.declared.why.Why.TheVariants.{NoHex, OutOfMemory}

-- the library's digits are those of a script
same_digits : (c : ℕ) → hex_digit_value c ≡ digit_value c
same_digits c = grind arith

-- the byte of two digits, as the library has it, is the one that they stand for
pair_is : (a b i : ℕ) (u v : Option ℕ) (n : ℕ) → (digit_or_error a i u >>= (λ h. digit_or_error b (i + 1) v >>= (λ l. Ok (h * 16 + l)))) ≡ Ok n → paired u v ≡ Some n
pair_is a b i (Some h) (Some l) n e = let q : h * 16 + l ≡ n = cc in ap Some (omega (arith, q))
pair_is a b i (Some h) None n e = cc
pair_is a b i None v n e = cc

pair_read : (a b i n : ℕ) → pair_value a b i ≡ Ok n → byte_value a b ≡ Some n
pair_read a b i n e = rw (← same_digits a, ← same_digits b) (pair_is a b i (hex_digit_value a) (hex_digit_value b) n e)

paired_is : (a b i : ℕ) (u v : Option ℕ) (n : ℕ) → paired u v ≡ Some n → (digit_or_error a i u >>= (λ h. digit_or_error b (i + 1) v >>= (λ l. Ok (h * 16 + l)))) ≡ Ok n
paired_is a b i (Some h) (Some l) n e = let q : 16 * h + l ≡ n = cc in ap Ok (omega (arith, q))
paired_is a b i (Some h) None n e = cc
paired_is a b i None v n e = cc

pair_reads : (a b i n : ℕ) → byte_value a b ≡ Some n → pair_value a b i ≡ Ok n
pair_reads a b i n e =
    let f : paired (hex_digit_value a) (hex_digit_value b) ≡ Some n = rw (same_digits a, same_digits b) e in
    paired_is a b i (hex_digit_value a) (hex_digit_value b) n f

each_more : (a b v : ℕ) (ds bs : List ℕ) → byte_value a b ≡ Some v → ((k : ℕ) → k < length bs → byte_value (slice_index ds (2 * k)) (slice_index ds (2 * k + 1)) ≡ Some (slice_index bs k)) → (k : ℕ) → k < length (v ∷ bs) → byte_value (slice_index (a ∷ b ∷ ds) (2 * k)) (slice_index (a ∷ b ∷ ds) (2 * k + 1)) ≡ Some (slice_index (v ∷ bs) k)
each_more a b v ds bs e each zero low = e
each_more a b v ds bs e each (suc k) low =
    let high : 2 * suc k ≡ suc (suc (2 * k)) = omega arith in
    let next : 2 * suc k + 1 ≡ suc (suc (2 * k + 1)) = omega arith in
    rw (next, high) (each k (omega arith))

each_fewer : (a b v : ℕ) (ds bs : List ℕ) → ((k : ℕ) → k < length (v ∷ bs) → byte_value (slice_index (a ∷ b ∷ ds) (2 * k)) (slice_index (a ∷ b ∷ ds) (2 * k + 1)) ≡ Some (slice_index (v ∷ bs) k)) → (k : ℕ) → k < length bs → byte_value (slice_index ds (2 * k)) (slice_index ds (2 * k + 1)) ≡ Some (slice_index bs k)
each_fewer a b v ds bs each k low =
    let high : 2 * suc k ≡ suc (suc (2 * k)) = omega arith in
    let next : 2 * suc k + 1 ≡ suc (suc (2 * k + 1)) = omega arith in
    rw (next, high) at (each (suc k) (omega arith))

bind_ok : {A B : Type 0} (r : Result A FromHexError) (f : A → Result B FromHexError) (y : B) → (r >>= f) ≡ Ok y → (x : A) × (r ≡ Ok x) × (f x ≡ Ok y)
bind_ok (Ok x) f y h = (x, refl, h)
bind_ok (Err e) f y h = cc h

-- one pair more, in front
more : (a b v : ℕ) (ds bs : List ℕ) → byte_value a b ≡ Some v → Pairs ds bs → Pairs (a ∷ b ∷ ds) (v ∷ bs)
more a b v ds bs e p = let long = p.long in record { long = omega arith; each = each_more a b v ds bs e p.each }

-- what is decoded is the bytes of the pairs
decoded : (i : ℕ) (ds bs : List ℕ) → decode_pairs i ds ≡ Ok bs → Pairs ds bs
unfolding decode_pairs
decoded i [] bs h =
    let e : [] ≡ bs = cc in
    rw (← e) (record { long = refl; each = λ k low. absurd (omega arith) })
decoded i (a ∷ []) bs h = cc h
decoded i (a ∷ b ∷ ds) bs h =
    let first = bind_ok (pair_value a b i) _ bs h in
    let others = bind_ok (decode_pairs (i + 2) ds) _ bs first.2 in
    let e : first.0 ∷ others.0 ≡ bs = cc in
    rw (← e) (more a b first.0 ds others.0 (pair_read a b i first.0 first.1) (decoded (i + 2) ds others.0 others.1))

decodes : (i : ℕ) (ds bs : List ℕ) → Pairs ds bs → decode_pairs i ds ≡ Ok bs
unfolding decode_pairs
decodes i [] [] p = refl
decodes i [] (v ∷ bs) p = let long = p.long in absurd (omega arith)
decodes i (a ∷ []) [] p = let long = p.long in absurd (omega arith)
decodes i (a ∷ []) (v ∷ bs) p = let long = p.long in absurd (omega arith)
decodes i (a ∷ b ∷ ds) [] p = let long = p.long in absurd (omega arith)
decodes i (a ∷ b ∷ ds) (v ∷ bs) p =
    let pair = pair_reads a b i v (p.each 0 (omega arith)) in
    let long = p.long in
    let others = decodes (i + 2) ds bs (record { long = omega arith; each = each_fewer a b v ds bs p.each }) in
    decode_pairs-ok_pair i a b v ds pair ∙ ap (cons_byte v) others

pub pairs_decoded : (ds bs : List ℕ) → decode_of ds ≡ Ok bs → Pairs ds bs
pairs_decoded ds bs h = let even = (decode_of-ok ds bs h).0 in decoded 0 ds bs (sym (decode_of-even ds even) ∙ h)

pub pairs_decode : (ds bs : List ℕ) → Pairs ds bs → decode_of ds ≡ Ok bs
pairs_decode ds bs p = let long = p.long in let even : length ds % 2 ≡ 0 = omega arith in decode_of-even ds even ∙ decodes 0 ds bs p

-- a refusal of the library, as one of a script
not_decoded : (ds bs : List ℕ) (e : FromHexError) → decode_of ds ≡ Err e → Pairs ds bs → ⊥
not_decoded ds bs e h p = let good = pairs_decode ds bs p in cc

abbrev pub Refuses : List ℕ → Why → Type 0
Refuses ds w = (w ≡ OutOfMemory) ⊎ ((w ≡ NoHex) × ((bytes : List ℕ) → Pairs ds bytes → ⊥))

refused_for : (ds : List ℕ) (e : FromHexError) → (e ≡ NoMemory) ⊎ (decode_of ds ≡ Err e) → Refuses ds (of_hex e)
refused_for ds (InvalidHexCharacter c i) h = inr (refl, elim h [ inl m ↦ cc m | inr bad ↦ λ bs p. not_decoded ds bs _ bad p ])
refused_for ds OddLength h = inr (refl, elim h [ inl m ↦ cc m | inr bad ↦ λ bs p. not_decoded ds bs _ bad p ])
refused_for ds InvalidStringLength h = inr (refl, elim h [ inl m ↦ cc m | inr bad ↦ λ bs p. not_decoded ds bs _ bad p ])
refused_for ds NoMemory h = inl refl

pub refused : {V : Type 0} (r : Result V Why) (ds : List ℕ) (e : FromHexError) → IsErrAnd r (λ w. w ≡ of_hex e) → (e ≡ NoMemory) ⊎ (decode_of ds ≡ Err e) → IfErr r (Refuses ds)
refused (Ok v) ds e q h = tt
refused (Err w) ds e q h = subst (Refuses ds) (sym q) (refused_for ds e h)
