-- A word cycle of a card is the slot's word cycle.
use Rattle.std.proofs.Common.{◌≡◌, ℕ, zero, suc, ◌+◌, ◌-◌, ◌*◌, ◌/◌, ◌%◌, ◌<◌, ◌≤◌, Bool, true, false, cond, ◌≢◌, List, [], ◌∷◌, map, length, get_or, take, drop, set, Some, None, Ok, Err, Option, sym, refl, ap, ◌∙◌, ap₂, mod-lt, div-add-mod', mul_left_comm, arith}
use Rattle.std.proofs.lemmas.List.{length-replicate, length-take-le, length-drop, get_or-set_other, get_or-take, get_or-drop}
use Rattle.medium.specs.Jobs.{answers, byte_after, gives, laid}
use Rattle.medium.specs.Wear.{alive}
use Rattle.medium.specs.declared.fault.Fault.{Fault}
use Rattle.medium.proofs.Below.{below_replicate}
use Rattle.medium.proofs.Bits.{between_old}
use Rattle.medium.proofs.Laid.{laid_in}
use Rattle.medium.proofs.Refusals.{word_found}
use Rattle.medium.proofs.Sizes.{size_two, size_even, block_end}
use Rattle.devices.specs.declared.device.Job.{Job}
use Rattle.devices.specs.declared.device.Job.TheVariants.{Write, Wipe}
use Rattle.devices.specs.Chip.{Chip, fresh, longest_wait, shows, was_read}
use Rattle.devices.specs.Commands.{begins, took}
use Rattle.slot.specs.State.{SlotState, SlotSound, slot_blocks, slot_capacity, even_at, odd_at, even_chip, odd_chip, with_chips}
use Rattle.slot.specs.Lane.{Lane, Site, Free, Bounded, mixed, lane_did, lane_took}
use Rattle.slot.specs.Cycles.{WordRead, WordWritten, cycle_refusal, cycle_read, cycle_write, even_shown, odd_shown, even_lane, even_site, odd_site, with_lanes, unless}
use Rattle.slot.proofs.Lanes.{length_mixed}
use Rattle.slot.proofs.Places.{block_there}
use Rattle.slot.proofs.Refused.{unless_none, unless_some}
use Rattle.board.specs.Held.{CardState}
use Rattle.board.specs.Sent.{leaves, wait_after}
use Rattle.board.specs.Cycle.{cycle_shows, cycle_reads, word_shown, word_read, word_sent}
use Rattle.cards.specs.declared.access.Width.TheVariants.{Word}
use Rattle.cards.specs.Access.{reach, word_of}
use Rattle.cards.specs.Raw.{found, written}

-- what a job at the even lane leaves of the odd places
mixed_other : (t : Bool) (ns ys : List ℕ) (r : ℕ) → r % 2 ≡ cond t 1 0 → get_or (mixed t ns ys) r 0 ≡ get_or ys r 0
mixed_other t ns [] r h = refl
mixed_other t [] (y ∷ ys) r h = refl
mixed_other true (x ∷ ns) (y ∷ ys) zero h = absurd (omega arith)
mixed_other false (x ∷ ns) (y ∷ ys) zero h = refl
mixed_other true (x ∷ ns) (y ∷ ys) (suc r) h = mixed_other false ns ys r (omega arith)
mixed_other false (x ∷ ns) (y ∷ ys) (suc r) h = mixed_other true ns ys r (omega arith)

wiped_other : (xs ns : List ℕ) (a n q : ℕ) → a + n ≤ length xs → a ≤ q → q < a + n → (q - a) % 2 ≡ 1 → get_or (laid xs a (mixed true ns (take n (drop a xs)))) q 0 ≡ get_or xs q 0
wiped_other xs ns a n q fits from to odd =
    let old = take n (drop a xs) in
    let long : length old ≡ n = length-take-le n (drop a xs) (omega (arith, length-drop a xs)) in
    let back : a + (q - a) ≡ q = omega arith in
    laid_in xs (mixed true ns old) a q 0 from (omega (arith, length_mixed true ns old)) (omega arith)
    ∙ (mixed_other true ns old (q - a) odd
    ∙ (get_or-take n (drop a xs) (q - a) 0 (omega arith)
    ∙ (get_or-drop a xs (q - a) 0 ∙ ap (λ k. get_or xs k 0) back)))

even_keeps : (o : Option Job) (at : Site) (v : ℕ) (w : Free) (l : Lane) (q : ℕ)
    → at.even ≡ true
    → at.block * at.size + at.size ≤ length l.bytes → at.block * at.size ≤ q → q < at.block * at.size + at.size
    → (q - at.block * at.size) % 2 ≡ 1 → q ≢ at.place
    → get_or (lane_did o at v w l).bytes q 0 ≡ get_or l.bytes q 0
even_keeps None at v w l q e fits from to odd ne = refl
even_keeps (Some Write) at v w l q e fits from to odd ne = get_or-set_other l.bytes at.place q _ 0 ne
even_keeps (Some Wipe) at v w l q e fits from to odd ne =
    let ns = map (byte_after (alive l.lives at.block) 255) w.block in
    let old = take at.size (drop (at.block * at.size) l.bytes) in
    ap (λ t. get_or (laid l.bytes (at.block * at.size) (mixed t ns old)) q 0) e
    ∙ wiped_other l.bytes ns (at.block * at.size) at.size q fits from to odd

-- these cards start no wait over the longest
wait_bounded : (c : CardState) (o : Option Job) → c.write_wait ≤ longest_wait → c.wipe_wait ≤ longest_wait → wait_after c o ≤ longest_wait
wait_bounded c None h k = omega arith
wait_bounded c (Some Write) h k = h
wait_bounded c (Some Wipe) h k = k

left_bounded : (c : CardState) (old w : ℕ) (o : Option Job) → wait_after c o ≤ longest_wait → Bounded longest_wait c.slot.block_size old w (leaves c old o)
left_bounded c old w o h =
    record {
      between = between_old old w;
      long = length-replicate c.slot.block_size 0;
      below = below_replicate 256 0 c.slot.block_size (omega arith) (omega arith);
      patient = h;
    }

-- a refused write leaves all as it was, and what is free in it does not count
pub refused_write : (c : CardState) (p v : ℕ) (f : Fault) → cycle_refusal c.slot p ≡ Some f → WordWritten longest_wait c.slot p v (Err f) c.slot
refused_write c p v f off =
    let s = c.slot in
    let even = leaves c (get_or s.bytes p 0) None in
    let odd = leaves c (get_or s.bytes (p + 1) 0) None in
    record {
      even = even;
      odd = odd;
      even_bounded = left_bounded c (get_or s.bytes p 0) (v % 256) None (omega arith);
      odd_bounded = left_bounded c (get_or s.bytes (p + 1) 0) (v / 256) None (omega arith);
      answer = sym (ap answers off);
      after = sym (unless_some (cycle_refusal s p) f s (cycle_write s p v even odd) off);
    }

-- a read of both devices at a place on the card is the slot's read of the word
pub word_seen : (s : SlotState) (p r : ℕ) (s' : SlotState) → cycle_refusal s p ≡ None → r ≡ cycle_shows s p (reach Word false) → s' ≡ cycle_reads s p (reach Word false) → WordRead s p (Ok r) s'
word_seen s p r s' on shown after =
    let other : (d : Chip) → get_or (set s.chips (even_at s p) d) (odd_at s p) fresh ≡ odd_chip s p = λ d. get_or-set_other s.chips (even_at s p) (odd_at s p) d fresh (omega arith) in
    let d = was_read (even_chip s p) in
    record {
      answer =
          ap Ok (shown ∙ (unless_none (cycle_refusal s p) 0xffff (word_shown s p (reach Word false)) on
          ∙ ap (λ y. even_shown s p + 256 * shows y p (get_or s.bytes (p + 1) 0)) (other d)))
          ∙ sym (ap (λ o. gives o (even_shown s p + 256 * odd_shown s p)) on);
      after =
          after ∙ (unless_none (cycle_refusal s p) s (word_read s p (reach Word false)) on
          ∙ (ap (λ y. with_chips s (set (set s.chips (even_at s p) d) (odd_at s p) (was_read y))) (other d)
          ∙ sym (unless_none (cycle_refusal s p) s (cycle_read s p) on)));
    }

-- an address that is a word's place finds that word
pub found_there : (leads : ℕ → ℕ → ℕ) (s : SlotState) (p : ℕ) → cycle_refusal s p ≡ None → (p < slot_capacity s → leads (slot_capacity s) p ≡ p) → found leads s p ≡ p
found_there leads s p on direct =
    let even = (word_found (slot_capacity s) p on).1 in
    ap word_of (direct (omega (arith, (word_found (slot_capacity s) p on).0))) ∙ omega arith

slot_cond : (t : Bool) (c d : CardState) → (cond t c d).slot ≡ cond t c.slot d.slot
slot_cond true c d = refl
slot_cond false c d = refl

module _ (c : CardState) (sound : SlotSound c.slot) (short_write : c.write_wait ≤ longest_wait) (short_wipe : c.wipe_wait ≤ longest_wait) (p v : ℕ)
    (on : cycle_refusal c.slot p ≡ None) where
  abbrev s : SlotState
  s = c.slot

  abbrev size : ℕ
  size = s.block_size

  abbrev first : ℕ
  first = p / size * size

  even_place : p % 2 ≡ 0
  even_place = (word_found (slot_capacity s) p on).1

  half_of : first ≡ 2 * (p / size * (size / 2))
  half_of = ap (λ n. p / size * n) (sym (size_even size sound.medium.power)) ∙ halves_regrouped
    where
      halves_regrouped : p / size * (2 * (size / 2)) ≡ 2 * (p / size * (size / 2))
      halves_regrouped = mul_left_comm (p / size) 2 (size / 2)

  in_block : p ≡ first + p % size
  in_block = omega (arith, div-add-mod' p size)

  rest : p % size < size
  rest = mod-lt p (omega (arith, size_two size sound.medium.power))

  room : first + size ≤ length s.bytes
  room = omega (arith, block_end (p / size) (slot_blocks s) size (block_there s sound p on), sound.medium.filled)

  abbrev left : ℕ → Option Job → Free
  left old o = leaves c old o

  abbrev even_left : Free
  even_left = left (get_or s.bytes p 0) (begins s.supply (v % 256) (even_chip s p))

  abbrev odd_left : Free
  odd_left = left (get_or s.bytes (p + 1) 0) (begins s.supply (v / 256) (odd_chip s p))

  abbrev even_after : Lane
  even_after = even_lane s p v even_left (even_chip s p)

  -- both lanes, where the odd device is d and holds n
  abbrev both : Chip → ℕ → SlotState
  both d n =
      with_lanes s p even_after
      (lane_took s.supply (odd_site s p) (v / 256) (left n (begins s.supply (v / 256) d)) (record { chip = d; lives = s.odd_lives; bytes = even_after.bytes }))

  odd_kept : get_or even_after.bytes (p + 1) 0 ≡ get_or s.bytes (p + 1) 0
  odd_kept =
      even_keeps (begins s.supply (v % 256) (even_chip s p)) (even_site s p) (v % 256) even_left
      (record { chip = took s.supply (v % 256) (even_chip s p); lives = s.even_lives; bytes = s.bytes }) (p + 1)
      refl room (omega (arith, in_block)) (omega (arith, in_block, rest, even_place, half_of, size_even size sound.medium.power))
      (omega (arith, in_block, even_place, half_of)) (omega arith)

  chip_kept : get_or (set s.chips (even_at s p) even_after.chip) (odd_at s p) fresh ≡ odd_chip s p
  chip_kept = get_or-set_other s.chips (even_at s p) (odd_at s p) even_after.chip fresh (omega arith)

  as_pair : (word_sent c p (reach Word false) v).slot ≡ both (odd_chip s p) (get_or s.bytes (p + 1) 0)
  as_pair = ap₂ both chip_kept odd_kept

  pub as_cycle : (written c p (reach Word false) v).slot ≡ cycle_write s p v even_left odd_left
  unfolding cycle_write
  as_cycle =
      slot_cond s.pin c (unless (cycle_refusal s p) c (word_sent c p (reach Word false) v))
      ∙ (ap (λ k. cond s.pin s k.slot) (unless_none (cycle_refusal s p) c (word_sent c p (reach Word false) v) on)
      ∙ ap (cond s.pin s) as_pair)

  -- a word cycle at a place on the card is the slot's write of the word
  pub word_written : (s' : SlotState) → s' ≡ (written c p (reach Word false) v).slot → WordWritten longest_wait s p v (Ok tt) s'
  word_written s' e =
      record {
        even = even_left;
        odd = odd_left;
        even_bounded = left_bounded c (get_or s.bytes p 0) (v % 256) (begins s.supply (v % 256) (even_chip s p)) (wait_bounded c (begins s.supply (v % 256) (even_chip s p)) short_write short_wipe);
        odd_bounded = left_bounded c (get_or s.bytes (p + 1) 0) (v / 256) (begins s.supply (v / 256) (odd_chip s p)) (wait_bounded c (begins s.supply (v / 256) (odd_chip s p)) short_write short_wipe);
        answer = sym (ap answers on);
        after = e ∙ (as_cycle ∙ sym (unless_none (cycle_refusal s p) s (cycle_write s p v even_left odd_left) on));
      }
