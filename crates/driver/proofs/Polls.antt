-- Waits that fall: sampling, and reading status.
use Rattle.std.proofs.Common.{◌≡◌, ℕ, ◌+◌, ◌-◌, ◌<◌, ◌≤◌, true, List, length, get_or, set, None, sym, ap, ◌∙◌, arith}
use Rattle.devices.specs.declared.device.Mode.TheVariants.{Status}
use Rattle.devices.specs.Chip.{Chip, fresh, ready, status, lowered, shows_in, read_in, was_read}
use Rattle.devices.specs.Table.{all_ready}
use Rattle.devices.proofs.Waits.{ready_from, ready_each, lowered_at}
use Rattle.slot.specs.State.{SlotState, SlotSound, with_chips, with_pair, even_at, odd_at, even_chip, odd_chip}
use Rattle.slot.specs.Cycles.{cycle_refusal, cycle_read, even_shown, odd_shown, sampled}
use Rattle.slot.proofs.Pairs.{pair_even, pair_odd, pair_again}
use Rattle.slot.proofs.Places.{pair_there}
use Rattle.driver.specs.Status.{flag, rested, Polled}
use Rattle.driver.proofs.StatusBytes.{ready_shown, status_rested, lowered_rested}

-- a state that differs from s0 in its devices alone, and then changes there alone
pub still_same : (s0 s s' : SlotState) (ds : List Chip) → s ≡ with_chips s0 s.chips → s' ≡ with_chips s ds → s' ≡ with_chips s0 s'.chips
still_same s0 s s' ds e e' =
    e' ∙ (ap (λ x. with_chips x ds) e ∙ ap (with_chips s0) (sym (ap (λ (x : SlotState). x.chips) e')))

module _ (s s' : SlotState) (e : s' ≡ sampled s) where
  pub sampled_wait : (k : ℕ) → (get_or s'.chips k fresh).wait ≡ (get_or s.chips k fresh).wait - 1
  sampled_wait k = ap (λ (x : SlotState). (get_or x.chips k fresh).wait) e ∙ ap (λ (d : Chip). d.wait) (lowered_at s.chips k)

  pub sampled_ready : all_ready s.chips ≡ true → all_ready s'.chips ≡ true
  sampled_ready h = ready_from s'.chips (λ k. omega (arith, sampled_wait k, ready_each s.chips h k))

-- s0 after some reads of the status of the pair at p: so many of at most `bound`
pub record Polling (s0 s : SlotState) (p bound count : ℕ) : Type 0 where
  pub same : s ≡ with_chips s0 s.chips
  pub pair : s.chips ≡ with_pair s0 p (even_chip s p) (odd_chip s p)
  pub even : rested (even_chip s p) ≡ rested (even_chip s0 p)
  pub odd : rested (odd_chip s p) ≡ rested (odd_chip s0 p)
  pub even_left : (even_chip s p).wait + count ≤ bound
  pub odd_left : (odd_chip s p).wait + count ≤ bound

module _ (s0 s : SlotState) (p bound count : ℕ) (h : Polling s0 s p bound count) (on : cycle_refusal s0 p ≡ None) (m : (even_chip s0 p).mode ≡ Status) (n : (odd_chip s0 p).mode ≡ Status) where
  pub still_on : cycle_refusal s p ≡ None
  still_on = ap (λ x. cycle_refusal x p) h.same ∙ on

  even_mode : (even_chip s p).mode ≡ Status
  even_mode = ap (λ (d : Chip). d.mode) h.even ∙ m

  odd_mode : (odd_chip s p).mode ≡ Status
  odd_mode = ap (λ (d : Chip). d.mode) h.odd ∙ n

  even_lowered : was_read (even_chip s p) ≡ lowered (even_chip s p)
  even_lowered = ap (λ t. read_in t (even_chip s p)) even_mode

  odd_lowered : was_read (odd_chip s p) ≡ lowered (odd_chip s p)
  odd_lowered = ap (λ t. read_in t (odd_chip s p)) odd_mode

  -- one read more
  module _ (sound : SlotSound s) (s' : SlotState) (e : s' ≡ cycle_read s p) where
    there : even_at s p + 1 < length s.chips
    there = omega (arith, pair_there s sound p still_on, sound.chip_row)

    even_next : even_chip s' p ≡ lowered (even_chip s p)
    even_next =
        ap (λ x. even_chip x p) e
        ∙ (pair_even s.chips (even_at s p) there (was_read (even_chip s p)) (was_read (odd_chip s p)) ∙ even_lowered)

    odd_next : odd_chip s' p ≡ lowered (odd_chip s p)
    odd_next =
        ap (λ x. odd_chip x p) e
        ∙ (pair_odd s.chips (even_at s p) there (was_read (even_chip s p)) (was_read (odd_chip s p)) ∙ odd_lowered)

    -- what it leaves differs from s0 in the pair at p alone
    pair_next : (x y : Chip) → was_read (even_chip s p) ≡ x → was_read (odd_chip s p) ≡ y → s'.chips ≡ with_pair s0 p x y
    pair_next x y ex ey =
        ap (λ (t : SlotState). t.chips) e
        ∙ (ap (λ d. with_pair s p d (was_read (odd_chip s p))) ex
        ∙ (ap (with_pair s p x) ey
        ∙ (ap (λ (t : SlotState). set (set s.chips (even_at t p) x) (odd_at t p) y) h.same
        ∙ (ap (λ ds. set (set ds (even_at s0 p) x) (odd_at s0 p) y) h.pair
        ∙ pair_again s0.chips (even_at s0 p) (even_chip s p) (odd_chip s p) x y))))

    pub polling_more : count < bound → Polling s0 s' p bound (count + 1)
    polling_more l =
        record {
          same = still_same s0 s s' _ h.same e;
          pair = pair_next (even_chip s' p) (odd_chip s' p) (even_lowered ∙ sym even_next) (odd_lowered ∙ sym odd_next);
          even = ap rested even_next ∙ h.even;
          odd = ap rested odd_next ∙ h.odd;
          even_left = omega (arith, ap (λ (d : Chip). d.wait) even_next, h.even_left);
          odd_left = omega (arith, ap (λ (d : Chip). d.wait) odd_next, h.odd_left);
        }

    -- the read that shows both ready is the last
    module _ (a b : ℕ) (u : a ≡ even_shown s p) (v : b ≡ odd_shown s p) where
      even_status : a ≡ status (even_chip s p)
      even_status = u ∙ ap (λ t. shows_in t (even_chip s p) p (get_or s.bytes p 0)) even_mode

      odd_status : b ≡ status (odd_chip s p)
      odd_status = v ∙ ap (λ t. shows_in t (odd_chip s p) p (get_or s.bytes (p + 1) 0)) odd_mode

      polled : ready (even_chip s p) ≡ true → ready (odd_chip s p) ≡ true → Polled s0 p a b s'
      polled f g =
          record {
            after =
                still_same s0 s s' _ h.same e
                ∙ ap (with_chips s0)
                (pair_next (rested (even_chip s0 p)) (rested (odd_chip s0 p)) (even_lowered ∙ (lowered_rested (even_chip s p) f ∙ h.even))
                (odd_lowered ∙ (lowered_rested (odd_chip s p) g ∙ h.odd)));
            even = even_status ∙ (status_rested (even_chip s p) f ∙ ap status h.even);
            odd = odd_status ∙ (status_rested (odd_chip s p) g ∙ ap status h.odd);
          }

      pub polled_ready : flag 0x80 a ≡ true → flag 0x80 b ≡ true → Polled s0 p a b s'
      polled_ready f g =
          polled (ready_shown (even_chip s p) (ap (flag 0x80) (sym even_status) ∙ f))
          (ready_shown (odd_chip s p) (ap (flag 0x80) (sym odd_status) ∙ g))
