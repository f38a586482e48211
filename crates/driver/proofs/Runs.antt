-- A job of a pair, from the two words that are sent and the polling after them.
use Rattle.std.proofs.Common.{◌≡◌, ℕ, ◌+◌, ◌*◌, ◌/◌, ◌<◌, Bool, true, false, cond, List, length, replicate, None, Result, refl, ap, ◌∙◌, subst, arith}
use Rattle.std.proofs.lemmas.List.{length-replicate}
use Rattle.medium.specs.Wear.{alive}
use Rattle.medium.specs.Jobs.{answers}
use Rattle.medium.specs.declared.fault.Fault.{Fault}
use Rattle.devices.specs.declared.device.Mode.TheVariants.{Status, WriteArmed, WipeArmed}
use Rattle.devices.specs.declared.device.Job.{Job}
use Rattle.devices.specs.declared.device.Job.TheVariants.{Write, Wipe}
use Rattle.devices.specs.Chip.{Chip, fresh, status, with_wait}
use Rattle.devices.specs.Commands.{in_mode}
use Rattle.slot.specs.State.{SlotState, SlotSound, with_chips, with_pair, with_switches, even_at, odd_at, even_chip, odd_chip}
use Rattle.slot.specs.Lane.{Lane, Free}
use Rattle.slot.specs.Cycles.{WordWritten, was_reset, cycle_refusal, pair_took, with_lanes}
use Rattle.slot.proofs.Pairs.{length_pair, pair_even, pair_odd, pair_again, get_d_fresh}
use Rattle.slot.proofs.Places.{pair_there}
use Rattle.slot.proofs.Words.{word_taken}
use Rattle.driver.specs.declared.job.PairJob.{PairJob}
use Rattle.driver.specs.declared.job.PairJob.TheVariants.{WriteWord, WipeBlock}
use Rattle.driver.specs.Status.{verdict, rested, Polled}
use Rattle.driver.specs.Driven.{ended}
use Rattle.driver.specs.Steps.{command_of, follow_of, job_of, Ran, even_worked, odd_worked}
use Rattle.driver.proofs.StatusBytes.{verdict_ended}

-- a word that may follow the command of a job: a write's data, a wipe's confirmation
abbrev pub Follows : Job → ℕ → Type 0
Follows Write v = Unit {0}
Follows Wipe v = v ≡ 0xd0d0

-- a device that was reset and has taken the command of a job
abbrev pub armed : Job → Chip
armed Write = in_mode WriteArmed fresh
armed Wipe = in_mode WipeArmed fresh

-- s after a reset and that command at p
abbrev pub pair_armed : Job → SlotState → ℕ → SlotState
pair_armed j s p = with_chips s (with_pair (was_reset s) p (armed j) (armed j))

-- a device that has begun its job: it waits, unless the supply is low
abbrev pub busy : Job → Bool → Bool → ℕ → Chip
busy j supply lives n = with_wait (ended j supply lives) (cond supply n 0)

abbrev pub with_chip : Chip → Lane → Lane
with_chip d l = record { chip = d; lives = l.lives; bytes = l.bytes }

-- the two lanes at p after the word v
abbrev pub even_begun : Job → SlotState → ℕ → ℕ → Free → Lane
even_begun j s p v w = with_chip (busy j s.supply (alive s.even_lives (p / s.block_size)) w.wait) (even_worked j s p v w)

abbrev pub odd_begun : Job → SlotState → List ℕ → ℕ → ℕ → Free → Lane
odd_begun j s xs p v w = with_chip (busy j s.supply (alive s.odd_lives (p / s.block_size)) w.wait) (odd_worked j s xs p v w)

abbrev pub pair_begun : Job → SlotState → ℕ → ℕ → Free → Free → SlotState
pair_begun j s p v e o =
    with_lanes (pair_armed j s p) p (even_begun j s p v e) (odd_begun j s (even_begun j s p v e).bytes p v o)

-- s under the supply t, which a case can tell
abbrev pub under : SlotState → Bool → SlotState
under s t = with_switches s t s.pin

-- what the two words do to devices that are as after reset, and that are armed
arming : (j : Job) (t : Bool) (s : SlotState) (p : ℕ) (e o : Free) → pair_took (was_reset (under s t)) p (command_of j) e o fresh fresh ≡ pair_armed j (under s t) p
arming Write true s p e o = refl
arming Write false s p e o = refl
arming Wipe true s p e o = refl
arming Wipe false s p e o = refl

beginning : (j : Job) (t : Bool) (s : SlotState) (p v : ℕ) (e o : Free) → Follows j v → pair_took (pair_armed j (under s t) p) p v e o (armed j) (armed j) ≡ pair_begun j (under s t) p v e o
beginning Write true s p v e o f = refl
beginning Write false s p v e o f = refl
beginning Wipe true s p v e o f = ap (λ x. pair_took (pair_armed Wipe (under s true) p) p x e o (armed Wipe) (armed Wipe)) f
beginning Wipe false s p v e o f = ap (λ x. pair_took (pair_armed Wipe (under s false) p) p x e o (armed Wipe) (armed Wipe)) f

pub follows_of : (j : PairJob) → Follows (job_of j) (follow_of j)
follows_of (WriteWord v) = tt
follows_of WipeBlock = refl

busy_mode : (j : Job) (supply lives : Bool) (n : ℕ) → (busy j supply lives n).mode ≡ Status
busy_mode Write supply lives n = refl
busy_mode Wipe supply lives n = refl

busy_rested : (j : Job) (supply lives : Bool) (n : ℕ) → rested (busy j supply lives n) ≡ ended j supply lives
busy_rested Write supply lives n = refl
busy_rested Wipe supply lives n = refl

-- s1 is s after reset, and c the command of the job
module _ (n : ℕ) (j : Job) (s : SlotState) (p : ℕ) (on : cycle_refusal s p ≡ None) (off : s.pin ≡ false) (s1 : SlotState) (reset : s1 ≡ was_reset s) (c : ℕ) (commands : c ≡ command_of j) (s2 : SlotState) (r : Result (Unit {0}) Fault) (w : WordWritten n s1 p c r s2) where
  first : WordWritten n (was_reset s) p (command_of j) r s2
  first = subst (λ x. WordWritten n x p (command_of j) r s2) reset (subst (λ x. WordWritten n s1 p x r s2) commands w)

  pub arms : s2 ≡ pair_armed j s p
  arms =
      word_taken n (was_reset s) p (command_of j) r s2 first fresh fresh on off (get_d_fresh (2 * s.pairs) (even_at s p)) (get_d_fresh (2 * s.pairs) (odd_at s p))
      ∙ arming j s.supply s p first.even first.odd

  pub armed_on : cycle_refusal s2 p ≡ None
  armed_on = ap (λ x. cycle_refusal x p) arms ∙ on

-- the word after that
module _ (n : ℕ) (j : Job) (s : SlotState) (p v : ℕ) (sound : SlotSound s) (on : cycle_refusal s p ≡ None) (off : s.pin ≡ false) (f : Follows j v) (s2 : SlotState) (armed_pair : s2 ≡ pair_armed j s p) (s3 : SlotState) (r2 : Result (Unit {0}) Fault) (w : WordWritten n s2 p v r2 s3) where
  second : WordWritten n (pair_armed j s p) p v r2 s3
  second = subst (λ x. WordWritten n x p v r2 s3) armed_pair w

  reset_there : even_at s p + 1 < length (replicate (2 * s.pairs) fresh)
  reset_there = omega (arith, pair_there s sound p on, length-replicate (2 * s.pairs) fresh)

  armed_there : even_at s p + 1 < length (pair_armed j s p).chips
  armed_there = omega (arith, reset_there, length_pair (replicate (2 * s.pairs) fresh) (even_at s p) (armed j) (armed j))

  begins : s3 ≡ pair_begun j s p v second.even second.odd
  begins =
      word_taken n (pair_armed j s p) p v r2 s3 second (armed j) (armed j) on off
      (pair_even (replicate (2 * s.pairs) fresh) (even_at s p) reset_there (armed j) (armed j))
      (pair_odd (replicate (2 * s.pairs) fresh) (even_at s p) reset_there (armed j) (armed j))
      ∙ beginning j s.supply s p v second.even second.odd f

  -- whether each lane lives, and the two lanes after the job has begun
  abbrev U : Bool
  U = alive s.even_lives (p / s.block_size)

  abbrev V : Bool
  V = alive s.odd_lives (p / s.block_size)

  abbrev X : Lane
  X = even_begun j s p v second.even

  abbrev Y : Lane
  Y = odd_begun j s X.bytes p v second.odd

  even_busy : even_chip s3 p ≡ X.chip
  even_busy = ap (λ x. even_chip x p) begins ∙ pair_even (pair_armed j s p).chips (even_at s p) armed_there X.chip Y.chip

  odd_busy : odd_chip s3 p ≡ Y.chip
  odd_busy = ap (λ x. odd_chip x p) begins ∙ pair_odd (pair_armed j s p).chips (even_at s p) armed_there X.chip Y.chip

  pub begun_on : cycle_refusal s3 p ≡ None
  begun_on = ap (λ x. cycle_refusal x p) begins ∙ on

  pub even_status_mode : (even_chip s3 p).mode ≡ Status
  even_status_mode = ap (λ (d : Chip). d.mode) even_busy ∙ busy_mode j s.supply U second.even.wait

  pub odd_status_mode : (odd_chip s3 p).mode ≡ Status
  odd_status_mode = ap (λ (d : Chip). d.mode) odd_busy ∙ busy_mode j s.supply V second.odd.wait

  even_ended : rested (even_chip s3 p) ≡ ended j s.supply U
  even_ended = ap rested even_busy ∙ busy_rested j s.supply U second.even.wait

  odd_ended : rested (odd_chip s3 p) ≡ ended j s.supply V
  odd_ended = ap rested odd_busy ∙ busy_rested j s.supply V second.odd.wait

  pub ran_from : (s4 : SlotState) (a b : ℕ) (r : Result (Unit {0}) Fault) → Polled s3 p a b s4 → r ≡ answers (verdict a b p) → Ran n j s p v r s4
  ran_from s4 a b r h e =
      let one = ended j s.supply U in
      let two = ended j s.supply V in
      let S = pair_begun j s p v second.even second.odd in
      record {
        even = second.even;
        odd = second.odd;
        even_bounded = second.even_bounded;
        odd_bounded = second.odd_bounded;
        answer =
            e
            ∙ (ap (λ x. answers (verdict x b p)) (h.even ∙ ap status even_ended)
            ∙ (ap (λ x. answers (verdict (status one) x p)) (h.odd ∙ ap status odd_ended)
            ∙ ap answers (verdict_ended j s.supply U V p)));
        after =
            h.after
            ∙ (ap (λ d. with_chips s3 (with_pair s3 p d (rested (odd_chip s3 p)))) even_ended
            ∙ (ap (λ d. with_chips s3 (with_pair s3 p one d)) odd_ended
            ∙ (ap (λ x. with_chips x (with_pair x p one two)) begins
            ∙ ap (with_chips S)
            (pair_again (pair_armed j s p).chips (even_at s p) X.chip Y.chip one two
            ∙ pair_again (replicate (2 * s.pairs) fresh) (even_at s p) (armed j) (armed j) one two))));
      }
