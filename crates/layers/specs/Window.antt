-- A window: a run of the blocks of the medium below, counted from 0.
use Rattle.std.specs.Prelude.{ℕ, ◌+◌, ◌-◌, ◌*◌, cond, List, take, drop, Ok, Err, Result, nat_le, nat_lt}
use Rattle.medium.specs.Meaning.{Meaning, capacity}
use Rattle.medium.specs.Jobs.{word_refusal, wipe_refusal, WordBegun, WipeBegun}
use Rattle.medium.specs.declared.fault.Fault.{Fault}
use Rattle.medium.specs.declared.fault.Fault.TheVariants.{OffCard}
use Rattle.medium.specs.Faults.{listed, moved_to}
use Rattle.layers.specs.Passed.{Passed}
use Rattle.layers.specs.declared.window.Run.{Run}
use Rattle.layers.specs.declared.window.Window.{Window}

-- n elements of a list, from place p on
abbrev pub part : {X : Type 0} → ℕ → ℕ → List X → List X
part p n xs = take n (drop p xs)

-- where a run of a medium's blocks begins
abbrev pub run_start : Meaning → Run → ℕ
run_start m r = r.first * m.block_size

-- a run of a medium's blocks as a medium of its own
abbrev pub run_meaning : Meaning → Run → Meaning
run_meaning m r =
    record {
      block_size = m.block_size;
      blocks = r.count;
      bytes = part (run_start m r) (r.count * m.block_size) m.bytes;
      locks = part r.first r.count m.locks;
      supply = m.supply;
      even_lives = part r.first r.count m.even_lives;
      odd_lives = part r.first r.count m.odd_lives;
    }

-- the run that a window shows: the one it was made with, or none if the medium below has not all of it
abbrev pub shown_run : Meaning → Run → Run
shown_run m r = cond (nat_le (r.first + r.count) m.blocks) r (record { first = 0; count = 0 })

-- what a medium stands for through a window
abbrev pub window_meaning : Meaning → Run → Meaning
window_meaning m r = run_meaning m (shown_run m r)

-- where a window begins
abbrev pub window_start : Meaning → Run → ℕ
window_start m r = run_start m (shown_run m r)

-- the place below of n bytes from p on, if a window has them
abbrev pub place_below : Meaning → Run → ℕ → ℕ → Result ℕ Fault
place_below m r p n = cond (nat_lt (capacity (window_meaning m r)) (p + n)) (Err (OffCard p)) (Ok (window_start m r + p))

-- a fault of the medium below as a window gives it that begins at s: its place counts from there
abbrev pub counted_from : ℕ → Fault → Fault
counted_from s f = moved_to ((listed f).place - s) f

abbrev pub answer_from : ℕ → Result (Unit {0}) Fault → Result (Unit {0}) Fault
answer_from s (Ok u) = Ok u
answer_from s (Err f) = Err (counted_from s f)

-- what a window stands for, by what the medium below stands for
abbrev pub of_window : {M : Type 0} → (M → Meaning) → Window M → Meaning
of_window meaning w = window_meaning (meaning w.below) w.run

-- what a write of the word v at p, and a wipe of block b, leave of the medium below
abbrev pub WindowWord : {M : Type 0} → (M → Meaning) → Window M → ℕ → ℕ → Window M → Type 0
WindowWord meaning w p v w' =
    let m = meaning w.below in
    Passed (word_refusal (of_window meaning w) p) m (WordBegun m (window_start m w.run + p) v) (meaning w'.below)

abbrev pub WindowWipe : {M : Type 0} → (M → Meaning) → Window M → ℕ → Window M → Type 0
WindowWipe meaning w b w' =
    let m = meaning w.below in
    Passed (wipe_refusal (of_window meaning w) b) m (WipeBegun m ((shown_run m w.run).first + b)) (meaning w'.below)
