-- What the definitions give on each row of a table, by computing. From this the table holds (proofs/).
use Rattle.std.specs.Prelude.{◌≡◌, ℕ, ◌+◌, ◌*◌, ◌/◌, ◌%◌, Bool, true, false, ◌||◌, List, [], ◌∷◌, length, Some, None, Ok, Err, Option, ◌==◌, bit_and, nat_lt, slice_index}
use Rattle.medium.specs.Meaning.{Meaning}
use Rattle.medium.specs.Wear.{alive}
use Rattle.medium.specs.Jobs.{refuse_if, wipe_refusal, word_after, word_refusal, worked}
use Rattle.medium.specs.declared.fault.Fault.{Fault}
use Rattle.medium.specs.declared.fault.Fault.TheVariants.{OffCard}
use Rattle.writer.specs.Jobs.{Job, Run, finished, stopped, tally, wipe_of, word_at}
use Rattle.writer.specs.Put.{failed, put_run}
use Rattle.devices.specs.Commands.{begins, took}
use Rattle.slot.specs.State.{SlotState, even_chip, odd_chip, with_chips, with_pair}
use Rattle.slot.specs.Cycles.{cycle_refusal, even_shown, odd_shown}
use Rattle.cases.specs.Small.{small}
use Rattle.cases.specs.Table.{DeviceHolds, EachFrom, InSequence, asked, card_at, contents_after, one_pair}
use Rattle.cases.specs.declared.table.PutCase.{PutCase}
use Rattle.cases.specs.declared.table.CycleCase.{CycleCase}
use Rattle.cases.specs.declared.table.Cases.{Cases}

-- a lane leaves what it held: it lives, or nothing of it is asked to fall
abbrev pub kept : List ℕ → ℕ → ℕ → ℕ → Bool
kept lives b old v = alive lives b || bit_and old v == old

-- what is left of a run's last job, where it stopped, is as the row says
abbrev pub JobChecked : PutCase → Meaning → Job → Type 0
JobChecked c m (word_at p v) =
    (word_refusal m p ≡ None)
    × (kept m.even_lives (p / m.block_size) (slice_index m.bytes p) (v % 256) ≡ true)
    × (kept m.odd_lives (p / m.block_size) (slice_index m.bytes (p + 1)) (v / 256) ≡ true)
    × (word_after m p v (slice_index m.bytes p) (slice_index m.bytes (p + 1)) ≡ card_at c.after)
JobChecked c m (wipe_of b) =
    (wipe_refusal m b ≡ None) × (b ≡ 0) × (c.untold ≡ m.block_size) × (worked m b m.bytes ≡ card_at c.after)

abbrev pub RunChecked : PutCase → Run → Type 0
RunChecked c (finished m d) = (Ok d ≡ c.answer) × (m ≡ card_at c.after)
RunChecked c (stopped m j f d) = (Err (failed f d) ≡ c.answer) × JobChecked c m j

abbrev pub Checked : PutCase → Option Fault → Run → Type 0
Checked c (Some f) R = (Err (failed f (tally 0 0)) ≡ c.answer) × (card_at c.before ≡ card_at c.after)
Checked c None R = RunChecked c R

-- the range is tested, and then the jobs are run
abbrev pub PutChecked : PutCase → Type 0
PutChecked c =
    Checked c (refuse_if (nat_lt 8 (c.place + length (asked c))) (OffCard c.place) None) (put_run (card_at c.before) c.place (asked c))

abbrev pub EachChecked : List PutCase → Type 0
EachChecked [] = Unit {0}
EachChecked (c ∷ cs) = PutChecked c × EachChecked cs

-- a word at 0 that begins no job
abbrev pub quiet : SlotState → ℕ → SlotState
quiet s w = with_chips s (with_pair s 0 (took s.supply (w % 256) (even_chip s 0)) (took s.supply (w / 256) (odd_chip s 0)))

abbrev pub Quiet : SlotState → List ℕ → Type 0
Quiet s [] = Unit {0}
Quiet s (w ∷ ws) =
    (cycle_refusal s 0 ≡ None) × (s.pin ≡ false)
    × (begins s.supply (w % 256) (even_chip s 0) ≡ None)
    × (begins s.supply (w / 256) (odd_chip s 0) ≡ None)
    × Quiet (quiet s w) ws

abbrev pub after_quiet : SlotState → List ℕ → SlotState
after_quiet s [] = s
after_quiet s (w ∷ ws) = after_quiet (quiet s w) ws

abbrev pub PairChecked : CycleCase → Type 0
PairChecked c =
    (xs even odd : List ℕ) →
    Quiet (one_pair c.supply xs even odd) c.words.now
    × (cycle_refusal (after_quiet (one_pair c.supply xs even odd) c.words.now) c.place ≡ None)
    × (even_shown (after_quiet (one_pair c.supply xs even odd) c.words.now) c.place
    + 256 * odd_shown (after_quiet (one_pair c.supply xs even odd) c.words.now) c.place ≡ c.shown)

abbrev pub EachPairChecked : List CycleCase → Type 0
EachPairChecked [] = Unit {0}
EachPairChecked (c ∷ cs) = PairChecked c × EachPairChecked cs

pub record Computed (t : Cases) : Type 0 where
  pub sequence : InSequence small t.on_one_card
  pub puts : EachChecked t.on_one_card
  pub from_third : EachFrom (contents_after 2 t.on_one_card) t.with_worn_lanes
  pub worn : EachChecked t.with_worn_lanes
  pub device : DeviceHolds t.device
  pub pairs : EachPairChecked t.pairs
