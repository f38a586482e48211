-- What it means that a table of worked cases holds.
use Rattle.std.specs.Prelude.{◌≡◌, ℕ, zero, suc, ◌≤◌, Bool, true, false, List, [], ◌∷◌, length, drop, Ok, Result}
use Rattle.medium.specs.Meaning.{Meaning}
use Rattle.medium.specs.Switches.{OnlySwitched}
use Rattle.medium.specs.declared.fault.Fault.{Fault}
use Rattle.writer.specs.Put.{PutDone}
use Rattle.writer.specs.Laws.{Accounted}
use Rattle.writer.specs.declared.counts.Counts.{Counts}
use Rattle.writer.specs.declared.fault.WriterFault.{WriterFault}
use Rattle.devices.specs.Chip.{fresh, shows}
use Rattle.devices.specs.Commands.{in_mode, took}
use Rattle.slot.specs.State.{SlotState}
use Rattle.slot.specs.Cycles.{WordRead, WordWritten}
use Rattle.cases.specs.Small.{small}
use Rattle.cases.specs.declared.table.CardState.{CardState}
use Rattle.cases.specs.declared.table.PutCase.{PutCase}
use Rattle.cases.specs.declared.table.DeviceCase.{DeviceCase}
use Rattle.cases.specs.declared.table.CycleCase.{CycleCase}
use Rattle.cases.specs.declared.table.Cases.{Cases}

-- the small card, with contents xs, as a medium
abbrev pub on_card : CardState → List ℕ → Meaning
on_card c xs =
    record {
      block_size = 4;
      blocks = 2;
      bytes = xs;
      locks = c.locked ∷ c.locked ∷ [];
      supply = true;
      even_lives = c.even;
      odd_lives = c.odd;
    }

abbrev pub card_at : CardState → Meaning
card_at c = on_card c c.bytes

abbrev pub asked : PutCase → List ℕ
asked c = c.bytes.now

-- an answer and what is left are as the row says; and lives lost and lanes named are two for each job begun
pub record PutShown (c : PutCase) (r : Result Counts WriterFault) (m' : Meaning) : Type 0 where
  pub answer : r ≡ c.answer
  pub contents : drop c.untold m'.bytes ≡ drop c.untold c.after.bytes
  pub rest : m' ≡ on_card c.after m'.bytes
  pub accounted : Accounted (card_at c.before) r m'

-- so it is of every put that keeps put's contract, with a buffer that holds a block, on every medium that means this card
pub record PutHolds (c : PutCase) : Type 0 where
  pub holds : (buf buf' : List ℕ) (r : Result Counts WriterFault) (m' : Meaning) → 4 ≤ length buf →
      PutDone (card_at c.before) c.place (asked c) buf r m' buf' → PutShown c r m'

abbrev pub EachPut : List PutCase → Type 0
EachPut [] = Unit {0}
EachPut (c ∷ cs) = PutHolds c × EachPut cs

-- the rows follow on one another, from the card m on: between two of them only switches move
abbrev pub InSequence : Meaning → List PutCase → Type 0
InSequence m [] = Unit {0}
InSequence m (c ∷ cs) = OnlySwitched m (card_at c.before) × InSequence (card_at c.after) cs

-- the contents after a row, counted from 0
abbrev pub contents_after : ℕ → List PutCase → List ℕ
contents_after k [] = []
contents_after zero (c ∷ cs) = c.after.bytes
contents_after (suc k) (c ∷ cs) = contents_after k cs

abbrev pub EachFrom : List ℕ → List PutCase → Type 0
EachFrom xs [] = Unit {0}
EachFrom xs (c ∷ cs) = (c.before.bytes ≡ xs) × EachFrom xs cs

-- whatever the supply is, and whatever place is read and holds
abbrev pub DeviceHolds : DeviceCase → Type 0
DeviceHolds d = (supply : Bool) (p x : ℕ) → shows (took supply d.byte (in_mode d.mode fresh)) p x ≡ d.shown

-- a slot with one pair of devices as after reset, with two blocks of four bytes; its pin is off
abbrev pub one_pair : Bool → List ℕ → List ℕ → List ℕ → SlotState
one_pair supply xs even odd =
    record {
      block_size = 4;
      per_pair = 2;
      pairs = 1;
      bytes = xs;
      supply = supply;
      even_lives = even;
      odd_lives = odd;
      pin = false;
      chips = fresh ∷ fresh ∷ [];
    }

-- the words were sent to place 0, one after the other
abbrev pub Sent : ℕ → SlotState → List ℕ → SlotState → Type 0
Sent patience s [] s' = s' ≡ s
Sent patience s (w ∷ ws) s' =
    (s₁ : SlotState) × ((r : Result (Unit {0}) Fault) × (WordWritten patience s 0 w r s₁ × Sent patience s₁ ws s'))

-- the read shows what the row says, and contents and lives are kept
pub record PairShown (c : CycleCase) (xs even odd : List ℕ) (r : Result ℕ Fault) (s : SlotState) : Type 0 where
  pub answer : r ≡ Ok c.shown
  pub contents : s.bytes ≡ xs
  pub even_kept : s.even_lives ≡ even
  pub odd_kept : s.odd_lives ≡ odd

-- so it is on every slot that keeps its contract, whatever its contents, lives and patience
pub record PairHolds (c : CycleCase) : Type 0 where
  pub holds : (patience : ℕ) (xs even odd : List ℕ) (s s' : SlotState) (r : Result ℕ Fault) →
      Sent patience (one_pair c.supply xs even odd) c.words.now s → WordRead s c.place r s' → PairShown c xs even odd r s'

abbrev pub EachPair : List CycleCase → Type 0
EachPair [] = Unit {0}
EachPair (c ∷ cs) = PairHolds c × EachPair cs

-- the table holds
pub record EachCase (t : Cases) : Type 0 where
  -- 1 to 6: one small card, all FFH, with 100 lives to a lane
  pub sequence : InSequence small t.on_one_card
  pub puts : EachPut t.on_one_card
  -- 7 and 8: the contents that case 3 leaves, with other lives
  pub from_third : EachFrom (contents_after 2 t.on_one_card) t.with_worn_lanes
  pub worn : EachPut t.with_worn_lanes
  -- 9
  pub device : DeviceHolds t.device
  -- 10 and 11
  pub pairs : EachPair t.pairs
