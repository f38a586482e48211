-- What happens to media: calls of the writer, and moves of lock and supply between them.
use Rattle.std.specs.Prelude.{ℕ, cond, List, [], ◌∷◌, Result, ◌==◌}
use Rattle.medium.specs.Meaning.{Meaning, EachBelow}
use Rattle.medium.specs.Switches.{OnlySwitched}
use Rattle.medium.specs.Jobs.{ReadDone}
use Rattle.medium.specs.declared.fault.Fault.{Fault}
use Rattle.writer.specs.Put.{PutDone, ClearDone, PlanDone}
use Rattle.writer.specs.declared.counts.Counts.{Counts}
use Rattle.writer.specs.declared.fault.WriterFault.{WriterFault}

-- what can happen to a medium: a call, with its arguments, its buffer, its answer and the buffer after it; or a
-- move of lock and supply
pub data Event : Type 0 where
  put_of : (place : ℕ) (bytes buffer : List ℕ) (answer : Result Counts WriterFault) (after : List ℕ) → Event
  clear_of : (first count : ℕ) (buffer : List ℕ) (answer : Result Counts WriterFault) (after : List ℕ) → Event
  take_of : (place : ℕ) (buffer : List ℕ) (answer : Result (Unit {0}) Fault) (after : List ℕ) → Event
  plan_of : (place : ℕ) (bytes buffer : List ℕ) (answer : Result Counts WriterFault) (after : List ℕ) → Event
  switching : Event

-- the event leads from m to m': each call does what its own contract says, and what a put lays are bytes
abbrev pub Step : Meaning → Event → Meaning → Type 0
Step m (put_of p bs buf r buf') m' = EachBelow 256 bs × PutDone m p bs buf r m' buf'
Step m (clear_of b k buf r buf') m' = ClearDone m b k buf r m' buf'
Step m (take_of p buf r buf') m' = ReadDone m p buf r m' buf'
Step m (plan_of p bs buf r buf') m' = PlanDone m p bs buf r m' buf'
Step m switching m' = OnlySwitched m m'

-- an event, and what the medium means after it
pub record Moment : Type 0 where
  pub event : Event
  pub after : Meaning

-- what a medium means after its past: its moments so far, the latest first
abbrev pub state : Meaning → List Moment → Meaning
state first [] = first
state first (x ∷ past) = x.after

-- P holds of each moment x of a past, with what was before x
abbrev pub EachMoment : (List Moment → Moment → Type 0) → List Moment → Type 0
EachMoment P [] = Unit {0}
EachMoment P (x ∷ past) = P past x × EachMoment P past

-- P holds of a past at each moment of it, from its beginning to its end
abbrev pub Throughout : (List Moment → Type 0) → List Moment → Type 0
Throughout P [] = P []
Throughout P (x ∷ past) = P (x ∷ past) × Throughout P past

-- the past of a medium that was first so: each event led on from where it was
abbrev pub Past : Meaning → List Moment → Type 0
Past first = EachMoment (λ before x. Step (state first before) x.event x.after)

-- a moment of one of several media, which go by number
pub record Entry : Type 0 where
  pub medium : ℕ
  pub moment : Moment

-- what medium i means after a history, the latest entry first: an event changes its own medium and no other
abbrev pub world : (ℕ → Meaning) → List Entry → ℕ → Meaning
world first [] i = first i
world first (e ∷ history) i = cond (i == e.medium) e.moment.after (world first history i)

-- each event of the history led its medium on from where that was
abbrev pub Happened : (ℕ → Meaning) → List Entry → Type 0
Happened first [] = Unit {0}
Happened first (e ∷ history) =
    Step (world first history e.medium) e.moment.event e.moment.after × Happened first history

-- the past of medium i in a history
abbrev pub own : ℕ → List Entry → List Moment
own i [] = []
own i (e ∷ history) = cond (i == e.medium) (e.moment ∷ own i history) (own i history)
