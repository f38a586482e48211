-- What it means that a list of calls was carried out.
use Rattle.std.specs.Prelude.{◌≡◌, ℕ, ◌+◌, ◌<◌, ◌≤◌, true, List, [], ◌∷◌, length, vec_items, slice_index_or}
use Rattle.medium.specs.Meaning.{Meaning}
use Rattle.histories.specs.Events.{Event, put_of, clear_of, take_of, plan_of, switching, Step, Entry, world, Happened, own}
use Rattle.medium.specs.Switches.{OnlySwitched}
use Rattle.histories.specs.Law.{LawKept}
use Rattle.histories.specs.declared.call.Call.{Call}
use Rattle.histories.specs.declared.request.Request.{Request}
use Rattle.histories.specs.declared.request.Request.TheVariants.{Put, Clear, Take, Plan}
use Rattle.histories.specs.declared.answer.Answer.{Answer}
use Rattle.histories.specs.declared.answer.Answer.TheVariants.{Written, Taken, Planned, NoSuchMedium}

-- the answer holds a result, and e is the event with that result
pub record Answered {R : Type 0} (holds : R → Answer) (happens : R → Event) (a : Answer) (e : Event) : Type 0 where
  pub result : R
  pub answer : a ≡ holds result
  pub event : e ≡ happens result

-- the event that a request was, by the buffer before it, its answer and the buffer after it
abbrev pub Tells : Request → List ℕ → Answer → List ℕ → Event → Type 0
Tells (Put p bs) buf a buf' e = Answered Written (λ r. put_of p (vec_items bs) buf r buf') a e
Tells (Clear b k) buf a buf' e = Answered Written (λ r. clear_of b k buf r buf') a e
Tells (Take p) buf a buf' e = Answered Taken (λ r. take_of p buf r buf') a e
Tells (Plan p bs) buf a buf' e = Answered Planned (λ r. plan_of p (vec_items bs) buf r buf') a e

-- the request q was made of the medium m, with the buffer buf
pub record Made (m : Meaning) (q : Request) (buf : List ℕ) (a : Answer) (m' : Meaning) (buf' : List ℕ) : Type 0 where
  pub event : Event
  pub tells : Tells q buf a buf' event
  pub step : Step m event m'

-- what a call asks stays in it
pub record SameAsked (b a : Call) : Type 0 where
  pub medium : a.medium ≡ b.medium
  pub request : a.request ≡ b.request

-- a call with another answer
abbrev pub with_answer : Call → Answer → Call
with_answer b a = record { medium = b.medium; request = b.request; buffer = b.buffer; answer = a }

-- the media of a list by number; past its end stands one without blocks, of which no event is
abbrev pub absent : Meaning
absent =
    record {
      block_size = 2;
      blocks = 0;
      bytes = [];
      locks = [];
      supply = true;
      even_lives = [];
      odd_lives = [];
    }

abbrev pub numbered : List Meaning → ℕ → Meaning
numbered media i = slice_index_or media i absent

abbrev pub entry_of : ℕ → Event → Meaning → Entry
entry_of i e m = record { medium = i; moment = record { event = e; after = m } }

-- for switches with states in S, where `moves s at m m' s'` says how they move a medium before call number `at`
module _ {S : Type 0} (moves : S → ℕ → Meaning → Meaning → S → Type 0) where
  -- the switches moved lock and supply of m before call number `at`, and nothing else
  pub record Switched (m m' : Meaning) (at : ℕ) (s s' : S) : Type 0 where
    pub only : OnlySwitched m m'
    pub moved : moves s at m m' s'

  -- call number `at`, asked as b and left as a, was carried out on the medium m: first lock and supply moved, and then
  -- its request was made
  pub record Carried (m m' : Meaning) (at : ℕ) (s s' : S) (b a : Call) : Type 0 where
    pub same : SameAsked b a
    pub between : Meaning
    pub move : Switched m between at s s'
    pub made : Made between b.request (vec_items b.buffer) a.answer m' (vec_items a.buffer)

  -- the history with both events of that call on medium i
  abbrev pub with_call : {m m' : Meaning} {at : ℕ} {s s' : S} {b a : Call} → ℕ → Carried m m' at s s' b a → List Entry → List Entry
  with_call {m' = m'} i c history = entry_of i c.made.event m' ∷ (entry_of i switching c.between ∷ history)

  -- calls from number `at` on, as they were asked and as they were left, lead from switches s and a history so far to
  -- the last switches and the whole history
  pub data Recorded (media : List Meaning) (last : S) (whole : List Entry) : ℕ → S → List Entry → List Call → List Call → Type 0 where
    no_more : {at : ℕ} → Recorded media last whole at last whole [] []
    -- a call on a medium of the list
    there : {at : ℕ} {s t : S} {history : List Entry} {b a : Call} {before after : List Call} {m' : Meaning} → b.medium < length media →
        (c : Carried (world (numbered media) history b.medium) m' at s t b a) →
        Recorded media last whole (at + 1) t (with_call b.medium c history) before after →
        Recorded media last whole at s history (b ∷ before) (a ∷ after)
    -- a call on none: nothing changes but its answer
    nowhere : {at : ℕ} {s : S} {history : List Entry} {b : Call} {before after : List Call} → length media ≤ b.medium →
        Recorded media last whole (at + 1) s history before after →
        Recorded media last whole at s history (b ∷ before) (with_answer b NoSuchMedium ∷ after)

  -- the calls were carried out: they made a history, in which each medium's own past led to what it means now, and kept
  -- the law at each moment
  pub record Performed (first last : List Meaning) (s s' : S) (before after : List Call) : Type 0 where
    pub history : List Entry
    pub recorded : Recorded first s' history 0 s [] before after
    pub happened : Happened (numbered first) history
    pub by_law : (i : ℕ) → LawKept (numbered first i) (own i history) (numbered last i)
