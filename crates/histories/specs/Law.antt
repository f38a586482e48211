-- The law that every medium keeps, whatever calls are made: a) its bytes are as told, b) each put and clear began the
-- fewest jobs, c) the lives lost are accounted for.
use Rattle.std.specs.Prelude.{◌≡◌, ℕ, ◌+◌, ◌-◌, ◌*◌, ◌/◌, ◌<◌, ◌≤◌, Bool, true, false, cond, ◌&&◌, List, [], ◌∷◌, length, Some, None, Ok, Err, Option, Result, ◌==◌, nat_le, nat_lt, slice_index}
use Rattle.medium.specs.Meaning.{Meaning, Sound, capacity}
use Rattle.medium.specs.Faults.{listed}
use Rattle.medium.specs.Jobs.{ReadDone}
use Rattle.medium.specs.declared.fault.Fault.{Fault}
use Rattle.writer.specs.Put.{clear_place, clear_bytes}
use Rattle.writer.specs.Laws.{faulty_block, Fewest, lives, lanes_told, jobs_told}
use Rattle.writer.specs.declared.counts.Counts.{Counts}
use Rattle.writer.specs.declared.fault.WriterFault.{WriterFault}
use Rattle.histories.specs.Events.{Event, put_of, clear_of, take_of, plan_of, switching, Moment, state, EachMoment, Throughout, Past, Entry, world, Happened, own}

-- what a put or clear asks, these bytes from this place on, and what it answered
pub record Asking : Type 0 where
  pub place : ℕ
  pub bytes : List ℕ
  pub answer : Result Counts WriterFault

-- put asks the bytes that it lays, clear FFH over its blocks; no other event asks anything of the contents
abbrev pub asks : Meaning → Event → Option Asking
asks m (put_of p bs buf r buf') = Some (record { place = p; bytes = bs; answer = r })
asks m (clear_of b k buf r buf') = Some (record { place = clear_place m b; bytes = clear_bytes m k; answer = r })
asks m (take_of p buf r buf') = None
asks m (plan_of p bs buf r buf') = None
asks m switching = None

-- a) which bytes a call reaches, and which byte is told for each place; blocks have n bytes

-- place k lies in the range asked
abbrev pub in_range : Asking → ℕ → Bool
in_range a k = nat_le a.place k && nat_lt k (a.place + length a.bytes)

-- the fault stopped the call at a job: it is locked, low supply or worn
abbrev pub by_job : Fault → Bool
by_job f = nat_le 4 (listed f).number && nat_le (listed f).number 6

-- a finished call came to all of its blocks; one stopped at a job, to those taken before the faulty one, which are
-- the lower ones; one refused before any block was taken, to none
abbrev pub came_to : ℕ → Result Counts WriterFault → ℕ → Bool
came_to n (Ok c) b = true
came_to n (Err e) b = by_job e.fault && nat_lt b (faulty_block n e.fault)

-- a call reached the bytes of its range in the blocks that it came to
abbrev pub reached : ℕ → Asking → ℕ → Bool
reached n a k = in_range a k && came_to n a.answer (k / n)

-- a worn fault is number 6, and names the block that holds its place
abbrev pub worn_named : ℕ → Result Counts WriterFault → ℕ → Bool
worn_named n (Ok c) b = false
worn_named n (Err e) b = (listed e.fault).number == 6 && b == faulty_block n e.fault

-- the byte told for place k after an event, from the one told before it
abbrev pub told_after : ℕ → Option Asking → ℕ → Option ℕ → Option ℕ
told_after n None k before = before
told_after n (Some a) k before =
    cond (reached n a k) (Some (slice_index a.bytes (k - a.place))) (cond (worn_named n a.answer (k / n)) None before)

-- the byte told for place k: what the last put or clear to reach it asked, or its first contents if none did; none
-- if a worn fault has since named its block
abbrev pub told : Meaning → List Moment → ℕ → Option ℕ
told first [] k = Some (slice_index first.bytes k)
told first (x ∷ past) k = told_after first.block_size (asks first x.event) k (told first past k)

-- the bytes shown, from place p on, are those told
abbrev pub ShownAsTold : (ℕ → Option ℕ) → ℕ → List ℕ → Type 0
ShownAsTold tells p shown = (k v : ℕ) → k < length shown → tells (p + k) ≡ Some v → slice_index shown k ≡ v

-- every byte on the medium is as told, a take made now shows bytes as told, and so did each take of its past, as
-- they were told when it was made
pub record BytesAsTold (first : Meaning) (past : List Moment) : Type 0 where
  pub on_it : (k v : ℕ) → k < capacity first → told first past k ≡ Some v → slice_index (state first past).bytes k ≡ v
  pub take_now : (p : ℕ) (buf : List ℕ) (m' : Meaning) (buf' : List ℕ) → ReadDone (state first past) p buf (Ok tt) m' buf' →
      ShownAsTold (told first past) p buf'
  pub takes : EachMoment (λ before x.
      (p : ℕ) (buf buf' : List ℕ) → x.event ≡ take_of p buf (Ok tt) buf' → ShownAsTold (told first before) p buf') past

-- b) each finished put or clear answered no more wipes, and no more words, than any list of successful jobs has
-- that leads from the contents before it to those after it
abbrev pub EachFewest : Meaning → List Moment → Type 0
EachFewest first =
    EachMoment (λ before x. (a : Asking) → asks first x.event ≡ Some a → Fewest (state first before) a.answer x.after)

-- c) what the answer of a put or clear counts, and the sum of it over a past
abbrev pub counted_by : (Result Counts WriterFault → ℕ) → Option Asking → ℕ
counted_by f None = 0
counted_by f (Some a) = f a.answer

abbrev pub total : (Result Counts WriterFault → ℕ) → Meaning → List Moment → ℕ
total f first [] = 0
total f first (x ∷ past) = counted_by f (asks first x.event) + total f first past

-- lives lost, the first less those left, and worn lanes named in faults are two for each wipe and word begun
pub record LivesAccounted (first : Meaning) (past : List Moment) : Type 0 where
  pub none_won : lives (state first past) ≤ lives first
  pub account : lives first - lives (state first past) + total lanes_told first past ≡ 2 * total jobs_told first past

-- a, b and c, after a past
pub record Kept (first : Meaning) (past : List Moment) : Type 0 where
  pub bytes : BytesAsTold first past
  pub fewest : EachFewest first past
  pub accounted : LivesAccounted first past

-- the past led to what the medium means last, and a, b and c held at each moment of it
pub record LawKept (first : Meaning) (past : List Moment) (last : Meaning) : Type 0 where
  pub led : Past first past
  pub ends : state first past ≡ last
  pub kept : Throughout (Kept first) past

-- the law: as many media as one likes, whatever they mean at first, and any history of theirs, of each sound medium
abbrev pub LawOfHistories : Type 0
LawOfHistories =
    (first : ℕ → Meaning) (history : List Entry) → Happened first history →
    (i : ℕ) → Sound (first i) → LawKept (first i) (own i history) (world first history i)
