-- What the answers of a list of calls count.
use Rattle.std.specs.Prelude.{ℕ, ◌+◌, ◌-◌, ◌^◌, min, List, [], ◌∷◌, Ok, Err, Result}
use Rattle.writer.specs.declared.counts.Counts.{Counts}
use Rattle.writer.specs.declared.fault.WriterFault.{WriterFault}
use Rattle.histories.specs.declared.call.Call.{Call}
use Rattle.histories.specs.declared.answer.Answer.{Answer}
use Rattle.histories.specs.declared.answer.Answer.TheVariants.{Waiting, Written, Taken, Planned, NoSuchMedium}

-- wipes begun, and words begun, as the answer of a put or clear has them
abbrev pub wipes_told : Result Counts WriterFault → ℕ
wipes_told (Ok c) = c.wipes
wipes_told (Err e) = e.wipes

abbrev pub words_told : Result Counts WriterFault → ℕ
words_told (Ok c) = c.words
words_told (Err e) = e.words

-- a number that the answer of a put or clear has; takes and plans begin nothing
abbrev pub of_answer : (Result Counts WriterFault → ℕ) → Answer → ℕ
of_answer f Waiting = 0
of_answer f (Written r) = f r
of_answer f (Taken r) = 0
of_answer f (Planned r) = 0
of_answer f NoSuchMedium = 0

-- its sum over a list of calls, as far as 64 bits go
abbrev pub summed : (Result Counts WriterFault → ℕ) → List Call → ℕ
summed f [] = 0
summed f (c ∷ cs) = of_answer f c.answer + summed f cs

abbrev pub capped : ℕ → ℕ
capped n = min n (2 ^ 64 - 1)
