-- The bytes that a put lays over a medium, and where.
use Rattle.std.specs.Prelude.{ℕ, ◌+◌, ◌-◌, List, length, min, replicate, take, drop}
use Rattle.medium.specs.Jobs.{laid}
use Rattle.writer.specs.declared.source.Source.{Source}
use Rattle.writer.specs.declared.source.Source.TheVariants.{Bytes, Fill}
use Rattle.writer.specs.declared.laying.Laying.{Laying}

abbrev pub bytes_of : Source → List ℕ
bytes_of (Bytes r) = r.now
bytes_of (Fill b n) = replicate n b

-- the place past them
abbrev pub end_of : Laying → ℕ
end_of l = l.place + length (bytes_of l.source)

-- xs with them laid over
abbrev pub laid_by : List ℕ → Laying → List ℕ
laid_by xs l = laid xs l.place (bytes_of l.source)

-- what of ys, laid from p on, comes into the n places from s on
abbrev pub piece : List ℕ → ℕ → ℕ → ℕ → List ℕ
piece ys p s n = take (min (s + n - p) (length ys) - (s - p)) (drop (s - p) ys)
