-- How far a loop that wipes place by place has come.
use Rattle.std.proofs.Common.{◌≡◌, ℕ, ◌<◌, ◌≤◌, Bool, List, get_or}
use Rattle.medium.specs.Jobs.{byte_after}
use Rattle.medium.proofs.Wiped.{lane}

-- the part s was l: the places below i are wiped, and the others are as they were
abbrev pub Far : Bool → Bool → List ℕ → List ℕ → ℕ → Type 0
Far e o l s i =
    ((k : ℕ) → k < i → get_or s k 0 ≡ byte_after (lane e o k) 255 (get_or l k 0)) × ((k : ℕ) → i ≤ k → get_or s k 0 ≡ get_or l k 0)
