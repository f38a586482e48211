-- The jobs that bring blocks to given contents.
use Rattle.std.specs.Prelude.{ℕ, zero, suc, ◌+◌, ◌-◌, ◌*◌, ◌/◌, Bool, true, false, cond, not, ◌||◌, List, [], ◌∷◌, ◌++◌, take, drop, ◌==◌, bit_and, slice_index}
use Rattle.writer.specs.Jobs.{Job, word_at, wipe_of}

-- some bit of the n bytes from i on is 0 in the old contents and 1 in the new
abbrev pub rises : List ℕ → List ℕ → ℕ → ℕ → Bool
rises old new i zero = false
rises old new i (suc n) = not (bit_and (slice_index old i) (slice_index new i) == slice_index new i) || rises old new (i + 1) n

-- the word at place i, the even byte low
abbrev pub word_of : List ℕ → ℕ → ℕ
word_of xs i = slice_index xs i + 256 * slice_index xs (i + 1)

-- the word that stands at place i before the words are written, in a block that was wiped or not
abbrev pub old_word : Bool → List ℕ → ℕ → ℕ
old_word true old i = 65535
old_word false old i = word_of old i

-- the write of a word at p, if another stands there
abbrev pub word_if : ℕ → ℕ → ℕ → List Job
word_if p old new = cond (old == new) [] (word_at p new ∷ [])

-- of the n words of a block from its k-th on, rising, the writes of those that differ from what stands there; the block begins at p
abbrev pub differing : ℕ → Bool → List ℕ → List ℕ → ℕ → ℕ → List Job
differing p wiped old new k zero = []
differing p wiped old new k (suc n) =
    word_if (p + 2 * k) (old_word wiped old (2 * k)) (word_of new (2 * k)) ++ differing p wiped old new (k + 1) n

abbrev pub wiped_first : Bool → ℕ → List Job → List Job
wiped_first true b js = wipe_of b ∷ js
wiped_first false b js = js

-- the jobs that bring block b, of n bytes, from old to new contents, with a wipe or without
abbrev pub jobs_by : Bool → ℕ → ℕ → List ℕ → List ℕ → List Job
jobs_by wipe n b old new = wiped_first wipe b (differing (b * n) wipe old new 0 (n / 2))

-- the same, with a wipe exactly if some bit must rise
abbrev pub jobs_for : ℕ → ℕ → List ℕ → List ℕ → List Job
jobs_for n b old new = jobs_by (rises old new 0 n) n b old new

-- so many bytes from a place on
abbrev pub part : List ℕ → ℕ → ℕ → List ℕ
part xs from size = take size (drop from xs)

-- what block b holds of the contents xs, where blocks have n bytes
abbrev pub block_at : ℕ → List ℕ → ℕ → List ℕ
block_at n xs b = part xs (b * n) n

-- whether block b must be wiped on the way from the present to the wanted contents, and its jobs
abbrev pub must_wipe : ℕ → List ℕ → List ℕ → ℕ → Bool
must_wipe n present want b = rises (block_at n present b) (block_at n want b) 0 n

abbrev pub block_jobs : ℕ → List ℕ → List ℕ → ℕ → List Job
block_jobs n present want b = jobs_for n b (block_at n present b) (block_at n want b)

-- the jobs of a list of blocks, in its order
abbrev pub listed_jobs : ℕ → List ℕ → List ℕ → List ℕ → List Job
listed_jobs n present want [] = []
listed_jobs n present want (b ∷ bs) = block_jobs n present want b ++ listed_jobs n present want bs

-- k numbers from b on, rising
abbrev pub rising : ℕ → ℕ → List ℕ
rising b zero = []
rising b (suc k) = b ∷ rising (b + 1) k

-- the last block of n bytes that a range meets that begins at p; the range has len bytes, at least one
abbrev pub last_met : ℕ → ℕ → ℕ → ℕ
last_met n p len = (p + len - 1) / n

-- how many blocks a range meets, and which: from the first to the last, rising
abbrev pub met_count : ℕ → ℕ → ℕ → ℕ
met_count n p zero = 0
met_count n p (suc k) = last_met n p (suc k) + 1 - p / n

abbrev pub blocks_met : ℕ → ℕ → ℕ → List ℕ
blocks_met n p len = rising (p / n) (met_count n p len)
