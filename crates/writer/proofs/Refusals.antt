-- The test of put's range.
use Rattle.std.proofs.Common.{◌≡◌, ℕ, ◌+◌, ◌*◌, ◌<◌, Err, mul_comm}
use Rattle.std.proofs.lemmas.Bool.{lt-ltb}
use Rattle.medium.specs.Meaning.{Meaning, capacity}
use Rattle.medium.specs.Jobs.{answers}
use Rattle.medium.specs.declared.fault.Fault.TheVariants.{OffCard}
use Rattle.writer.specs.Put.{put_refusal}

pub off_card : (m : Meaning) (p len room : ℕ) → capacity m < p + len → Err (OffCard p) ≡ answers (put_refusal m p len room)
off_card m p len room h = rw (lt-ltb (capacity m) (p + len) h)

-- the capacity as a program computes it
pub as_computed : (m : Meaning) (n b : ℕ) → n ≡ m.block_size → b ≡ m.blocks → n * b ≡ capacity m
as_computed m n b e f = rw (e, f) (mul_comm m.block_size m.blocks)
