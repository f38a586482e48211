use Rattle.std.proofs.Common.{◌≡◌, ◌+◌, ◌-◌, length, take, drop, replicate, ap, ◌∙◌, arith}
use Rattle.std.proofs.lemmas.List.Edits.{length-between}
use Rattle.std.specs.List.{between}
use Rattle.medium.specs.Jobs.{laid}
use Rattle.medium.proofs.Relaid.{put_mid_laid}
use Rattle.slot.specs.Lane.{mixed}
use Rattle.board.specs.Sides.{is_even}
use Rattle.board.proofs.lanes.LaneJob.wipe.Goals as goal

pub returns : goal.returns
returns c =
    let a = c.args.self.start in
    let n = c.args.self.size in
    let t = is_even c.args.self.side in
    let xs = c.args.bytes.now in
    let long : length (between a (a + n) xs) ≡ n = length-between xs a (a + n) (omega arith) ∙ omega arith in
    let width : a + n - a ≡ n = omega arith in
    put_mid_laid a (a + n - a) xs c.fill_lane.new.block (c.fill_lane.auto.block ∙ length-between xs a (a + n) (omega arith))
    ∙ ap (laid xs a)
    (c.fill_lane.ensures
    ∙ (ap (λ m. mixed t (replicate m c.wiped_byte.result) (between a (a + n) xs)) long
    ∙ (ap (λ m. mixed t (replicate n c.wiped_byte.result) (take m (drop a xs))) width
    ∙ ap (λ b. mixed t (replicate n b) (take n (drop a xs))) c.wiped_byte.ensures)))
