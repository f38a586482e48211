-- A byte sent to a device, from what each step leaves.
use Rattle.std.proofs.Common.{◌≡◌, ℕ, ◌*◌, ◌/◌, ◌<◌, min, Bool, true, false, not, List, get_or, take, drop, set, replicate, Some, None, Option, sym, refl, ap, ◌∙◌, ap₂, arith}
use Rattle.std.proofs.lemmas.List.{set-set, set-get_or, get_or-set_same}
use Rattle.medium.specs.Wear.{alive, lane_after}
use Rattle.medium.specs.Jobs.{laid, byte_after}
use Rattle.medium.proofs.Tables.{alive_take, lane_take}
use Rattle.devices.specs.declared.device.Job.{Job}
use Rattle.devices.specs.declared.device.Job.TheVariants.{Write, Wipe}
use Rattle.devices.specs.declared.table.DeviceTable.{DeviceTable}
use Rattle.devices.specs.Chip.{Chip, fresh, longest_wait}
use Rattle.devices.specs.Commands.{took, begins, begun}
use Rattle.devices.specs.Table.{Changed, table_pairs, table_chips, device_at}
use Rattle.devices.proofs.Rows.{map_replicate}
use Rattle.devices.proofs.Tables.{length_chips}
use Rattle.slot.specs.State.{SlotState}
use Rattle.slot.specs.Lane.{Lane, Site, job_bytes, lane_did, mixed}
use Rattle.slot.specs.Cycles.{cycle_refusal}
use Rattle.slot.proofs.Places.{block_there, pair_there}
use Rattle.board.specs.declared.board.Board.{Board}
use Rattle.board.specs.declared.side.Side.{Side}
use Rattle.board.specs.declared.side.Side.TheVariants.{Even, Odd}
use Rattle.board.specs.declared.waits.Waits.{Waits}
use Rattle.medium.specs.declared.lives.CardLives.{CardLives}
use Rattle.board.specs.Sides.{pick, is_even, index_at, chip_at, place_at, lane_at, site_at, with_work, with_lane}
use Rattle.board.specs.Held.{CardState, board_blocks, slot_of, card_of}
use Rattle.board.specs.Sent.{job_wait, leaves, sent, worked_bytes}
use Rattle.board.proofs.Limits.{board_sound}

-- a job on a lane leaves what the medium allows, as these cards choose it
worked_as : (j : Job) (at : Site) (live : Bool) (v wait : ℕ) (xs : List ℕ)
    → worked_bytes j at.even (at.block * at.size) at.size at.place live v xs
    ≡ job_bytes j at live v (record { byte = get_or xs at.place 0; block = replicate at.size 0; wait = wait }) xs
worked_as Write at true v wait xs = refl
worked_as Write at false v wait xs = sym (set-get_or xs at.place 0)
worked_as Wipe at live v wait xs =
    ap (λ l. laid xs (at.block * at.size) (mixed at.even l (take at.size (drop (at.block * at.size) xs))))
    (sym (map_replicate (byte_after live 255) at.size 0))

-- of the lives, those of the card's blocks
alive_picked : (side : Side) (n b : ℕ) (es os : List ℕ) → b < n → alive (pick side es os) b ≡ alive (pick side (take n es) (take n os)) b
alive_picked Even n b es os h = sym (alive_take n es b h)
alive_picked Odd n b es os h = sym (alive_take n os b h)

even_picked : (side : Side) (n b : ℕ) (es os : List ℕ) → b < n → take n (pick side (lane_after es b) es) ≡ pick side (lane_after (pick side (take n es) (take n os)) b) (take n es)
even_picked Even n b es os h = lane_take n es b h
even_picked Odd n b es os h = refl

odd_picked : (side : Side) (n b : ℕ) (es os : List ℕ) → b < n → take n (pick side os (lane_after os b)) ≡ pick side (take n os) (lane_after (pick side (take n es) (take n os)) b)
odd_picked Even n b es os h = refl
odd_picked Odd n b es os h = lane_take n os b h

-- a card's waits are cut already
pub wait_short : (w : Waits) (j : Job) (n : ℕ) → n ≡ job_wait j w.write w.wipe → min n longest_wait ≡ job_wait j w.write w.wipe
wait_short w Write n e = omega (arith, w.short_write)
wait_short w Wipe n e = omega (arith, w.short_wipe)

-- one device changed twice
twice_set : (t t' t'' : DeviceTable) (i : ℕ) (d : Chip) (f : Chip → Chip) → i < 2 * table_pairs t → Changed t i d t' → Changed t' i (f (device_at t' i)) t'' → table_chips t'' ≡ set (table_chips t) i (f d)
twice_set t t' t'' i d f h a b =
    let here : device_at t' i ≡ d = ap (λ l. get_or l i fresh) a.chips ∙ get_or-set_same (table_chips t) i d fresh (omega (arith, length_chips t)) in
    b.chips ∙ (ap₂ (λ l x. set l i (f x)) a.chips here ∙ set-set (table_chips t) i d (f d))

module _ (b : Board) (supply : Bool) (p v : ℕ) (side : Side) (on : cycle_refusal (slot_of b true false) p ≡ None) where
  abbrev s : SlotState
  s = slot_of b supply false

  abbrev c : CardState
  c = card_of b supply false

  abbrev i : ℕ
  i = index_at s p side

  abbrev block : ℕ
  block = p / s.block_size

  abbrev es : List ℕ
  es = b.wear.even.left

  abbrev os : List ℕ
  os = b.wear.odd.left

  on_card : block < board_blocks b
  on_card = block_there (slot_of b true false) (board_sound b true false) p on

  there : (x : Side) → index_at s p x < 2 * table_pairs b.table
  there Even = omega (arith, pair_there (slot_of b true false) (board_sound b true false) p on)
  there Odd = pair_there (slot_of b true false) (board_sound b true false) p on

  -- the lane once the job j has begun there
  abbrev after : Option Job → Lane
  after o =
      lane_did o (site_at s p side) v (leaves c (get_or s.bytes (place_at p side) 0) o)
      (record { chip = took supply v (chip_at s p side); lives = pick side s.even_lives s.odd_lives; bytes = s.bytes })

  pub job_sent : (j : Job) (t t' : DeviceTable) (w : CardLives) (xs : List ℕ) (live : Bool) (wait : ℕ)
      → begins supply v (device_at b.table i) ≡ Some j
      → Changed b.table i (took supply v (device_at b.table i)) t
      → Changed t i (begun j (not live) (min wait longest_wait) (device_at t i)) t'
      → min wait longest_wait ≡ job_wait j b.waits.write b.waits.wipe
      → live ≡ alive (pick side es os) block
      → w.even.left ≡ pick side (lane_after es block) es
      → w.odd.left ≡ pick side os (lane_after os block)
      → xs ≡ worked_bytes j (is_even side) (block * s.block_size) s.block_size (place_at p side) live v s.bytes
      → record {
        block_size = s.block_size;
        per_pair = s.per_pair;
        pairs = table_pairs t';
        bytes = xs;
        supply = supply;
        even_lives = take (s.per_pair * table_pairs t') w.even.left;
        odd_lives = take (s.per_pair * table_pairs t') w.odd.left;
        pin = false;
        chips = table_chips t';
      }
      ≡ (sent c p side v).slot
  job_sent j t t' w xs live wait begins-j taken began waits lived evens odds bytes =
      let n = board_blocks b in
      let lane = after (Some j) in
      let alive_is : live ≡ alive (lane_at s p side).lives block = lived ∙ alive_picked side n block es os on_card in
      let pairs_is : table_pairs t' ≡ table_pairs b.table = began.pairs ∙ taken.pairs in
      let bytes_is : xs ≡ lane.bytes =
      (bytes ∙ (worked_as j (site_at s p side) live v (job_wait j b.waits.write b.waits.wipe) s.bytes
      ∙ ap (λ l. job_bytes j (site_at s p side) l v (leaves c (get_or s.bytes (place_at p side) 0) (Some j)) s.bytes) alive_is)) in
      let even_is : take n w.even.left ≡ pick side lane.lives s.even_lives = ap (take n) evens ∙ even_picked side n block es os on_card in
      let odd_is : take n w.odd.left ≡ pick side s.odd_lives lane.lives = ap (take n) odds ∙ odd_picked side n block es os on_card in
      let chips_is : table_chips t' ≡ set s.chips i lane.chip =
      twice_set b.table t t' i (took supply v (chip_at s p side)) (begun j (not live) (min wait longest_wait)) (there side) taken began
      ∙ ap₂ (λ l m. set s.chips i (begun j (not l) m (took supply v (chip_at s p side)))) alive_is waits in
      ap (λ m. with_pairs m (table_chips t') xs w.even.left w.odd.left) pairs_is
      ∙ (ap₂ (λ l m. with_work s l (take n w.even.left) (take n w.odd.left) m) bytes_is chips_is
      ∙ (ap₂ (λ l m. with_work s lane.bytes l m (set s.chips i lane.chip)) even_is odd_is
      ∙ ap (λ o. with_lane s p side (after o)) (sym begins-j)))
    where
      with_pairs : ℕ → List Chip → List ℕ → List ℕ → List ℕ → SlotState
      with_pairs m ds zs le lo =
          record { block_size = s.block_size; per_pair = s.per_pair; pairs = m; bytes = zs; supply = supply; even_lives = take (s.per_pair * m) le; odd_lives = take (s.per_pair * m) lo; pin = false; chips = ds }
