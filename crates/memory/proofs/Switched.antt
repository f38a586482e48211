-- A card whose blocks are locked all or none: past the tests of the place, its switches decide.
use Rattle.std.proofs.Common.{None, refl, arith, ◌≡◌, ℕ, ◌+◌, ◌*◌, ◌/◌, ◌%◌, ◌<◌, ◌≤◌, Bool, false, get_or, replicate, ap, ◌∙◌}
use Rattle.std.proofs.lemmas.List.{get_or-replicate}
use Rattle.medium.specs.Meaning.{Meaning, capacity}
use Rattle.medium.specs.Jobs.{closed, no_word, word_refusal, wipe_refusal}
use Rattle.medium.proofs.Refusals.{wipe_past, word_past, word_found}
use Rattle.medium.proofs.Sizes.{place_block}
use Rattle.memory.specs.Card.{switched_off}

closed_switched : (m : Meaning) (locked : Bool) (b p : ℕ) → m.locks ≡ replicate m.blocks locked → b < m.blocks → closed m b p ≡ switched_off locked m.supply p
closed_switched m locked b p e h =
    let g : get_or m.locks b false ≡ locked = ap (λ l. get_or l b false) e ∙ get_or-replicate m.blocks b locked false h in
    rw g

pub wipe_switched : (m : Meaning) (locked : Bool) (b : ℕ) → m.locks ≡ replicate m.blocks locked → b < m.blocks → wipe_refusal m b ≡ switched_off locked m.supply (b * m.block_size)
wipe_switched m locked b e h = wipe_past m b h ∙ closed_switched m locked b (b * m.block_size) e h

pub word_switched : (m : Meaning) (locked : Bool) (p : ℕ) → m.locks ≡ replicate m.blocks locked → p + 2 ≤ capacity m → p % 2 ≡ 0 → p / m.block_size < m.blocks → word_refusal m p ≡ switched_off locked m.supply p
word_switched m locked p e c h b = word_past m p c h ∙ closed_switched m locked (p / m.block_size) p e b

-- a word that passed the tests of its place lies on the card, in one of its blocks
pub word_there : (m : Meaning) (p n : ℕ) → n ≡ capacity m → 2 ≤ m.block_size → no_word n p ≡ None → (p + 2 ≤ capacity m) × (p % 2 ≡ 0) × (p / m.block_size < m.blocks)
word_there m p n e two on =
    let (room, even) = word_found n p on in
    (omega arith, even, place_block p m.block_size m.block_size m.blocks (capacity m) refl two refl (omega arith))
