use Rattle.std.proofs.Common.{ℕ, ◌<◌, sym, subst}
use Rattle.script.specs.Cards.{card_medium}
use Rattle.piles.specs.Layered.{layer_meaning}
use Rattle.piles.specs.Shown.{IsBlock, block_below}
use Rattle.piles.proofs.Seen.{below_there, layer_sound}
use Rattle.script.proofs.pile.Layers.block.Goals as goal

pub returns : goal.returns
returns c d h =
    let m = card_medium c.args.card.now in
    let inner = c.args.self.inner in
    let outer = c.args.self.outer in
    let mid = layer_meaning inner m in
    let below = c.block_below-below.result in
    let lowest = c.block_below.result in
    let there : below < mid.blocks =
    subst (λ (k : ℕ). k < mid.blocks) (sym c.block_below-below.ensures) (below_there outer mid c.args.block h) in
    let on : lowest < m.blocks =
    subst (λ (k : ℕ). k < m.blocks) (sym c.block_below.ensures) (below_there inner m below there) in
    let own : IsBlock m (block_below inner below) c.in_ok-own.own =
    subst (λ (k : ℕ). IsBlock m k c.in_ok-own.own) c.block_below.ensures (c.in_ok-own.ensures on) in
    let seen : IsBlock mid (block_below outer c.args.block) c.behind.result =
    subst (λ (k : ℕ). IsBlock mid k c.behind.result) c.block_below-below.ensures (c.behind.ensures m d there own) in
    c.behind-2.ensures mid (layer_sound inner m d) h seen
