-- `subscribe::subscribe_shared` meets its contract: no room for the pair, none in its ring, or both written.
use mathlib.Core.Path.{sym, ◌∙◌}
use Rattle.operation_laws.proofs.Frame.{canon_of, refused_with, done_with_nothing}
use Rattle.dispatcher.specs.Pairs.{pair_in}
use Rattle.subscribe.proofs.Subscribing.{seats, joins, subscribe_pairs, subscribe_ring, subscribe_shared}
use Rattle.subscribe.proofs.subscribe_shared.Goals as goal

pub pairs_full-requires : goal.pairs_full-requires
pairs_full-requires c =
    canon_of c.args.e c.args.store.now c.requires.opened.spelt c.requires.opened.E

pub returns-then-pairs_full : goal.returns-then-pairs_full
returns-then-pairs_full c =
    refused_with c.args.store.now _ c.requires.opened.spelt (subscribe_pairs c.requires (pair_in c.args.pair) (sym c.pairs_full.ensures ∙ c.if-pairs_full.true))

pub ring_full-requires : goal.ring_full-requires
ring_full-requires c =
    canon_of c.args.e c.args.store.now c.requires.opened.spelt c.requires.opened.E

pub returns-then-ring_full : goal.returns-then-ring_full
returns-then-ring_full c =
    refused_with c.args.store.now _ c.requires.opened.spelt (subscribe_ring c.requires (pair_in c.args.pair) (sym c.pairs_full.ensures ∙ c.if-pairs_full.false) (sym c.ring_full.ensures ∙ c.if-ring_full.true))

pub enter-requires : goal.enter-requires
enter-requires c =
    (seats c.requires, joins c.requires (pair_in c.args.pair) (sym c.pairs_full.ensures ∙ c.if-pairs_full.false) (sym c.ring_full.ensures ∙ c.if-ring_full.false))

pub returns : goal.returns
returns c =
    done_with_nothing c.args.store.now _ c.requires.opened.spelt (subscribe_shared c.requires (pair_in c.args.pair) (sym c.pairs_full.ensures ∙ c.if-pairs_full.false) (sym c.ring_full.ensures ∙ c.if-ring_full.false)) c.enter.ensures
