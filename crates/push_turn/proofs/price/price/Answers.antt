-- `push_turn::price::price` meets its contract: by the stored bits, else by the batch.
use mathlib.Core.Path.{sym, ◌∙◌}
use Rattle.push_turn.proofs.Prices.{price_small, by_bits, by_batch}
use Rattle.push_turn.proofs.price.price.Goals as goal

pub returns-then-bits_empty : goal.returns-then-bits_empty
returns-then-bits_empty c =
    let p = c.requires in
    let k = c.args.k in
    let m = c.load_mark-mark in
    let r = by_batch p.0 k p.1 m.result m.ensures c.batch_size.ensures (sym c.bits_empty.ensures ∙ c.if-bits_empty.true) c.max.ensures in
    (r, price_small p.0 k p.1 r)

pub returns : goal.returns
returns c =
    let p = c.requires in
    let k = c.args.k in
    let r = by_bits p.0 k p.1 c.load_mark-mark.result c.load_mark-mark.ensures c.bits_cardinality.ensures (sym c.bits_empty.ensures ∙ c.if-bits_empty.false) in
    (r, price_small p.0 k p.1 r)
