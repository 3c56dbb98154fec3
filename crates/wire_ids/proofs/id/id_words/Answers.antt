-- `wire_ids::id::id_words` meets its contract: what was counted so far and the fields that are left tell the words.
use Rattle.std.proofs.Common.{◌≡◌, refl}
use Rattle.wire_fields.proofs.Walks.{at_start, on, off, ended}
use Rattle.wire_ids.proofs.Parts.{partly_start, partly_bad, partly_on, no_ledger, no_entry, many_words, few_words}
use Rattle.wire_ids.proofs.id.id_words.Goals as goal

pub loop-field-init : goal.loop-field-init
loop-field-init c =
    let s = c.of-field-items.ensures in
    let d = c.default-p.ensures in
    let none : c.default-p.result ≡ record { ledgers = 0; entries = 0; words = 0 } = rw (d.0, d.1.0, d.1.1) refl in
    rw (c.into_iter-field-iterator.ensures.into_iter_gives, none) (at_start s, rw s.1 (partly_start _))

pub returns-in_err-f : goal.returns-in_err-f
returns-in_err-f c =
    let i = c.loop-field.invariant in
    let o = off i.0 c.in-Some.ensures.steps c.in_err-f.was in
    rw c.from_residual.ensures (partly_bad _ i.1 o.0 o.1)

pub loop-field-preserved : goal.loop-field-preserved
loop-field-preserved c =
    let i = c.loop-field.invariant in
    let f = on i.0 c.in-Some.ensures.steps c.in_ok-f.was in
    (f.3, rw f.2 (partly_on _ i.1 f.0 _ f.1 _ c.with-p.ensures))

pub returns-then-p-ne1 : goal.returns-then-p-ne1
returns-then-p-ne1 c = no_ledger _ c.loop-field.invariant.1 (ended c.loop-field.invariant.0 c.in-None.ensures.steps) c.if-p-ne1.true

pub returns-then-p-ne1-2 : goal.returns-then-p-ne1-2
returns-then-p-ne1-2 c = no_entry _ c.loop-field.invariant.1 (ended c.loop-field.invariant.0 c.in-None.ensures.steps) c.if-p-ne1-2.true

pub returns-then-p-gt-MOST_WORDS : goal.returns-then-p-gt-MOST_WORDS
returns-then-p-gt-MOST_WORDS c =
    many_words _ c.loop-field.invariant.1 (ended c.loop-field.invariant.0 c.in-None.ensures.steps) c.if-p-ne1.false c.if-p-ne1-2.false c.if-p-gt-MOST_WORDS.true

pub returns : goal.returns
returns c =
    few_words _ c.loop-field.invariant.1 (ended c.loop-field.invariant.0 c.in-None.ensures.steps) c.if-p-ne1.false c.if-p-ne1-2.false c.if-p-gt-MOST_WORDS.false
