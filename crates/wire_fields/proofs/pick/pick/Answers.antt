-- `wire_fields::pick::pick` meets its contract: what was seen so far and the fields that are left are what is picked (`Partly`).
use Rattle.std.proofs.Common.{◌≡◌, length, rules, refl}
use Rattle.wire_fields.specs.Picked.{nothing_seen}
use Rattle.wire_fields.proofs.Walks.{at_start, on, off, ended, partly_start, partly_end, partly_bad, partly_on}
use Rattle.wire_fields.proofs.pick.pick.Goals as goal

pub loop-field-init : goal.loop-field-init
loop-field-init g c =
    let a = c.args in
    let s = c.of-field-items.ensures in
    let n : g.row.N ≡ length a.tags = search rules in
    let d = c.default-seen.ensures in
    let none : c.default-seen.result ≡ nothing_seen = rw (d.0, d.1.0, d.1.1) refl in
    rw (c.into_iter-field-iterator.ensures.into_iter_gives, none, n)
    (at_start s, rw s.1 (partly_start a.m.now a.tags))

pub returns-in_err-field : goal.returns-in_err-field
returns-in_err-field g c =
    let i = c.loop-field.invariant in
    let o = off i.0 c.in-Some.ensures.steps c.in_err-field.was in
    rw c.from_residual.ensures (partly_bad _ _ i.1 o.0 o.1)

pub loop-field-preserved : goal.loop-field-preserved
loop-field-preserved g c =
    let i = c.loop-field.invariant in
    let f = on i.0 c.in-Some.ensures.steps c.in_ok-field.was in
    rw c.all_with-seen.ensures (f.3, rw f.2 (partly_on _ _ i.1 f.0 _ f.1))

pub returns : goal.returns
returns g c = let i = c.loop-field.invariant in partly_end _ _ i.1 (ended i.0 c.in-None.ensures.steps)
