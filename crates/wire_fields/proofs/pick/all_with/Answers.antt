-- `wire_fields::pick::all_with` meets its contract: number by number one field more is seen.
use Rattle.std.proofs.Common.{◌≡◌, suc, ◌+◌, length, arith, rules, refl, sym, ◌∙◌}
use Rattle.wire_fields.proofs.Walks.{up_to, up_to_on, up_to_all}
use Rattle.wire_fields.proofs.pick.all_with.Goals as goal

pub loop-i-init : goal.loop-i-init
unfolding up_to
loop-i-init g c = refl

pub loop-i-preserved : goal.loop-i-preserved
loop-i-preserved g c =
    let a = c.args in
    let i = c.loop-i.i in
    let t : length a.tags ≡ g.row.N = search rules in
    let s : length a.seen ≡ g.row.N = search rules in
    let e : suc i ≡ i + 1 = omega arith in
    rw (c.with.ensures, c.loop-i.invariant, ← e) (up_to_on i a.tags a.seen a.f (omega arith) (omega arith))

pub returns : goal.returns
returns g c =
    let a = c.args in
    let t : length a.tags ≡ g.row.N = search rules in
    let s : length a.seen ≡ g.row.N = search rules in
    let e : c.loop-i.i ≡ length a.tags = omega arith in
    c.loop-i.invariant ∙ rw e (up_to_all a.tags a.seen a.f (t ∙ sym s))
