-- `player::turn` meets its contract, by what its step did.
use Rattle.std.proofs.Common.{arith}
use Rattle.player.specs.Places.{GoesOn}
use Rattle.player.proofs.Places.{went_within, bad_within, kept, goes_on}
use borrow.Author.Rules.{rules}
use Rattle.player.proofs.turn.Goals as goal

pub overflow_add-next : goal.overflow_add-next
overflow_add-next g c =
    let p = c.requires.1 in
    let w = went_within _ _ _ p.order (omega (arith, p.inside)) c.in-Went.ensures.within in
    record { fits = omega (arith, w.0, p.order, p.inside) }

pub overflow_add-next-in-Went-2 : goal.overflow_add-next-in-Went-2
overflow_add-next-in-Went-2 g c =
    let p = c.requires.1 in
    let w = went_within _ _ _ p.order (omega (arith, p.inside)) c.in-Went.ensures.within in
    record { fits = omega (arith, w.1, p.space) }

pub went-requires : goal.went-requires
went-requires g c =
    let p = c.requires.1 in
    let w = went_within _ _ _ p.order (omega (arith, p.inside)) c.in-Went.ensures.within in
    omega (arith, w.1, p.space)

pub overflow_add-end : goal.overflow_add-end
overflow_add-end g c =
    let p = c.requires.1 in
    let short = bad_within _ c.in-Bad.ensures.within in
    record { fits = omega (arith, short, p.space) }

pub shared_ref_as_front-write_all : goal.shared_ref_as_front-write_all
shared_ref_as_front-write_all g c =
    let p = c.requires.1 in kept _ _ _ (search rules) p.space (bad_within _ c.in-Bad.ensures.within)

pub returns-in-Went : goal.returns-in-Went
returns-in-Went g c =
    let p = c.requires.1 in
    let w = went_within _ _ _ p.order (omega (arith, p.inside)) c.in-Went.ensures.within in
    (c.step-did.ensures.spelt, goes_on _ _ _ (omega (arith, w.0, p.order)) p.inside (search rules) c.went.ensures)

pub returns-in-Bad : goal.returns-in-Bad
unfolding GoesOn
returns-in-Bad g c = (c.step-did.ensures.spelt, tt)
