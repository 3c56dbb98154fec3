-- `append::entry::gain_entry` meets its contract: a new mark, and for an id that was outside two steps more.
use mathlib.Core.Path.{refl, sym, ap, ◌∙◌}
use native.Mathlib.Omega.{arith}
use Rattle.layout.specs.Layout.{decode, put}
use Rattle.rules.specs.State.{Dispatcher}
use Rattle.layout.specs.Fields.{dispatcher_nth, set_dispatcher}
use Rattle.store.specs.Find.{slot}
use Rattle.store.proofs.Founds.{found_some, found_none}
use Rattle.dispatcher.specs.Outside.{by_itself}
use Rattle.append.proofs.Entries.{raised_in, completed_in, removed_words, gained_new, gained_known}
use Rattle.append.proofs.entry.gain_entry.Goals as goal

pub complete_mark-requires : goal.complete_mark-requires
complete_mark-requires c =
    let n = c.mark_count-k.ensures in
    let r = raised_in c.args.d c.requires.0 c.requires.1 c.raise_marks.ensures in
    (r.0, omega (arith, r.1))

pub remove_outside-requires : goal.remove_outside-requires
remove_outside-requires c =
    let a = c.args in
    let f = found_some by_itself c.args.id (dispatcher_nth (decode c.args.store.now) c.args.d).outside (sym c.in-Some.is ∙ c.find_outside-found.ensures) in
    let r = completed_in a.d c.requires.0 c.requires.1 c.raise_marks.ensures c.mark_count-k.result c.complete_mark.ensures in
    (r.0, rw r.1 f.1)

pub returns-in-Some : goal.returns-in-Some
returns-in-Some c =
    let a = c.args in
    let p = c.requires in
    let s = decode a.store.now in
    let x = dispatcher_nth s a.d in
    let f = found_some by_itself c.args.id (dispatcher_nth (decode c.args.store.now) c.args.d).outside (sym c.in-Some.is ∙ c.find_outside-found.ensures) in
    removed_words a.d p.0 p.1 c.raise_marks.ensures c.mark_count-k.result c.complete_mark.ensures c.in-Some.j c.remove_outside.ensures
    ∙ ap (λ (y : Dispatcher). put a.store.now (set_dispatcher s a.d y))
    (gained_known a.id x c.in-Some.j c.mark_count-k.result p.1.outside_once c.mark_count-k.ensures f.0 f.1)

pub returns-in_default : goal.returns-in_default
returns-in_default c =
    let a = c.args in
    let s = decode a.store.now in
    let x = dispatcher_nth s a.d in
    let f = found_none by_itself a.id x.outside (sym c.in_default.is ∙ c.find_outside-found.ensures) in
    c.raise_marks.ensures
    ∙ ap (λ (y : Dispatcher). put a.store.now (set_dispatcher s a.d y))
    (gained_new a.id x (slot by_itself a.id x.outside) refl f)
