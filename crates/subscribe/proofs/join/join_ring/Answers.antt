-- `subscribe::join::join_ring` meets its contract: the id goes to the end of the ring, or is in it.
use mathlib.Core.Path.{◌≡◌, sym, ap, ◌∙◌}
use mathlib.Core.Bool.{true, false}
use borrow.Author.Rules.{rules}
use Prim.Native.Nat.{ℕ}
use Rattle.std.specs.Prelude.{is_some}
use Rattle.std.specs.declared.option.Option.{Option}
use Rattle.rules.specs.State.{Dispatcher}
use Rattle.layout.specs.Layout.{decode, put}
use Rattle.layout.specs.Fields.{dispatcher_nth, set_dispatcher}
use Rattle.dispatcher.proofs.Rings.{member_found}
use Rattle.subscribe.proofs.Joining.{join_stays, join_adds}
use Rattle.subscribe.proofs.join.join_ring.Goals as goal

pub append_ring-requires : goal.append_ring-requires
append_ring-requires c =
    let l = (dispatcher_nth (decode c.args.store.now) c.args.d).attached in
    let missing : is_some c.find_ring.result ≡ false = search rules in
    (c.requires.0, c.requires.1 (sym (member_found c.args.id l) ∙ sym (ap (λ (o : Option ℕ). is_some o) c.find_ring.ensures) ∙ missing))

pub returns-then-is_none : goal.returns-then-is_none
returns-then-is_none c =
    let x = dispatcher_nth (decode c.args.store.now) c.args.d in
    let missing : is_some c.find_ring.result ≡ false = search rules in
    c.append_ring.ensures
    ∙ ap (λ (x : Dispatcher). put c.args.store.now (set_dispatcher (decode c.args.store.now) c.args.d x))
    (join_adds c.args.id x (sym (member_found c.args.id x.attached) ∙ sym (ap (λ (o : Option ℕ). is_some o) c.find_ring.ensures) ∙ missing))

pub returns-else-is_none : goal.returns-else-is_none
returns-else-is_none c =
    let l = (dispatcher_nth (decode c.args.store.now) c.args.d).attached in
    let there : is_some c.find_ring.result ≡ true = search rules in
    join_stays c.args.d c.args.id c.requires.0.canon (sym (member_found c.args.id l) ∙ sym (ap (λ (o : Option ℕ). is_some o) c.find_ring.ensures) ∙ there)
