-- `seek::seek_live` meets its contract: the cursor is written, then the nacked entries are cleared.
use mathlib.Core.Path.{◌≡◌, refl, sym, ap, ◌∙◌}
use mathlib.Core.List.{[]}
use Prim.Native.Nat.{ℕ}
use Rattle.layout.specs.Layout.{decode}
use Rattle.rules.specs.State.{Consumer, ledger_of}
use Rattle.rules.specs.Commands.{target_position, with_reading}
use Rattle.layout.specs.Fields.{consumer_nth}
use Rattle.layout.proofs.Placed.{shaped_reading}
use Rattle.command_parts.specs.Parts.{target_of}
use Rattle.operation_laws.proofs.Frame.{done_with, value_cursor, consumer_twice, consumer_still_in}
use Rattle.consumer.proofs.Found.{live_canon, live_in, live_valid, live_slot}
use Rattle.seek.proofs.Seeks.{seek_found}
use Rattle.seek.proofs.seek_live.Goals as goal

pub topic-number-requires : goal.topic-number-requires
topic-number-requires c = live_in c.requires

pub target_position-cursor-requires : goal.target_position-cursor-requires
target_position-cursor-requires c = live_canon c.requires

pub set_cursor-requires : goal.set_cursor-requires
set_cursor-requires c = live_in c.requires

pub clear_nacked-requires : goal.clear_nacked-requires
clear_nacked-requires c =
    let a = c.args in
    let h = c.requires in
    let s = decode a.store.now in
    let x = consumer_nth s a.i in
    let k = c.target_position-cursor.result in
    consumer_still_in a.store.now s a.i (with_reading x k x.nacked) (live_canon h).shaped (sym h.opened.E)
    (shaped_reading x k x.nacked (live_in h).nacked_fit)
    c.set_cursor.ensures h.there

pub returns : goal.returns
unfolding with_reading
returns c =
    let a = c.args in
    let h = c.requires in
    let s = decode a.store.now in
    let x = consumer_nth s a.i in
    let k = c.target_position-cursor.result in
    let p : k ≡ target_position (ledger_of s x.pair.topic) (target_of a.target) =
    c.target_position-cursor.ensures ∙ ap (λ (n : ℕ). target_position (ledger_of s n) (target_of a.target)) c.topic-number.ensures in
    done_with a.store.now _ h.opened.spelt k _
    (seek_found s a.i _ (target_of a.target) (live_slot h) refl (live_valid h) h.there k p)
    (value_cursor k) refl
    (consumer_twice a.store.now s a.i (with_reading x k x.nacked) (λ (y : Consumer). with_reading y y.cursor []) (live_canon h).shaped
    (shaped_reading x k x.nacked (live_in h).nacked_fit) h.there c.set_cursor.ensures c.clear_nacked.ensures)
