-- `redeliver::redeliver_plain` meets its contract: too many, or the found positions join nacked.
use mathlib.Core.Path.{◌≡◌, refl}
use native.Mathlib.Omega.{arith}
use lib.ListN.{length, length-append}
use Rattle.rules.specs.State.{ledger_of}
use Rattle.rules.specs.Commands.{found_positions}
use Rattle.layout.specs.Layout.{decode}
use Rattle.layout.specs.Fields.{consumer_nth}
use Rattle.groups.specs.Lent.{groups_in}
use Rattle.groups.proofs.Lists.{groups_read, groups_few}
use Rattle.operation_laws.proofs.Frame.{refused_with, done_with_nothing}
use Rattle.consumer.proofs.Found.{live_in, live_valid, live_slot}
use Rattle.redeliver.proofs.Finds.{found_few}
use Rattle.redeliver.proofs.Plain.{plain_over, plain_joins}
use Rattle.redeliver.proofs.redeliver_plain.Goals as goal

pub nacked_count-requires : goal.nacked_count-requires
nacked_count-requires c = live_in c.requires.0

pub found_count-requires : goal.found_count-requires
found_count-requires c = live_in c.requires.0

pub overflow_add-n : goal.overflow_add-n
overflow_add-n c =
    let a = c.args in
    let h = c.requires.0 in
    let s = decode a.store.now in
    let nk = (consumer_nth s a.i).nacked in
    let fp = found_positions (ledger_of s (consumer_nth s a.i).pair.topic) (groups_in a.groups) in
    let n1 = c.nacked_count.ensures in
    let n2 : c.found_count.result ≡ length fp = c.found_count.ensures in
    let n3 = length-append nk fp in
    let f = (live_in h).nacked_fit in
    let g = found_few (ledger_of s (consumer_nth s a.i).pair.topic) (groups_in a.groups) in
    let m = groups_few a.groups in
    omega arith

pub returns-then-n-gt-MOST_NACKED : goal.returns-then-n-gt-MOST_NACKED
returns-then-n-gt-MOST_NACKED c =
    let a = c.args in
    let h = c.requires.0 in
    let s = decode a.store.now in
    let nk = (consumer_nth s a.i).nacked in
    let fp = found_positions (ledger_of s (consumer_nth s a.i).pair.topic) (groups_in a.groups) in
    let n1 = c.nacked_count.ensures in
    let n2 : c.found_count.result ≡ length fp = c.found_count.ensures in
    let n3 = length-append nk fp in
    refused_with a.store.now _ h.opened.spelt
    (plain_over s a.i _ a.groups.list.now (live_slot h) refl (live_valid h) h.there (groups_in a.groups) (groups_read a.groups) c.requires.1
    (let t = c.if-n-gt-MOST_NACKED.true in omega arith))

pub join_found-requires : goal.join_found-requires
join_found-requires c =
    let a = c.args in
    let h = c.requires.0 in
    let s = decode a.store.now in
    let nk = (consumer_nth s a.i).nacked in
    let fp = found_positions (ledger_of s (consumer_nth s a.i).pair.topic) (groups_in a.groups) in
    let n1 = c.nacked_count.ensures in
    let n2 : c.found_count.result ≡ length fp = c.found_count.ensures in
    let n3 = length-append nk fp in
    (live_in h, let t = c.if-n-gt-MOST_NACKED.false in omega arith)

pub returns : goal.returns
returns c =
    let a = c.args in
    let h = c.requires.0 in
    let s = decode a.store.now in
    let nk = (consumer_nth s a.i).nacked in
    let fp = found_positions (ledger_of s (consumer_nth s a.i).pair.topic) (groups_in a.groups) in
    let n1 = c.nacked_count.ensures in
    let n2 : c.found_count.result ≡ length fp = c.found_count.ensures in
    let n3 = length-append nk fp in
    done_with_nothing a.store.now _ h.opened.spelt
    (plain_joins s a.i _ a.groups.list.now (live_slot h) refl (live_valid h) h.there (groups_in a.groups) (groups_read a.groups) c.requires.1
    (let t = c.if-n-gt-MOST_NACKED.false in omega arith))
    c.join_found.ensures
