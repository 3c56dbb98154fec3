-- `balance::is_under` meets its contract: a plain consumer is not, of a shared one the pairs are compared.
use mathlib.Core.Path.{ap}
use Rattle.layout.specs.Records.{flag_of}
use Rattle.layout.specs.Layout.{decode}
use Rattle.layout.specs.Fields.{consumer_nth, dispatcher_nth}
use Rattle.consumer.proofs.Records.{told_plain, told_shared}
use Rattle.balance.proofs.Balances.{under_plain, under_shared}
use Rattle.balance.proofs.is_under.Goals as goal

pub returns-in-Plain : goal.returns-in-Plain
returns-in-Plain c =
    let a = c.args in
    let s = decode a.store.now in
    under_plain (dispatcher_nth s a.d).pair (consumer_nth s a.i) (ap flag_of (told_plain c.in-Plain.is c.kind.ensures))

pub returns-in-Shared : goal.returns-in-Shared
returns-in-Shared c =
    let a = c.args in
    let s = decode a.store.now in
    under_shared (dispatcher_nth s a.d).pair (consumer_nth s a.i) (ap flag_of (told_shared c.in-Shared.is c.kind.ensures)) c.pair.ensures c.is_of_pair.ensures
