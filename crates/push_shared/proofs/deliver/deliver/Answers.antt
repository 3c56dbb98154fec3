-- `push_shared::deliver::deliver` meets its contract: the record of the step, and its entry in flight.
use mathlib.Core.Path.{ap, ◌∙◌}
use Rattle.layout.proofs.Placed.{consumer_in}
use Rattle.rules.specs.Push.{flat}
use Rattle.layout.specs.Layout.{decode}
use Rattle.layout.specs.Fields.{dispatcher_nth}
use Rattle.push_laws.specs.Local.{fixed_of}
use Rattle.push_laws.specs.Applied.{record_of}
use Rattle.push_turn.specs.Turns.{step_of}
use Rattle.push_shared.proofs.Records.{one_filled, record_found, flight_found}
use borrow.Author.Rules.{rules}
use Rattle.push_shared.proofs.deliver.deliver.Goals as goal

pub consumer_id-id-requires : goal.consumer_id-id-requires
consumer_id-id-requires c = let p = c.requires in consumer_in p.0.here.canon c.args.step.consumer p.2

pub returns : goal.returns
unfolding step_of
returns c =
    let ws = c.args.store.now in
    let x = step_of c.args.step in
    let f = fixed_of (decode ws) (dispatcher_nth (decode ws) c.args.served.d) in
    let id = c.consumer_id-id.result in
    record {
      words = flight_found ws (decode ws) c.args.served.d id x c.consumer_id-id.ensures (search rules) c.append_flight.ensures;
      records = one_filled c.args.list.now (record_of (decode ws) f x)
          c.write_record.ensures (c.record_to-record.ensures ∙ ap flat (record_found (decode ws) f id x c.consumer_id-id.ensures));
    }
