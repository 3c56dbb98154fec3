-- `subscribe::subscribe_plain` meets its contract: the consumer is put in the state.
use Rattle.command_parts.specs.Parts.{kind_of}
use Rattle.operation_laws.proofs.Frame.{done_with_nothing}
use Rattle.dispatcher.specs.Pairs.{pair_in}
use Rattle.subscribe.proofs.Subscribing.{seats, subscribe_plain}
use Rattle.subscribe.proofs.subscribe_plain.Goals as goal

pub seat_consumer-requires : goal.seat_consumer-requires
seat_consumer-requires c =
    seats c.requires

pub returns : goal.returns
unfolding kind_of
returns c =
    done_with_nothing c.args.store.now _ c.requires.opened.spelt (subscribe_plain c.requires (pair_in c.args.pair)) c.seat_consumer.ensures
