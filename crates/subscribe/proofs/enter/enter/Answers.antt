-- `subscribe::enter::enter` meets its contract: the consumer, then its ring.
use native.Mathlib.Omega.{arith}
use Rattle.rules.specs.State.Kind.{shared}
use Rattle.rules.specs.Commands.{new_consumer}
use Rattle.command_parts.specs.Parts.{kind_of}
use Rattle.dispatcher.specs.Pairs.{pair_in}
use Rattle.subscribe.proofs.Entering.{joins_after, entered}
use Rattle.subscribe.proofs.enter.enter.Goals as goal

pub join-requires : goal.join-requires
unfolding new_consumer kind_of
join-requires c = joins_after (new_consumer c.args.id shared (pair_in c.args.pair)) c.requires.0 (omega arith) (pair_in c.args.pair) c.seat_consumer.ensures c.requires.1

pub returns : goal.returns
unfolding new_consumer kind_of
returns c = entered (new_consumer c.args.id shared (pair_in c.args.pair)) c.requires.0 (omega arith) (pair_in c.args.pair) c.seat_consumer.ensures c.join.ensures
