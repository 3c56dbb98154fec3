-- `ack::moved` meets its contract: mark-delete stayed, or it moved.
use Rattle.std.proofs.Common.{rules, arith}
use Rattle.rules.specs.Calls.{bit_of}
use Rattle.ack.proofs.moved.Goals as goal

pub returns : goal.returns
unfolding bit_of
returns c = search (rules, arith)
