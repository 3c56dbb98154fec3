-- The names of a Subscribe lie inside the input: each is a part of its message, and the message is a part of the input.
use Prim.Native.Nat.{ℕ, ◌+◌, ◌≤◌}
use mathlib.Core.List.{List}
use native.Mathlib.Omega.{arith}
use lib.ListN.{length}
use Rattle.wire.specs.Fields.{Field}
use Rattle.wire.specs.Select.{bytes_of}
use Rattle.wire.specs.Commands.{Command, name}
use Rattle.wire.specs.Commands.Command.{Subscribe, Flow, Ack, Seek, Redeliver, Close}
use Rattle.wire.specs.Promises.{NamesInside}
use Rattle.wire.proofs.Fields.{In, part_length}
use Rattle.wire.proofs.Commands.{Holds, command_gives}

-- the names that a command has end by a place
EndsBy : ℕ → Command → Type 0
EndsBy n (Subscribe consumer request kind topic subscription) =
    (topic.start + topic.size ≤ n) × (subscription.start + subscription.size ≤ n)
EndsBy n (Flow consumer permits) = Unit {0}
EndsBy n (Ack consumer ids) = Unit {0}
EndsBy n (Seek consumer request target) = Unit {0}
EndsBy n (Redeliver consumer ids) = Unit {0}
EndsBy n (Close consumer request) = Unit {0}

-- a name in a part of the input ends by the input's end
name_ends : (m : List ℕ) (f g : Field) → In m f → In (bytes_of m f) g → (name f.start g).start + (name f.start g).size ≤ length m
unfolding name
name_ends m f g h k = let n = part_length m f h in omega arith

-- so do the names of every command in a part
ends : (m : List ℕ) (f : Field) → In m f → Holds (EndsBy (length m)) f.start (bytes_of m f)
unfolding EndsBy
ends m f h =
    record {
      subscribes = λ consumer request kind topic subscription t s. (name_ends m f topic h t, name_ends m f subscription h s);
      flows = λ consumer permits. tt;
      acks = λ consumer ids l. tt;
      seeks = λ consumer request target. tt;
      redelivers = λ consumer ids l. tt;
      closes = λ consumer request. tt;
    }

-- the names of a Subscribe that is read lie inside the input
pub names_inside : NamesInside
unfolding NamesInside EndsBy
names_inside m consumer request kind topic subscription =
    command_gives (EndsBy (length m)) m (ends m) (Subscribe consumer request kind topic subscription)
