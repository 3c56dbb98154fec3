-- The commands that a terminal sends, read from the bytes of a BaseCommand: its type is field 1, and the message of a type is
-- the field of the type's number.
use Rattle.std.specs.Prelude.{ℕ, ◌+◌, ◌-◌, Bool, cond, ◌||◌, List, [], ◌∷◌, eqb}
use Rattle.std.proofs.Math.Option.{Option, none, some, map, bind}
use Rattle.rules.specs.State.{Kind}
use Rattle.rules.specs.State.Kind.{plain, shared}
use Rattle.rules.specs.Groups.{Group}
use Rattle.rules.specs.Commands.{Target}
use Rattle.rules.specs.Commands.Target.{start, to_id}
use Rattle.wire.specs.Fields.{Field, fields}
use Rattle.wire.specs.Select.{numbered, uint64, uint32, int32, required, part, bytes_of}
use Rattle.wire.specs.Ids.{id_of, id_list}

-- the type of CommandSubscribe
abbrev pub SUBSCRIBE : ℕ
SUBSCRIBE = 4

-- the type of CommandAck
abbrev pub ACK : ℕ
ACK = 10

-- the type of CommandFlow
abbrev pub FLOW : ℕ
FLOW = 11

-- the type of CommandCloseConsumer
abbrev pub CLOSE_CONSUMER : ℕ
CLOSE_CONSUMER = 16

-- the type of CommandRedeliverUnacknowledgedMessages
abbrev pub REDELIVER : ℕ
REDELIVER = 20

-- the type of CommandSeek
abbrev pub SEEK : ℕ
SEEK = 28

-- a part of the input: where it starts, and how many bytes it has
pub record Name : Type 0 where
  pub start : ℕ
  pub size : ℕ

-- a command with what was read of it: the consumer first, the request where there is one
pub data Command : Type 0 where
  Subscribe : ℕ → ℕ → Kind → Name → Name → Command
  Flow : ℕ → ℕ → Command
  Ack : ℕ → List Group → Command
  Seek : ℕ → ℕ → Target → Command
  Redeliver : ℕ → List Group → Command
  Close : ℕ → ℕ → Command

-- what a reader answers: a refusal's number, or what it read
pub data Reading (A : Type 0) : Type 0 where
  refused : ℕ → Reading A
  read : A → Reading A

-- 16 where the bytes are not well formed or lack what is read
unfoldable pub or_16 : {A : Type 0} → Option (Reading A) → Reading A
or_16 none = refused 16
or_16 (some r) = r

-- the type of a BaseCommand
unfoldable pub type_of : List ℕ → Option ℕ
type_of m = bind (fields m) (λ (fs : List Field). required int32 (numbered 1 fs))

-- the message of a type in a BaseCommand, a part of it
unfoldable pub message_of : List ℕ → ℕ → Option Field
message_of m type = bind (fields m) (λ (fs : List Field). part (numbered type fs))

-- a BaseCommand read by a reader of some types: 17 where it is well formed and its type is none of them
unfoldable pub base : {A : Type 0} → (ℕ → Bool) → (ℕ → Field → Option A) → List ℕ → Reading A
base takes content m =
    or_16 (bind (type_of m) (λ (type : ℕ). cond (takes type)
    (bind (message_of m type) (λ (f : Field). map read (content type f)))
    (some (refused 17))))

-- any sub type but Shared, which is 1, means plain
unfoldable pub kind_of : ℕ → Kind
kind_of sub_type = cond (eqb sub_type 1) shared plain

-- a name of a message that stands at a place of the input
unfoldable pub name : ℕ → Field → Name
name at f = record { start = at + f.start; size = f.next - f.start }

-- CommandSubscribe: topic 1, subscription 2, subType 3, consumer_id 4, request_id 5
unfoldable pub subscribe_of : ℕ → List ℕ → Option Command
subscribe_of at m =
    bind (fields m) (λ (fs : List Field).
    bind (part (numbered 1 fs)) (λ (topic : Field).
    bind (part (numbered 2 fs)) (λ (subscription : Field).
    bind (required int32 (numbered 3 fs)) (λ (sub_type : ℕ).
    bind (required uint64 (numbered 4 fs)) (λ (consumer : ℕ).
    bind (required uint64 (numbered 5 fs)) (λ (request : ℕ).
    some (Subscribe consumer request (kind_of sub_type) (name at topic) (name at subscription))))))))

-- CommandFlow: consumer_id 1, messagePermits 2
unfoldable pub flow_of : List ℕ → Option Command
flow_of m =
    bind (fields m) (λ (fs : List Field).
    bind (required uint64 (numbered 1 fs)) (λ (consumer : ℕ).
    bind (required uint32 (numbered 2 fs)) (λ (permits : ℕ).
    some (Flow consumer permits))))

-- CommandAck: consumer_id 1, ack_type 2, whose value is ignored, message_id 3
unfoldable pub ack_of : List ℕ → Option Command
ack_of m =
    bind (fields m) (λ (fs : List Field).
    bind (required uint64 (numbered 1 fs)) (λ (consumer : ℕ).
    bind (required int32 (numbered 2 fs)) (λ (ack_type : ℕ).
    bind (id_list m (numbered 3 fs)) (λ (ids : List Group).
    some (Ack consumer ids)))))

-- a seek's target: the start where there is no id
unfoldable pub target_of : List ℕ → List Field → Option Target
target_of m [] = some start
target_of m (f ∷ fs) =
    bind (part (f ∷ fs)) (λ (id : Field).
    bind (fields (bytes_of m id)) (λ (of_id : List Field).
    map to_id (id_of of_id)))

-- CommandSeek: consumer_id 1, request_id 2, message_id 3
unfoldable pub seek_of : List ℕ → Option Command
seek_of m =
    bind (fields m) (λ (fs : List Field).
    bind (required uint64 (numbered 1 fs)) (λ (consumer : ℕ).
    bind (required uint64 (numbered 2 fs)) (λ (request : ℕ).
    bind (target_of m (numbered 3 fs)) (λ (target : Target).
    some (Seek consumer request target)))))

-- CommandRedeliverUnacknowledgedMessages: consumer_id 1, message_ids 2
unfoldable pub redeliver_of : List ℕ → Option Command
redeliver_of m =
    bind (fields m) (λ (fs : List Field).
    bind (required uint64 (numbered 1 fs)) (λ (consumer : ℕ).
    bind (id_list m (numbered 2 fs)) (λ (ids : List Group).
    some (Redeliver consumer ids))))

-- CommandCloseConsumer: consumer_id 1, request_id 2
unfoldable pub close_of : List ℕ → Option Command
close_of m =
    bind (fields m) (λ (fs : List Field).
    bind (required uint64 (numbered 1 fs)) (λ (consumer : ℕ).
    bind (required uint64 (numbered 2 fs)) (λ (request : ℕ).
    some (Close consumer request))))

-- whether the reader of commands takes a type
unfoldable pub takes_command : ℕ → Bool
takes_command type =
    eqb type SUBSCRIBE || (eqb type ACK || (eqb type FLOW || (eqb type CLOSE_CONSUMER || (eqb type REDELIVER || eqb type SEEK))))

-- the command of a type, from its message at a place of the input
unfoldable pub command_of : ℕ → ℕ → List ℕ → Option Command
command_of type at m =
    cond (eqb type SUBSCRIBE) (subscribe_of at m)
    (cond (eqb type ACK) (ack_of m)
    (cond (eqb type FLOW) (flow_of m)
    (cond (eqb type CLOSE_CONSUMER) (close_of m)
    (cond (eqb type REDELIVER) (redeliver_of m)
    (cond (eqb type SEEK) (seek_of m)
    none)))))

-- a command read from bytes
unfoldable pub command : List ℕ → Reading Command
command m = base takes_command (λ (type : ℕ) (f : Field). command_of type f.start (bytes_of m f)) m
