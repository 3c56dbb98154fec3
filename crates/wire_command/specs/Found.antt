-- What the code of this crate answers, by the definitions of the wire: `as_command` ties each reader to its message, and
-- `content_reading` the whole to the reading of a BaseCommand.
use Rattle.std.specs.Prelude.{ℕ, ◌+◌, ◌-◌, ◌≡◌, Bool, cond, List, [], ◌∷◌, ◌++◌, eqb, length, replicate}
use Rattle.std.proofs.Math.Option.{Option, some, map, bind}
use Rattle.rules.specs.State as rules
use Rattle.rules.specs.State.Kind.{plain, shared}
use Rattle.rules.specs.Commands as rules_commands
use Rattle.rules.specs.Commands.Target.{start, to_id}
use Rattle.wire.specs.Fields.{Field, fields}
use Rattle.wire.specs.Select.{numbered, uint64, required}
use Rattle.wire.specs.Ids.{id_of, list_words}
use Rattle.wire.specs.Commands.{target_of, or_16, ACK, REDELIVER}
use Rattle.wire.specs.Commands as wire
use Rattle.wire.specs.Commands.Command.{Subscribe, Flow, Ack, Seek, Redeliver, Close}
use Rattle.wire.specs.Commands.Reading.{read}
use Rattle.command_parts.specs.declared.Kind.{Kind}
use Rattle.command_parts.specs.declared.Target.{Target}
use Rattle.command_parts.specs.Parts.{kind_number}
use Rattle.wire_ids.specs.Groups.{ids_there, Listed}
use Rattle.wire_command.specs.declared.command.Name.{Name}
use Rattle.wire_command.specs.declared.command.Command.{Command}

-- ---- two numbers

-- a uint64 and a number of some width that have to be there
unfoldable pub two_of : (ℕ → Bool) → List ℕ → ℕ → ℕ → Option (ℕ × ℕ)
two_of fits m first second =
    bind (fields m) (λ (fs : List Field).
    bind (required uint64 (numbered first fs)) (λ (u : ℕ).
    bind (required fits (numbered second fs)) (λ (v : ℕ).
    some (u, v))))

-- ---- a seek's target

-- the target that an id's bytes say
unfoldable pub target_in : List ℕ → Option rules_commands.Target
target_in m = bind (fields m) (λ (fs : List Field). map to_id (id_of fs))

-- the target of a seek's bytes
unfoldable pub target_of_bytes : List ℕ → Option rules_commands.Target
target_of_bytes m = bind (fields m) (λ (fs : List Field). target_of m (numbered 3 fs))

-- a target as the code has it
unfoldable pub as_target : rules_commands.Target → Target
as_target start = Target.Start
as_target (to_id id) = Target.Id id.ledger id.entry

-- ---- a command

-- a kind as the code has it
unfoldable pub as_kind : rules.Kind → Kind
as_kind plain = Kind.Plain
as_kind shared = Kind.Shared

-- a name of a message that stands at a place of the input
abbrev pub name_at : ℕ → ℕ → ℕ → Name
name_at at from next = record { start = at + from; size = next - from }

-- a name as the code has it
unfoldable pub as_name : wire.Name → Name
as_name n = record { start = n.start; size = n.size }

-- a command as the code has it; of ids how many words they take
unfoldable pub as_command : wire.Command → Command
as_command (Subscribe consumer request kind topic subscription) =
    Command.Subscribe (record {
      consumer = consumer;
      request = request;
      kind = as_kind kind;
      topic = as_name topic;
      subscription = as_name subscription;
    })
as_command (Flow consumer permits) = Command.Flow consumer permits
as_command (Ack consumer ids) = Command.Ack consumer (length (list_words ids))
as_command (Seek consumer request target) =
    Command.Seek (record { consumer = consumer; request = request; target = as_target target })
as_command (Redeliver consumer ids) = Command.Redeliver consumer (length (list_words ids))
as_command (Close consumer request) = Command.Close consumer request

-- a target in three words
abbrev pub words_of_target : Target → List ℕ
words_of_target Target.Start = 0 ∷ 0 ∷ 0 ∷ []
words_of_target (Target.Id ledger entry) = 1 ∷ ledger ∷ entry ∷ []

-- the eight words of a command
unfoldable pub words_of : Command → List ℕ
words_of (Command.Subscribe s) =
    s.consumer ∷ s.request ∷ kind_number s.kind ∷ s.topic.start ∷ s.topic.size ∷ s.subscription.start ∷ s.subscription.size ∷ 0 ∷ []
words_of (Command.Flow consumer permits) = consumer ∷ 0 ∷ permits ∷ replicate 5 0
words_of (Command.Ack consumer size) = consumer ∷ 0 ∷ size ∷ replicate 5 0
words_of (Command.Seek s) = s.consumer ∷ s.request ∷ words_of_target s.target ++ replicate 3 0
words_of (Command.Redeliver consumer size) = consumer ∷ 0 ∷ size ∷ replicate 5 0
words_of (Command.Close consumer request) = consumer ∷ request ∷ replicate 6 0

-- ---- a command read

-- what is read of a content that is there or not
unfoldable pub content_reading : Option wire.Command → wire.Reading wire.Command
content_reading o = or_16 (map read o)

-- the words of the ids that the message of a type has
unfoldable pub ids_words : ℕ → List ℕ → List ℕ
ids_words kind m = cond (eqb kind ACK) (list_words (ids_there m 3)) (cond (eqb kind REDELIVER) (list_words (ids_there m 2)) [])

-- they were read, and a list of some length has room for them
pub record IdsReady (kind : ℕ) (m : List ℕ) (size : ℕ) : Type 0 where
  pub ack : kind ≡ ACK → Listed m 3 size
  pub redeliver : kind ≡ REDELIVER → Listed m 2 size
