-- The kind of a consumer and the target of a seek as the rules have them.
use Rattle.std.specs.Prelude.{ℕ}
use Rattle.words.specs.Codec.{bit}
use Rattle.rules.specs.State.{Kind}
use Rattle.rules.specs.State.Kind.{plain, shared}
use Rattle.rules.specs.Commands.{Target}
use Rattle.rules.specs.Commands.Target.{start, to_id}
use Rattle.layout.specs.Records.{flag_of}
use Rattle.message_id.specs.Ids.{id_of}
use Rattle.command_parts.specs.declared.Kind as kind
use Rattle.command_parts.specs.declared.Kind.TheVariants as kinds
use Rattle.command_parts.specs.declared.Target as target
use Rattle.command_parts.specs.declared.Target.TheVariants as targets

-- the kind that the code's enum stands for
unfoldable pub kind_of : kind.Kind → Kind
kind_of kinds.Plain = plain
kind_of kinds.Shared = shared

-- the word that a store has of it: 0 for plain, 1 for shared
abbrev pub kind_number : kind.Kind → ℕ
kind_number k = bit (flag_of (kind_of k))

-- the target that the code's enum stands for
unfoldable pub target_of : target.Target → Target
target_of targets.Start = start
target_of (targets.Id ledger entry) = to_id (id_of ledger entry)
