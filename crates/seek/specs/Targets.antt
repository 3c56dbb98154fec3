-- A seek command as the rules have it.
use Rattle.std.specs.Prelude.{ℕ}
use Rattle.rules.specs.Calls.{Call}
use Rattle.rules.specs.Calls.Call.{Seek}
use Rattle.command_parts.specs.declared.Target as declared
use Rattle.command_parts.specs.Parts.{target_of}
use Rattle.seek.specs.declared.command.Seek as command

-- the call of a consumer's seek
abbrev pub seek_to : ℕ → declared.Target → Call
seek_to consumer target = Seek consumer (target_of target)

-- the call that a command stands for
abbrev pub seek_call : command.Seek → Call
seek_call c = seek_to c.consumer c.target
