-- A subscribe command as the rules have it.
use Rattle.rules.specs.Calls.{Call}
use Rattle.rules.specs.Calls.Call.{Subscribe}
use Rattle.command_parts.specs.Parts.{kind_of}
use Rattle.subscribe.specs.declared.command.Subscribe as command

-- the call that a command stands for
abbrev pub subscribe_call : command.Subscribe → Call
subscribe_call c = Subscribe c.consumer (kind_of c.kind) (record { topic = c.topic; subscription = c.subscription })
