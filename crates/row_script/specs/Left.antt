-- The calls that are left of a script.
use Rattle.std.specs.Prelude.{List, []}
use Rattle.rules.specs.Table.{or_else}
use Rattle.rules.specs.Calls.{Call}
use Rattle.row.specs.Script.{script_calls}
use Rattle.row_script.specs.declared.calls.Calls.{Calls}

-- all of them
abbrev pub calls_in : Calls → List Call
calls_in c = or_else (script_calls c.script.now) []
