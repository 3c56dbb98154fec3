-- The two numbers of a line are cut at 64, and what follows them is the script.
use Rattle.std.proofs.Common.{arith}
use Rattle.cases_rows.proofs.Lines.{no_row, a_row}
use Rattle.cases_rows.proofs.replay_row.Goals as goal

pub returns-in_default : goal.returns-in_default
returns-in_default g c = let h = c.in_default.len_below in no_row _ _ (omega arith)

pub returns : goal.returns
returns g c = a_row _ _ _ _ c.in-len3-up.len_at_least c.at_most_64.ensures c.at_most_64-room.ensures c.replay_script.ensures
