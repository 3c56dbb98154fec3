-- The names that begin the lines of the runner's input, and two words of theirs, as the numbers that they spell in base 256.
use Rattle.std.specs.Prelude.{ℕ, cond, eqb, Option, Some, None}
use Rattle.trace_kind.specs.declared.Command.TheVariants as commands
use Rattle.cases_line.specs.declared.name.Name.{Name}
use Rattle.cases_line.specs.declared.name.Name.TheVariants as names

-- the name that a word is: that of the letters beside it, of which the last eight count
abbrev pub name_of : ℕ → Option Name
name_of word =
    -- open
    cond (eqb word 0x6f70656e) (Some names.Open)
    -- append
    (cond (eqb word 0x617070656e64) (Some (names.Call commands.Append))
    -- subscribe
    (cond (eqb word 0x7562736372696265) (Some (names.Call commands.Subscribe))
    -- flow
    (cond (eqb word 0x666c6f77) (Some (names.Call commands.Flow))
    -- ack
    (cond (eqb word 0x61636b) (Some (names.Call commands.Ack))
    -- seek
    (cond (eqb word 0x7365656b) (Some (names.Call commands.Seek))
    -- redeliver
    (cond (eqb word 0x6564656c69766572) (Some (names.Call commands.Redeliver))
    -- close
    (cond (eqb word 0x636c6f7365) (Some (names.Call commands.Close))
    -- push
    (cond (eqb word 0x70757368) (Some (names.Call commands.Push))
    -- balance
    (cond (eqb word 0x62616c616e6365) (Some names.Balance)
    -- row
    (cond (eqb word 0x726f77) (Some names.Row) None))))))))))

-- plain
abbrev pub PLAIN : ℕ
PLAIN = 0x706c61696e

-- start
abbrev pub START : ℕ
START = 0x7374617274
