-- Readings of traces: a table of bytes and of the text that playing them must print. Over the rows stands the sentence of
-- request A4 that they tell; a row would not hold if that sentence were otherwise. A reader can add a row and have the
-- checker compute it.
use Rattle.std.specs.Prelude.{ℕ, zero, suc, ◌-◌, ◌^◌, List, [], ◌∷◌, ◌++◌, length, take, replicate}
use Prim.Native.Char.{code}
use Prim.Native.String as text
use Prim.Native.String.{String}
use Rattle.decimal.specs.Decimal.{decimal}
use Rattle.rules.specs.State.Kind.{plain}
use Rattle.rules.specs.Commands.Target.{start}
use Rattle.rules.specs.Calls.{Call, rule, run}
use Rattle.rules.specs.Calls.Call.{Append, Subscribe, Flow, Ack, Seek, Redeliver, Close, Push}
use Rattle.rules.specs.Readings.{pair_1, shared_1}
use Rattle.trace.specs.Format.{header, number_bytes, words_bytes}
use Rattle.trace.specs.Calls.{trace_bytes}
use Rattle.trace.specs.Text.{outcome_text}
use Rattle.trace.specs.Played.{ROOM, at_first, played}

-- ---- how a reading is taken

-- a text in ASCII
unfoldable pub ascii : String → List ℕ
ascii text.[] = []
ascii (text.◌∷◌ c s) = code c ∷ ascii s

-- a row: what comes out, and what must
pub record Row : Type 0 where
  pub comes_out : List ℕ
  pub must : List ℕ

-- a text that playing some bytes must print
abbrev pub prints : List ℕ → String → Row
prints input s = record { comes_out = played input; must = ascii s }

-- a record of a kind and some words
unfoldable pub rec : ℕ → List ℕ → List ℕ
rec kind ws = kind ∷ number_bytes 2 (length ws) ++ words_bytes ws

-- an append to topic 1, by ledger, entry, handle and batch size
abbrev pub append_1 : ℕ → ℕ → ℕ → ℕ → Call
append_1 ledger entry handle batch =
    Append 1 (record { id = record { ledger = ledger; entry = entry }; handle = handle; batch_size = batch })

-- what playing one record after the header must print
abbrev pub record_prints : ℕ → List ℕ → String → Row
record_prints kind ws s = prints (header ++ rec kind ws) s

-- what playing some calls, as a recorder writes them, must print
abbrev pub calls_print : List Call → String → Row
calls_print calls s = prints (trace_bytes calls) s

-- so many appends to topic 1
unfoldable pub appends : ℕ → List Call
appends zero = []
appends (suc n) = appends n ++ append_1 1 n 5 0 ∷ []

-- what a call after some others must print
abbrev pub last_prints : List Call → Call → String → Row
last_prints calls x s =
    record { comes_out = outcome_text (suc (length calls)) x (rule (run at_first calls) x); must = ascii s }

-- ---- the rows

-- document 02's example, byte by byte
unfoldable pub example : List ℕ
example =
    -- HBT, version 1
    72 ∷ 66 ∷ 84 ∷ 0 ∷ 1
    -- append to topic 1: ledger 1, entry 0, handle 5, batch size 0
    ∷ 1 ∷ 0 ∷ 5 ∷ 0 ∷ 0 ∷ 0 ∷ 0 ∷ 0 ∷ 0 ∷ 0 ∷ 1 ∷ 0 ∷ 0 ∷ 0 ∷ 0 ∷ 0 ∷ 0 ∷ 0 ∷ 1 ∷ 0 ∷ 0 ∷ 0 ∷ 0 ∷ 0 ∷ 0 ∷ 0 ∷ 0
    ∷ 0 ∷ 0 ∷ 0 ∷ 0 ∷ 0 ∷ 0 ∷ 0 ∷ 5 ∷ 0 ∷ 0 ∷ 0 ∷ 0 ∷ 0 ∷ 0 ∷ 0 ∷ 0
    -- subscribe 7, shared, topic 1, subscription 1
    ∷ 2 ∷ 0 ∷ 4 ∷ 0 ∷ 0 ∷ 0 ∷ 0 ∷ 0 ∷ 0 ∷ 0 ∷ 7 ∷ 0 ∷ 0 ∷ 0 ∷ 0 ∷ 0 ∷ 0 ∷ 0 ∷ 1 ∷ 0 ∷ 0 ∷ 0 ∷ 0 ∷ 0 ∷ 0 ∷ 0 ∷ 1
    ∷ 0 ∷ 0 ∷ 0 ∷ 0 ∷ 0 ∷ 0 ∷ 0 ∷ 1
    -- flow of 7: 2
    ∷ 3 ∷ 0 ∷ 2 ∷ 0 ∷ 0 ∷ 0 ∷ 0 ∷ 0 ∷ 0 ∷ 0 ∷ 7 ∷ 0 ∷ 0 ∷ 0 ∷ 0 ∷ 0 ∷ 0 ∷ 0 ∷ 2
    -- push
    ∷ 8 ∷ 0 ∷ 0 ∷ []

-- the example, and its cuts
unfoldable pub example_rows : List Row
example_rows =
    prints example "1 1 0 0\n2 2 0 0\n3 3 0 0\n4 8 0 1\n+ 7 1 0 1\n"
    -- a header alone prints nothing; an input that ends in it: bad 0
    ∷ prints (take 5 example) ""
    ∷ prints (take 4 example) "bad 0\n"
    ∷ prints [] "bad 0\n"
    -- a record that is cut off, in its front or in its words: bad and its number
    ∷ prints (take 6 example) "bad 1\n"
    ∷ prints (take 47 example) "bad 1\n"
    ∷ prints (take 48 example) "1 1 0 0\n"
    ∷ prints (take 50 example) "1 1 0 0\nbad 2\n"
    -- what a recorder writes of these calls
    ∷ record { comes_out = trace_bytes (append_1 1 0 5 0 ∷ shared_1 7 ∷ Flow 7 2 ∷ Push ROOM ∷ []); must = example }
    ∷ []

-- the header
unfoldable pub header_rows : List Row
header_rows =
    -- the mark is wrong, in each of its bytes
    prints (71 ∷ 66 ∷ 84 ∷ 0 ∷ 1 ∷ []) "bad 0\n"
    ∷ prints (72 ∷ 67 ∷ 84 ∷ 0 ∷ 1 ∷ []) "bad 0\n"
    ∷ prints (72 ∷ 66 ∷ 85 ∷ 0 ∷ 1 ∷ []) "bad 0\n"
    -- the version is: 0, 2, and 1 with its low byte first
    ∷ prints (72 ∷ 66 ∷ 84 ∷ 0 ∷ 0 ∷ []) "bad 0\n"
    ∷ prints (72 ∷ 66 ∷ 84 ∷ 0 ∷ 2 ∷ []) "bad 0\n"
    ∷ prints (72 ∷ 66 ∷ 84 ∷ 1 ∷ 0 ∷ []) "bad 0\n"
    -- and the program stops
    ∷ prints (72 ∷ 66 ∷ 84 ∷ 0 ∷ 2 ∷ rec 8 []) "bad 0\n"
    ∷ []

-- the words of each kind, one too few and one too many
unfoldable pub kind_rows : List Row
kind_rows =
    record_prints 1 (1 ∷ 1 ∷ 0 ∷ 5 ∷ 0 ∷ []) "1 1 0 0\n"
    ∷ record_prints 1 (1 ∷ 1 ∷ 0 ∷ 5 ∷ []) "bad 1\n"
    ∷ record_prints 1 (1 ∷ 1 ∷ 0 ∷ 5 ∷ 0 ∷ 0 ∷ []) "bad 1\n"
    ∷ record_prints 2 (7 ∷ 0 ∷ 1 ∷ 1 ∷ []) "1 2 0 0\n"
    ∷ record_prints 2 (7 ∷ 0 ∷ 1 ∷ []) "bad 1\n"
    ∷ record_prints 2 (7 ∷ 0 ∷ 1 ∷ 1 ∷ 0 ∷ []) "bad 1\n"
    ∷ record_prints 3 (7 ∷ 2 ∷ []) "1 3 4 0\n"
    ∷ record_prints 3 (7 ∷ []) "bad 1\n"
    ∷ record_prints 3 (7 ∷ 2 ∷ 0 ∷ []) "bad 1\n"
    ∷ record_prints 4 (7 ∷ []) "1 4 4 0\n"
    ∷ record_prints 4 [] "bad 1\n"
    ∷ record_prints 5 (7 ∷ 0 ∷ []) "1 5 4 0\n"
    ∷ record_prints 5 (7 ∷ 1 ∷ 1 ∷ 0 ∷ []) "1 5 4 0\n"
    ∷ record_prints 5 (7 ∷ []) "bad 1\n"
    ∷ record_prints 5 (7 ∷ 1 ∷ 1 ∷ []) "bad 1\n"
    ∷ record_prints 5 (7 ∷ 1 ∷ 1 ∷ 0 ∷ 0 ∷ []) "bad 1\n"
    ∷ record_prints 6 (7 ∷ []) "1 6 4 0\n"
    ∷ record_prints 6 [] "bad 1\n"
    ∷ record_prints 7 (7 ∷ []) "1 7 0 0\n"
    ∷ record_prints 7 [] "bad 1\n"
    ∷ record_prints 7 (7 ∷ 7 ∷ []) "bad 1\n"
    ∷ record_prints 8 [] "1 8 0 0\n"
    ∷ record_prints 8 (32 ∷ []) "bad 1\n"
    -- no other kind
    ∷ record_prints 0 [] "bad 1\n"
    ∷ record_prints 9 [] "bad 1\n"
    ∷ record_prints 255 (7 ∷ []) "bad 1\n"
    ∷ []

-- a word too wide for its field
unfoldable pub width_rows : List Row
width_rows =
    -- topic and subscription: 8 bits
    record_prints 1 (255 ∷ 1 ∷ 0 ∷ 5 ∷ 0 ∷ []) "1 1 0 0\n"
    ∷ record_prints 1 (256 ∷ 1 ∷ 0 ∷ 5 ∷ 0 ∷ []) "bad 1\n"
    ∷ record_prints 1 (257 ∷ 1 ∷ 0 ∷ 5 ∷ 0 ∷ []) "bad 1\n"
    ∷ record_prints 2 (7 ∷ 1 ∷ 255 ∷ 255 ∷ []) "1 2 0 0\n"
    ∷ record_prints 2 (7 ∷ 1 ∷ 256 ∷ 1 ∷ []) "bad 1\n"
    ∷ record_prints 2 (7 ∷ 1 ∷ 1 ∷ 256 ∷ []) "bad 1\n"
    -- a grant: 32
    ∷ record_prints 3 (7 ∷ (2 ^ 32 - 1) ∷ []) "1 3 4 0\n"
    ∷ record_prints 3 (7 ∷ 2 ^ 32 ∷ []) "bad 1\n"
    -- subscribe's kind: 0 or 1; seek's target: 0 with two words, 1 with four
    ∷ record_prints 2 (7 ∷ 2 ∷ 1 ∷ 1 ∷ []) "bad 1\n"
    ∷ record_prints 5 (7 ∷ 1 ∷ []) "bad 1\n"
    ∷ record_prints 5 (7 ∷ 0 ∷ 1 ∷ 0 ∷ []) "bad 1\n"
    ∷ record_prints 5 (7 ∷ 2 ∷ 1 ∷ 0 ∷ []) "bad 1\n"
    -- all others 64: a batch size past 256 is append's to refuse
    ∷ record_prints 1 (1 ∷ (2 ^ 64 - 1) ∷ (2 ^ 64 - 1) ∷ (2 ^ 64 - 1) ∷ 256 ∷ []) "1 1 0 0\n"
    ∷ record_prints 1 (1 ∷ 1 ∷ 0 ∷ 5 ∷ (2 ^ 64 - 1) ∷ []) "1 1 8 0\n"
    ∷ record_prints 7 ((2 ^ 64 - 1) ∷ []) "1 7 0 0\n"
    -- a count of at most 1,217, high byte first; the bytes of one more are not waited for
    ∷ record_prints 4 (replicate 1217 0) "1 4 4 0\n"
    ∷ record_prints 4 (replicate 1218 0) "bad 1\n"
    ∷ prints (header ++ 4 ∷ 4 ∷ 194 ∷ []) "bad 1\n"
    ∷ prints (header ++ 7 ∷ 1 ∷ 0 ∷ number_bytes 8 7) "bad 1\n"
    ∷ []

-- what is printed of calls
unfoldable pub line_rows : List Row
line_rows =
    -- a list that is not of the form is the operation's to refuse: 10
    calls_print (shared_1 7 ∷ Ack 7 (1 ∷ 0 ∷ []) ∷ Redeliver 7 (1 ∷ []) ∷ []) "1 2 0 0\n2 4 10 0\n3 6 10 0\n"
    -- a negative balance has a minus
    ∷ calls_print (append_1 1 0 5 100 ∷ shared_1 7 ∷ Flow 7 1 ∷ Push ROOM ∷ []) "1 1 0 0\n2 2 0 0\n3 3 0 0\n4 8 0 1\n+ 7 1 0 -99\n"
    -- the largest numbers; of a plain consumer
    ∷ calls_print
    (append_1 (2 ^ 64 - 1) (2 ^ 64 - 1) 5 0 ∷ Subscribe (2 ^ 64 - 1) plain pair_1 ∷ Flow (2 ^ 64 - 1) (2 ^ 32 - 1) ∷ Push ROOM ∷ [])
    "1 1 0 0\n2 2 0 0\n3 3 0 0\n4 8 0 1\n+ 18446744073709551615 18446744073709551615 18446744073709551615 4294967294\n"
    -- several dispatches, in dispatch order; numbers of two digits
    ∷ calls_print
    (append_1 1 9 5 0 ∷ append_1 1 10 5 0 ∷ shared_1 7 ∷ shared_1 8 ∷ Flow 7 10 ∷ Flow 8 11 ∷ Push ROOM ∷ Close 7 ∷ Seek 8 start ∷ Push ROOM ∷ [])
    "1 1 0 0\n2 1 0 0\n3 2 0 0\n4 2 0 0\n5 3 0 0\n6 3 0 0\n7 8 0 2\n+ 7 1 9 9\n+ 8 1 10 10\n8 7 0 0\n9 5 0 0\n10 8 0 1\n+ 8 1 9 9\n"
    -- 15 where more are due than the list of 32 records holds: none is made
    ∷ last_prints (appends 17 ++ Subscribe 7 plain pair_1 ∷ Subscribe 8 plain pair_1 ∷ Flow 7 16 ∷ Flow 8 17 ∷ []) (Push ROOM) "22 8 15 0\n"
    ∷ last_prints (appends 17 ++ Subscribe 7 plain pair_1 ∷ Subscribe 8 plain pair_1 ∷ Flow 7 1 ∷ []) (Push ROOM) "21 8 0 1\n+ 7 1 0 0\n"
    -- the program stops at what is bad
    ∷ prints (header ++ rec 8 [] ++ rec 9 [] ++ rec 8 []) "1 8 0 0\nbad 2\n"
    ∷ []

-- numbers in decimal
unfoldable pub decimal_rows : List Row
decimal_rows =
    record { comes_out = decimal 0; must = ascii "0" }
    ∷ record { comes_out = decimal 9; must = ascii "9" }
    ∷ record { comes_out = decimal 10; must = ascii "10" }
    ∷ record { comes_out = decimal 1217; must = ascii "1217" }
    ∷ record { comes_out = decimal (2 ^ 64 - 1); must = ascii "18446744073709551615" }
    ∷ []

-- the rows
unfoldable pub readings : List Row
readings = example_rows ++ header_rows ++ kind_rows ++ width_rows ++ line_rows ++ decimal_rows
