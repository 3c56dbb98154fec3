-- Lines written: numbers with a character after them, a dispatch's line, and lines one after the other.
use Rattle.std.proofs.Common.{◌≡◌, ℕ, suc, ◌+◌, ◌-◌, ◌*◌, ◌%◌, ◌^◌, ◌<◌, ◌≤◌, List, ◌++◌, get_or, drop, set, length}
use Rattle.std.proofs.Common.{refl, ap, ◌∙◌, add-zero, arith, drop-drop}
use lib.Seq.{drop-cons}
use lib.ListN.{drop_of_length-le}
use lib.IntN.{sub_ℕ}
use Rattle.words.specs.Wrote.{Wrote}
use Rattle.words.proofs.Writers.{wrote_byte, wrote_within, and_then, Left, left_start, left_on, left_end}
use Rattle.rules.specs.Permits.{reading, zero_permits}
use Rattle.record.specs.declared.Dispatch as declared
use Rattle.record.specs.Flat.{record_at}
use Rattle.rules.specs.Push.{record_read, records_read}
use Rattle.rules.specs.Calls.{number_in}
use Rattle.decimal.specs.Decimal.{decimal, integer}
use Rattle.trace.specs.Text.{BLANK, NEWLINE, number_and, PLUS_AND_BLANK, dispatch_line, dispatch_lines, outcome_line}
use Rattle.trace.specs.Played.{ROOM}
use Rattle.told.specs.Told.{dispatches_told}
use Rattle.trace_lines.specs.Told.{lines_bytes, permits_text, text_told}

-- digits, and a character after them
pub number_wrote : {before now : List ℕ} {at end : ℕ} (number mark : ℕ) → Wrote 20 before at (decimal number) now end
    → Wrote 21 before at (number_and number mark) (set now end mark) (end + 1)
unfolding number_and
number_wrote {now = now} {end = end} number mark w = and_then w (wrote_byte now end mark)

-- an integer, and the end of the line after it
pub permits_wrote : {before now : List ℕ} {at end : ℕ} (w p : ℕ) → p ≡ (w + 2 ^ 62) % 2 ^ 64
    → Wrote 21 before at (integer (sub_ℕ p zero_permits)) now end → Wrote 22 before at (permits_text w) (set now end NEWLINE) (end + 1)
unfolding permits_text reading
permits_wrote {now = now} {end = end} w p e r = rw (← e) (and_then r (wrote_byte now end NEWLINE))

-- Of a text i characters are written, and the others, laid from here on, finish it.
abbrev pub Text : List ℕ → ℕ → List ℕ → List ℕ → ℕ → Type 0
Text before at text now i = Left before at text now (at + i) (drop i text)

pub text_start : (before : List ℕ) (at : ℕ) (text : List ℕ) → Text before at text before 0
text_start before at text = rw (add-zero at) (left_start before at text)

pub text_on : {before now : List ℕ} {at i : ℕ} (text : List ℕ) → i < length text → Text before at text now i
    → Text before at text (set now (at + i) (get_or text i 0)) (i + 1)
text_on {now = now} {at = at} {i = i} text h l =
    let e : at + i + 1 ≡ at + (i + 1) = omega arith in
    let f : suc i ≡ i + 1 = omega arith in
    rw (e, f) at (left_on (rw (drop-cons text i 0 h) at l) (wrote_byte now (at + i) (get_or text i 0)))

pub text_end : {before now : List ℕ} {at i : ℕ} (text : List ℕ) → i ≡ length text → Text before at text now i
    → Wrote (length text) before at text now (at + length text)
text_end {at = at} text e l =
    left_end (length text) (omega arith) (rw (drop_of_length-le text {i = length text} (omega arith)) at (rw e at l))

-- ---- the line of a dispatch

-- its five parts, from the fields of the record that its words spell
pub dispatch_wrote : {a b c d e f : List ℕ} {at p q r s end : ℕ} {x : declared.Dispatch} (ws : List ℕ) → x ≡ record_at ws 0
    → Wrote 2 a at PLUS_AND_BLANK b p → Wrote 21 b p (number_and x.consumer BLANK) c q
    → Wrote 21 c q (number_and x.ledger BLANK) d r → Wrote 21 d r (number_and x.entry BLANK) e s
    → Wrote 22 e s (permits_text x.permits) f end → Wrote 87 a at (dispatch_line (record_read ws)) f end
unfolding dispatch_line record_read permits_text record_at
dispatch_wrote ws read v w x y z =
    rw (
      ← ap (λ (t : declared.Dispatch). t.consumer) read,
      ← ap (λ (t : declared.Dispatch). t.ledger) read,
      ← ap (λ (t : declared.Dispatch). t.entry) read,
      ← ap (λ (t : declared.Dispatch). t.permits) read,
    )
    (and_then (and_then (and_then (and_then v w) x) y) z)

-- ---- lines one after the other

-- Of some records i are written, and the lines of the others, laid from here on, finish the lines of all.
pub record Lines (before : List ℕ) (at : ℕ) (list : List ℕ) (count : ℕ) (now : List ℕ) (here i : ℕ) : Type 0 where
  pub near : here ≤ at + 87 * i
  pub rest :
      Left before at (dispatch_lines (records_read count list)) now here
      (dispatch_lines (records_read (count - i) (drop (13 * i) list)))

-- none at first
pub lines_start : (before : List ℕ) (at : ℕ) (list : List ℕ) (count : ℕ) → Lines before at list count before at 0
lines_start before at list count =
    let e : count - 0 ≡ count = omega arith in
    record { near = omega arith; rest = rw e (left_start before at (dispatch_lines (records_read count list))) }

-- the lines of records from one on
lines_first : (n : ℕ) (list : List ℕ)
    → dispatch_lines (records_read (suc n) list) ≡ dispatch_line (record_read list) ++ dispatch_lines (records_read n (drop 13 list))
unfolding dispatch_lines records_read
lines_first n list = refl

-- one record more
pub lines_on : {before list now after : List ℕ} {at count here next i : ℕ} → Lines before at list count now here i → i < count
    → Wrote 87 now here (dispatch_line (record_read (drop (13 * i) list))) after next → Lines before at list count after next (i + 1)
lines_on {list = list} {count = count} {i = i} p h w =
    let e : count - i ≡ suc (count - (i + 1)) = omega arith in
    let f : 13 * i + 13 ≡ 13 * (i + 1) = omega arith in
    let g : drop 13 (drop (13 * i) list) ≡ drop (13 * (i + 1)) list = drop-drop 13 (13 * i) list ∙ ap (λ (k : ℕ). drop k list) f in
    record {
      near = omega arith;
      rest = rw (← g) (left_on (rw (e, lines_first (count - (i + 1)) (drop (13 * i) list)) at p.rest) w);
    }

-- all of them
pub lines_end : {before list now : List ℕ} {at count here i : ℕ} → Lines before at list count now here i → i ≡ count
    → Wrote (87 * count) before at (dispatch_lines (records_read count list)) now here
unfolding dispatch_lines records_read
lines_end {list = list} {count = count} {i = i} p h =
    let e : count - i ≡ 0 = omega arith in
    let l = rw e at p.rest in
    left_end (87 * count) (omega (arith, l.ends, p.near)) l

-- ---- all lines of a call

-- the line of the record, and then those of its dispatches
pub outcome_wrote : {a b c : List ℕ} {next end : ℕ} (number kind answer code made : ℕ) (list : List ℕ) → code ≡ number_in answer
    → made ≡ dispatches_told kind answer → made ≤ ROOM → Wrote 84 a 0 (outcome_line number kind code made) b next
    → Wrote (87 * made) b next (dispatch_lines (records_read made list)) c end → Wrote lines_bytes a 0 (text_told number kind answer list) c end
unfolding text_told
outcome_wrote number kind answer code made list d e few v w = rw (← d, ← e) (wrote_within (omega arith) (and_then v w))
