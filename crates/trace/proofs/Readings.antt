-- Every row of the readings comes out as it must, by computation.
use Prim.Native.Nat.{ℕ}
use mathlib.Core.Path.{◌≡◌, refl}
use mathlib.Core.List.{map}
use mathlib.Core.Option.{bind}
use Rattle.words.specs.Words.{starts}
use Rattle.rules.specs.Book.{records_of}
use Rattle.rules.proofs.Computes.{computes as rules_compute}
use Rattle.decimal.specs.Decimal.{digit, decimal_within, decimal, integer, decimal_from, decimal_read}
use Rattle.trace.specs.Format.{number_from, number, number_bytes, header, record_reach, header_reach, words_in, record_in}
use Rattle.trace.specs.Format.{first_record, records_within, records_by, records, words_bytes, record_bytes}
use Rattle.trace.specs.Calls.{if_so, append_from, subscribe_from, flow_from, ack_from, seek_from, redeliver_from, close_from}
use Rattle.trace.specs.Calls.{push_from, call_from, that_fits, call_of, kind_of, kind_word, target_words, words_of, record_of}
use Rattle.trace.specs.Calls.{calls_bytes, trace_bytes, room_is, recordable}
use Rattle.trace.specs.Text.{number_and, refusal, made, dispatch_line, dispatch_lines, outcome_line, outcome_text, bad_line}
use Rattle.trace.specs.Played.{at_first, record_call, calls_in, played_from, played, before_bad, calls_played}
use Rattle.trace.specs.Readings.{Row, ascii, rec, appends, example, example_rows, header_rows, kind_rows, width_rows, line_rows, decimal_rows, readings}

-- `unfolding computes` opens every definition of traces at once
unfoldable pub computes : ℕ
unfolding rules_compute bind starts records_of
    digit decimal_within decimal integer decimal_from decimal_read
    number_from number number_bytes header record_reach header_reach words_in record_in
    first_record records_within records_by records words_bytes record_bytes
    if_so append_from subscribe_from flow_from ack_from seek_from redeliver_from close_from
    push_from call_from that_fits call_of kind_of kind_word target_words words_of record_of
    calls_bytes trace_bytes room_is recordable
    number_and refusal made dispatch_line dispatch_lines outcome_line outcome_text bad_line
    at_first record_call calls_in played_from played before_bad calls_played
    ascii rec appends example example_rows header_rows kind_rows width_rows line_rows decimal_rows readings
computes = 0

-- the readings hold
pub readings_hold : map (λ (r : Row). r.comes_out) readings ≡ map (λ (r : Row). r.must) readings
unfolding computes
readings_hold = refl
