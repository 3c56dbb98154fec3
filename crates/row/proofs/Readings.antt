-- Every row of the readings comes out as it must, by computation.
use mathlib.Core.Path.{◌≡◌, refl}
use mathlib.Core.List.{map}
use mathlib.Core.Option.{bind}
use Rattle.rules.specs.Push.{record_read, records_read}
use Rattle.rules.specs.Calls.{number_in, value_in}
use Rattle.rules.specs.Book.{records_of}
use Rattle.layout.specs.Calls.{made_words}
use Rattle.trace.specs.Readings.{Row as Reading}
use Rattle.trace.proofs.Readings.{computes as traces_compute}
use Rattle.row.specs.Script.{call_reach, call_record, script_call, all_there, script_calls}
use Rattle.row.specs.Row.{with_room, left_of, given, row_answers, row_records, row_within, row_of, row_answer}
use Rattle.row.specs.Readings.{parts, answered, calls_on, answers_on, records_on, example, of_zeros, form_rows}
use Rattle.row.specs.Readings.{two_more, two_pushes, three_pushes, made_rows, readings}

-- the readings hold
pub readings_hold : map (λ (r : Reading). r.comes_out) readings ≡ map (λ (r : Reading). r.must) readings
unfolding traces_compute bind record_read records_read number_in value_in records_of made_words
    call_reach call_record script_call all_there script_calls
    with_room left_of given row_answers row_records row_within row_of row_answer
    parts answered calls_on answers_on records_on example of_zeros form_rows
    two_more two_pushes three_pushes made_rows readings
readings_hold = refl
