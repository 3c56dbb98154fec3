-- Refused rows: they make no calls, so they change nothing; and 1 comes before any other refusal.
use mathlib.Core.Path.{refl, ap}
use Rattle.layout.specs.Layout.{decode}
use Rattle.layout.specs.Calls.{run, with_records}
use Rattle.row.specs.Row.{Row, given, row_answers, row_records, row, row_answer, row_calls}
use Rattle.row.specs.Promises.{RefusedChangeNothing, UnspeltBy1}

-- no calls, no changes
pub refused_change_nothing : RefusedChangeNothing
unfolding RefusedChangeNothing given run row_answers row_records row_calls with_records
refused_change_nothing ws script answers list number value e =
    record {
      words = ap (λ (c : Row). run ws (given (decode ws) list (row_calls c))) e;
      each = ap (λ (c : Row). with_records answers (row_answers (decode ws) (given (decode ws) list (row_calls c)))) e;
      records = ap (λ (c : Row). with_records list (row_records (decode ws) (given (decode ws) list (row_calls c)))) e;
    }

-- words that spell no state
pub unspelt_by_1 : UnspeltBy1
unfolding UnspeltBy1 row row_answer
unspelt_by_1 ws script answers h = rw h refl
