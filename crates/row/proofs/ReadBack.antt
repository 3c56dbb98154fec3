-- Scripts are read back: what is written of calls is read as these calls, and a record is read as a trace's is.
use Prim.Native.Nat.{ℕ, ◌+◌, ◌≤◌}
use mathlib.Core.Path.{◌≡◌, refl, ap, ap₂, ◌∙◌}
use mathlib.Core.Bool.{◌&&◌}
use mathlib.Core.List.{List, [], ◌∷◌, ◌++◌}
use mathlib.Core.Option.{Option, bind}
use native.Mathlib.Omega.{arith}
use lib.Dec.{leb}
use lib.ListN.{length, drop, length-append}
use lib.Seq.{take_at, drop_at}
use borrow.Author.Tests.{leb-true}
use Rattle.words.proofs.Check.{and_left, and_right}
use Rattle.rules.specs.Table.{all}
use Rattle.rules.specs.Calls.{Call, fits}
use Rattle.trace.specs.Format.{MOST_WORDS}
use Rattle.trace.specs.Format.Reach.{ends}
use Rattle.trace.specs.Calls.{kind_of, words_of, room_is, recordable}
use Rattle.trace.specs.Played.{ROOM, record_call}
use Rattle.trace.proofs.Records.{reaches_in}
use Rattle.trace.proofs.ReadBack.{call_back}
use Rattle.layout.proofs.Slices.{word}
use Rattle.row.specs.Script.{FRONT_WORDS, call_size, call_reach, call_record, script_call, script_calls, call_words, script_words}
use Rattle.row.specs.Promises.{ScriptsReadBack, ReadAsInTraces}
use Rattle.row.proofs.Script.{joined, script_empty, script_first}
use Rattle.row.proofs.Given.{with_any_room}

-- ---- as in traces

-- the room of a trace's push is the player's, whatever else is read is the same
pub read_as_in_traces : ReadAsInTraces
unfolding ReadAsInTraces record_call script_call
read_as_in_traces r = with_any_room ROOM r.kind r.words (word ROOM (omega arith))

-- ---- read back

module _ (x : Call) (more : List ℕ) (few : length (words_of x) ≤ MOST_WORDS) where
  -- how many words there are
  length_call : length (call_words x ++ more) ≡ call_size (length (words_of x)) + length more
  unfolding call_words
  length_call = let e = length-append (words_of x) more in omega arith

  -- a call ends where it was written
  call_ends : call_reach (call_words x ++ more) ≡ ends (call_size (length (words_of x)))
  unfolding call_reach call_words
  call_ends =
      let l : length (call_words x ++ more) ≡ call_size (length (words_of x)) + length more = length_call in
      reaches_in (length (call_words x ++ more)) FRONT_WORDS (length (words_of x)) (call_size (length (words_of x))) (omega arith) few (omega arith)

  -- it is the record of its kind and words
  record_is : call_record (call_words x ++ more) ≡ record { kind = kind_of x; words = words_of x }
  unfolding call_record call_words
  record_is = ap (λ (l : List ℕ). record { kind = kind_of x; words = l }) (take_at (words_of x) more (length (words_of x)) refl)

  -- and what follows it is left
  rest_is : drop (call_size (length (words_of x))) (call_words x ++ more) ≡ more
  unfolding call_words
  rest_is =
      let written : length (call_words x) ≡ call_size (length (words_of x)) = omega arith in
      drop_at (call_words x) more (call_size (length (words_of x))) written

-- the script of calls is read as these calls
pub scripts_read_back : ScriptsReadBack
unfolding ScriptsReadBack script_words all script_call joined bind recordable
scripts_read_back [] h = script_empty
scripts_read_back (x ∷ calls) h =
    let more = script_words calls in
    let one = and_left (recordable 0 x) (all (recordable 0) calls) h in
    let a = and_left (fits x && leb (length (words_of x)) MOST_WORDS) (room_is 0 x) one in
    let few : length (words_of x) ≤ MOST_WORDS = leb-true (length (words_of x)) MOST_WORDS (and_right (fits x) _ a) in
    script_first (call_words x ++ more) _ (call_ends x more few)
    ∙ ap₂ (λ (o : Option Call) (l : Option (List Call)). joined o l)
    (ap script_call (record_is x more few) ∙ call_back 0 x one)
    (ap script_calls (rest_is x more few) ∙ scripts_read_back calls (and_right (recordable 0 x) (all (recordable 0) calls) h))
