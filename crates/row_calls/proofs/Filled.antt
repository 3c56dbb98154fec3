-- How much of its list a call filled: as many words as its answer says, for the records of a push that was done.
use Prim.Native.Nat.{ℕ, ◌^◌, ◌<◌}
use mathlib.Core.Path.{◌≡◌, refl, sym, ap, ◌∙◌}
use mathlib.Core.Bool.{Bool, true, false, cond}
use mathlib.Core.List.{List}
use native.Mathlib.Omega.{arith}
use lib.Dec.{eqb, leb}
use lib.ListN.{length}
use Rattle.rules.specs.State.{State}
use Rattle.rules.specs.Outcome.{Dispatch}
use Rattle.rules.specs.Outcome.Outcome.{short, done}
use Rattle.rules.specs.Outcome.Value.{dispatches}
use Rattle.rules.specs.Push.{push, push_pending}
use Rattle.rules.specs.Valid.{Valid}
use Rattle.rules.specs.Calls.{Call, rule, answer_word, number_in}
use Rattle.rules.specs.Book.{records_of}
use Rattle.rules.specs.Demand.{is_done}
use Rattle.rules.proofs.Answers.{Numbered, by_push, number_done, value_made, flats_length}
use Rattle.layout.specs.Calls.{made_words}
use Rattle.layout.proofs.FewDue.{few_due}
use Rattle.trace.specs.Calls.{PUSH, kind_of}
use Rattle.trace.proofs.Calls.{push_kind}
use Rattle.row.specs.Row.{with_room}
use Rattle.row.proofs.Given.{same_call, none_made}
use Rattle.told.specs.Told.{dispatches_told}
use Rattle.trace_form.specs.Calls.{as_call}
use Rattle.trace_form.specs.declared.Call as form
use Rattle.trace_form.specs.declared.Call.TheVariants as code
use Rattle.row_calls.specs.Rows.{words_filled}

-- a push
push_filled : (l : List Dispatch) (t : State) → length l < 2 ^ 56 → (c : Bool)
    → words_filled PUSH (answer_word (cond c (done (dispatches l) t) (short (length l)))) ≡ length (made_words (cond c (done (dispatches l) t) (short (length l))))
unfolding words_filled dispatches_told made_words records_of is_done Numbered
push_filled l t few true =
    let z : eqb (number_in (answer_word (done (dispatches l) t))) 0 ≡ true = number_done (done (dispatches l) t) tt in
    let f = flats_length l in
    rw (z, value_made l t few) (omega arith)
push_filled l t few false = rw (number_done (short (length l)) tt)

-- a call of another kind
pub none_filled : (kind answered : ℕ) → eqb kind PUSH ≡ false → words_filled kind answered ≡ 0
unfolding words_filled dispatches_told
none_filled kind answered k = rw k

-- what is read as no push has another kind
pub other_kind : (x : form.Call) → (x ≡ code.Push → ⊥) → eqb (kind_of (as_call 0 x)) PUSH ≡ false
unfolding kind_of as_call
other_kind (code.Append topic ledger entry handle batch_size) h = refl
other_kind (code.Subscribe consumer kind topic subscription) h = refl
other_kind (code.Flow consumer grant) h = refl
other_kind (code.Ack consumer list) h = refl
other_kind (code.Seek consumer target) h = refl
other_kind (code.Redeliver consumer list) h = refl
other_kind (code.Close consumer) h = refl
other_kind code.Push h = absurd (h refl)

-- any call, with the room of its list
pub filled : (s : State) (room : ℕ) (x : Call) → Valid s
    → words_filled (kind_of x) (answer_word (rule s (with_room room x))) ≡ length (made_words (rule s (with_room room x)))
unfolding with_room rule push kind_of
filled s room x v =
    by_push (λ (y : Call). words_filled (kind_of y) (answer_word (rule s (with_room room y))) ≡ length (made_words (rule s (with_room room y))))
    (λ y e.
    none_filled (kind_of y) _ (sym (push_kind y) ∙ e)
    ∙ sym (ap length (ap (λ (z : Call). made_words (rule s z)) (same_call room y e) ∙ none_made s y e)))
    (λ n. push_filled (push_pending s).dispatched (push_pending s).state (omega (arith, few_due s v)) (leb (length (push_pending s).dispatched) room))
    x
