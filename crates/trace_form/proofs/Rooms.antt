-- What was read with no room is read with any: only a push has one, and no other call is of its kind.
use Prim.Native.Nat.{ℕ}
use mathlib.Core.Path.{◌≡◌, refl, sym, ap, ◌∙◌}
use mathlib.Core.Bool.{true, false}
use mathlib.Core.List.{List}
use mathlib.Core.Option.{some}
use lib.Dec.{eqb}
use Rattle.std.proofs.Common.{Option, Some, None}
use Rattle.rules.specs.Table.{is_some}
use Rattle.rules.specs.Valid.{is_word}
use Rattle.rules.specs.Calls.{Call}
use Rattle.rules.specs.Calls.Call.{Push}
use Rattle.trace.specs.Calls.{PUSH, call_from, call_of, kind_of}
use Rattle.trace.proofs.Calls.{if_call, call_kind, any_room}
use Rattle.trace.proofs.Forms.{none_there, push_of_any, there_with_room}
use Rattle.trace_form.specs.declared.Call as declared
use Rattle.trace_form.specs.declared.Call.TheVariants as code
use Rattle.trace_form.specs.Calls.{as_call, as_read}

module _ (room kind : ℕ) (ws : List ℕ) (w : is_word room ≡ true) where
  -- a call has its kind
  kind_is : (x : Call) → some x ≡ call_of 0 kind ws → kind_of x ≡ kind
  kind_is x e = if_call (λ (y : Call). kind_of y ≡ kind) _ x (call_kind 0 kind ws) (sym e)

  -- a push
  pushes : some (Push 0) ≡ call_of 0 kind ws → some (Push room) ≡ call_of room kind ws
  unfolding kind_of call_of call_from is_some
  pushes e =
      let k : PUSH ≡ kind = kind_is (Push 0) e in
      let there : is_some (call_of 0 PUSH ws) ≡ true = ap is_some (ap (λ (n : ℕ). call_of 0 n ws) k ∙ sym e) in
      sym (push_of_any room ws w there) ∙ ap (λ (n : ℕ). call_of room n ws) k

  -- any other
  same : (x : Call) → eqb (kind_of x) PUSH ≡ false → some x ≡ call_of 0 kind ws → some x ≡ call_of room kind ws
  same x p e = e ∙ sym (any_room room kind ws (ap (λ (n : ℕ). eqb n PUSH) (sym (kind_is x e)) ∙ p))

  pub with_any_room : (r : Option declared.Call) → as_read 0 r ≡ call_of 0 kind ws → as_read room r ≡ call_of room kind ws
  unfolding as_read as_call is_some kind_of
  with_any_room None e = sym (none_there _ (there_with_room room kind ws w ∙ ap is_some (sym e)))
  with_any_room (Some (code.Append topic ledger entry handle batch_size)) e = same _ refl e
  with_any_room (Some (code.Subscribe consumer k topic subscription)) e = same _ refl e
  with_any_room (Some (code.Flow consumer grant)) e = same _ refl e
  with_any_room (Some (code.Ack consumer list)) e = same _ refl e
  with_any_room (Some (code.Seek consumer target)) e = same _ refl e
  with_any_room (Some (code.Redeliver consumer list)) e = same _ refl e
  with_any_room (Some (code.Close consumer)) e = same _ refl e
  with_any_room (Some code.Push) e = pushes e
