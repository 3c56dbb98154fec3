-- A number that is read as a command is that command's, and no call has another number.
use Rattle.std.proofs.Common.{◌≡◌, ℕ, Bool, true, false, List, Result, Ok, Err, refl, sym, ap, ◌∙◌}
use mathlib.Core.Bool.{cond}
use mathlib.Core.Option.{Option, none, bind}
use lib.Dec.{eqb}
use borrow.Author.Tests.{eqb-true}
use Rattle.refusal.specs.declared.Refusal.{Refusal}
use Rattle.rules.specs.Calls.{Call}
use Rattle.trace.specs.Calls as trace
use Rattle.trace.specs.Calls.{call_from, call_of, that_fits}
use Rattle.trace_kind.specs.Commands.{number_of, command_of}
use Rattle.trace_kind.specs.declared.Command.{Command}
use Rattle.trace_kind.specs.declared.Command.TheVariants.{Append, Subscribe, Flow, Ack, Seek, Redeliver, Close, Push}

-- one number after the others
one_number : (n : ℕ) (d c : Command) (r : Result Command Refusal) → (r ≡ Ok c → n ≡ number_of c)
    → cond (eqb n (number_of d)) (Ok d) r ≡ Ok c → n ≡ number_of c
one_number n d c r others = go (eqb n (number_of d)) refl
  where
    go : (t : Bool) → eqb n (number_of d) ≡ t → cond t (Ok d) r ≡ Ok c → n ≡ number_of c
    go true e h = let is = eqb-true n (number_of d) e in let same : d ≡ c = cc in cc
    go false e h = others h

-- a number that is read as a command
number_is : (n : ℕ) (c : Command) → command_of n ≡ Ok c → n ≡ number_of c
number_is n c =
    one_number n Append c _
    (one_number n Subscribe c _
    (one_number n Flow c _
    (one_number n Ack c _
    (one_number n Seek c _
    (one_number n Redeliver c _
    (one_number n Close c _
    (one_number n Push c _ (λ (h : Err _ ≡ Ok c). cc))))))))

-- the number of the command that a number was read as
pub read_as : {r : Result Command Refusal} {c : Command} (n : ℕ) (d : Command) → r ≡ command_of n → r ≡ Ok c → c ≡ d → n ≡ number_of d
read_as n d e h is = number_is n d (sym e ∙ h ∙ ap Ok is)

-- one kind after the others
one_kind : (t : Bool) (d : Command) (e : Refusal) (r : Result Command Refusal) (o others : Option Call) → (r ≡ Err e → others ≡ none)
    → cond t (Ok d) r ≡ Err e → cond t o others ≡ none
one_kind true d e r o others h k = cc
one_kind false d e r o others h k = h k

-- a number that is read as none is no call's
pub no_call : {r : Result Command Refusal} {e : Refusal} (room n : ℕ) (ws : List ℕ) → r ≡ command_of n → r ≡ Err e → call_of room n ws ≡ none
unfolding call_of call_from bind
no_call {r} {e} room n ws is h =
    ap (λ o. bind o that_fits)
    (one_kind (eqb n trace.APPEND) Append e _ _ _
    (one_kind (eqb n trace.SUBSCRIBE) Subscribe e _ _ _
    (one_kind (eqb n trace.FLOW) Flow e _ _ _
    (one_kind (eqb n trace.ACK) Ack e _ _ _
    (one_kind (eqb n trace.SEEK) Seek e _ _ _
    (one_kind (eqb n trace.REDELIVER) Redeliver e _ _ _
    (one_kind (eqb n trace.CLOSE) Close e _ _ _
    (one_kind (eqb n trace.PUSH) Push e _ _ none (λ k. refl)))))))) (sym is ∙ h))
