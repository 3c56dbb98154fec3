-- A script gone through call by call: what was counted and what is left make the whole, and so do the first call of what is
-- left and those after it.
use Prim.Native.Nat.{ℕ, ◌+◌, ◌≤◌}
use mathlib.Core.Path.{◌≡◌, refl, sym, ap, ◌∙◌}
use mathlib.Core.Bool.{true, false≢true}
use mathlib.Core.List.{List, [], ◌∷◌}
use mathlib.Core.Option.{Option, none, some, bind}
use native.Mathlib.Omega.{arith}
use lib.ListN.{length}
use Rattle.std.proofs.Common.{Ok, Err}
use Rattle.refusal.specs.declared.Refusal.TheVariants.{NoCall}
use Rattle.rules.specs.Table.{is_some, or_else}
use Rattle.rules.specs.Calls.{Call}
use Rattle.trace_form.specs.declared.Call as declared
use Rattle.trace_form.specs.Calls.{as_call}
use Rattle.row.specs.Script.{script_calls}
use Rattle.row.proofs.Script.{script_empty}
use Rattle.row_script.specs.Counted.{counted}
use Rattle.row_script.specs.Split.{with_first, NoneThere, CallThere}

-- ---- counted

-- none is there, so the script is bad
pub counted_bad : (n : ℕ) (ws : List ℕ) → 1 ≤ length ws → NoneThere ws → Err NoCall ≡ counted n (script_calls ws)
unfolding counted
counted_bad n ws h e = ap (counted n) (sym (e h))

-- one more, and those after it
one_more : (n : ℕ) (x : Call) (o : Option (List Call)) → counted (n + 1) o ≡ counted n (with_first x o)
unfolding counted with_first bind
one_more n x none = refl
one_more n x (some calls) = ap Ok (omega arith)

pub counted_more : (n : ℕ) {ws rest : List ℕ} {x : declared.Call} → CallThere ws x rest
    → counted (n + 1) (script_calls rest) ≡ counted n (script_calls ws)
counted_more n {ws} {rest} {x} c = one_more n (as_call 0 x) (script_calls rest) ∙ ap (counted n) (sym c.are)

-- the end
pub counted_all : (n : ℕ) (ws : List ℕ) → length ws ≡ 0 → Ok n ≡ counted n (script_calls ws)
unfolding counted
counted_all n [] h = ap Ok (let z : n ≡ n + 0 = omega arith in z) ∙ ap (counted n) (sym script_empty)
counted_all n (w ∷ ws) h = absurd (omega arith)

-- what was counted is of the form
pub counted_formed : (n k : ℕ) (o : Option (List Call)) → Ok n ≡ counted k o → (is_some o ≡ true) × (n ≡ k + length (or_else o []))
unfolding counted is_some or_else
counted_formed n k none e = absurd (let z : ◌≡◌ {A = ℕ} 0 1 = cc in omega arith)
counted_formed n k (some calls) e = (refl, cc)

-- ---- gone through

-- none is there, so none is left
pub none_left : (ws : List ℕ) → is_some (script_calls ws) ≡ true → NoneThere ws → or_else (script_calls ws) [] ≡ []
unfolding or_else is_some
none_left [] f e = rw script_empty refl
none_left (w ∷ ws) f e = absurd (false≢true (sym (ap is_some (e (omega arith))) ∙ f))

-- those after the first are of the form
formed_after : (x : Call) (o : Option (List Call)) → is_some (with_first x o) ≡ true → is_some o ≡ true
unfolding with_first bind is_some
formed_after x none f = f
formed_after x (some calls) f = refl

-- and with it they are all
first_of_all : (x : Call) (o : Option (List Call)) → is_some o ≡ true → or_else (with_first x o) [] ≡ x ∷ or_else o []
unfolding with_first bind is_some or_else
first_of_all x none f = absurd (false≢true f)
first_of_all x (some calls) f = refl

module _ {ws rest : List ℕ} {x : declared.Call} (c : CallThere ws x rest) (f : is_some (script_calls ws) ≡ true) where
  pub rest_formed : is_some (script_calls rest) ≡ true
  rest_formed = formed_after (as_call 0 x) (script_calls rest) (ap is_some (sym c.are) ∙ f)

  pub calls_ahead : or_else (script_calls ws) [] ≡ as_call 0 x ∷ or_else (script_calls rest) []
  calls_ahead = ap (λ o. or_else o []) c.are ∙ first_of_all (as_call 0 x) (script_calls rest) rest_formed
