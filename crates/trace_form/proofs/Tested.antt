-- Words read as a call of a kind: every word of a slice has 64 bits, so only the number of words, and a field that is narrower
-- or has only some values, is tested.
use Prim.Native.Nat.{ℕ, suc, ◌^◌, ◌≤◌, ◌<◌}
use mathlib.Core.Path.{◌≡◌, refl, sym, ap, ◌∙◌}
use mathlib.Core.Bool.{Bool, true, false, ◌&&◌, ◌||◌}
use mathlib.Core.List.{List}
use mathlib.Core.Option.{Option, none, some, bind}
use native.Mathlib.Omega.{arith}
use lib.Dec.{eqb}
use lib.ListN.{length, get_or, drop}
use borrow.Author.Tests.{eqb-true, eq-eqb, ne_eqb, le-leb, lt-leb}
use Rattle.words.proofs.Check.{and_left, and_right}
use Rattle.rules.specs.State.{Kind}
use Rattle.rules.specs.Calls.{Call, fits, kind_from, target_from}
use Rattle.rules.specs.Calls.Call.{Append, Subscribe, Flow, Ack, Seek, Redeliver, Close, Push}
use Rattle.rules.specs.Commands.Target.{start, to_id}
use Rattle.layout.proofs.Slices.{word}
use Rattle.trace.specs.Calls.{append_from, subscribe_from, flow_from, ack_from, seek_from, redeliver_from, close_from}
use Rattle.trace.specs.Calls.{push_from, that_fits, call_of}
use Rattle.trace_kind.specs.Commands.{number_of, command_of}
use Rattle.trace_kind.specs.declared.Command.{Command}
use Rattle.trace_kind.proofs.Commands.{read_as}
use Rattle.std.proofs.Common.{Result, Ok, Err, Some, None}
use Rattle.std.specs.Result.{result_ok, OkIff}
use Rattle.refusal.specs.declared.Refusal.{Refusal}
use Rattle.trace.proofs.Calls.{not_passed, too_wide, is_call}
use Rattle.trace.proofs.Widths.{append_fits, append_wide, subscribe_fits, topic_wide, subscription_wide, flow_fits, grant_wide, start_fits, id_fits, list_fits}

module _ (ws : List ℕ) where
  -- ---- none

  -- an append of another number of words, or of a topic that is no byte
  pub no_append : (length ws ≡ 5 → ⊥) → none ≡ bind (append_from ws) that_fits
  unfolding append_from
  no_append h = sym (not_passed _ (ne_eqb (length ws) 5 h))

  pub append_too_wide : 255 < get_or ws 0 0 → none ≡ bind (append_from ws) that_fits
  unfolding append_from
  append_too_wide h = sym (too_wide _ _ (append_wide _ _ h))

  -- a subscribe of another number of words, of another kind, of a topic or of a subscription that is no byte
  pub no_subscribe : (length ws ≡ 4 → ⊥) → none ≡ bind (subscribe_from ws) that_fits
  unfolding subscribe_from
  no_subscribe h = sym (not_passed _ (rw (ne_eqb (length ws) 4 h)))

  pub no_kind : length ws ≡ 4 → 1 < get_or ws 1 0 → none ≡ bind (subscribe_from ws) that_fits
  unfolding subscribe_from
  no_kind l h = sym (not_passed _ (rw (l, lt-leb (get_or ws 1 0) 1 h)))

  pub topic_too_wide : 255 < get_or ws 2 0 → none ≡ bind (subscribe_from ws) that_fits
  unfolding subscribe_from
  topic_too_wide h = sym (too_wide _ _ (topic_wide _ _ _ h))

  pub subscription_too_wide : 255 < get_or ws 3 0 → none ≡ bind (subscribe_from ws) that_fits
  unfolding subscribe_from
  subscription_too_wide h = sym (too_wide _ _ (subscription_wide _ _ _ h))

  -- a flow of another number of words, or of a grant of more than 32 bits
  pub no_flow : (length ws ≡ 2 → ⊥) → none ≡ bind (flow_from ws) that_fits
  unfolding flow_from
  no_flow h = sym (not_passed _ (ne_eqb (length ws) 2 h))

  pub grant_too_wide : 0xffff_ffff < get_or ws 1 0 → none ≡ bind (flow_from ws) that_fits
  unfolding flow_from
  grant_too_wide h = sym (too_wide _ _ (grant_wide _ _ h))

  -- an ack, a redeliver of no words; a close not of one, a push of any
  pub no_ack : length ws < 1 → none ≡ bind (ack_from ws) that_fits
  unfolding ack_from
  no_ack h = sym (not_passed _ (lt-leb 1 (length ws) h))

  pub no_redeliver : length ws < 1 → none ≡ bind (redeliver_from ws) that_fits
  unfolding redeliver_from
  no_redeliver h = sym (not_passed _ (lt-leb 1 (length ws) h))

  pub no_close : (length ws ≡ 1 → ⊥) → none ≡ bind (close_from ws) that_fits
  unfolding close_from
  no_close h = sym (not_passed _ (ne_eqb (length ws) 1 h))

  pub no_push : (length ws ≡ 0 → ⊥) → none ≡ bind (push_from 0 ws) that_fits
  unfolding push_from
  no_push h = sym (not_passed _ (ne_eqb (length ws) 0 h))

  -- ---- one

  module _ (w : (k : ℕ) → get_or ws k 0 < 2 ^ 64) where
    -- an append of five words, of which the first is a byte
    pub an_append : length ws ≡ 5 → get_or ws 0 0 ≤ 255 → some (Append (get_or ws 0 0) (record { id = record { ledger = get_or ws 1 0; entry = get_or ws 2 0 }; handle = get_or ws 3 0; batch_size = get_or ws 4 0 })) ≡ bind (append_from ws) that_fits
    unfolding append_from
    an_append l t = sym (is_call (eq-eqb (length ws) 5 l) (append_fits _ _ t (w 1) (w 2) (w 3) (w 4)))

    -- a subscribe of four words, of which the last two are bytes, and its kind
    pub a_subscribe : (kind : Kind) → length ws ≡ 4 → get_or ws 1 0 ≤ 1 → kind_from (get_or ws 1 0) ≡ kind → get_or ws 2 0 ≤ 255 → get_or ws 3 0 ≤ 255
        → some (Subscribe (get_or ws 0 0) kind (record { topic = get_or ws 2 0; subscription = get_or ws 3 0 })) ≡ bind (subscribe_from ws) that_fits
    unfolding subscribe_from
    a_subscribe kind l k e t s =
        sym (is_call (rw (l, le-leb (get_or ws 1 0) 1 k)) (subscribe_fits _ _ _ (w 0) t s)
        ∙ ap (λ (n : Kind). some (Subscribe (get_or ws 0 0) n (record { topic = get_or ws 2 0; subscription = get_or ws 3 0 }))) e)

    -- a flow of two, of which the second has 32 bits
    pub a_flow : length ws ≡ 2 → get_or ws 1 0 ≤ 0xffff_ffff → some (Flow (get_or ws 0 0) (get_or ws 1 0)) ≡ bind (flow_from ws) that_fits
    unfolding flow_from
    a_flow l g = sym (is_call (eq-eqb (length ws) 2 l) (flow_fits _ _ (w 0) g))

    -- an ack and a redeliver of one and more
    pub an_ack : 1 ≤ length ws → {list : List ℕ} → list ≡ drop 1 ws → some (Ack (get_or ws 0 0) list) ≡ bind (ack_from ws) that_fits
    unfolding ack_from fits
    an_ack l e = rw e (sym (is_call {x = Ack (get_or ws 0 0) (drop 1 ws)} (le-leb 1 (length ws) l) (list_fits ws w)))

    pub a_redeliver : 1 ≤ length ws → {list : List ℕ} → list ≡ drop 1 ws → some (Redeliver (get_or ws 0 0) list) ≡ bind (redeliver_from ws) that_fits
    unfolding redeliver_from fits
    a_redeliver l e = rw e (sym (is_call {x = Redeliver (get_or ws 0 0) (drop 1 ws)} (le-leb 1 (length ws) l) (list_fits ws w)))

    -- a close of one
    pub a_close : length ws ≡ 1 → some (Close (get_or ws 0 0)) ≡ bind (close_from ws) that_fits
    unfolding close_from fits
    a_close l = sym (is_call {x = Close (get_or ws 0 0)} (eq-eqb (length ws) 1 l) (word (get_or ws 0 0) (w 0)))

    -- a seek of two to the start, and of four to an id
    pub to_start : length ws ≡ 2 → get_or ws 1 0 ≡ 0 → some (Seek (get_or ws 0 0) start) ≡ bind (seek_from ws) that_fits
    unfolding seek_from target_from
    to_start l z = rw (l, z) (sym (is_call {x = Seek (get_or ws 0 0) start} refl (start_fits (get_or ws 0 0) (w 0))))

    pub to_an_id : length ws ≡ 4 → get_or ws 1 0 ≡ 1
        → some (Seek (get_or ws 0 0) (to_id (record { ledger = get_or ws 2 0; entry = get_or ws 3 0 }))) ≡ bind (seek_from ws) that_fits
    unfolding seek_from target_from
    to_an_id l one =
        rw (l, one)
        (sym (is_call {x = Seek (get_or ws 0 0) (to_id (record { ledger = get_or ws 2 0; entry = get_or ws 3 0 }))} refl
        (id_fits (get_or ws 0 0) _ (w 0) (w 2) (w 3))))

  -- a seek of another form
  pub no_seek : (length ws ≡ 2 → get_or ws 1 0 ≡ 0 → ⊥) → (length ws ≡ 4 → get_or ws 1 0 ≡ 1 → ⊥) → none ≡ bind (seek_from ws) that_fits
  unfolding seek_from
  no_seek h k = sym (not_passed _ (go (eqb (length ws) 2 && eqb (get_or ws 1 0) 0) refl (eqb (length ws) 4 && eqb (get_or ws 1 0) 1) refl))
    where
      both : (a b c d : ℕ) → eqb a b && eqb c d ≡ true → (a ≡ b) × (c ≡ d)
      both a b c d e = (eqb-true a b (and_left (eqb a b) (eqb c d) e), eqb-true c d (and_right (eqb a b) (eqb c d) e))

      go : (s : Bool) → eqb (length ws) 2 && eqb (get_or ws 1 0) 0 ≡ s → (t : Bool) → eqb (length ws) 4 && eqb (get_or ws 1 0) 1 ≡ t → s || t ≡ false
      go true e t f = let z = both (length ws) 2 (get_or ws 1 0) 0 e in absurd (h z.0 z.1)
      go false e true f = let z = both (length ws) 4 (get_or ws 1 0) 1 f in absurd (k z.0 z.1)
      go false e false f = refl

-- a push of none
pub a_push : (ws : List ℕ) → length ws ≡ 0 → some (Push 0) ≡ bind (push_from 0 ws) that_fits
unfolding push_from fits
a_push ws l = sym (is_call {x = Push 0} (eq-eqb (length ws) 0 l) (word 0 (omega arith)))

-- what the number of a command and its words are, a number that was read as it and these words are
pub of_command : {r : Result Command Refusal} {c : Command} {o : Option Call} (kind : ℕ) (ws : List ℕ) (d : Command)
    → r ≡ command_of kind → r ≡ Ok c → c ≡ d → o ≡ call_of 0 (number_of d) ws → o ≡ call_of 0 kind ws
of_command kind ws d e is same o = o ∙ ap (λ (n : ℕ). call_of 0 n ws) (sym (read_as kind d e is same))

-- ---- a reading whose refusal is dropped

-- it was read
pub ok_some : {T E : Type 0} {r : Result T E} {x : T} → Some x ≡ result_ok r → r ≡ Ok x
ok_some {r = Ok y} {x = x} h = let same : x ≡ y = cc in ap Ok (sym same)
ok_some {r = Err e} h = absurd cc

-- it was refused
pub record Refused {T E : Type 0} (r : Result T E) : Type 0 where
  pub why : E
  pub is : r ≡ Err why

pub ok_none : {T E : Type 0} {r : Result T E} → None ≡ result_ok r → Refused r
ok_none {r = Ok y} h = absurd cc
ok_none {r = Err e} h = record { why = e; is = refl }

-- a word that was read into a narrower field fits it
pub some_fits : {E : Type 0} {n x : ℕ} (most : ℕ) (r : Result ℕ E) → OkIff r (n < suc most) n → Some x ≡ result_ok r → (n ≤ most) × (x ≡ n)
some_fits {x = x} most (Ok y) f h = let same : x ≡ y = cc in (omega (arith, f.0), same ∙ f.1)
some_fits most (Err e) f h = absurd cc

-- one that was not is wider
pub none_wide : {E : Type 0} {n : ℕ} (most : ℕ) (r : Result ℕ E) → OkIff r (n < suc most) n → None ≡ result_ok r → most < n
none_wide most (Ok y) f h = absurd cc
none_wide most (Err e) f h = omega (arith, f)
