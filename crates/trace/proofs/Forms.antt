-- Words that are a call: they passed the test of their kind, and each has the width of its field. So how many there are, how wide
-- they are, and which call they are.
use Prim.Native.Nat.{ℕ, ◌≤◌}
use mathlib.Core.Path.{◌≡◌, refl, sym, ap, ◌∙◌}
use mathlib.Core.Bool.{Bool, true, false, cond, ◌&&◌, ◌||◌, false≢true, true≢false}
use mathlib.Core.List.{List}
use mathlib.Core.Option.{Option, none, some, bind}
use native.Mathlib.Omega.{arith}
use lib.Dec.{eqb, leb}
use lib.ListN.{length, get_or}
use borrow.Author.Tests.{eqb-true, leb-true, ne_eqb}
use Rattle.words.proofs.Check.{and_left, and_right}
use Rattle.rules.specs.Table.{is_some}
use Rattle.rules.specs.Valid.{is_word}
use Rattle.rules.specs.State.{Kind}
use Rattle.rules.specs.State.Kind.{plain, shared}
use Rattle.rules.specs.Commands.{Target}
use Rattle.rules.specs.Commands.Target.{start, to_id}
use Rattle.rules.specs.Calls.{Call, fits, kind_from, target_from}
use Rattle.rules.specs.Calls.Call.{Subscribe, Seek, Push}
use Rattle.trace.specs.Calls.{APPEND, SUBSCRIBE, FLOW, ACK, SEEK, REDELIVER, CLOSE, PUSH}
use Rattle.trace.specs.Calls.{if_so, append_from, subscribe_from, flow_from, ack_from, seek_from, redeliver_from, close_from}
use Rattle.trace.specs.Calls.{push_from, call_from, that_fits, call_of}
use Rattle.trace.proofs.Calls.{is_call, any_room}
use Rattle.trace.proofs.Widths.{append_byte, topic_byte, subscription_byte, grant_count}

-- ---- a call that is there

-- a test that was passed
if_there : (t : Bool) (x : Call) → is_some (if_so t x) ≡ true → t ≡ true
unfolding if_so is_some
if_there true x e = refl
if_there false x e = e

-- the test of its kind, and that of its widths
pub passed_and_fits : (passed : Bool) (x : Call) → is_some (bind (if_so passed x) that_fits) ≡ true → (passed ≡ true) × (fits x ≡ true)
unfolding if_so is_some bind that_fits
passed_and_fits true x e = (refl, if_there (fits x) x e)
passed_and_fits false x e = absurd (false≢true e)

-- so it is that call
pub the_call : (passed : Bool) (x : Call) → is_some (bind (if_so passed x) that_fits) ≡ true → bind (if_so passed x) that_fits ≡ some x
the_call passed x e = let h = passed_and_fits passed x e in is_call h.0 h.1

-- what is not there
pub none_there : (o : Option Call) → is_some o ≡ false → o ≡ none
unfolding is_some
none_there none e = refl
none_there (some x) e = absurd (true≢false e)

-- ---- how many words, and how wide

-- an append: five words, of which the first is a byte
pub record AppendWords (ws : List ℕ) : Type 0 where
  pub five : length ws ≡ 5
  pub topic : get_or ws 0 0 ≤ 255

pub append_words : (ws : List ℕ) → is_some (bind (append_from ws) that_fits) ≡ true → AppendWords ws
unfolding append_from
append_words ws e =
    let h = passed_and_fits _ _ e in
    record { five = eqb-true (length ws) 5 h.0; topic = append_byte _ _ h.1 }

-- a subscribe: four words, of which the last two are bytes
pub record SubscribeWords (ws : List ℕ) : Type 0 where
  pub four : length ws ≡ 4
  pub topic : get_or ws 2 0 ≤ 255
  pub subscription : get_or ws 3 0 ≤ 255

pub subscribe_words : (ws : List ℕ) → is_some (bind (subscribe_from ws) that_fits) ≡ true → SubscribeWords ws
unfolding subscribe_from
subscribe_words ws e =
    let h = passed_and_fits _ _ e in
    record {
      four = eqb-true (length ws) 4 (and_left (eqb (length ws) 4) (leb (get_or ws 1 0) 1) h.0);
      topic = topic_byte _ _ _ h.1;
      subscription = subscription_byte _ _ _ h.1;
    }

module _ (ws : List ℕ) (e : is_some (bind (subscribe_from ws) that_fits) ≡ true) where
  -- which it is, by its kind
  of_kind : (kind : Kind) → kind_from (get_or ws 1 0) ≡ kind
      → bind (subscribe_from ws) that_fits ≡ some (Subscribe (get_or ws 0 0) kind (record { topic = get_or ws 2 0; subscription = get_or ws 3 0 }))
  unfolding subscribe_from
  of_kind kind k =
      the_call _ _ e ∙ ap (λ (n : Kind). some (Subscribe (get_or ws 0 0) n (record { topic = get_or ws 2 0; subscription = get_or ws 3 0 }))) k

  -- plain by 0
  pub is_plain : get_or ws 1 0 ≡ 0
      → bind (subscribe_from ws) that_fits ≡ some (Subscribe (get_or ws 0 0) plain (record { topic = get_or ws 2 0; subscription = get_or ws 3 0 }))
  unfolding kind_from
  is_plain z = of_kind plain (rw z)

  -- else shared
  pub is_shared : (get_or ws 1 0 ≡ 0 → ⊥)
      → bind (subscribe_from ws) that_fits ≡ some (Subscribe (get_or ws 0 0) shared (record { topic = get_or ws 2 0; subscription = get_or ws 3 0 }))
  unfolding kind_from
  is_shared h = of_kind shared (rw (ne_eqb (get_or ws 1 0) 0 h))

-- a flow: two words, of which the second has 32 bits
pub record FlowWords (ws : List ℕ) : Type 0 where
  pub two : length ws ≡ 2
  pub grant : get_or ws 1 0 ≤ 0xffff_ffff

pub flow_words : (ws : List ℕ) → is_some (bind (flow_from ws) that_fits) ≡ true → FlowWords ws
unfolding flow_from
flow_words ws e =
    let h = passed_and_fits _ _ e in
    record { two = eqb-true (length ws) 2 h.0; grant = grant_count _ _ h.1 }

-- an ack, and a redeliver: a word at least
pub ack_words : (ws : List ℕ) → is_some (bind (ack_from ws) that_fits) ≡ true → 1 ≤ length ws
unfolding ack_from
ack_words ws e = leb-true 1 (length ws) (passed_and_fits _ _ e).0

pub redeliver_words : (ws : List ℕ) → is_some (bind (redeliver_from ws) that_fits) ≡ true → 1 ≤ length ws
unfolding redeliver_from
redeliver_words ws e = leb-true 1 (length ws) (passed_and_fits _ _ e).0

-- a seek: two words at least, and four unless the second is 0
pub record SeekWords (ws : List ℕ) : Type 0 where
  pub two : 2 ≤ length ws
  pub four : (get_or ws 1 0 ≡ 0 → ⊥) → length ws ≡ 4

pub seek_words : (ws : List ℕ) → is_some (bind (seek_from ws) that_fits) ≡ true → SeekWords ws
unfolding seek_from
seek_words ws e = go (eqb (length ws) 2 && eqb (get_or ws 1 0) 0) refl (passed_and_fits _ _ e).0
  where
    go : (t : Bool) → eqb (length ws) 2 && eqb (get_or ws 1 0) 0 ≡ t → t || eqb (length ws) 4 && eqb (get_or ws 1 0) 1 ≡ true → SeekWords ws
    go true q h =
        let l = eqb-true (length ws) 2 (and_left (eqb (length ws) 2) (eqb (get_or ws 1 0) 0) q) in
        let zero = eqb-true (get_or ws 1 0) 0 (and_right (eqb (length ws) 2) (eqb (get_or ws 1 0) 0) q) in
        record { two = omega arith; four = λ other. absurd (other zero) }
    go false q h =
        let l = eqb-true (length ws) 4 (and_left (eqb (length ws) 4) (eqb (get_or ws 1 0) 1) h) in
        record { two = omega arith; four = λ other. l }

module _ (ws : List ℕ) (e : is_some (bind (seek_from ws) that_fits) ≡ true) where
  -- which it is, by its target
  of_target : (to : Target) → target_from (get_or ws 1 0) (get_or ws 2 0) (get_or ws 3 0) ≡ to → bind (seek_from ws) that_fits ≡ some (Seek (get_or ws 0 0) to)
  unfolding seek_from
  of_target to t = the_call _ _ e ∙ ap (λ (k : Target). some (Seek (get_or ws 0 0) k)) t

  -- to the start by 0
  pub to_start : get_or ws 1 0 ≡ 0 → bind (seek_from ws) that_fits ≡ some (Seek (get_or ws 0 0) start)
  unfolding target_from
  to_start z = of_target start (rw z)

  -- else to an id
  pub to_an_id : (get_or ws 1 0 ≡ 0 → ⊥)
      → bind (seek_from ws) that_fits ≡ some (Seek (get_or ws 0 0) (to_id (record { ledger = get_or ws 2 0; entry = get_or ws 3 0 })))
  unfolding target_from
  to_an_id h = of_target (to_id (record { ledger = get_or ws 2 0; entry = get_or ws 3 0 })) (rw (ne_eqb (get_or ws 1 0) 0 h))

-- a close: one word
pub close_words : (ws : List ℕ) → is_some (bind (close_from ws) that_fits) ≡ true → length ws ≡ 1
unfolding close_from
close_words ws e = eqb-true (length ws) 1 (passed_and_fits _ _ e).0

-- ---- kinds

-- no words are a push, whatever its list holds
pub push_of_any : (room : ℕ) (ws : List ℕ) → is_word room ≡ true → is_some (bind (push_from 0 ws) that_fits) ≡ true
    → bind (push_from room ws) that_fits ≡ some (Push room)
unfolding push_from fits
push_of_any room ws r e = is_call (passed_and_fits _ _ e).0 r

-- a call of none of these kinds is a close
pub is_a_close : (kind : ℕ) (ws : List ℕ) → (kind ≡ APPEND → ⊥) → (kind ≡ SUBSCRIBE → ⊥) → (kind ≡ FLOW → ⊥) → (kind ≡ ACK → ⊥)
    → (kind ≡ SEEK → ⊥) → (kind ≡ REDELIVER → ⊥) → eqb kind PUSH ≡ false → is_some (call_of 0 kind ws) ≡ true
    → call_of 0 kind ws ≡ bind (close_from ws) that_fits
unfolding call_of call_from bind is_some
is_a_close kind ws append subscribe flow ack seek redeliver push e = left ∙ go (eqb kind CLOSE) (sym (ap is_some left) ∙ e)
  where
    left : call_of 0 kind ws ≡ bind (cond (eqb kind CLOSE) (close_from ws) none) that_fits
    left =
        rw (
          ne_eqb kind APPEND append,
          ne_eqb kind SUBSCRIBE subscribe,
          ne_eqb kind FLOW flow,
          ne_eqb kind ACK ack,
          ne_eqb kind SEEK seek,
          ne_eqb kind REDELIVER redeliver,
          push,
        )

    go : (t : Bool) → is_some (bind (cond t (close_from ws) none) that_fits) ≡ true → bind (cond t (close_from ws) none) that_fits ≡ bind (close_from ws) that_fits
    go true h = refl
    go false h = absurd (false≢true h)

-- words are a call or none, whatever a push's list holds
pub there_with_room : (room kind : ℕ) (ws : List ℕ) → is_word room ≡ true → is_some (call_of room kind ws) ≡ is_some (call_of 0 kind ws)
unfolding call_of call_from push_from bind if_so that_fits fits is_word is_some
there_with_room room kind ws r = go (eqb kind PUSH) refl
  where
    passed : (t : Bool) → is_some (bind (if_so t (Push room)) that_fits) ≡ is_some (bind (if_so t (Push 0)) that_fits)
    passed true = rw r
    passed false = refl

    pushes : kind ≡ PUSH → is_some (call_of room kind ws) ≡ is_some (call_of 0 kind ws)
    pushes k = rw k (passed (eqb (length ws) 0))

    go : (t : Bool) → eqb kind PUSH ≡ t → is_some (call_of room kind ws) ≡ is_some (call_of 0 kind ws)
    go true k = pushes (eqb-true kind PUSH k)
    go false k = ap is_some (any_room room kind ws k)
