-- What holds of every record that is a call: the call is of the record's kind, and its arguments have their widths; and what
-- a kind and its words come to: no call where a test or a width fails, else the call.
use Prim.Native.Nat.{ℕ}
use mathlib.Core.Path.{◌≡◌, refl, sym, subst}
use mathlib.Core.Bool.{Bool, true, false, cond}
use mathlib.Core.List.{List}
use mathlib.Core.Option.{Option, none, some, bind}
use lib.Dec.{eqb}
use borrow.Author.Tests.{eqb-true, eq-eqb, ne_eqb}
use Rattle.rules.specs.Calls.{Call, fits}
use Rattle.rules.specs.Calls.Call.{Append, Subscribe, Flow, Ack, Seek, Redeliver, Close, Push}
use Rattle.rules.proofs.Answers.{is_push}
use Rattle.trace.specs.Calls.{APPEND, SUBSCRIBE, FLOW, ACK, SEEK, REDELIVER, CLOSE, PUSH}
use Rattle.trace.specs.Calls.{if_so, append_from, subscribe_from, flow_from, ack_from, seek_from, redeliver_from, close_from}
use Rattle.trace.specs.Calls.{push_from, call_from, that_fits, call_of, kind_of, room_is}

-- something holds of a call, if there is one
unfoldable pub IfCall : (Call → Type 0) → Option Call → Type 0
IfCall P none = Unit {0}
IfCall P (some x) = P x

-- of one that is there
pub if_call : (P : Call → Type 0) (o : Option Call) (x : Call) → IfCall P o → o ≡ some x → P x
unfolding IfCall
if_call P o x h e = subst (IfCall P) e h

-- ---- widths

-- a call is one that fits
fits_so : (x : Call) → IfCall (λ y. fits y ≡ true) (that_fits x)
unfolding that_fits if_so IfCall
fits_so x = go (fits x) refl
  where
    go : (t : Bool) → fits x ≡ t → IfCall (λ y. fits y ≡ true) (cond t (some x) none)
    go true e = e
    go false e = tt

-- what a kind and its words are
pub call_fits : (room kind : ℕ) (ws : List ℕ) → IfCall (λ x. fits x ≡ true) (call_of room kind ws)
unfolding call_of bind IfCall
call_fits room kind ws = go (call_from room kind ws)
  where
    go : (o : Option Call) → IfCall (λ x. fits x ≡ true) (bind o that_fits)
    go none = tt
    go (some x) = fits_so x

-- ---- kinds

-- the kind of a call, if there is one
abbrev OfKind : ℕ → Option Call → Type 0
OfKind kind o = IfCall (λ x. kind_of x ≡ kind) o

-- a call after a test
kind_so : (kind : ℕ) (t : Bool) (x : Call) → kind_of x ≡ kind → OfKind kind (if_so t x)
unfolding if_so IfCall
kind_so kind true x e = e
kind_so kind false x e = tt

-- and after the test of its widths
kind_fits : (kind : ℕ) (o : Option Call) → OfKind kind o → OfKind kind (bind o that_fits)
unfolding bind IfCall that_fits
kind_fits kind none h = tt
kind_fits kind (some x) h = kind_so kind (fits x) x h

-- one kind and the others
kind_cond : (kind k : ℕ) (o r : Option Call) → OfKind k o → OfKind kind r → OfKind kind (cond (eqb kind k) o r)
kind_cond kind k o r h g = go (eqb kind k) refl
  where
    go : (t : Bool) → eqb kind k ≡ t → OfKind kind (cond t o r)
    go true e = subst (λ (n : ℕ). OfKind n o) (sym (eqb-true kind k e)) h
    go false e = g

-- what a kind and its words are
pub call_kind : (room kind : ℕ) (ws : List ℕ) → OfKind kind (call_of room kind ws)
unfolding call_of call_from append_from subscribe_from flow_from ack_from seek_from redeliver_from close_from push_from kind_of IfCall
call_kind room kind ws =
    kind_fits kind (call_from room kind ws)
    (kind_cond kind APPEND _ _ (kind_so APPEND _ _ refl)
    (kind_cond kind SUBSCRIBE _ _ (kind_so SUBSCRIBE _ _ refl)
    (kind_cond kind FLOW _ _ (kind_so FLOW _ _ refl)
    (kind_cond kind ACK _ _ (kind_so ACK _ _ refl)
    (kind_cond kind SEEK _ _ (kind_so SEEK _ _ refl)
    (kind_cond kind REDELIVER _ _ (kind_so REDELIVER _ _ refl)
    (kind_cond kind CLOSE _ _ (kind_so CLOSE _ _ refl)
    (kind_cond kind PUSH _ none (kind_so PUSH _ _ refl) tt))))))))

-- ---- the room of a push

-- a call after a test
room_so : (room : ℕ) (t : Bool) (x : Call) → room_is room x ≡ true → IfCall (λ y. room_is room y ≡ true) (if_so t x)
unfolding if_so IfCall
room_so room true x e = e
room_so room false x e = tt

-- and after the test of its widths
room_fits : (room : ℕ) (o : Option Call) → IfCall (λ x. room_is room x ≡ true) o → IfCall (λ x. room_is room x ≡ true) (bind o that_fits)
unfolding bind IfCall that_fits
room_fits room none h = tt
room_fits room (some x) h = room_so room (fits x) x h

-- one kind and the others
room_cond : (room : ℕ) (t : Bool) (o r : Option Call) → IfCall (λ x. room_is room x ≡ true) o → IfCall (λ x. room_is room x ≡ true) r
    → IfCall (λ x. room_is room x ≡ true) (cond t o r)
room_cond room true o r h g = h
room_cond room false o r h g = g

-- the room of what a kind and its words are is that of the list
pub call_room : (room kind : ℕ) (ws : List ℕ) → IfCall (λ x. room_is room x ≡ true) (call_of room kind ws)
unfolding call_of call_from append_from subscribe_from flow_from ack_from seek_from redeliver_from close_from push_from room_is IfCall
call_room room kind ws =
    room_fits room (call_from room kind ws)
    (room_cond room (eqb kind APPEND) _ _ (room_so room _ _ refl)
    (room_cond room (eqb kind SUBSCRIBE) _ _ (room_so room _ _ refl)
    (room_cond room (eqb kind FLOW) _ _ (room_so room _ _ refl)
    (room_cond room (eqb kind ACK) _ _ (room_so room _ _ refl)
    (room_cond room (eqb kind SEEK) _ _ (room_so room _ _ refl)
    (room_cond room (eqb kind REDELIVER) _ _ (room_so room _ _ refl)
    (room_cond room (eqb kind CLOSE) _ _ (room_so room _ _ refl)
    (room_cond room (eqb kind PUSH) _ none (room_so room _ _ (eq-eqb room room refl)) tt))))))))

-- the room is a push's only
pub any_room : (room kind : ℕ) (ws : List ℕ) → eqb kind PUSH ≡ false → call_of room kind ws ≡ call_of 0 kind ws
unfolding call_of call_from
any_room room kind ws e = rw e

-- a push is known by its kind
pub push_kind : (x : Call) → is_push x ≡ eqb (kind_of x) PUSH
unfolding is_push kind_of
push_kind (Append topic m) = refl
push_kind (Subscribe i kind p) = refl
push_kind (Flow i grant) = refl
push_kind (Ack i list) = refl
push_kind (Seek i target) = refl
push_kind (Redeliver i list) = refl
push_kind (Close i) = refl
push_kind (Push room) = refl

-- ---- a call, or none

-- none: the words do not pass the test of their kind
pub not_passed : {passed : Bool} (x : Call) → passed ≡ false → bind (if_so passed x) that_fits ≡ none
unfolding bind if_so
not_passed x e = rw e

-- none: an argument is too wide
pub too_wide : (passed : Bool) (x : Call) → fits x ≡ false → bind (if_so passed x) that_fits ≡ none
unfolding bind if_so that_fits
too_wide true x e = rw e
too_wide false x e = refl

-- a call
pub is_call : {passed : Bool} {x : Call} → passed ≡ true → fits x ≡ true → bind (if_so passed x) that_fits ≡ some x
unfolding bind if_so that_fits
is_call e f = rw (e, f)

-- a kind that is none of the eight
pub no_kind : (room kind : ℕ) (ws : List ℕ) → (kind ≡ APPEND → ⊥) → (kind ≡ SUBSCRIBE → ⊥) → (kind ≡ FLOW → ⊥) → (kind ≡ ACK → ⊥)
    → (kind ≡ SEEK → ⊥) → (kind ≡ REDELIVER → ⊥) → (kind ≡ CLOSE → ⊥) → eqb kind PUSH ≡ false → call_of room kind ws ≡ none
unfolding call_of call_from bind
no_kind room kind ws append subscribe flow ack seek redeliver close push =
    rw (
      ne_eqb kind APPEND append,
      ne_eqb kind SUBSCRIBE subscribe,
      ne_eqb kind FLOW flow,
      ne_eqb kind ACK ack,
      ne_eqb kind SEEK seek,
      ne_eqb kind REDELIVER redeliver,
      ne_eqb kind CLOSE close,
      push,
    )
