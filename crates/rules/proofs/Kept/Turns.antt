-- Turns after turns: what each turn keeps of the state, and what holds of each record that it sends, holds after any
-- number of them, over dispatchers and over plain consumers.
use Prim.Native.Nat.{ℕ, zero, suc}
use mathlib.Core.List.Memᴰ
use mathlib.Core.List.{List, [], ◌∷◌, map}
use lib.Dec.{leb}
use lib.ListN.{length}
use Rattle.rules.specs.Table.{Every}
use Rattle.rules.specs.State.{Pair, Consumer, Dispatcher, State}
use Rattle.rules.specs.Outcome.{Dispatch}
use Rattle.rules.specs.Push.{Turn, shared_turn, plain_turn, Pushed, after_turn, turns, serve_dispatcher, serve_plain, serve_each, push_pending_shared, push_pending, push}
use Rattle.rules.specs.Push.Turn.{halt, sent}
use Rattle.rules.proofs.Says.{every_cons}
use Rattle.rules.proofs.Table.{by_test}
use Rattle.rules.proofs.Kept.Every.{every_append}
use Rattle.rules.proofs.Kept.Outcomes.{Keeps}

-- something holds of the state after a turn, and something of the record that it sent
abbrev pub Turned : (State → Type 0) → (Dispatch → Type 0) → Turn → Type 0
Turned P R (halt t) = P t
Turned P R (sent x t) = R x × P t

-- the same of many turns
pub record Pushes (P : State → Type 0) (R : Dispatch → Type 0) (x : Pushed) : Type 0 where
  pub state_keeps : P x.state
  pub each_record : Every R x.dispatched

module _ {P : State → Type 0} {R : Dispatch → Type 0} where
  -- nothing sent
  pub pushes_none : (s : State) → P s → Pushes P R (record { dispatched = []; state = s })
  pushes_none s h = record { state_keeps = h; each_record = λ a m. absurd (Memᴰ.not-nil m) }

  -- turns until one halts
  pub turns_keep : (n : ℕ) (turn : State → Turn) (s : State) → ((t : State) → P t → Turned P R (turn t)) → P s → Pushes P R (turns n turn s)
  unfolding turns after_turn
  turns_keep zero turn s f h = pushes_none s h
  turns_keep (suc n) turn s f h = go (turn s) (f s h) (λ t k. turns_keep n turn t f k)
    where
      go : (x : Turn) → Turned P R x → ((t : State) → P t → Pushes P R (turns n turn t)) → Pushes P R (after_turn x (λ (t : State). turns n turn t))
      go (halt t) k more = pushes_none t k
      go (sent x t) k more = let r = more t k.1 in record { state_keeps = r.state_keeps; each_record = every_cons k.0 r.each_record }

  -- each of some served
  pub serve_each_keep : {K : Type 0} (serve : State → K → Pushed) (ks : List K) (s : State) → ((t : State) (k : K) → P t → Pushes P R (serve t k)) → P s
      → Pushes P R (serve_each serve ks s)
  unfolding serve_each
  serve_each_keep serve [] s f h = pushes_none s h
  serve_each_keep serve (k ∷ ks) s f h =
      let a = f s k h in
      let b = serve_each_keep serve ks (serve s k).state f a.state_keeps in
      record {
        state_keeps = b.state_keeps;
        each_record = every_append (serve s k).dispatched (serve_each serve ks (serve s k).state).dispatched a.each_record b.each_record;
      }

module _ (P : State → Type 0) (R : Dispatch → Type 0) (shared_kept : (p : Pair) (t : State) → P t → Turned P R (shared_turn p t))
    (plain_kept : (i : ℕ) (t : State) → P t → Turned P R (plain_turn i t)) where
  -- what both kinds of turns keep, a push keeps
  pub push_pending_keeps : (s : State) → P s → Pushes P R (push_pending s)
  unfolding push_pending push_pending_shared serve_dispatcher serve_plain
  push_pending_keeps s h =
      let pairs : List Pair = map (λ (d : Dispatcher). d.pair) s.dispatchers in
      let ids : List ℕ = map (λ (c : Consumer). c.id) s.consumers in
      let a = serve_each_keep serve_dispatcher pairs s (λ t p k. turns_keep _ (shared_turn p) t (shared_kept p) k) h in
      let b = serve_each_keep serve_plain ids (serve_each serve_dispatcher pairs s).state (λ t i k. turns_keep _ (plain_turn i) t (plain_kept i) k) a.state_keeps in
      record {
        state_keeps = b.state_keeps;
        each_record = every_append (serve_each serve_dispatcher pairs s).dispatched (serve_each serve_plain ids (serve_each serve_dispatcher pairs s).state).dispatched a.each_record b.each_record;
      }

  -- and so does a push with a list of any room
  pub push_keeps_both : (s : State) (room : ℕ) → P s → Keeps P s (push s room)
  unfolding push
  push_keeps_both s room h =
      by_test (leb (length (push_pending s).dispatched) room) (λ t. rw t (push_pending_keeps s h).state_keeps) (λ t. rw t h)
