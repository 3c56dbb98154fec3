-- Push: turns after turns of the dispatchers, then of the plain consumers, each entered into the book.
use Prim.Native.Nat.{ℕ, zero, suc, ◌-◌}
use mathlib.Core.Path.{◌≡◌, refl, subst}
use mathlib.Core.Bool.{false, cond}
use mathlib.Core.List.{List, [], ◌∷◌, ◌++◌, map}
use mathlib.Core.Option.{Option, none, some}
use lib.Dec.{leb, ltb}
use lib.ListN.{length}
use Rattle.rules.specs.Permits.{above_zero}
use Rattle.rules.specs.State.{Kind, by_kind, Consumer, Dispatcher, State, consumer_of, ledger_of}
use Rattle.rules.specs.State.Kind.{plain, shared}
use Rattle.rules.specs.Outcome.{Dispatch}
use Rattle.rules.specs.Commands.{with_permits, with_reading}
use Rattle.rules.specs.Push.{Turn, send_plain, send_plain_next, plain_turn_of, plain_turn, Pushed, after_turn, turns, shared_turn, serve_dispatcher, serve_plain, plain_backlog, serve_each, push_pending_shared, push_pending, push}
use Rattle.rules.specs.Push.Turn.{halt, sent}
use Rattle.rules.specs.Calls.Call.{Push}
use Rattle.rules.specs.Book.{Book, enter_record, enter_records, enter_done, records_of}
use Rattle.rules.specs.Book.Who.{live_plain}
use Rattle.rules.proofs.Table.{by_test}
use Rattle.rules.proofs.State.{consumer_id}
use Rattle.rules.proofs.Demand.Invariant.{Invariant}
use Rattle.rules.proofs.Demand.Known.{known_plain}
use Rattle.rules.proofs.Demand.Changes.{same_plain, reconsumed}
use Rattle.rules.proofs.Demand.Outcomes.{Keeps, keeps_cond}
use Rattle.rules.proofs.Demand.Turn.{Turned, shared_turn_keeps}

-- ---- a plain consumer's turn

module _ (s : State) (b : Book) (h : Invariant s b) (i : ℕ) (c : Consumer) (e : consumer_of s i ≡ some c) (kind : c.kind ≡ plain) where
  -- what is sent to it enters nothing
  sent_plain : (cursor : ℕ) (nacked : List ℕ) (k : ℕ) → Turned (send_plain s (with_reading c cursor nacked) k) b
  unfolding send_plain with_permits with_reading enter_record
  sent_plain cursor nacked k =
      let f = consumer_id s i c e in
      let x = with_permits (with_reading c cursor nacked) (c.permits - 1) in
      rw (subst (λ (j : ℕ). b.who j ≡ live_plain) f (known_plain s b h i c e kind))
      (reconsumed s b h i c x e f (same_plain c x kind kind))

  -- nacked, then ledger
  plain_next : (nacked : List ℕ) → Turned (send_plain_next s c nacked) b
  unfolding send_plain_next
  plain_next [] =
      by_test (ltb c.cursor (length (ledger_of s c.pair.topic))) (λ t. rw t (sent_plain (suc c.cursor) [] c.cursor)) (λ t. rw t h)
  plain_next (k ∷ nacked) = sent_plain c.cursor nacked k

-- a turn of an id keeps the invariant
plain_turn_keeps : (i : ℕ) (s : State) (b : Book) → Invariant s b → Turned (plain_turn i s) b
unfolding plain_turn plain_turn_of by_kind
plain_turn_keeps i s b h = go (consumer_of s i) refl
  where
    -- one that was found, by its kind
    served : (c : Consumer) → consumer_of s i ≡ some c → (k : Kind) → c.kind ≡ k
        → Turned (cond (by_kind k (above_zero c.permits) false) (send_plain_next s c c.nacked) (halt s)) b
    served c e plain k = by_test (above_zero c.permits) (λ t. rw t (plain_next s b h i c e k c.nacked)) (λ t. rw t h)
    served c e shared k = h

    go : (o : Option Consumer) → consumer_of s i ≡ o → Turned (plain_turn_of s o) b
    go none e = h
    go (some c) e = served c e c.kind refl

-- ---- turns after turns

-- the invariant holds after some turns, with what they sent entered
abbrev Served : Pushed → Book → Type 0
Served x b = Invariant x.state (enter_records b x.dispatched)

-- a turn that keeps it, and what follows
after_keeps : (t : Turn) (more : State → Pushed) → ((s : State) (b : Book) → Invariant s b → Served (more s) b)
    → (b : Book) → Turned t b → Served (after_turn t more) b
unfolding after_turn enter_records
after_keeps (halt s) more f b h = h
after_keeps (sent x s) more f b h = f s (enter_record b x (b.who x.consumer)) h

-- turns that each keep it keep it
turns_keep : (turn : State → Turn) → ((s : State) (b : Book) → Invariant s b → Turned (turn s) b)
    → (n : ℕ) (s : State) (b : Book) → Invariant s b → Served (turns n turn s) b
unfolding turns enter_records
turns_keep turn f zero s b h = h
turns_keep turn f (suc n) s b h = after_keeps (turn s) (λ (x : State). turns n turn x) (turns_keep turn f n) b (f s b h)

-- what two parts sent is entered one part after the other
enter_both : (b : Book) (l m : List Dispatch) → enter_records b (l ++ m) ≡ enter_records (enter_records b l) m
unfolding enter_records
enter_both b [] m = refl
enter_both b (x ∷ l) m = enter_both (enter_record b x (b.who x.consumer)) l m

-- services that each keep it keep it
each_keeps : {K : Type 0} (serve : State → K → Pushed) → ((s : State) (k : K) (b : Book) → Invariant s b → Served (serve s k) b)
    → (ks : List K) (s : State) (b : Book) → Invariant s b → Served (serve_each serve ks s) b
unfolding serve_each enter_records
each_keeps serve f [] s b h = h
each_keeps serve f (k ∷ ks) s b h =
    let first = serve s k in
    let rest = serve_each serve ks first.state in
    rw (enter_both b first.dispatched rest.dispatched)
    (each_keeps serve f ks first.state (enter_records b first.dispatched) (f s k b h))

-- all that is pending
pending_keeps : (s : State) (b : Book) → Invariant s b → Served (push_pending s) b
unfolding push_pending push_pending_shared serve_dispatcher serve_plain
pending_keeps s b h =
    let shared_part = push_pending_shared s in
    let plain_part = serve_each serve_plain (map (λ (c : Consumer). c.id) s.consumers) shared_part.state in
    rw (enter_both b shared_part.dispatched plain_part.dispatched)
    (each_keeps serve_plain (λ x i r. turns_keep (plain_turn i) (plain_turn_keeps i) (suc (plain_backlog x (consumer_of x i))) x r)
    (map (λ (c : Consumer). c.id) s.consumers) shared_part.state (enter_records b shared_part.dispatched)
    (each_keeps serve_dispatcher (λ x p r. turns_keep (shared_turn p) (λ y q g. shared_turn_keeps y q g p) _ x r)
    (map (λ (d : Dispatcher). d.pair) s.dispatchers) s b h))

-- push keeps the invariant
pub push_keeps : (s : State) (b : Book) → Invariant s b → (room : ℕ) → Keeps s b (Push room) (push s room)
unfolding push enter_done records_of
push_keeps s b h room =
    keeps_cond s b h (Push room) (leb (length (push_pending s).dispatched) room) _ _ (λ t. pending_keeps s b h) (λ t. h)
