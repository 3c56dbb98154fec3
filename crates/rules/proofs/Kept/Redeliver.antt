-- A redeliver keeps a state sound: what the sender holds moves to the queue, each position at most once as before.
use Prim.Native.Nat.{ℕ, ◌<◌}
use mathlib.Core.Path.{◌≡◌, refl, ◌∙◌}
use mathlib.Core.Bool.{true, not, and-eq-true_iff}
use mathlib.Core.List.Memᴰ
use mathlib.Core.List.{List, [], ◌∷◌, ◌++◌}
use mathlib.Core.Option.{some}
use native.Mathlib.Omega.{arith}
use lib.Dec.{eqb, ltb}
use lib.ListN.{length, set}
use borrow.Author.Tests.{ltb-true, ltb-false, eqb-true}
use Rattle.rules.specs.Table.{any, Every, keep, count}
use Rattle.rules.specs.State.{StoredMessage, Consumer, Held, Dispatcher, Id, State, consumer_of, ledger_of, dispatcher}
use Rattle.rules.specs.Ledger.{position_of, holds_id, message_at}
use Rattle.rules.specs.Dispatcher.{with_places, with_marks, is_hold, mark_at}
use Rattle.rules.specs.Groups.{Group}
use Rattle.rules.specs.Commands.{with_reading, raised, redeliver_id, redeliver_groups, found_positions, redeliver_plain, redeliver}
use Rattle.rules.specs.Valid.{ValidConsumer, ValidDispatcher, Sound}
use Rattle.rules.proofs.Says.{every_cons}
use Rattle.rules.proofs.Table.{by_test, count_append, count_other, count_parted, any_count}
use Rattle.rules.proofs.State.{dispatcher_pair}
use Rattle.rules.proofs.Kept.Every.{every_append, kept_was}
use Rattle.rules.proofs.Kept.Counts.{count_one}
use Rattle.rules.proofs.Kept.Frame.{consumer_valid, sound_replace_consumer, sound_own_dispatcher}
use Rattle.rules.proofs.Kept.Parts.{positions, Places, places_of, fewer_places, valid_with_places, valid_with_marks, dispatcher_valid}
use Rattle.rules.proofs.Kept.Outcomes.{Keeps, keeps_guard, keeps_live, keeps_groups, keeps_kind}
use Rattle.rules.proofs.Kept.Consumers.{valid_with_reading}
use Rattle.rules.proofs.Kept.Marks.{valid_raised, valid_set_mark}

-- ---- shared

-- a hold on a position stands there
pub hold_position : (i k : ℕ) (h : Held) → is_hold i k h ≡ true → k ≡ h.position
unfolding is_hold
hold_position i k h e = eqb-true k h.position ((and-eq-true_iff (eqb i h.holder) (eqb k h.position)).0 e).1

-- a held position that goes to the queue's end
handed_back : (i k : ℕ) (ring : List ℕ) (cursor : ℕ) (held : List Held) (queue : List ℕ) → Places ring cursor held queue → any (is_hold i k) held ≡ true
    → Places ring cursor (keep (λ (h : Held). not (is_hold i k h)) held) (queue ++ k ∷ [])
handed_back i k ring cursor held queue p f =
    fewer_places ring cursor held queue (keep (λ (h : Held). not (is_hold i k h)) held) (queue ++ k ∷ []) p
    (λ a m. p.holders a (kept_was (λ (h : Held). not (is_hold i k h)) held a m))
    (λ n.
    let parted = count_parted (is_hold i k) (λ (h : Held). h.position) n held in
    let joined = count_append n queue (k ∷ []) in
    by_test (eqb n k)
    (λ t.
    let e : n ≡ k = eqb-true n k t in
    let g : 0 < count n (positions (keep (is_hold i k) held)) =
    any_count (is_hold i k) (λ (h : Held). h.position) n (λ h q. e ∙ hold_position i k h q) held f in
    let one = count_one n k t in
    omega arith)
    (λ t. let no_one = count_other n k t in omega arith))

-- an id handed back
pub redeliver_id_valid : (s : State) (ledger : List StoredMessage) (i : ℕ) (d : Dispatcher) (j : Id) → ValidDispatcher s d → ValidDispatcher s (redeliver_id ledger i d j)
unfolding redeliver_id mark_at with_places
redeliver_id_valid s ledger i d j v =
    let k : ℕ = position_of j ledger in
    let here : List StoredMessage = ledger_of s d.pair.topic in
    by_test (any (is_hold i k) d.in_flight)
    (λ t. rw t
    (valid_with_marks s _
    (valid_with_places s d v (d.redelivery ++ k ∷ []) (keep (λ (h : Held). not (is_hold i k h)) d.in_flight)
    (handed_back i k d.attached d.cursor d.in_flight d.redelivery (places_of d v.places) t))
    (set d.marks k (raised (mark_at d k))) d.outside
    (valid_set_mark here d.marks k (raised (mark_at d k)) v.entry_marks (valid_raised (message_at here k) (mark_at d k)))
    v.outside_ids))
    (λ t. rw t v)

-- its pair and its ring stay
pub redeliver_id_pair : (ledger : List StoredMessage) (i : ℕ) (d : Dispatcher) (j : Id) → (redeliver_id ledger i d j).pair ≡ d.pair
unfolding redeliver_id with_places with_marks
redeliver_id_pair ledger i d j = by_test (any (is_hold i (position_of j ledger)) d.in_flight) (λ t. rw t) (λ t. rw t)

redeliver_id_ring : (ledger : List StoredMessage) (i : ℕ) (d : Dispatcher) (j : Id) → (redeliver_id ledger i d j).attached ≡ d.attached
unfolding redeliver_id with_places with_marks
redeliver_id_ring ledger i d j = by_test (any (is_hold i (position_of j ledger)) d.in_flight) (λ t. rw t) (λ t. rw t)

-- each id of a list handed back
pub record HandedBack (s : State) (d e : Dispatcher) : Type 0 where
  pub still_valid : ValidDispatcher s e
  pub same_pair : e.pair ≡ d.pair
  pub same_ring : e.attached ≡ d.attached

-- all of a list
pub redeliver_groups_valid : (s : State) (ledger : List StoredMessage) (i : ℕ) (d : Dispatcher) (gs : List Group) → ValidDispatcher s d
    → HandedBack s d (redeliver_groups ledger i d gs)
unfolding redeliver_groups
redeliver_groups_valid s ledger i d [] v = record { still_valid = v; same_pair = refl; same_ring = refl }
redeliver_groups_valid s ledger i d (g ∷ gs) v =
    let r = redeliver_groups_valid s ledger i (redeliver_id ledger i d g.id) gs (redeliver_id_valid s ledger i d g.id v) in
    record {
      still_valid = r.still_valid;
      same_pair = r.same_pair ∙ redeliver_id_pair ledger i d g.id;
      same_ring = r.same_ring ∙ redeliver_id_ring ledger i d g.id;
    }

-- ---- plain

-- found positions lie in the ledger
found_in_ledger : (ledger : List StoredMessage) (gs : List Group) → Every (λ (k : ℕ). k < length ledger) (found_positions ledger gs)
unfolding found_positions holds_id
found_in_ledger ledger [] = λ a m. absurd (Memᴰ.not-nil m)
found_in_ledger ledger (g ∷ gs) =
    by_test (ltb (position_of g.id ledger) (length ledger))
    (λ t. rw t (every_cons {P = λ (k : ℕ). k < length ledger} (ltb-true (position_of g.id ledger) (length ledger) t) (found_in_ledger ledger gs)))
    (λ t. rw t (found_in_ledger ledger gs))

-- found entries join nacked
redeliver_plain_keeps : (s : State) (i : ℕ) (c : Consumer) (gs : List Group) → Sound s → consumer_of s i ≡ some c → Keeps Sound s (redeliver_plain s c gs)
unfolding redeliver_plain with_reading
redeliver_plain_keeps s i c gs v e =
    let w : ValidConsumer s c = consumer_valid s i c v e in
    let l : List StoredMessage = ledger_of s c.pair.topic in
    let nacked : List ℕ = c.nacked ++ found_positions l gs in
    keeps_guard Sound s v _ 11 _ (λ t.
    sound_replace_consumer s i c (with_reading c c.cursor nacked) v e refl
    (valid_with_reading s c w c.cursor nacked w.cursor_in_ledger (ltb-false 64 (length nacked) t)
    (every_append {P = λ (k : ℕ). k < length l} c.nacked (found_positions l gs) w.nacked_in_ledger (found_in_ledger l gs))))

-- ---- the redeliver

-- any redeliver
pub redeliver_keeps : (s : State) (i : ℕ) (list : List ℕ) → Sound s → Keeps Sound s (redeliver s i list)
unfolding redeliver
redeliver_keeps s i list v =
    keeps_live Sound s v i _ (λ c e.
    let w : ValidConsumer s c = consumer_valid s i c v e in
    keeps_groups Sound s v list _ (λ gs g.
    keeps_kind Sound s v c.kind _ _
    (λ k. redeliver_plain_keeps s i c gs v e)
    (λ k.
    let d : Dispatcher = dispatcher s c.pair in
    let l : List StoredMessage = ledger_of s c.pair.topic in
    let r = redeliver_groups_valid s l i d gs (dispatcher_valid s c.pair v w.topic_byte w.subscription_byte) in
    sound_own_dispatcher s c (redeliver_groups l i d gs) v w k (r.same_pair ∙ dispatcher_pair s c.pair) r.same_ring r.still_valid)))
