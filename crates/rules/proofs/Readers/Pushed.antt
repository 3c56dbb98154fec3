-- What a push sends to a reader. Dispatchers and other plain consumers send it nothing; served, it is sent what its permits
-- allow; served again in the same push it would have nothing left to take.
use Prim.Native.Nat.{ℕ, ◌+◌, ◌-◌}
use mathlib.Core.Path.{◌≡◌, refl, sym, ap, ◌∙◌, subst}
use mathlib.Core.Bool.{true, false, true≢false}
use mathlib.Core.List.{List, [], ◌∷◌, ◌++◌, append-nil, map}
use native.Mathlib.Omega.{arith}
use lib.Dec.{eqb}
use lib.ListN.{length}
use borrow.Author.Tests.{eqb-true}
use Rattle.rules.specs.Table.{Every, any, keep, member, is_some}
use Rattle.rules.specs.State.{StoredMessage, Pair, Consumer, Dispatcher, State, by_id, consumer_of}
use Rattle.rules.specs.Outcome.{Dispatch}
use Rattle.rules.specs.Push.{shared_turn, plain_turn, serve_dispatcher, plain_backlog, serve_plain, serve_each, push_pending_shared, push_pending}
use Rattle.rules.specs.Readers.{due_to}
use Rattle.rules.proofs.Says.{every_head, every_tail}
use Rattle.rules.proofs.Table.{by_test, any_key}
use Rattle.rules.proofs.Kept.Turns.{Pushes, turns_keep, serve_each_keep}
use Rattle.rules.proofs.Readers.Others.{Stands, Elsewhere, shared_turn_leaves, plain_turn_leaves}
use Rattle.rules.proofs.Readers.Own.{allowed, Read, own_ledger, own_turns}

module _ (i n : ℕ) (l : List StoredMessage) where
  -- what is sent to it of some dispatches
  abbrev to_it : List Dispatch → List StoredMessage
  to_it xs = map (λ (x : Dispatch). x.message) (keep (λ (x : Dispatch). eqb i x.consumer) xs)

  -- of some and more
  to_it_append : (xs ys : List Dispatch) → to_it (xs ++ ys) ≡ to_it xs ++ to_it ys
  unfolding keep
  to_it_append [] ys = refl
  to_it_append (x ∷ xs) ys =
      by_test (eqb i x.consumer)
      (λ u. rw u (ap (λ (ms : List StoredMessage). x.message ∷ ms) (to_it_append xs ys)))
      (λ u. rw u (to_it_append xs ys))

  -- of what goes elsewhere nothing
  to_others : (xs : List Dispatch) → Every (Elsewhere i) xs → to_it xs ≡ []
  unfolding keep
  to_others [] e = refl
  to_others (x ∷ xs) e = rw (every_head {P = (Elsewhere i)} e) (to_others xs (every_tail {P = (Elsewhere i)} e))

  -- of its own all
  to_itself : (xs : List Dispatch) → Every (λ (x : Dispatch). eqb i x.consumer ≡ true) xs → to_it xs ≡ map (λ (x : Dispatch). x.message) xs
  unfolding keep
  to_itself [] e = refl
  to_itself (x ∷ xs) e =
      rw (every_head {P = λ (x : Dispatch). eqb i x.consumer ≡ true} e)
      (ap (λ (ms : List StoredMessage). x.message ∷ ms) (to_itself xs (every_tail {P = λ (x : Dispatch). eqb i x.consumer ≡ true} e)))

  -- it is served
  served : (c : Consumer) (t : State) → Stands i n l c t → Read i n l c (serve_plain t i)
  unfolding serve_plain plain_backlog
  served c t h = rw (h.reader.live, own_ledger i n l c t h) (own_turns i n l (length c.nacked + (length l - c.cursor)) c t (omega arith) h)

  -- another is served
  other_served : (c : Consumer) (t : State) (j : ℕ) → eqb i j ≡ false → Stands i n l c t → Pushes (Stands i n l c) (Elsewhere i) (serve_plain t j)
  unfolding serve_plain
  other_served c t j e h = turns_keep _ (plain_turn j) t (λ s k. plain_turn_leaves i n l c j s e k) h

  -- some are served while nothing is left that it is allowed
  none_sent : (js : List ℕ) (c : Consumer) (t : State) → Stands i n l c t → allowed l c ≡ [] → to_it (serve_each serve_plain js t).dispatched ≡ []
  unfolding serve_each keep
  none_sent [] c t h e = refl
  none_sent (j ∷ js) c t h e =
      to_it_append (serve_plain t j).dispatched (serve_each serve_plain js (serve_plain t j).state).dispatched
      ∙ by_test (eqb i j)
      (λ u.
      let r : Read i n l c (serve_plain t j) = subst (λ (k : ℕ). Read i n l c (serve_plain t k)) (eqb-true i j u) (served c t h) in
      rw (to_itself (serve_plain t j).dispatched r.its_own, r.messages, e)
      (none_sent js r.rest (serve_plain t j).state r.rest_stands r.rest_none))
      (λ u.
      let k = other_served c t j u h in
      rw (to_others (serve_plain t j).dispatched k.each_record) (none_sent js c (serve_plain t j).state k.state_keeps e))

  -- some are served, it among them
  all_sent : (js : List ℕ) (c : Consumer) (t : State) → member i js ≡ true → Stands i n l c t → to_it (serve_each serve_plain js t).dispatched ≡ allowed l c
  unfolding serve_each member any
  all_sent [] c t m h = absurd (true≢false (sym m))
  all_sent (j ∷ js) c t m h =
      to_it_append (serve_plain t j).dispatched (serve_each serve_plain js (serve_plain t j).state).dispatched
      ∙ by_test (eqb i j)
      (λ u.
      let r : Read i n l c (serve_plain t j) = subst (λ (k : ℕ). Read i n l c (serve_plain t k)) (eqb-true i j u) (served c t h) in
      rw (to_itself (serve_plain t j).dispatched r.its_own, r.messages, none_sent js r.rest (serve_plain t j).state r.rest_stands r.rest_none)
      (append-nil (allowed l c)))
      (λ u.
      let k = other_served c t j u h in
      rw (to_others (serve_plain t j).dispatched k.each_record) (all_sent js c (serve_plain t j).state (rw u at m) k.state_keeps))

  -- a push
  pub due_allowed : (c : Consumer) (s : State) → Stands i n l c s → due_to i s ≡ allowed l c
  unfolding due_to push_pending push_pending_shared serve_dispatcher member is_some consumer_of
  due_allowed c s h =
      let pairs : List Pair = map (λ (d : Dispatcher). d.pair) s.dispatchers in
      let a = serve_each_keep serve_dispatcher pairs s (λ t p k. turns_keep _ (shared_turn p) t (shared_turn_leaves i n l c p) k) h in
      to_it_append (serve_each serve_dispatcher pairs s).dispatched _
      ∙ rw (to_others (serve_each serve_dispatcher pairs s).dispatched a.each_record)
      (all_sent (map (λ (x : Consumer). x.id) s.consumers) c (serve_each serve_dispatcher pairs s).state among a.state_keeps)
    where
      -- it is one of those served
      among : member i (map (λ (x : Consumer). x.id) s.consumers) ≡ true
      among = any_key by_id i s.consumers ∙ ap is_some h.reader.live
