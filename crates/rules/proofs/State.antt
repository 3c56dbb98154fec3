-- The tables of the state: what is found after one of them changed.
use Prim.Native.Nat.{ℕ}
use mathlib.Core.Path.{◌≡◌, refl, sym, ap, ◌∙◌, subst}
use mathlib.Core.Bool.{Bool, true, false, cond, not, and-eq-true_iff}
use mathlib.Core.List.{List, [], ◌∷◌}
use mathlib.Core.Option.{Option, none, some}
use lib.Dec.{eqb, ltb}
use lib.ListN.{length}
use borrow.Author.Tests.{eqb-true, eq-eqb}
use Rattle.rules.specs.Table.{find, keep, or_else}
use Rattle.rules.specs.State.{same_id, Pair, same_pair, Consumer, Dispatcher, State, new_dispatcher, by_id, by_pair, topic_of, consumer_of, dispatcher_of, ledger_of, dispatcher, insert, with_consumers, with_dispatchers, put_consumer, put_dispatcher}
use Rattle.rules.specs.Commands.{without_consumer}
use Rattle.rules.specs.Book.{updated}
use Rattle.rules.proofs.Table.{by_test, Decides, decides_numbers, turned_round, find_key, find_put, put_put}

-- ---- pairs and ids

-- pairs are told apart
pub decides_pairs : Decides same_pair
unfolding same_pair
decides_pairs = record {
  equal = λ a b h.
      let t = (and-eq-true_iff (eqb a.topic b.topic) (eqb a.subscription b.subscription)).0 h in
      λ i. record { topic = eqb-true a.topic b.topic t.0 i; subscription = eqb-true a.subscription b.subscription t.1 i };
  self = λ a. rw (eq-eqb a.topic a.topic refl, eq-eqb a.subscription a.subscription refl);
}

-- ids are told apart
pub decides_ids : Decides same_id
unfolding same_id
decides_ids = record {
  equal = λ a b h.
      let t = (and-eq-true_iff (eqb a.ledger b.ledger) (eqb a.entry b.entry)).0 h in
      λ i. record { ledger = eqb-true a.ledger b.ledger t.0 i; entry = eqb-true a.entry b.entry t.1 i };
  self = λ a. rw (eq-eqb a.ledger a.ledger refl, eq-eqb a.entry a.entry refl);
}

-- ---- functions with another value at one place

module _ {K A : Type 0} {same : K → K → Bool} (w : Decides same) (f : K → A) (k : K) (a : A) where
  -- at that place
  pub updated_here : updated same f k a k ≡ a
  unfolding updated
  updated_here = rw (w.self k)

  -- and elsewhere
  pub updated_elsewhere : (j : K) → same j k ≡ false → updated same f k a j ≡ f j
  unfolding updated
  updated_elsewhere j e = rw e

-- ---- consumers

-- what is found after an insert
pub find_insert : (j : ℕ) (c : Consumer) (l : List Consumer) → find by_id j (insert c l) ≡ cond (eqb j c.id) (some c) (find by_id j l)
unfolding find insert
find_insert j c [] = refl
find_insert j c (d ∷ l) =
    by_test (ltb c.id d.id)
    (λ t. rw t)
    (λ t. rw t
    (by_test (eqb c.id d.id)
    (λ u. rw (u, ← (eqb-true c.id d.id u)) (by_test (eqb j c.id) (λ v. rw v) (λ v. rw v)))
    (λ u. rw u
    (by_test (eqb j d.id)
    (λ v. rw (v, eqb-true j d.id v, turned_round decides_numbers c.id d.id u))
    (λ v. rw v (find_insert j c l))))))

-- what is found where all of an id are left out
pub find_without : (j i : ℕ) (l : List Consumer)
    → find by_id j (keep (λ (c : Consumer). not (eqb i c.id)) l) ≡ cond (eqb j i) none (find by_id j l)
unfolding find keep
find_without j i [] = by_test (eqb j i) (λ t. rw t) (λ t. rw t)
find_without j i (c ∷ l) =
    by_test (eqb i c.id)
    (λ t. rw (t, find_without j i l)
    (by_test (eqb j i) (λ u. rw u) (λ u. rw (u, ← (eqb-true i c.id t), u))))
    (λ t. rw t
    (by_test (eqb j c.id)
    (λ u. rw (u, eqb-true j c.id u, turned_round decides_numbers i c.id t))
    (λ u. rw u (find_without j i l))))

-- the live consumers after one is put
pub consumer_put : (s : State) (c : Consumer) (j : ℕ) → consumer_of (put_consumer s c) j ≡ cond (eqb j c.id) (some c) (consumer_of s j)
unfolding consumer_of put_consumer with_consumers
consumer_put s c j = find_insert j c s.consumers

-- the live consumers after one left
pub consumer_without : (s : State) (i j : ℕ) → consumer_of (without_consumer s i) j ≡ cond (eqb j i) none (consumer_of s j)
unfolding consumer_of without_consumer with_consumers
consumer_without s i j = find_without j i s.consumers

-- a consumer that was found has the id
pub consumer_id : (s : State) (i : ℕ) (c : Consumer) → consumer_of s i ≡ some c → i ≡ c.id
unfolding consumer_of
consumer_id s i c e = eqb-true i c.id (find_key by_id i s.consumers c e)

-- something holds of every id if it does of the one put and of all others
pub each_id : (P : ℕ → Option Consumer → Type 0) (s : State) (i : ℕ) (c : Consumer) → i ≡ c.id → P i (some c)
    → ((j : ℕ) → eqb j i ≡ false → P j (consumer_of s j)) → (j : ℕ) → P j (consumer_of (put_consumer s c) j)
each_id P s i c e here there j =
    subst (λ (o : Option Consumer). P j o) (sym (consumer_put s c j))
    (by_test (eqb j i)
    (λ t. subst (λ (x : ℕ). P j (cond (eqb j x) (some c) (consumer_of s j))) e (rw (t, eqb-true j i t) here))
    (λ t. subst (λ (x : ℕ). P j (cond (eqb j x) (some c) (consumer_of s j))) e (rw t (there j t))))

-- the same where one leaves
pub each_left : (P : ℕ → Option Consumer → Type 0) (s : State) (i : ℕ) → P i none
    → ((j : ℕ) → eqb j i ≡ false → P j (consumer_of s j)) → (j : ℕ) → P j (consumer_of (without_consumer s i) j)
each_left P s i here there j =
    subst (λ (o : Option Consumer). P j o) (sym (consumer_without s i j))
    (by_test (eqb j i) (λ t. rw (t, eqb-true j i t) here) (λ t. rw t (there j t)))

-- ---- dispatchers

-- a dispatcher that was found, or the new one, has the pair
pair_of_found : (s : State) (p : Pair) (n : ℕ) (o : Option Dispatcher) → find by_pair p s.dispatchers ≡ o
    → (or_else o (new_dispatcher p n)).pair ≡ p
unfolding or_else new_dispatcher
pair_of_found s p n none e = refl
pair_of_found s p n (some d) e = sym (decides_pairs.equal p d.pair (find_key by_pair p s.dispatchers d e))

-- so every pair's dispatcher has it
pub dispatcher_pair : (s : State) (p : Pair) → (dispatcher s p).pair ≡ p
unfolding dispatcher dispatcher_of
dispatcher_pair s p = pair_of_found s p (length (ledger_of s p.topic)) (find by_pair p s.dispatchers) refl

-- the dispatchers after one is put
pub dispatcher_put : (s : State) (d : Dispatcher) (q : Pair) → dispatcher (put_dispatcher s d) q ≡ cond (same_pair q d.pair) d (dispatcher s q)
unfolding dispatcher dispatcher_of put_dispatcher with_dispatchers or_else ledger_of topic_of
dispatcher_put s d q =
    rw (find_put by_pair decides_pairs q d s.dispatchers) (by_test (same_pair q d.pair) (λ t. rw t) (λ t. rw t))

-- the one that is put
pub dispatcher_here : (s : State) (d : Dispatcher) (p : Pair) → d.pair ≡ p → dispatcher (put_dispatcher s d) p ≡ d
dispatcher_here s d p e =
    dispatcher_put s d p ∙ ap (λ (t : Bool). cond t d (dispatcher s p)) (subst (λ (q : Pair). same_pair p q ≡ true) (sym e) (decides_pairs.self p))

-- of two that are put for one pair the later counts
pub put_twice : (s : State) (c d : Dispatcher) → d.pair ≡ c.pair → put_dispatcher (put_dispatcher s c) d ≡ put_dispatcher s d
unfolding put_dispatcher with_dispatchers
put_twice s c d e = ap (λ (l : List Dispatcher). with_dispatchers s l) (put_put by_pair decides_pairs d c s.dispatchers e)

-- something holds of every pair if it does of the dispatcher put and of all others
pub each_pair : (P : Pair → Dispatcher → Type 0) (s : State) (p : Pair) (d : Dispatcher) → d.pair ≡ p → P p d
    → ((q : Pair) → same_pair q p ≡ false → P q (dispatcher s q)) → (q : Pair) → P q (dispatcher (put_dispatcher s d) q)
each_pair P s p d e here there q =
    subst (λ (x : Dispatcher). P q x) (sym (dispatcher_put s d q))
    (by_test (same_pair q p)
    (λ t. subst (λ (x : Pair). P q (cond (same_pair q x) d (dispatcher s q))) (sym e) (rw (t, decides_pairs.equal q p t) here))
    (λ t. subst (λ (x : Pair). P q (cond (same_pair q x) d (dispatcher s q))) (sym e) (rw t (there q t))))
