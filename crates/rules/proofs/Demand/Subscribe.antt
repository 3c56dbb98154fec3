-- Subscribe: an id that is not live becomes a consumer, and a shared one joins the ring of its pair with no permits. A live
-- id that is subscribed again changes nothing where that is a no-op; nothing is said of the other case.
use Prim.Native.Nat.{ℕ, ◌<◌}
use mathlib.Core.Path.{◌≡◌, refl, sym, ap, ap₂, ◌∙◌, subst}
use mathlib.Core.Bool.{Bool, true, false, cond, not, ◌&&◌, true≢false, and-true}
use mathlib.Core.List.{List, [], ◌∷◌, ◌++◌, map}
use mathlib.Core.Option.{Option, none, some}
use native.Mathlib.Omega.{arith}
use lib.Dec.{eqb}
use lib.ListN.{length, length-append}
use borrow.Author.Tests.{leb-false}
use Rattle.rules.specs.Table.{put, any, member, count, is_some}
use Rattle.rules.specs.State.{Pair, same_pair, Kind, by_kind, Consumer, Held, Dispatcher, State, by_pair, consumer_of, ledger_of, dispatcher, insert, put_consumer, put_dispatcher}
use Rattle.rules.specs.State.Kind.{plain, shared}
use Rattle.rules.specs.Dispatcher.{with_attached}
use Rattle.rules.specs.Outcome.Outcome.{done}
use Rattle.rules.specs.Outcome.Value.{nothing}
use Rattle.rules.specs.Commands.{new_consumer, joined, subscribe}
use Rattle.rules.specs.Calls.Call.{Subscribe}
use Rattle.rules.specs.Book.{Book, Who, updated, with_who, with_attached_ids, with_pair, enter_subscribe, enter_done, records_of}
use Rattle.rules.specs.Book.Who.{away, live_plain, attached_to}
use Rattle.rules.specs.Demand.{is_live, is_done, grants_of, costs_of, sum_over}
use Rattle.rules.proofs.Table.{by_test, never_both, decides_numbers, any_key, keys_put, all_weaker, count_append, count_self, count_other, member_count, count_member, count_no_member}
use Rattle.rules.proofs.State.{decides_pairs, updated_here}
use Rattle.rules.proofs.Demand.Sums.{sum_append, sum_absent}
use Rattle.rules.proofs.Demand.Invariant.{Agree, attached_count, held_in, Fits, Invariant}
use Rattle.rules.proofs.Demand.Marks.{placed_ring}
use Rattle.rules.proofs.Demand.Known.{account}
use Rattle.rules.proofs.Demand.Changes.{fits_elsewhere, attached_as, live_put, consumers_keep, ring_keeps}
use Rattle.rules.proofs.Demand.Outcomes.{Keeps, keeps_guard, keeps_cond, keeps_undone}

-- ---- an id that is not live

module _ (s : State) (b : Book) (h : Invariant s b) (i : ℕ) (p : Pair) (e : b.who i ≡ away) where
  -- it is attached nowhere
  nowhere : (q : Pair) → count i (b.attached q) ≡ 0
  nowhere q = h.attached_once q i ∙ ap (attached_count q) e

  -- a plain consumer
  subscribed_plain : Invariant (put_consumer s (new_consumer i plain p)) (with_who b i live_plain)
  unfolding put_consumer new_consumer with_who
  subscribed_plain =
      consumers_keep s b h (insert (new_consumer i plain p) s.consumers) (updated eqb b.who i live_plain)
      (live_put s b h i (new_consumer i plain p) live_plain refl refl)
      (attached_as b i live_plain nowhere h.attached_once)
      (λ q. fits_elsewhere i live_plain (nowhere q) (h.fits q))

  -- the ring with the id at its end
  abbrev ring : List ℕ
  ring = b.attached p ++ i ∷ []

  -- it is attached to its pair and nowhere else
  joined_once : (q : Pair) (j : ℕ) → count j (updated same_pair b.attached p ring q) ≡ attached_count q (updated eqb b.who i (account p 0 0) j)
  unfolding updated
  joined_once q j =
      by_test (same_pair q p)
      (λ t. rw t
      (let a = count_append j (b.attached p) (i ∷ []) in
      by_test (eqb j i)
      (λ u. rw (u, decides_pairs.equal q p t, decides_pairs.self p, decides_numbers.equal j i u) (omega (arith, count_append i (b.attached p) (i ∷ []), nowhere p, count_self i)))
      (λ u. rw (u, decides_pairs.equal q p t) (omega (arith, count_append j (b.attached p) (i ∷ []), count_other j i u, h.attached_once p j)))))
      (λ t. rw t
      (by_test (eqb j i)
      (λ u. rw (u, t, decides_numbers.equal j i u) (nowhere q))
      (λ u. rw u (h.attached_once q j))))

  -- its figures are 0
  sum_joined : (f : Who → ℕ) → f (account p 0 0) ≡ 0 → sum_over f (updated eqb b.who i (account p 0 0)) ring ≡ sum_over f b.who (b.attached p)
  unfolding sum_over
  sum_joined f z =
      let who = updated eqb b.who i (account p 0 0) in
      let a = sum_append f who (b.attached p) (i ∷ []) in
      let c = sum_absent f b.who i (account p 0 0) (b.attached p) (nowhere p) in
      let d : f (who i) ≡ 0 = ap f (updated_here decides_numbers b.who i (account p 0 0)) ∙ z in
      omega arith

  -- a holder of the ring is one of the longer ring
  still_in : (x : Held) → held_in (b.attached p) x ≡ true → held_in ring x ≡ true
  still_in x t =
      let a = member_count x.holder (b.attached p) t in
      let c = count_append x.holder (b.attached p) (i ∷ []) in
      count_member x.holder ring (omega arith)

  -- the pairs are the book's
  pairs_joined : (d : Dispatcher) → d.pair ≡ p
      → map (λ (y : Dispatcher). y.pair) (put by_pair d s.dispatchers) ≡ cond (any (same_pair p) b.pairs) b.pairs (b.pairs ++ p ∷ [])
  pairs_joined d x =
      keys_put by_pair decides_pairs d s.dispatchers
      ∙ rw (x, ← (any_key by_pair p s.dispatchers))
      (ap (λ (l : List Pair). cond (any (same_pair p) l) l (l ++ p ∷ [])) h.pairs)

  -- the dispatcher that it joins
  joined_fits : length (dispatcher s p).attached < 32
      → Fits p (ledger_of s p.topic) (updated eqb b.who i (account p 0 0)) ring (b.handed_out p) (b.acked p)
      (with_attached (dispatcher s p) ((dispatcher s p).attached ++ i ∷ []))
  unfolding with_attached costs_of grants_of
  joined_fits small =
      let f = h.fits p in
      let fewer : length (b.attached p) < 32 = subst (λ (r : List ℕ). length r < 32) f.ringed.ring_is small in
      record {
        ringed = record {
          pair_is = f.ringed.pair_is;
          ring_is = ap (λ (r : List ℕ). r ++ i ∷ []) f.ringed.ring_is;
          ring_size = omega (arith, fewer, length-append (b.attached p) (i ∷ []));
          balanced = rw (sum_joined costs_of refl, sum_joined grants_of refl) f.ringed.balanced;
        };
        marks_agree = f.marks_agree;
        placed = placed_ring (all_weaker (held_in (b.attached p)) (held_in ring) still_in (dispatcher s p).in_flight f.placed.holders) f.placed;
      }

  -- a shared consumer
  subscribed_shared : length (dispatcher s p).attached < 32
      → Invariant (put_dispatcher (put_consumer s (new_consumer i shared p)) (with_attached (dispatcher s p) ((dispatcher s p).attached ++ i ∷ [])))
      (with_pair (with_attached_ids (with_who b i (account p 0 0)) p ring) p)
  unfolding put_consumer new_consumer with_attached with_who with_attached_ids with_pair
  subscribed_shared small =
      let w = account p 0 0 in
      let d = with_attached (dispatcher s p) ((dispatcher s p).attached ++ i ∷ []) in
      let ps = cond (any (same_pair p) b.pairs) b.pairs (b.pairs ++ p ∷ []) in
      ring_keeps s b h (insert (new_consumer i shared p) s.consumers) p d ps i w ring
      (pairs_joined d (h.fits p).ringed.pair_is)
      (live_put s b h i (new_consumer i shared p) w refl (record { kind_is = refl; pair_is = refl; balanced = omega arith; least = omega arith }))
      joined_once (λ q t. nowhere q) (joined_fits small)

  -- the id is in no ring of the state
  not_member : member i (dispatcher s p).attached ≡ false
  not_member = count_no_member i (dispatcher s p).attached (ap (count i) (h.fits p).ringed.ring_is ∙ nowhere p)

  -- the state has no such consumer
  not_live : consumer_of s i ≡ none
  not_live = go (consumer_of s i) (subst (λ (w : Who). Agree (consumer_of s i) w) e (h.live i))
    where
      go : (o : Option Consumer) → Agree o away → o ≡ none
      go none x = refl
      go (some c) x = absurd x

  -- its subscribe
  subscribe_away : (kind : Kind) → Keeps s b (Subscribe i kind p) (subscribe s i kind p)
  unfolding subscribe is_some records_of by_kind enter_done enter_subscribe joined
  subscribe_away plain = rw not_live (keeps_guard s b h (Subscribe i plain p) _ 12 _ (λ t. rw e subscribed_plain))
  subscribe_away shared =
      rw (not_live, not_member)
      (keeps_guard s b h (Subscribe i shared p) _ 12 _ (λ t.
      keeps_guard s b h (Subscribe i shared p) _ 13 _ (λ u.
      keeps_guard s b h (Subscribe i shared p) _ 14 _ (λ v.
      rw e (subscribed_shared (leb-false 32 (length (dispatcher s p).attached) v))))))

-- ---- an id that is live

module _ (s : State) (b : Book) (h : Invariant s b) (i : ℕ) (kind : Kind) (p : Pair) where
  -- a no-op enters nothing, and any other done call is one that demand 3 does not speak of
  subscribe_live : (c : Consumer) → consumer_of s i ≡ some c → enter_subscribe b i kind p (b.who i) ≡ b
      → (is_done (subscribe s i kind p) && not s.live_id_subscribe_is_noop) ≡ false → Keeps s b (Subscribe i kind p) (subscribe s i kind p)
  unfolding subscribe is_some enter_done records_of
  subscribe_live c x y z =
      by_test s.live_id_subscribe_is_noop
      (λ t.
      keeps_cond s b h (Subscribe i kind p) (is_some (consumer_of s i) && s.live_id_subscribe_is_noop) (done nothing s) _
      (λ u. subst (λ (r : Book). Invariant s r) (sym y) h)
      (λ u. never_both (is_some (consumer_of s i) && s.live_id_subscribe_is_noop) (ap₂ (λ (o : Option Consumer) (n : Bool). is_some o && n) x t) u))
      (λ t.
      let undone : is_done (subscribe s i kind p) ≡ false =
      sym (and-true (is_done (subscribe s i kind p))) ∙ ap (λ (n : Bool). is_done (subscribe s i kind p) && not n) (sym t) ∙ z in
      keeps_undone s b h (Subscribe i kind p) (subscribe s i kind p) undone)

  -- an id that is live in the book is live in the state
  subscribe_known : (w : Who) → b.who i ≡ w → is_live w ≡ true → enter_subscribe b i kind p w ≡ b
      → (is_live (b.who i) && is_done (subscribe s i kind p) && not s.live_id_subscribe_is_noop) ≡ false
      → (o : Option Consumer) → consumer_of s i ≡ o → Agree o w → Keeps s b (Subscribe i kind p) (subscribe s i kind p)
  unfolding is_live
  subscribe_known away e l y z o x a = absurd (true≢false (sym l))
  subscribe_known live_plain e l y z none x a = absurd a
  subscribe_known live_plain e l y z (some c) x a =
      subscribe_live c x (ap (enter_subscribe b i kind p) e ∙ y)
      (subst (λ (w : Who). (is_live w && is_done (subscribe s i kind p) && not s.live_id_subscribe_is_noop) ≡ false) e z)
  subscribe_known (attached_to v) e l y z none x a = absurd a
  subscribe_known (attached_to v) e l y z (some c) x a =
      subscribe_live c x (ap (enter_subscribe b i kind p) e ∙ y)
      (subst (λ (w : Who). (is_live w && is_done (subscribe s i kind p) && not s.live_id_subscribe_is_noop) ≡ false) e z)

-- subscribe keeps the invariant, unless it replaces a live id
pub subscribe_keeps : (s : State) (b : Book) → Invariant s b → (i : ℕ) (kind : Kind) (p : Pair)
    → (is_live (b.who i) && is_done (subscribe s i kind p) && not s.live_id_subscribe_is_noop) ≡ false
    → Keeps s b (Subscribe i kind p) (subscribe s i kind p)
unfolding is_live enter_subscribe
subscribe_keeps s b h i kind p z = go (b.who i) refl (h.live i)
  where
    go : (w : Who) → b.who i ≡ w → Agree (consumer_of s i) w → Keeps s b (Subscribe i kind p) (subscribe s i kind p)
    go away e a = subscribe_away s b h i p e kind
    go live_plain e a = subscribe_known s b h i kind p live_plain e refl refl z (consumer_of s i) refl a
    go (attached_to v) e a = subscribe_known s b h i kind p (attached_to v) e refl refl z (consumer_of s i) refl a
