-- A close keeps a state sound: the consumer leaves the state first, then its ring, where nobody else is missed.
use Prim.Native.Nat.{ℕ, ◌+◌, ◌≤◌, ◌<◌}
use mathlib.Core.Path.{◌≡◌, refl, sym, ◌∙◌, ap, subst}
use mathlib.Core.Bool.{Bool, not, true≢false}
use mathlib.Core.List.{List, [], ◌∷◌, ◌++◌, Memᴰ}
use mathlib.Core.Option.{Option, none, some}
use native.Mathlib.Nat.{le_trans, mod-lt}
use native.Mathlib.Omega.{arith}
use lib.Dec.{eqb}
use lib.ListN.{length}
use borrow.Author.Tests.{not-false}
use Rattle.rules.specs.Permits.{least_total, most_total, total_in_range}
use Rattle.rules.specs.Table.{keep, count, is_some, is_empty}
use Rattle.rules.specs.State.{Pair, Consumer, Held, Dispatcher, State, consumer_of, dispatcher_of, ledger_of, topic_of, dispatcher, with_consumers, put_dispatcher}
use Rattle.rules.specs.State.Kind.{shared}
use Rattle.rules.specs.Dispatcher.{with_attached, with_next, with_total, with_places, held_by, without_holder}
use Rattle.rules.specs.Commands.{total_after_close, next_in_ring, left_by, without_consumer, close_consumer, close_found, close}
use Rattle.rules.specs.Valid.{ValidConsumer, ValidDispatcher, Sound}
use Rattle.rules.proofs.Says.{says_and, says_leb}
use Rattle.rules.proofs.Table.{length_keep, count_append, count_parted}
use Rattle.rules.proofs.State.{dispatcher_pair}
use Rattle.rules.proofs.Kept.Every.{kept_was, kept_passes, passes_kept, distinct_keep}
use Rattle.rules.proofs.Kept.Frame.{move_dispatcher, consumer_valid, ring_exists, sound_put_dispatcher, sound_without_consumer}
use Rattle.rules.proofs.Kept.Parts.{Ring, ring_of, positions, Places, places_of, by_parts, dispatcher_valid}
use Rattle.rules.proofs.Kept.Outcomes.{Keeps, keeps_guard, keeps_kind}

-- next in what is left of a ring
next_below : (next : ℕ) (ring : List ℕ) → 0 < length ring → next_in_ring next ring < length ring
unfolding next_in_ring is_empty
next_below next [] h = h
next_below next (i ∷ ring) h = mod-lt next h

-- and 0 in an empty one
next_zero : (next : ℕ) (ring : List ℕ) → length ring ≡ 0 → next_in_ring next ring ≡ 0
unfolding next_in_ring is_empty
next_zero next [] h = refl
next_zero next (i ∷ ring) h = absurd (omega arith)

-- others than an id
abbrev others : ℕ → ℕ → Bool
others i j = not (eqb i j)

-- the ring without an id
ring_left : (i : ℕ) (ring : List ℕ) (next : ℕ) → Ring ring next → Ring (keep (others i) ring) (next_in_ring next (keep (others i) ring))
ring_left i ring next r =
    record {
      small = le_trans (length_keep (others i) ring) r.small;
      different = distinct_keep eqb (others i) ring r.different;
      each_word = λ a m. r.each_word a (kept_was (others i) ring a m);
      next_below = next_below next (keep (others i) ring);
      next_zero = next_zero next (keep (others i) ring);
    }

-- the places: what the one who left held joins the queue
places_left : (i : ℕ) (ring : List ℕ) (cursor : ℕ) (held : List Held) (queue : List ℕ) → Places ring cursor held queue
    → Places (keep (others i) ring) cursor (without_holder i held) (queue ++ held_by i held)
unfolding held_by without_holder
places_left i ring cursor held queue p =
    record {
      holders = λ h m.
          passes_kept (others i) ring h.holder (p.holders h (kept_was (λ (x : Held). not (eqb i x.holder)) held h m))
          (kept_passes (λ (x : Held). not (eqb i x.holder)) held h m);
      once = λ k. let e = moved k in let o = p.once k in omega arith;
      below = λ k c. let e = moved k in p.below k (omega arith);
    }
  where
    moved : (k : ℕ) → count k (positions (keep (λ (x : Held). not (eqb i x.holder)) held)) + count k (queue ++ positions (keep (λ (x : Held). eqb i x.holder) held))
        ≡ count k (positions held) + count k queue
    moved k =
        let e = count_parted (λ (x : Held). eqb i x.holder) (λ (h : Held). h.position) k held in
        let f = count_append k queue (positions (keep (λ (x : Held). eqb i x.holder) held)) in
        omega arith

-- the dispatcher that is left
left_valid : (s : State) (i total : ℕ) (d : Dispatcher) → ValidDispatcher s d → least_total ≤ total → total ≤ most_total → ValidDispatcher s (left_by i total d)
unfolding left_by with_total with_places with_next with_attached
left_valid s i total d v from to =
    by_parts s (left_by i total d) v.pair_topic_byte v.pair_subscription_byte (ring_left i d.attached d.next (ring_of d v.ring)) from to
    v.cursor_in_ledger v.mark_delete_in_ledger
    (places_left i d.attached d.cursor d.in_flight d.redelivery (places_of d v.places))
    v.entry_marks v.outside_ids

-- a shared consumer closed: its dispatcher misses nobody who is still live
left_keeps : (s : State) (c : Consumer) (total : ℕ) → Sound s → ValidConsumer s c → c.kind ≡ shared → least_total ≤ total → total ≤ most_total
    → Sound (put_dispatcher (without_consumer s c.id) (left_by c.id total (dispatcher s c.pair)))
unfolding left_by with_total with_places with_next with_attached without_consumer with_consumers dispatcher dispatcher_of ledger_of topic_of
left_keeps s c total v w k from to =
    let d : Dispatcher = dispatcher s c.pair in
    let t : State = without_consumer s c.id in
    let e : d.pair ≡ c.pair = dispatcher_pair s c.pair in
    sound_put_dispatcher t (left_by c.id total d) (sound_without_consumer s c.id v)
    (λ f. absurd (true≢false (sym (ring_exists s c.pair c.id (w.shared_in_ring k)) ∙ (ap (λ (q : Pair). is_some (dispatcher_of s q)) (sym e) ∙ f))))
    (λ x m r.
    passes_kept (others c.id) d.attached x.id (subst (λ (q : Pair). Memᴰ x.id (dispatcher s q).attached) e r)
    (kept_passes (λ (y : Consumer). not (eqb c.id y.id)) s.consumers x m))
    (move_dispatcher s t (left_by c.id total d) refl
    (left_valid s c.id total d (dispatcher_valid s c.pair v w.topic_byte w.subscription_byte) from to))

-- a live consumer closed
close_consumer_keeps : (s : State) (i : ℕ) (c : Consumer) → Sound s → consumer_of s i ≡ some c → Keeps Sound s (close_consumer s c)
unfolding close_consumer total_in_range
close_consumer_keeps s i c v e =
    let d : Dispatcher = dispatcher s c.pair in
    let total : ℕ = total_after_close s.leak_shared_permits_on_churn d.total_available_permits c.permits in
    keeps_kind Sound s v c.kind _ _
    (λ k. sound_without_consumer s c.id v)
    (λ k. keeps_guard Sound s v _ 9 _ (λ t.
    let range = (says_and _ _ (says_leb least_total total) (says_leb total most_total)).gives (not-false _ t) in
    left_keeps s c total v (consumer_valid s i c v e) k range.0 range.1))

-- the consumer found, or none
pub close_keeps : (s : State) (i : ℕ) → Sound s → Keeps Sound s (close s i)
unfolding close close_found
close_keeps s i v = go (consumer_of s i) refl
  where
    go : (o : Option Consumer) → consumer_of s i ≡ o → Keeps Sound s (close_found s o)
    go none e = v
    go (some c) e = close_consumer_keeps s i c v e
