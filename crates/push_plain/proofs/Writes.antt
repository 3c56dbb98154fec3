-- A consumer's words as the code writes them, one write after another.
use mathlib.Core.Path.{◌≡◌, sym, ap, ap₂, ◌∙◌, subst}
use mathlib.Core.List.{List}
use Prim.Native.Nat.{ℕ, ◌+◌, ◌-◌, min}
use native.Mathlib.Omega.{arith}
use lib.ListN.{length, drop, drop_of_length-le}
use lib.Seq.{get_or-set_same}
use lib.Dec.{ltb}
use borrow.Author.Tests.{ltb-true, ltb-false}
use Rattle.rules.specs.State.{Consumer, State, with_consumers, ledger_of, topic_of}
use Rattle.rules.specs.Commands.{with_permits, with_reading}
use Rattle.rules.proofs.Table.{by_test}
use Rattle.layout.specs.Layout.{decode, put}
use Rattle.layout.specs.Whole.{ShapedConsumer}
use Rattle.layout.specs.Fields.{zero_consumer, consumer_nth, set_consumer}
use Rattle.layout.specs.Placed.{ConsumerIn}
use Rattle.layout.proofs.Store.{canon_entries}
use Rattle.layout.proofs.Placed.{shaped_set_consumer}
use Rattle.operation_laws.proofs.Frame.{decode_after, consumer_twice, consumer_still_in}
use Rattle.push_laws.specs.Plain.{ledger_for}
use Rattle.push_plain.specs.Reading.{ReadableConsumer, ReadableIn, entries_taken}
use Rattle.push_plain.proofs.Same.{readable_by}

-- ---- a consumer set, and what is then there

module _ {e : ℕ} {ws us : List ℕ} (i : ℕ) (c : Consumer) (h : ConsumerIn e ws i) (k : ShapedConsumer c)
    (w : us ≡ put ws (set_consumer (decode ws) i c)) where
  pub set_in : ConsumerIn e us i
  set_in = consumer_still_in ws (decode ws) i c h.canon.shaped (canon_entries h.canon) k w h.there

  pub set_is : consumer_nth (decode us) i ≡ c
  unfolding set_consumer with_consumers
  set_is =
      ap (λ (x : State). consumer_nth x i) (decode_after ws (set_consumer (decode ws) i c) (shaped_set_consumer (decode ws) h.canon.shaped i c k) w)
      ∙ get_or-set_same (decode ws).consumers i c zero_consumer h.there

-- ---- a cursor, then nacked positions

module _ {e : ℕ} {ws us : List ℕ} (i x : ℕ) (h : ConsumerIn e ws i)
    (w : us ≡ put ws (set_consumer (decode ws) i (with_reading (consumer_nth (decode ws) i) x (consumer_nth (decode ws) i).nacked))) where
  abbrev moved : Consumer
  moved = with_reading (consumer_nth (decode ws) i) x (consumer_nth (decode ws) i).nacked

  shaped_moved : ShapedConsumer moved
  unfolding with_reading
  shaped_moved = h.nacked_fit

  pub cursor_set_in : ConsumerIn e us i
  cursor_set_in = set_in i moved h shaped_moved w

  pub cursor_set_nacked : (consumer_nth (decode us) i).nacked ≡ (consumer_nth (decode ws) i).nacked
  unfolding with_reading
  cursor_set_nacked = ap (λ (c : Consumer). c.nacked) (set_is i moved h shaped_moved w)

-- no more than all can be dropped
drop_min : (n : ℕ) (l : List ℕ) → drop (min n (length l)) l ≡ drop n l
drop_min n l =
    by_test (ltb n (length l))
    (λ t. let h = ltb-true n (length l) t in let e : min n (length l) ≡ n = omega arith in rw e)
    (λ t. let h = ltb-false n (length l) t in let e : min n (length l) ≡ length l = omega arith in
    rw (e, drop_of_length-le l {i = length l} (omega arith), drop_of_length-le l {i = n} h))

pub read_on_done : {e : ℕ} {ws us vs : List ℕ} (i from taken n : ℕ) → ConsumerIn e ws i → from ≡ (consumer_nth (decode ws) i).cursor
    → taken ≡ min n (length (consumer_nth (decode ws) i).nacked)
    → us ≡ put ws (set_consumer (decode ws) i (with_reading (consumer_nth (decode ws) i) (from + (n - taken)) (consumer_nth (decode ws) i).nacked))
    → vs ≡ put us (set_consumer (decode us) i
    (with_reading (consumer_nth (decode us) i) (consumer_nth (decode us) i).cursor (drop taken (consumer_nth (decode us) i).nacked)))
    → vs ≡ put ws (set_consumer (decode ws) i
    (with_reading (consumer_nth (decode ws) i) ((consumer_nth (decode ws) i).cursor + (n - length (consumer_nth (decode ws) i).nacked))
    (drop n (consumer_nth (decode ws) i).nacked)))
unfolding with_reading
read_on_done {ws = ws} i from taken n h f t w v =
    let c : Consumer = consumer_nth (decode ws) i in
    let l : List ℕ = (consumer_nth (decode ws) i).nacked in
    let x : from + (n - taken) ≡ c.cursor + (n - length l) = omega (arith, f, t) in
    consumer_twice ws (decode ws) i (with_reading c (from + (n - taken)) l) (λ (y : Consumer). with_reading y y.cursor (drop taken y.nacked))
    h.canon.shaped h.nacked_fit h.there w v
    ∙ ap₂ (λ (k : ℕ) (m : List ℕ). put ws (set_consumer (decode ws) i (with_reading c k m))) x (ap (λ (k : ℕ). drop k l) t ∙ drop_min n l)

-- ---- permits, then entries

module _ {e : ℕ} {ws us : List ℕ} (i p : ℕ) (h : ConsumerIn e ws i)
    (w : us ≡ put ws (set_consumer (decode ws) i (with_permits (consumer_nth (decode ws) i) p))) where
  abbrev charged : Consumer
  charged = with_permits (consumer_nth (decode ws) i) p

  shaped_charged : ShapedConsumer charged
  unfolding with_permits
  shaped_charged = h.nacked_fit

  pub permits_set_in : ConsumerIn e us i
  permits_set_in = set_in i charged h shaped_charged w

  -- its ledger is as it was
  ledger_as_it_was : ledger_for (decode us) charged ≡ ledger_for (decode ws) charged
  unfolding with_permits set_consumer with_consumers ledger_of topic_of
  ledger_as_it_was =
      ap (λ (x : State). ledger_for x charged)
      (decode_after ws (set_consumer (decode ws) i charged) (shaped_set_consumer (decode ws) h.canon.shaped i charged shaped_charged) w)

  -- and so it reads the same
  same_read : ReadableConsumer (decode ws) (consumer_nth (decode ws) i) → ReadableConsumer (decode ws) charged
  unfolding with_permits
  same_read r = record { cursor_in = r.cursor_in; nacked_in = r.nacked_in }

  pub permits_set_readable : ReadableConsumer (decode ws) (consumer_nth (decode ws) i) → ReadableIn e us i
  permits_set_readable r =
      record {
        here = permits_set_in;
        readable = subst (λ (c : Consumer). ReadableConsumer (decode us) c) (sym (set_is i charged h shaped_charged w))
            (readable_by (decode ws) (decode us) charged ledger_as_it_was (same_read r));
      }

pub take_done : {e : ℕ} {ws us vs : List ℕ} (i p n : ℕ) → ConsumerIn e ws i
    → us ≡ put ws (set_consumer (decode ws) i (with_permits (consumer_nth (decode ws) i) (p - n)))
    → vs ≡ put us (set_consumer (decode us) i
    (with_reading (consumer_nth (decode us) i) ((consumer_nth (decode us) i).cursor + (n - length (consumer_nth (decode us) i).nacked))
    (drop n (consumer_nth (decode us) i).nacked)))
    → vs ≡ put ws (set_consumer (decode ws) i (entries_taken (with_permits (consumer_nth (decode ws) i) p) n))
unfolding with_permits with_reading entries_taken
take_done {ws = ws} i p n h w v =
    consumer_twice ws (decode ws) i (with_permits (consumer_nth (decode ws) i) (p - n))
    (λ (y : Consumer). with_reading y (y.cursor + (n - length y.nacked)) (drop n y.nacked))
    h.canon.shaped h.nacked_fit h.there w v
