-- A consumer put in the state: made in place of the live one, or made at its place in a gap.
use mathlib.Core.Path.{◌≡◌, refl, sym, ap, ◌∙◌}
use mathlib.Core.List.{List, ◌∷◌, ◌++◌}
use Prim.Native.Nat.{ℕ, ◌+◌, ◌≤◌, ◌<◌}
use native.Mathlib.Omega.{arith}
use lib.ListN.{length, length-append, length-drop, set, take, drop}
use lib.Seq.{set-append_seam, length-take-le}
use Rattle.words.proofs.Each.{all_append, all_take, all_drop}
use Rattle.rules.specs.State.{Consumer, State, by_id, with_consumers, put_consumer}
use Rattle.rules.specs.Valid.{Ascending}
use Rattle.layout.specs.Layout.{decode, put}
use Rattle.layout.specs.Whole.{Shaped, ShapedConsumer}
use Rattle.layout.specs.Canon.{CanonStore}
use Rattle.layout.specs.Placed.{ConsumerIn}
use Rattle.layout.specs.Fields.{zero_consumer, set_consumer}
use Rattle.layout.proofs.Placed.{consumer_in, shaped_consumers}
use Rattle.layout.proofs.Store.{canon_entries}
use Rattle.store.specs.Find.{slot}
use Rattle.operation_laws.specs.Place.{by_above}
use Rattle.operation_laws.proofs.Frame.{insert_found, put_consumer_new, then_write, canon_after, decode_after}

-- a consumer made at the slot of its id is put in the state
pub seated_again : (s : State) (i : ℕ) (c : Consumer) → Ascending s.consumers → i ≡ slot by_id c.id s.consumers → i < length s.consumers
    → set_consumer s i c ≡ put_consumer s c
unfolding set_consumer put_consumer
seated_again s i c a e h =
    ap (with_consumers s) (ap (λ (j : ℕ). set s.consumers j c) e ∙ sym (insert_found c s.consumers a (rw e at h)))

module _ {e : ℕ} {ws : List ℕ} (i : ℕ) (h : CanonStore e ws) (l : i ≤ length (decode ws).consumers) (k : length (decode ws).consumers < 32) where
  -- the consumers with another at i
  abbrev among : Consumer → List Consumer
  among c = take i (decode ws).consumers ++ c ∷ drop i (decode ws).consumers

  longer : (c : Consumer) → length (among c) ≡ length (decode ws).consumers + 1
  longer c =
      let a : length (among c) ≡ length (take i (decode ws).consumers) + length (c ∷ drop i (decode ws).consumers) = length-append (take i (decode ws).consumers) (c ∷ drop i (decode ws).consumers) in
      let t : length (take i (decode ws).consumers) ≡ i = length-take-le i (decode ws).consumers l in
      let d = length-drop i (decode ws).consumers in
      omega arith

  -- such a state is shaped
  pub shaped_among : (c : Consumer) → ShapedConsumer c → Shaped (with_consumers (decode ws) (among c))
  shaped_among c s =
      let n = longer c in
      shaped_consumers (decode ws) h.shaped (among c) (omega arith)
      (all_append ShapedConsumer (take i (decode ws).consumers) (c ∷ drop i (decode ws).consumers)
      (all_take ShapedConsumer i (decode ws).consumers h.shaped.each_consumer)
      (s, all_drop ShapedConsumer i (decode ws).consumers h.shaped.each_consumer))

  -- the blank consumer is there
  pub opened_in : {us : List ℕ} → us ≡ put ws (with_consumers (decode ws) (among zero_consumer)) → ConsumerIn e us i
  unfolding with_consumers
  opened_in {us} w =
      let t = with_consumers (decode ws) (among zero_consumer) in
      let sh = shaped_among zero_consumer (omega arith) in
      let n : length (decode us).consumers ≡ length (decode ws).consumers + 1 = ap (λ (s : State). length s.consumers) (decode_after ws t sh w) ∙ longer zero_consumer in
      consumer_in (canon_after ws t sh (canon_entries h) w) i (omega arith)

  -- and is made the new one
  pub seated_new : {us vs : List ℕ} (c : Consumer) → us ≡ put ws (with_consumers (decode ws) (among zero_consumer))
      → vs ≡ put us (set_consumer (decode us) i c) → i ≡ slot by_above c.id (decode ws).consumers → length (decode ws).consumers ≤ slot by_id c.id (decode ws).consumers
      → vs ≡ put ws (put_consumer (decode ws) c)
  unfolding set_consumer with_consumers
  seated_new c w f p m =
      let t = with_consumers (decode ws) (among zero_consumer) in
      let at : length (take i (decode ws).consumers) ≡ i = length-take-le i (decode ws).consumers l in
      let seam : set (among zero_consumer) i c ≡ among c = ap (λ (j : ℕ). set (among zero_consumer) j c) (sym at) ∙ rw set-append_seam in
      let new = put_consumer_new (decode ws) (slot by_id c.id (decode ws).consumers) c.id refl c m refl in
      then_write ws t (λ (s : State). set_consumer s i c) (shaped_among zero_consumer (omega arith)) refl w f
      ∙ ap (λ (x : List Consumer). put ws (with_consumers (decode ws) x)) seam
      ∙ ap (put ws) (ap (λ (j : ℕ). with_consumers (decode ws) (take j (decode ws).consumers ++ c ∷ drop j (decode ws).consumers)) p ∙ sym new)
