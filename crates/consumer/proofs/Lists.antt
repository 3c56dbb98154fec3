-- The consumers and the nacked positions of each as counted lists of a store: they lie in it, and what is done to one is done
-- to the state.
use mathlib.Core.Path.{◌≡◌, sym, ap, ◌∙◌}
use mathlib.Core.List.{List, [], ◌∷◌, ◌++◌}
use Prim.Native.Nat.{ℕ, ◌+◌, ◌-◌, ◌*◌, ◌≤◌, ◌<◌}
use native.Mathlib.Omega.{arith}
use lib.ListN.{length, replicate, take, drop}
use Rattle.rules.specs.State.{Consumer, with_consumers}
use Rattle.rules.specs.Commands.{with_reading}
use Rattle.layout.specs.Records.{consumer_codec}
use Rattle.layout.specs.Layout.{decode, put}
use Rattle.layout.specs.Offsets.{consumer_count_at, consumer_at, consumer_words}
use Rattle.layout.specs.Fields.{zero_consumer, consumer_nth, set_consumer}
use Rattle.layout.specs.Canon.{CanonStore}
use Rattle.layout.specs.Placed.{ConsumerIn}
use Rattle.layout.proofs.Widths.{width_consumer}
use Rattle.layout.proofs.Blank.{blank_consumer}
use Rattle.layout.proofs.Gets.{read_consumer_count, read_nacked_count}
use Rattle.layout.proofs.Sets as layout
use Rattle.store.specs.declared.counted.Counted.{Counted}
use Rattle.store.specs.Counted.{Inside, HasRoom, size, without, without_first, cut_to, with_last, with_inserted}
use Rattle.store.proofs.Listed.{one_word}
use Rattle.consumer.specs.Lists.{nacked_list}

-- ---- the consumers

-- where they stand
abbrev pub consumer_list : Counted
consumer_list = record { count_at = consumer_count_at; first = consumer_at 0; width = consumer_words }

pub consumer_size : {e : ℕ} {ws : List ℕ} → CanonStore e ws → size consumer_list ws ≡ length (decode ws).consumers
consumer_size h = read_consumer_count h

pub consumer_inside : {e : ℕ} {ws : List ℕ} → CanonStore e ws → Inside consumer_list ws
consumer_inside h =
    let n = consumer_size h in
    let f = h.shaped.consumers_fit in
    let l = h.long in
    record { counted = omega arith; inside = omega arith }

pub consumer_room : {e : ℕ} {ws : List ℕ} → CanonStore e ws → length (decode ws).consumers < 32 → HasRoom consumer_list ws
consumer_room h f =
    let n = consumer_size h in
    let l = h.long in
    record { counted = omega arith; few = omega arith; inside = omega arith }

-- a blank one put in at i
pub consumer_opened : {e : ℕ} {ws : List ℕ} (i : ℕ) → CanonStore e ws → i ≤ length (decode ws).consumers → length (decode ws).consumers < 32
    → with_inserted consumer_list i (replicate 72 0) ws ≡ put ws (with_consumers (decode ws) (take i (decode ws).consumers ++ zero_consumer ∷ drop i (decode ws).consumers))
consumer_opened {ws = ws} i h k l =
    let z : replicate 72 0 ≡ consumer_codec.enc zero_consumer = sym (blank_consumer.spelt ∙ ap (λ (w : ℕ). replicate w 0) width_consumer) in
    ap (λ (vs : List ℕ). with_inserted consumer_list i vs ws) z ∙ rw (consumer_size h) (layout.insert_consumer h i zero_consumer k l)

module _ {e : ℕ} {ws : List ℕ} (i : ℕ) (h : ConsumerIn e ws i) where
  abbrev C : Consumer
  C = consumer_nth (decode ws) i

  pub consumer_without : without consumer_list i ws ≡ put ws (with_consumers (decode ws) (take i (decode ws).consumers ++ drop (i + 1) (decode ws).consumers))
  consumer_without = rw (consumer_size h.canon) (layout.remove_consumer h.canon i h.there)

  -- ---- nacked positions

  pub nacked_size : size (nacked_list i) ws ≡ length C.nacked
  nacked_size = read_nacked_count h.canon i h.there

  pub nacked_inside : Inside (nacked_list i) ws
  nacked_inside =
      let n = nacked_size in
      let f = h.nacked_fit in
      let k = h.inside in
      let l = h.canon.long in
      record { counted = omega arith; inside = omega arith }

  pub nacked_with : (k : ℕ) → length C.nacked < 64
      → with_last (nacked_list i) (k ∷ []) ws ≡ put ws (set_consumer (decode ws) i (with_reading C C.cursor (C.nacked ++ k ∷ [])))
  nacked_with k l =
      let to : consumer_at i + 7 + size (nacked_list i) ws * 1 ≡ consumer_at i + 7 + size (nacked_list i) ws = omega arith in
      rw (to, one_word, nacked_size) (layout.append_nacked h.canon i h.there k l)

  pub nacked_without : (n : ℕ) → n ≤ length C.nacked
      → without_first (nacked_list i) n ws ≡ put ws (set_consumer (decode ws) i (with_reading C C.cursor (drop n C.nacked)))
  nacked_without n l =
      let gap : n * 1 ≡ n = omega arith in
      let rest : (size (nacked_list i) ws - n) * 1 ≡ size (nacked_list i) ws - n = omega arith in
      rw (gap, rest, nacked_size) (layout.drop_nacked h.canon i h.there n l)

  pub nacked_none : cut_to (nacked_list i) 0 ws ≡ put ws (set_consumer (decode ws) i (with_reading C C.cursor []))
  nacked_none =
      let to : consumer_at i + 7 + 0 * 1 ≡ consumer_at i + 7 = omega arith in
      let all : consumer_at i + 7 + size (nacked_list i) ws * 1 - (consumer_at i + 7) ≡ size (nacked_list i) ws = omega arith in
      rw (to, all, nacked_size) (layout.clear_nacked h.canon i h.there)
