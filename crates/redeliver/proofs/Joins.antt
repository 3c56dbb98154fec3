-- The nacked positions of a consumer while found ones join them: what was written and what is ahead make up the whole.
use mathlib.Core.Path.{◌≡◌, refl, sym, ap, ◌∙◌}
use mathlib.Core.List.{List, [], ◌∷◌, ◌++◌, append-nil, append_assoc}
use Prim.Native.Nat.{ℕ, ◌+◌, ◌≤◌, ◌<◌}
use native.Mathlib.Omega.{arith}
use lib.ListN.{length, get_or, length-append}
use lib.Seq.{set-get_or, get_or-set_same}
use Rattle.rules.specs.State.{Consumer, State, Topic, StoredMessage, ledger_of, topic_of, with_consumers}
use Rattle.rules.specs.Groups.{Group}
use Rattle.redeliver.proofs.Finds.{found_first, found_first_count}
use Rattle.operation_laws.proofs.Frame.{decode_after, consumer_twice, consumer_still_in}
use Rattle.layout.proofs.Placed.{shaped_set_consumer, shaped_reading, topic_in}
use Rattle.rules.specs.Commands.{with_reading, found_positions}
use Rattle.layout.specs.Layout.{decode, put, entries_in}
use Rattle.layout.specs.Canon.{CanonStore}
use Rattle.layout.specs.Fields.{zero_consumer, zero_topic, consumer_nth, topic_nth, set_consumer}
use Rattle.layout.specs.Placed.{ConsumerIn, TopicIn}
use Rattle.layout.proofs.Store.{put_decode}

-- words that stay are those of a consumer that nothing joined
pub joined_nothing : {e : ℕ} {ws : List ℕ} (i : ℕ) → ConsumerIn e ws i
    → ws ≡ put ws (set_consumer (decode ws) i (with_reading (consumer_nth (decode ws) i) (consumer_nth (decode ws) i).cursor ((consumer_nth (decode ws) i).nacked ++ [])))
unfolding with_reading set_consumer with_consumers
joined_nothing {e} {ws} i h =
    rw (append-nil (consumer_nth (decode ws) i).nacked, set-get_or (decode ws).consumers i zero_consumer) (sym (put_decode h.canon))

-- the words us are ws with other nacked positions of consumer i, and those with what is ahead are the whole
pub record Joining (ws us : List ℕ) (i topic : ℕ) (all ahead : List Group) : Type 0 where
  pub written : us ≡ put ws (set_consumer (decode ws) i (with_reading (consumer_nth (decode ws) i) (consumer_nth (decode ws) i).cursor (consumer_nth (decode us) i).nacked))
  pub whole : (consumer_nth (decode us) i).nacked ++ found_positions (ledger_of (decode ws) topic) ahead
      ≡ (consumer_nth (decode ws) i).nacked ++ found_positions (ledger_of (decode ws) topic) all

-- at the start
pub joining_start : {e : ℕ} {ws : List ℕ} (i topic : ℕ) (all : List Group) → ConsumerIn e ws i → Joining ws ws i topic all all
unfolding with_reading set_consumer with_consumers
joining_start {e} {ws} i topic all h =
    record { written = rw (set-get_or (decode ws).consumers i zero_consumer) (sym (put_decode h.canon)); whole = refl }

-- E as the state has it
entries_here : {e : ℕ} {ws : List ℕ} → CanonStore e ws → (decode ws).entries ≡ e
unfolding decode entries_in
entries_here h = h.E_in

module _ {e : ℕ} {ws us : List ℕ} (i topic : ℕ) (all gs : List Group) (h : ConsumerIn e ws i) (j : Joining ws us i topic all gs)
    (b : length ((consumer_nth (decode ws) i).nacked ++ found_positions (ledger_of (decode ws) topic) all) ≤ 64) where
  -- the positions so far fit
  fit : length (consumer_nth (decode us) i).nacked + length (found_positions (ledger_of (decode ws) topic) gs) ≤ 64
  fit = let e = ap (λ (l : List ℕ). length l) j.whole in let f = length-append (consumer_nth (decode us) i).nacked (found_positions (ledger_of (decode ws) topic) gs) in omega arith

  -- the state now
  state_now : decode us ≡ set_consumer (decode ws) i (with_reading (consumer_nth (decode ws) i) (consumer_nth (decode ws) i).cursor (consumer_nth (decode us) i).nacked)
  state_now = decode_after ws _ (shaped_set_consumer (decode ws) h.canon.shaped i _ (shaped_reading (consumer_nth (decode ws) i) (consumer_nth (decode ws) i).cursor (consumer_nth (decode us) i).nacked (omega (arith, fit)))) j.written

  -- the ledger is as it was
  pub same_ledger : ledger_of (decode us) topic ≡ ledger_of (decode ws) topic
  unfolding ledger_of topic_of set_consumer with_consumers
  same_ledger = ap (λ (t : State). ledger_of t topic) state_now

  -- the consumer is there
  pub joining_in : ConsumerIn e us i
  joining_in = let q = entries_here h.canon in consumer_still_in ws (decode ws) i _ h.canon.shaped q (shaped_reading (consumer_nth (decode ws) i) (consumer_nth (decode ws) i).cursor (consumer_nth (decode us) i).nacked (omega (arith, fit))) j.written h.there

  -- and so is each topic, by its slot
  same_topics : (decode us).topics ≡ (decode ws).topics
  unfolding set_consumer with_consumers
  same_topics = ap (λ (s : State). s.topics) state_now

  pub joining_slot : (t : ℕ) → (ledger_of (decode ws) topic ≡ (topic_nth (decode ws) t).messages) × (t < length (decode ws).topics)
      → TopicIn e us t × (ledger_of (decode us) topic ≡ (topic_nth (decode us) t).messages)
  joining_slot t q = (
    topic_in joining_in.canon t (rw same_topics q.1),
    same_ledger ∙ q.0 ∙ ap (λ (l : List Topic). (get_or l t zero_topic).messages) (sym same_topics),
  )

  -- at the end
  pub joining_end : gs ≡ [] → us ≡ put ws (set_consumer (decode ws) i (with_reading (consumer_nth (decode ws) i) (consumer_nth (decode ws) i).cursor ((consumer_nth (decode ws) i).nacked ++ found_positions (ledger_of (decode ws) topic) all)))
  unfolding found_positions
  joining_end l =
      let n : found_positions (ledger_of (decode ws) topic) gs ≡ [] = rw l in
      let w : (consumer_nth (decode us) i).nacked ≡ (consumer_nth (decode ws) i).nacked ++ found_positions (ledger_of (decode ws) topic) all = sym (append-nil (consumer_nth (decode us) i).nacked) ∙ ap (λ (m : List ℕ). (consumer_nth (decode us) i).nacked ++ m) (sym n) ∙ j.whole in
      j.written ∙ ap (λ (m : List ℕ). put ws (set_consumer (decode ws) i (with_reading (consumer_nth (decode ws) i) (consumer_nth (decode ws) i).cursor m))) w

  -- there is room for what this group finds
  pub joining_room : (g : Group) (rest : List Group) → gs ≡ g ∷ rest → length (consumer_nth (decode us) i).nacked + length (found_positions (ledger_of (decode us) topic) (g ∷ [])) ≤ 64
  joining_room g rest k =
      let f : length (found_positions (ledger_of (decode ws) topic) gs) ≡ length (found_positions (ledger_of (decode ws) topic) (g ∷ [])) + length (found_positions (ledger_of (decode ws) topic) rest) =
      rw k (found_first_count (ledger_of (decode ws) topic) g rest) in
      let l = ap (λ (m : List StoredMessage). length (found_positions m (g ∷ []))) same_ledger in
      let m = fit in omega arith

  -- a turn
  pub joining_turn : {vs : List ℕ} (p : Group) (rest : List Group) → gs ≡ p ∷ rest
      → vs ≡ put us (set_consumer (decode us) i (with_reading (consumer_nth (decode us) i) (consumer_nth (decode us) i).cursor ((consumer_nth (decode us) i).nacked ++ found_positions (ledger_of (decode us) topic) (p ∷ []))))
      → Joining ws vs i topic all rest
  unfolding with_reading set_consumer with_consumers
  joining_turn {vs} p rest k f =
      let x : List ℕ = (consumer_nth (decode us) i).nacked in
      let c : Consumer = consumer_nth (decode ws) i in
      let l : List StoredMessage = ledger_of (decode ws) topic in
      let g : List ℕ = found_positions l (p ∷ []) in
      let room = joining_room p rest k in
      let sl = ap (λ (m : List StoredMessage). length (found_positions m (p ∷ []))) same_ledger in
      let long = length-append x g in
      let f' : vs ≡ put us (set_consumer (decode us) i (with_reading (consumer_nth (decode us) i) (consumer_nth (decode us) i).cursor ((consumer_nth (decode us) i).nacked ++ g))) =
      f ∙ ap (λ (m : List StoredMessage). put us (set_consumer (decode us) i (with_reading (consumer_nth (decode us) i) (consumer_nth (decode us) i).cursor ((consumer_nth (decode us) i).nacked ++ found_positions m (p ∷ []))))) same_ledger in
      let w : vs ≡ put ws (set_consumer (decode ws) i (with_reading c c.cursor (x ++ g))) =
      consumer_twice ws (decode ws) i (with_reading c c.cursor x) (λ (y : Consumer). with_reading y y.cursor (y.nacked ++ g)) h.canon.shaped
      (shaped_reading c c.cursor x (omega (arith, fit))) h.there j.written f' in
      let n : (consumer_nth (decode vs) i).nacked ≡ x ++ g =
      ap (λ (t : State). (consumer_nth t i).nacked) (decode_after ws _ (shaped_set_consumer (decode ws) h.canon.shaped i _ (shaped_reading c c.cursor (x ++ g) (omega arith))) w)
      ∙ ap (λ (y : Consumer). y.nacked) (get_or-set_same (decode ws).consumers i (with_reading c c.cursor (x ++ g)) zero_consumer h.there) in
      record {
        written = w ∙ ap (λ (m : List ℕ). put ws (set_consumer (decode ws) i (with_reading c c.cursor m))) (sym n);
        whole = ap (λ (m : List ℕ). m ++ found_positions l rest) n
            ∙ append_assoc x g (found_positions l rest)
            ∙ ap (λ (m : List ℕ). x ++ m) (sym (found_first l p rest) ∙ ap (found_positions l) (sym k))
            ∙ j.whole;
      }
