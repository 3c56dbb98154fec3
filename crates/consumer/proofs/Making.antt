-- A consumer made word by word.
use mathlib.Core.Path.{◌≡◌, ap, ◌∙◌}
use mathlib.Core.List.{List, []}
use Prim.Native.Nat.{ℕ, ◌+◌, ◌≤◌}
use native.Mathlib.Omega.{arith}
use lib.ListN.{set}
use Rattle.words.specs.Codec.{bit}
use Rattle.rules.specs.Permits.{zero_permits}
use Rattle.rules.specs.State.{Kind, Consumer}
use Rattle.rules.specs.Commands.{new_consumer, with_permits, with_reading}
use Rattle.layout.specs.Records.{flag_of}
use Rattle.layout.specs.Layout.{decode, put}
use Rattle.layout.specs.Whole.{ShapedConsumer}
use Rattle.layout.specs.Offsets.{consumer_at}
use Rattle.layout.specs.Placed.{ConsumerIn}
use Rattle.layout.specs.Fields.{consumer_nth, consumer_now, put_consumer_at, set_consumer, with_id, with_pair, with_kind, of_topic, of_subscription}
use Rattle.layout.proofs.Sets as sets
use Rattle.layout.proofs.Store.{canon_entries}
use Rattle.operation_laws.proofs.Frame.{consumer_twice, consumer_still_in}

-- ---- a consumer

module _ {e : ℕ} {ws : List ℕ} (i : ℕ) (h : ConsumerIn e ws i) where
  -- words with a consumer at i
  abbrev Has : List ℕ → Consumer → Type 0
  Has us c = us ≡ put ws (set_consumer (decode ws) i c)

  -- one write more
  then : {us vs : List ℕ} (c : Consumer) (g : Consumer → Consumer) → ShapedConsumer c → Has us c
      → (ConsumerIn e us i → vs ≡ put_consumer_at us i (g (consumer_now us i))) → Has vs (g c)
  then c g k w f =
      consumer_twice ws (decode ws) i c g h.canon.shaped k h.there w
      (f (consumer_still_in ws (decode ws) i c h.canon.shaped (canon_entries h.canon) k w h.there))

  -- its six words
  pub made_consumer : {us : List ℕ} (id n topic subscription : ℕ) (kind : Kind) → n ≡ bit (flag_of kind)
      → Has us (with_reading (consumer_nth (decode ws) i) (consumer_nth (decode ws) i).cursor [])
      → Has (set (set (set (set (set (set us (consumer_at i) id) (consumer_at i + 1) topic) (consumer_at i + 2) subscription) (consumer_at i + 3) n) (consumer_at i + 4) zero_permits) (consumer_at i + 5) 0)
      (new_consumer id kind (record { topic = topic; subscription = subscription }))
  unfolding with_reading with_id with_pair of_topic of_subscription with_kind with_permits new_consumer
  made_consumer {us} id n topic subscription kind k w =
      let c0 = with_reading (consumer_nth (decode ws) i) (consumer_nth (decode ws) i).cursor [] in
      let c1 = with_id c0 id in
      let c2 = with_pair c1 (of_topic c1.pair topic) in
      let c3 = with_pair c2 (of_subscription c2.pair subscription) in
      let c4 = with_kind c3 kind in
      let c5 = with_permits c4 zero_permits in
      let short : 0 ≤ 64 = omega arith in
      let w1 = then c0 (λ (c : Consumer). with_id c id) short w (λ x. sets.write_consumer_id x.canon i x.there id) in
      let w2 = then c1 (λ (c : Consumer). with_pair c (of_topic c.pair topic)) short w1 (λ x. sets.write_consumer_topic x.canon i x.there topic) in
      let w3 = then c2 (λ (c : Consumer). with_pair c (of_subscription c.pair subscription)) short w2 (λ x. sets.write_consumer_subscription x.canon i x.there subscription) in
      let w4 : Has (set (set (set (set us (consumer_at i) id) (consumer_at i + 1) topic) (consumer_at i + 2) subscription) (consumer_at i + 3) n) c4 =
      then c3 (λ (c : Consumer). with_kind c kind) short w3
      (λ x. ap (set (set (set (set us (consumer_at i) id) (consumer_at i + 1) topic) (consumer_at i + 2) subscription) (consumer_at i + 3)) k ∙ sets.write_consumer_kind x.canon i x.there kind) in
      let w5 = then c4 (λ (c : Consumer). with_permits c zero_permits) short w4 (λ x. sets.write_consumer_permits x.canon i x.there zero_permits) in
      then c5 (λ (c : Consumer). with_reading c 0 c.nacked) short w5 (λ x. sets.write_consumer_cursor x.canon i x.there 0)

-- ---- a dispatcher
