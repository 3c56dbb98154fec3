-- A turn of a plain consumer keeps a state sound.
use Prim.Native.Nat.{ℕ, suc, ◌-◌, ◌≤◌, ◌<◌}
use mathlib.Core.Path.{◌≡◌, refl, sym, ◌∙◌, ap, subst}
use mathlib.Core.Bool.{Bool, true, false, true≢false}
use mathlib.Core.List.Memᴰ
use mathlib.Core.List.{List, [], ◌∷◌}
use mathlib.Core.Option.{Option, none, some}
use native.Mathlib.Omega.{arith}
use lib.Dec.{ltb}
use lib.ListN.{length}
use borrow.Author.Tests.{ltb-true}
use Rattle.bits.specs.Bits.{bits_empty}
use Rattle.bits.specs.Four.{words}
use Rattle.bits.proofs.Sets.{below_are_words}
use Rattle.rules.specs.Permits.{zero_permits, above_zero, least_permits, most_permits}
use Rattle.rules.specs.Table.{Every, is_some}
use Rattle.rules.specs.State.{StoredMessage, Kind, by_kind, Consumer, State, no_bits, consumer_of, ledger_of}
use Rattle.rules.specs.State.Kind.{plain, shared}
use Rattle.rules.specs.Commands.{with_permits, with_reading}
use Rattle.rules.specs.Push.{send_plain, send_plain_next, plain_turn_of, plain_turn}
use Rattle.rules.specs.Valid.{ValidConsumer, Sound}
use Rattle.rules.proofs.Says.{every_tail}
use Rattle.rules.proofs.Table.{by_test}
use Rattle.rules.proofs.State.{consumer_id}
use Rattle.rules.proofs.Kept.Frame.{consumer_valid, sound_put_consumer}
use Rattle.rules.proofs.Kept.Consumers.{valid_with_permits, valid_with_reading}
use Rattle.rules.proofs.Kept.Turns.{Turned}
use Rattle.rules.proofs.Kept.Records.{Ranged, message_valid_at, empty_below}

-- an entry of its topic goes to the consumer, with another cursor or fewer nacked
send_plain_keeps : (s : State) (c : Consumer) (k : ℕ) → Sound s → ValidConsumer s c → is_some (consumer_of s c.id) ≡ true → zero_permits < c.permits
    → k < length (ledger_of s c.pair.topic) → Turned Sound Ranged (send_plain s c k)
unfolding send_plain with_permits bits_empty
send_plain_keeps s c k v w live ready h =
    let from : least_permits ≤ c.permits - 1 = omega arith in
    let to : c.permits - 1 ≤ most_permits = omega (arith, w.permits_to) in (
      record {
        consumer_word = w.id_word;
        message_valid = message_valid_at s c.pair.topic k v h;
        words_most = omega arith;
        set_words = below_are_words 0 (words no_bits) (empty_below 0 (words no_bits) refl);
        count_range = omega arith;
        cost_from = omega arith;
        cost_to = omega arith;
        permits_from = from;
        permits_to = to;
      },
      sound_put_consumer s (with_permits c (c.permits - 1)) v (λ f. absurd (true≢false (sym live ∙ f))) (valid_with_permits s c w (c.permits - 1) from to),
    )

-- nacked, then ledger
send_plain_next_keeps : (s : State) (c : Consumer) (nacked : List ℕ) → Sound s → consumer_of s c.id ≡ some c → zero_permits < c.permits → c.nacked ≡ nacked
    → Turned Sound Ranged (send_plain_next s c nacked)
unfolding send_plain_next with_reading is_some
send_plain_next_keeps s c [] v live ready e =
    let l : List StoredMessage = ledger_of s c.pair.topic in
    by_test (ltb c.cursor (length l))
    (λ t. rw t
    (let h : c.cursor < length l = ltb-true c.cursor (length l) t in
    send_plain_keeps s (with_reading c (suc c.cursor) []) c.cursor v
    (valid_with_reading s c (consumer_valid s c.id c v live) (suc c.cursor) [] h (omega arith) (λ a m. absurd (Memᴰ.not-nil m)))
    (ap is_some live) ready h))
    (λ t. rw t v)
send_plain_next_keeps s c (k ∷ nacked) v live ready e =
    let l : List StoredMessage = ledger_of s c.pair.topic in
    let w : ValidConsumer s c = consumer_valid s c.id c v live in
    let few : suc (length nacked) ≤ 64 = rw e at w.nacked_count in
    let each : Every (λ (j : ℕ). j < length l) (k ∷ nacked) = rw e at w.nacked_in_ledger in
    send_plain_keeps s (with_reading c c.cursor nacked) k v
    (valid_with_reading s c w c.cursor nacked w.cursor_in_ledger (omega arith) (every_tail {P = λ (j : ℕ). j < length l} each))
    (ap is_some live) ready (each k (Memᴰ.head refl))

-- a plain consumer that is served has permits above 0
served_ready : (k : Kind) (b : Bool) → by_kind k b false ≡ true → b ≡ true
unfolding by_kind
served_ready plain b e = e
served_ready shared b e = absurd (true≢false (sym e))

-- one turn of a plain consumer
pub plain_turn_keeps : (i : ℕ) (s : State) → Sound s → Turned Sound Ranged (plain_turn i s)
unfolding plain_turn plain_turn_of above_zero
plain_turn_keeps i s v = go (consumer_of s i) refl
  where
    go : (o : Option Consumer) → consumer_of s i ≡ o → Turned Sound Ranged (plain_turn_of s o)
    go none e = v
    go (some c) e =
        by_test (by_kind c.kind (ltb zero_permits c.permits) false)
        (λ t. rw t
        (send_plain_next_keeps s c c.nacked v (subst (λ (j : ℕ). consumer_of s j ≡ some c) (consumer_id s i c e) e)
        (ltb-true zero_permits c.permits (served_ready c.kind (ltb zero_permits c.permits) t)) refl))
        (λ t. rw t v)
