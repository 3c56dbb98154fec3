-- The rules for a consumer by the parts that the check tests, and what its words come to.
use mathlib.Core.Path.{◌≡◌, refl, sym, ap, ◌∙◌}
use mathlib.Core.Bool.{Bool, true, ◌&&◌, and_assoc}
use mathlib.Core.List.{List}
use Prim.Native.Nat.{ℕ, ◌+◌, ◌^◌, ◌≤◌, ◌<◌}
use lib.Dec.{leb}
use lib.ListN.{length, get_or}
use borrow.Author.Tests.{le-leb, leb-true, leb-false}
use Rattle.rules.proofs.Table.{by_test}
use Rattle.layout.proofs.Slices.{byte_over, byte_fits}
use Rattle.words.specs.Codec.{bit}
use Rattle.rules.specs.Permits.{least_permits, most_permits}
use Rattle.rules.specs.Table.{member}
use Rattle.rules.specs.State.{Kind, Pair, by_kind, Consumer, State, ledger_of, dispatcher}
use Rattle.rules.specs.State.Kind.{plain, shared}
use Rattle.rules.specs.Calls.{kind_from}
use Rattle.rules.specs.Valid.{is_byte, valid_consumer}
use Rattle.rules.proofs.Valid.{says_word}
use Rattle.layout.specs.Records.{flag_of}
use Rattle.layout.specs.Offsets.{consumer_at}
use Rattle.layout.specs.Fields.{consumer_now}
use Rattle.layout.specs.Placed.{ConsumerIn}
use Rattle.layout.proofs.Gets.{read_consumer_topic, read_consumer_subscription, read_consumer_permits}
use Rattle.check_state.specs.ValidConsumers.{numbers_valid, nacked_valid, places_valid, attached_valid}

-- a consumer whose id is a word and whose nacked positions fit
pub consumer_by_parts : (s : State) (c : Consumer) → c.id < 2 ^ 64 → length c.nacked ≤ 64
    → (numbers_valid c && (places_valid s c && attached_valid s c)) ≡ valid_consumer s c
unfolding valid_consumer numbers_valid places_valid nacked_valid attached_valid
consumer_by_parts s c w f =
    let n = length (ledger_of s c.pair.topic) in
    sym
    (rw ((says_word c.id).given w, le-leb (length c.nacked) 64 f)
    (simp and_assoc refl))

-- the kind that a store has of a consumer is read back
kind_read : (k : Kind) → kind_from (bit (flag_of k)) ≡ k
unfolding kind_from
kind_read plain = refl
kind_read shared = refl

module _ (s : State) (c : Consumer) {w : ℕ} {k : Kind} (word : w ≡ bit (flag_of c.kind)) (kind : k ≡ kind_from w) where
  -- the consumer's kind
  kind_is : c.kind ≡ k
  kind_is = sym (kind ∙ ap kind_from word ∙ kind_read c.kind)

  -- a plain consumer passes
  pub plain_passes : k ≡ plain → true ≡ attached_valid s c
  unfolding attached_valid by_kind
  plain_passes e = rw (kind_is ∙ e)

  -- of a shared one the ring decides, asked by the words read
  pub ring_decides : {r : Bool} {i : ℕ} {p : Pair} → k ≡ shared → i ≡ c.id → p ≡ c.pair → r ≡ member i (dispatcher s p).attached → r ≡ attached_valid s c
  unfolding attached_valid by_kind
  ring_decides f x y e = rw (kind_is ∙ f) (rw (x, y) at e)

-- a byte, as the code tests it
byte_tested : (n : ℕ) → leb n 255 ≡ is_byte n
byte_tested n =
    by_test (leb n 255) (λ t. t ∙ sym (byte_fits n (leb-true n 255 t))) (λ t. t ∙ sym (byte_over n (leb-false n 255 t)))

-- the numbers of a consumer, by the words that are read of it
pub numbers_read : {e : ℕ} {ws : List ℕ} {i at : ℕ} → ConsumerIn e ws i → at ≡ consumer_at i
    → (leb (get_or ws (at + 1) 0) 255 && (leb (get_or ws (at + 2) 0) 255
    && (leb least_permits (get_or ws (at + 4) 0) && leb (get_or ws (at + 4) 0) most_permits)))
    ≡ numbers_valid (consumer_now ws i)
unfolding numbers_valid
numbers_read {ws = ws} {i = i} h p =
    rw (
      p,
      read_consumer_topic h.canon _ h.there,
      read_consumer_subscription h.canon _ h.there,
      read_consumer_permits h.canon _ h.there,
      byte_tested (consumer_now ws i).pair.topic,
      byte_tested (consumer_now ws i).pair.subscription,
    )
