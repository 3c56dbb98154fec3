-- The balance check: who is live under a pair, a sum with one more consumer, and the range that a sum stays in.
use mathlib.Core.Path.{◌≡◌, refl, sym, ap, ◌∙◌}
use mathlib.Core.Bool.{Bool, true, false}
use mathlib.Core.List.{List}
use mathlib.Core.Option.{Option, none, some}
use Prim.Native.Nat.{ℕ, suc, ◌+◌, ◌-◌, ◌*◌, ◌^◌, ◌≤◌, ◌<◌}
use native.Mathlib.Omega.{arith}
use lib.ListN.{length, get_or, drop, drop_of_length-le}
use lib.Seq.{drop-cons}
use Rattle.rules.specs.Permits.{least_permits, most_permits}
use Rattle.rules.specs.State.{Pair, same_pair, Kind, by_kind, Consumer, State, by_id, consumer_of}
use Rattle.rules.specs.Dispatcher.{live_under, add_permits, sum_permits}
use Rattle.rules.specs.Valid.{ValidConsumer, Valid}
use Rattle.rules.proofs.Table.{by_test, same_comm}
use Rattle.rules.proofs.State.{decides_pairs}
use Rattle.rules.proofs.Kept.Every.{found_in}
use Rattle.layout.specs.Records.{flag_of}
use Rattle.consumer.proofs.Records.{flag_shared, flag_plain}

-- ---- who is live under a pair

module _ (p : Pair) (c : Consumer) where
  -- a plain consumer is under none
  pub under_plain : flag_of c.kind ≡ false → false ≡ live_under p c
  unfolding live_under by_kind
  under_plain f = sym (ap (λ (k : Kind). by_kind k false (same_pair p c.pair)) (flag_plain c.kind f))

  -- of a shared one the pair decides
  pub under_shared : {q : Pair} {t : Bool} → flag_of c.kind ≡ true → q ≡ c.pair → t ≡ same_pair q p → t ≡ live_under p c
  unfolding live_under by_kind
  under_shared f e r =
      r
      ∙ ap (λ (x : Pair). same_pair x p) e
      ∙ same_comm decides_pairs c.pair p
      ∙ sym (ap (λ (k : Kind). by_kind k false (same_pair p c.pair)) (flag_shared c.kind f))

-- ---- a sum with one more

module _ (p : Pair) (sum : ℕ) {o : Option Consumer} where
  pub adds_none : o ≡ none → sum ≡ add_permits p sum o
  unfolding add_permits
  adds_none e = rw e

  module _ {c : Consumer} (e : o ≡ some c) where
    pub adds_nothing : live_under p c ≡ false → sum ≡ add_permits p sum o
    unfolding add_permits
    adds_nothing u = rw (e, u)

    pub adds_permits : {w : ℕ} → live_under p c ≡ true → w ≡ c.permits → sum + w - 2 ^ 62 ≡ add_permits p sum o
    unfolding add_permits
    adds_permits u q = rw (e, u, q)

-- ---- the range of a sum

-- after j consumers a sum is between -255 j and 2^40 j
pub record InRange (sum j : ℕ) : Type 0 where
  pub from : 2 ^ 62 ≤ sum + 255 * j
  pub to : sum ≤ 2 ^ 62 + 2 ^ 40 * j

-- one more consumer
pub range_on : (p : Pair) (sum j : ℕ) (o : Option Consumer)
    → ((c : Consumer) → o ≡ some c → (least_permits ≤ c.permits) × (c.permits ≤ most_permits))
    → j < 32 → InRange sum j → InRange (add_permits p sum o) (j + 1)
unfolding add_permits
range_on p sum j none v l r = let a = r.from in let b = r.to in record { from = omega arith; to = omega arith }
range_on p sum j (some c) v l r =
    let a = r.from in
    let b = r.to in
    let x = (v c refl).0 in
    let y = (v c refl).1 in
    by_test (live_under p c)
    (λ t. rw t (record { from = omega arith; to = omega arith }))
    (λ t. rw t (record { from = omega arith; to = omega arith }))

-- the permits of a consumer that was found are in range
pub found_range : (s : State) (id : ℕ) (c : Consumer) → Valid s → consumer_of s id ≡ some c → (least_permits ≤ c.permits) × (c.permits ≤ most_permits)
unfolding consumer_of
found_range s id c v e =
    let w : ValidConsumer s c = v.tables.each_consumer c (found_in by_id id s.consumers c e) in (w.permits_from, w.permits_to)

-- ---- the sum over a ring

module _ (s : State) (p : Pair) (sum : ℕ) (ring : List ℕ) (j : ℕ) where
  -- what is left, after one more
  pub sum_on : j < length ring → sum_permits s p sum (drop j ring) ≡ sum_permits s p (add_permits p sum (consumer_of s (get_or ring j 0))) (drop (j + 1) ring)
  unfolding sum_permits
  sum_on h = let n : suc j ≡ j + 1 = omega arith in rw (drop-cons ring j 0 h, n)

  -- nothing is left
  pub sum_end : length ring ≤ j → sum ≡ sum_permits s p sum (drop j ring)
  unfolding sum_permits
  sum_end h = rw (drop_of_length-le ring h)
