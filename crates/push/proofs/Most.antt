-- What waits is small, the numbers of a table add up to it, and no push dispatches more.
use mathlib.Core.Path.{◌≡◌, refl, ap, ◌∙◌}
use mathlib.Core.List.{List, [], ◌∷◌, ◌++◌, map}
use Prim.Native.Nat.{ℕ, zero, suc, ◌+◌, ◌-◌, ◌*◌, ◌≤◌, ◌<◌, min, zero-le}
use native.Mathlib.Nat.{min-le_right}
use native.Mathlib.Omega.{arith}
use lib.ListN.{length, get_or, take, drop, length-append, length-map}
use lib.Seq.{take-suc, take_all}
use Rattle.words.specs.Codec.{All}
use Rattle.rules.specs.Permits.{zero_permits}
use Rattle.rules.specs.State.{Kind, by_kind, Consumer, Dispatcher, State, ledger_of}
use Rattle.rules.specs.State.Kind.{plain, shared}
use Rattle.rules.specs.Commands.{with_permits}
use Rattle.layout.specs.Whole.{Shaped}
use Rattle.layout.specs.Fields.{zero_consumer, zero_dispatcher, consumer_nth, dispatcher_nth}
use Rattle.layout.proofs.Valid.{ledger_fits}
use Rattle.push_laws.specs.Local.{Fixed, Local, Step, LocalTurn, local_turn, then_turns, local_turns, fixed_of, local_of, turns_of, served}
use Rattle.push_laws.specs.Local.LocalTurn.{stop, move}
use Rattle.push_laws.specs.Applied.{with_each, record_of}
use Rattle.push_laws.specs.Shared.{services, service_records, all_service_records}
use Rattle.push_laws.specs.Plain.{plain_due, plain_records, ledger_for, all_plain_records}
use Rattle.push_plain.specs.Sum.{AddedUp}
use Rattle.push_plain.specs.Reading.{waiting_for}
use Rattle.push_plain.proofs.Entries.{length_records}
use Rattle.push_turn.proofs.Left.{left, turn_lowers}
use Rattle.push.specs.Bound.{total, waiting_at, waiting_shared, waiting_plain, most_due}

-- ---- numbers added up

module _ {A : Type 0} (f : A → ℕ) where
  -- an element more at the end
  total_snoc : (l : List A) (a : A) → total f (l ++ a ∷ []) ≡ total f l + f a
  unfolding total
  total_snoc [] a = omega arith
  total_snoc (b ∷ l) a = let h = total_snoc l a in omega arith

  -- the numbers of the first elements of a list
  added_part : (l : List A) (z : A) {P : ℕ → ℕ → Type 0} → ((i r : ℕ) → i < length l → P i r → r ≡ f (get_or l i z)) → (n s : ℕ) → n ≤ length l
      → AddedUp P n s → s ≡ total f (take n l)
  unfolding AddedUp total
  added_part l z told zero s h e = e
  added_part l z told (suc n) s h a =
      let more = added_part l z told n a.0 (omega arith) a.2 in
      let one = told n a.1 h a.3 in
      let all = total_snoc (take n l) (get_or l n z) in
      let sum = a.4 in
      rw (take-suc l n z h) (omega (arith, more, one, all, sum))

  -- those of a whole list
  pub added_all : (l : List A) (z : A) {P : ℕ → ℕ → Type 0} → ((i r : ℕ) → i < length l → P i r → r ≡ f (get_or l i z)) → (n s : ℕ) → n ≡ length l
      → AddedUp P n s → s ≡ total f l
  added_all l z told n s e a = added_part l z told n s (omega arith) a ∙ ap (λ (k : List A). total f k) (take_all n l (omega arith))

-- a fact of each is one of each place
each_at : {A : Type 0} (P : A → Type 0) (l : List A) (z : A) → All P l → (i : ℕ) → i < length l → P (get_or l i z)
each_at P [] z h i k = absurd (omega arith)
each_at P (a ∷ l) z h zero k = h.0
each_at P (a ∷ l) z h (suc i) k = each_at P l z h.1 i (omega arith)

-- a bound for each gives one for all
total_few : {A : Type 0} (f : A → ℕ) (k : ℕ) (l : List A) → All (λ (a : A). f a ≤ k) l → total f l ≤ length l * k
unfolding total
total_few f k [] h = omega arith
total_few f k (a ∷ l) h = let one = h.0 in let more = total_few f k l h.1 in omega arith

-- each of a list, by another fact of each
all_by : {A : Type 0} {P Q : A → Type 0} (l : List A) → ((a : A) → P a → Q a) → All P l → All Q l
all_by [] f h = h
all_by (a ∷ l) f h = (f a h.0, all_by l f h.1)

-- ---- what waits is small

-- a plain consumer's number, or 0
kind_below : (k : Kind) (n : ℕ) → by_kind k n 0 ≤ n
unfolding by_kind
kind_below plain n = omega arith
kind_below shared n = omega arith

module _ (s : State) (h : Shaped s) where
  ledgers_small : (topic : ℕ) → length (ledger_of s topic) ≤ 4096
  ledgers_small n = let f = ledger_fits s n h.each_topic in let e = h.E_most in omega arith

  -- at most 8,192 for a dispatcher
  each_dispatcher_small : All (λ (d : Dispatcher). waiting_at s d ≤ 8192) s.dispatchers
  unfolding waiting_at
  each_dispatcher_small =
      let e = h.E_most in
      all_by s.dispatchers (λ d k. let q = k.queue_fits in let g = ledgers_small d.pair.topic in omega (arith, q, g, e)) h.each_dispatcher

  pub dispatcher_small : (i : ℕ) → i < length s.dispatchers → waiting_at s (dispatcher_nth s i) ≤ 8192
  dispatcher_small i k = each_at _ s.dispatchers zero_dispatcher each_dispatcher_small i k

  -- there are 8
  shared_small : waiting_shared s ≤ 65536
  shared_small =
      let n = h.dispatchers_fit in let t = total_few (waiting_at s) 8192 s.dispatchers each_dispatcher_small in omega (arith, n, t)

  -- at most 4,160 for a consumer
  each_consumer_small : All (λ (c : Consumer). waiting_for s c ≤ 4160) s.consumers
  unfolding waiting_for
  each_consumer_small =
      all_by s.consumers (λ c k.
      let b = kind_below c.kind (length c.nacked + (length (ledger_for s c) - c.cursor)) in
      let g = ledgers_small c.pair.topic in
      omega (arith, b, g, k)) h.each_consumer

  pub consumer_small : (i : ℕ) → i < length s.consumers → waiting_for s (consumer_nth s i) ≤ 4160
  consumer_small i k = each_at _ s.consumers zero_consumer each_consumer_small i k

  -- there are 32
  plain_small : waiting_plain s ≤ 133120
  plain_small =
      let n = h.consumers_fit in let t = total_few (waiting_for s) 4160 s.consumers each_consumer_small in omega (arith, n, t)

  -- all of it
  pub most_small : most_due s ≤ 198656
  most_small = let a = shared_small in let b = plain_small in omega (arith, a, b)

-- ---- no more is dispatched

-- there are no more steps than entries left
made_left : (n : ℕ) (f : Fixed) (l : Local) → length (local_turns n f l).made ≤ left f l
unfolding local_turns then_turns
made_left zero f l = omega arith
made_left (suc n) f l = go (local_turn f l) refl (λ (m : Local). made_left n f m)
  where
    go : (t : LocalTurn) → local_turn f l ≡ t → ((m : Local) → length (local_turns n f m).made ≤ left f m)
        → length (then_turns t (λ (m : Local). local_turns n f m)).made ≤ left f l
    go (stop m) e more = omega arith
    go (move x m) e more = let h = more m in let q = turn_lowers f l x m e in omega (arith, h, q)

-- a service
served_most : (s : State) (d : Dispatcher) (ps : List ℕ) → length (served s d ps).made ≤ waiting_at s d
unfolding served waiting_at fixed_of local_of
served_most s d ps = let h = made_left (turns_of s d) (fixed_of s d) (local_of d ps) in omega (arith, h)

-- the services
shared_most : (s : State) (ds : List Dispatcher) (ps : List ℕ) → length (all_service_records s (services s ds ps)) ≤ total (waiting_at s) ds
unfolding services all_service_records service_records total
shared_most s [] ps = omega arith
shared_most s (d ∷ ds) ps =
    let v : List Step = (served s d ps).made in
    let qs : List ℕ = (served s d ps).after.permits in
    let one = served_most s d ps in
    let more = shared_most s ds qs in
    let parts = length-append (map (record_of s (fixed_of s d)) v) (all_service_records s (services s ds qs)) in
    let mapped = length-map v (record_of s (fixed_of s d)) in
    omega (arith, one, more, parts, mapped)

-- a plain consumer's part
plain_most : (s : State) (c : Consumer) → plain_due (ledger_for s c) c ≤ waiting_for s c
unfolding plain_due waiting_for by_kind
plain_most s c = go c.kind (length c.nacked + (length (ledger_for s c) - c.cursor))
  where
    go : (k : Kind) (n : ℕ) → by_kind k (min (c.permits - zero_permits) n) 0 ≤ by_kind k n 0
    go plain n = min-le_right _ _
    go shared n = zero-le

-- all of them
parts_most : (s : State) (l : List Consumer) → length (all_plain_records s l) ≤ total (waiting_for s) l
unfolding all_plain_records total
parts_most s [] = omega arith
parts_most s (c ∷ l) =
    let n : ℕ = plain_due (ledger_for s c) c in
    let one = plain_most s c in
    let more = parts_most s l in
    let parts = length-append (plain_records (ledger_for s c) c n) (all_plain_records s l) in
    let counted = length_records (ledger_for s c) c n in
    omega (arith, one, more, parts, counted)

-- other permits leave what waits alone
waiting_each : (s : State) (l : List Consumer) (ps : List ℕ) → total (waiting_for s) (with_each l ps) ≡ total (waiting_for s) l
unfolding with_each with_permits total waiting_for
waiting_each s [] ps = refl
waiting_each s (c ∷ l) ps = ap (λ (n : ℕ). waiting_for s c + n) (waiting_each s l (drop 1 ps))

-- the services and the parts, whatever the permits
pub dispatched_most : (s : State) (ps qs : List ℕ)
    → length (all_service_records s (services s s.dispatchers ps)) + length (all_plain_records s (with_each s.consumers qs)) ≤ most_due s
dispatched_most s ps qs =
    let a = shared_most s s.dispatchers ps in
    let b = parts_most s (with_each s.consumers qs) in
    let c = waiting_each s s.consumers qs in
    omega (arith, a, b, c)
