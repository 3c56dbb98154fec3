-- The plain part of a push is each consumer's part, one after the other.
use mathlib.Core.Path.{◌≡◌, refl, sym, ap, ap₂, ◌∙◌}
use mathlib.Core.List.{List, [], ◌∷◌, ◌++◌, map, append_assoc, Memᴰ}
use mathlib.Core.Option.{Option, some}
use Prim.Native.Nat.{ℕ, zero, suc, ◌+◌, ◌-◌, ◌≤◌, ◌<◌, min, zero-le}
use native.Mathlib.Nat.{min-le_right}
use native.Mathlib.Omega.{arith}
use lib.Dec.{ltb}
use lib.ListN.{length}
use borrow.Author.Tests.{lt-ltb, le-ltb, ltb-true, eq-eqb, ne_eqb}
use Rattle.rules.specs.Permits.{zero_permits, above_zero}
use Rattle.rules.specs.Table.{Every}
use Rattle.rules.specs.State.{StoredMessage, Pair, Kind, by_kind, Consumer, State, by_id, topic_of, consumer_of, ledger_of, insert, with_tables}
use Rattle.rules.specs.State.{with_consumers, put_consumer}
use Rattle.rules.specs.State.Kind.{plain, shared}
use Rattle.rules.specs.Valid.{Ascending}
use Rattle.rules.specs.Commands.{with_permits, with_reading}
use Rattle.rules.specs.Outcome.{Dispatch}
use Rattle.rules.specs.Push.{Turn, Pushed, send_plain, send_plain_next, plain_turn_of, plain_turn, after_turn, turns, plain_backlog, serve_plain, serve_each}
use Rattle.rules.specs.Push.Turn.{halt, sent}
use Rattle.rules.proofs.Table.{by_test}
use Rattle.rules.proofs.Kept.Every.{every_snoc}
use Rattle.push_laws.proofs.Shared.{find_here}
use Rattle.push_laws.specs.Plain.{plain_due, next_position, taken_next, after_one, plain_record, plain_records, after_entries, ledger_for, plain_served}
use Rattle.push_laws.specs.Plain.{all_plain_records}

-- the smaller of two numbers, each less 1
min_less : (x y n : ℕ) → min x y ≡ suc n → min (x - 1) (y - 1) ≡ n
min_less x y n e = omega arith

-- small facts of subtraction
sub_twice : (x a b : ℕ) → x - a - b ≡ x - b - a
sub_twice x a b = omega arith

sub_more : (x y : ℕ) → 0 + (x - suc y) ≡ 0 + (x - y) - 1
sub_more x y = omega arith

sub_suc : (x y : ℕ) → x + y ≡ suc x + y - 1
sub_suc x y = omega arith

-- what is due is waiting
due_le : (ledger : List StoredMessage) (c : Consumer) → plain_due ledger c ≤ length c.nacked + (length ledger - c.cursor)
unfolding plain_due by_kind
due_le ledger c = go c.kind
  where
    go : (k : Kind) → by_kind k (min (c.permits - zero_permits) (length c.nacked + (length ledger - c.cursor))) 0 ≤ length c.nacked + (length ledger - c.cursor)
    go plain = min-le_right _ _
    go shared = zero-le

-- a consumer with an entry taken keeps id and pair
taken_id : (c : Consumer) (l : List ℕ) → (taken_next c l).id ≡ c.id
unfolding taken_next with_permits with_reading
taken_id c [] = refl
taken_id c (k ∷ l) = refl

taken_pair : (c : Consumer) (l : List ℕ) → (taken_next c l).pair ≡ c.pair
unfolding taken_next with_permits with_reading
taken_pair c [] = refl
taken_pair c (k ∷ l) = refl

-- ---- a consumer in the middle of the table

module _ (s : State) (done rest : List Consumer) where
  -- the state with a consumer between the others
  abbrev pub among : Consumer → State
  among c = with_tables s s.topics (done ++ c ∷ rest) s.dispatchers

  module _ (i : ℕ) (lower : Every (λ (x : Consumer). x.id < i) done) where
    insert_among : (c b : Consumer) → c.id ≡ i → b.id ≡ i → (l : List Consumer) → Every (λ (x : Consumer). x.id < i) l
        → insert b (l ++ c ∷ rest) ≡ l ++ b ∷ rest
    unfolding insert
    insert_among c b p q [] w = rw (le-ltb b.id c.id (omega arith), eq-eqb b.id c.id (omega arith))
    insert_among c b p q (x ∷ l) w =
        let k = w x (Memᴰ.head refl) in
        rw (le-ltb b.id x.id (omega (arith, k)), ne_eqb b.id x.id (λ e. omega (arith, k, e)))
        (ap (λ (r : List Consumer). x ∷ r) (insert_among c b p q l (λ y m. w y (Memᴰ.tail m))))

    put_among : (c b : Consumer) → c.id ≡ i → b.id ≡ i → put_consumer (among c) b ≡ among b
    unfolding put_consumer with_consumers
    put_among c b p q = ap (λ (l : List Consumer). with_tables s s.topics l s.dispatchers) (insert_among c b p q done lower)

    found_among : (c : Consumer) → c.id ≡ i → consumer_of (among c) i ≡ some c
    unfolding consumer_of
    found_among c p =
        find_here by_id i done c rest (λ x m. ne_eqb i x.id (λ e. omega (arith, lower x m, e))) (eq-eqb i c.id (sym p))

    -- ---- one turn, by the kind and what is nacked

    -- the consumer of these parts
    abbrev of : ℕ → Pair → Kind → ℕ → ℕ → List ℕ → Consumer
    of j p k m cursor l = record { id = j; pair = p; kind = k; permits = m; cursor = cursor; nacked = l }

    -- one that is due nothing
    halts_of : (j : ℕ) (p : Pair) (k : Kind) (m cursor : ℕ) (l : List ℕ) → plain_due (ledger_of s p.topic) (of j p k m cursor l) ≡ 0
        → plain_turn_of (among (of j p k m cursor l)) (some (of j p k m cursor l)) ≡ halt (among (of j p k m cursor l))
    unfolding plain_turn_of send_plain_next above_zero plain_due by_kind ledger_of topic_of
    halts_of j p shared m cursor l z = refl
    halts_of j p plain m cursor [] z =
        by_test (ltb zero_permits m)
        (λ t.
        by_test (ltb cursor (length (ledger_of s p.topic)))
        (λ u. let a = ltb-true zero_permits m t in let b = ltb-true cursor (length (ledger_of s p.topic)) u in absurd (omega (arith, z, a, b)))
        (λ u. rw (t, u)))
        (λ t. rw t)
    halts_of j p plain m cursor (k ∷ l) z =
        by_test (ltb zero_permits m) (λ t. let a = ltb-true zero_permits m t in absurd (omega (arith, z, a))) (λ t. rw t)

    -- one that is due an entry
    sends_of : (j : ℕ) → j ≡ i → (p : Pair) (k : Kind) (m cursor : ℕ) (l : List ℕ) (n : ℕ) → plain_due (ledger_of s p.topic) (of j p k m cursor l) ≡ suc n
        → plain_turn_of (among (of j p k m cursor l)) (some (of j p k m cursor l))
        ≡ sent (plain_record (ledger_of s p.topic) (of j p k m cursor l) (next_position cursor l)) (among (taken_next (of j p k m cursor l) l))
    unfolding plain_turn_of send_plain_next send_plain above_zero plain_due by_kind ledger_of topic_of plain_record next_position
        taken_next with_permits with_reading
    sends_of j e p shared m cursor l n z = absurd (omega (arith, z))
    sends_of j e p plain m cursor [] n z =
        let a : zero_permits < m = omega (arith, z) in
        let b : cursor < length (ledger_of s p.topic) = omega (arith, z) in
        rw (lt-ltb zero_permits m a, lt-ltb cursor (length (ledger_of s p.topic)) b)
        (ap (λ (x : State). sent (plain_record (ledger_of s p.topic) (of j p plain m cursor []) cursor) x)
        (put_among (of j p plain m cursor []) (of j p plain (m - 1) (suc cursor) []) e e))
    sends_of j e p plain m cursor (k ∷ l) n z =
        let a : zero_permits < m = omega (arith, z) in
        rw (lt-ltb zero_permits m a)
        (ap (λ (x : State). sent (plain_record (ledger_of s p.topic) (of j p plain m cursor (k ∷ l)) k) x)
        (put_among (of j p plain m cursor (k ∷ l)) (of j p plain (m - 1) cursor l) e e))

    -- and one less afterwards
    less_of : (j : ℕ) (p : Pair) (k : Kind) (m cursor : ℕ) (l : List ℕ) (n : ℕ) → plain_due (ledger_of s p.topic) (of j p k m cursor l) ≡ suc n
        → plain_due (ledger_of s p.topic) (taken_next (of j p k m cursor l) l) ≡ n
    unfolding plain_due by_kind taken_next with_permits with_reading
    less_of j p shared m cursor l n z = absurd (omega (arith, z))
    less_of j p plain m cursor [] n z =
        ap₂ min (sub_twice m 1 zero_permits) (sub_more (length (ledger_of s p.topic)) cursor)
        ∙ min_less (m - zero_permits) (0 + (length (ledger_of s p.topic) - cursor)) n z
    less_of j p plain m cursor (k ∷ l) n z =
        ap₂ min (sub_twice m 1 zero_permits) (sub_suc (length l) (length (ledger_of s p.topic) - cursor))
        ∙ min_less (m - zero_permits) (suc (length l) + (length (ledger_of s p.topic) - cursor)) n z

    -- the same of a consumer with the id
    halt_turn : (c : Consumer) → c.id ≡ i → plain_due (ledger_for s c) c ≡ 0 → plain_turn i (among c) ≡ halt (among c)
    unfolding plain_turn
    halt_turn c p z =
        ap (plain_turn_of (among c)) (found_among c p) ∙ halts_of c.id c.pair c.kind c.permits c.cursor c.nacked z

    send_turn : (c : Consumer) (n : ℕ) → c.id ≡ i → plain_due (ledger_for s c) c ≡ suc n
        → plain_turn i (among c) ≡ sent (plain_record (ledger_for s c) c (next_position c.cursor c.nacked)) (among (after_one c))
    unfolding plain_turn after_one
    send_turn c n p z =
        ap (plain_turn_of (among c)) (found_among c p) ∙ sends_of c.id p c.pair c.kind c.permits c.cursor c.nacked n z

    due_after : (c : Consumer) (n : ℕ) → plain_due (ledger_for s c) c ≡ suc n → plain_due (ledger_for s c) (after_one c) ≡ n
    unfolding after_one
    due_after c n z = less_of c.id c.pair c.kind c.permits c.cursor c.nacked n z

    after_id : (c : Consumer) → (after_one c).id ≡ c.id
    unfolding after_one
    after_id c = taken_id c c.nacked

    after_ledger : (c : Consumer) → ledger_for s (after_one c) ≡ ledger_for s c
    unfolding after_one
    after_ledger c = ap (λ (p : Pair). ledger_of s p.topic) (taken_pair c c.nacked)

    -- ---- turns after turns

    -- what a consumer's turns come to: m entries sent, over a ledger
    abbrev entries_sent : List StoredMessage → Consumer → ℕ → Pushed
    entries_sent ledger c m = record { dispatched = plain_records ledger c m; state = among (after_entries c m) }

    -- one entry, and the others
    pub plain_turns : (n m : ℕ) (c : Consumer) → c.id ≡ i → plain_due (ledger_for s c) c ≡ m → m < n
        → turns n (plain_turn i) (among c) ≡ entries_sent (ledger_for s c) c m
    unfolding turns after_turn plain_records after_entries
    plain_turns zero m c p e h = absurd (omega arith)
    plain_turns (suc n) zero c p e h = ap (λ (t : Turn). after_turn t (λ (x : State). turns n (plain_turn i) x)) (halt_turn c p e)
    plain_turns (suc n) (suc m) c p e h =
        let first : Dispatch = plain_record (ledger_for s c) c (next_position c.cursor c.nacked) in
        ap (λ (t : Turn). after_turn t (λ (x : State). turns n (plain_turn i) x)) (send_turn c m p e)
        ∙ ap (λ (r : Pushed). record { dispatched = first ∷ r.dispatched; state = r.state })
        (plain_turns n m (after_one c) (after_id c ∙ p)
        (ap (λ (g : List StoredMessage). plain_due g (after_one c)) (after_ledger c) ∙ due_after c m e) (omega arith)
        ∙ ap (λ (g : List StoredMessage). entries_sent g (after_one c) m) (after_ledger c))

    -- a consumer's part
    pub serve_among : (c : Consumer) → c.id ≡ i → serve_plain (among c) i ≡ entries_sent (ledger_for s c) c (plain_due (ledger_for s c) c)
    unfolding serve_plain plain_backlog ledger_of topic_of
    serve_among c p =
        ap (λ (o : Option Consumer). turns (suc (plain_backlog (among c) o)) (plain_turn i) (among c)) (found_among c p)
        ∙ plain_turns (suc (length c.nacked + (length (ledger_for s c) - c.cursor))) (plain_due (ledger_for s c) c) c p refl
        (let h = due_le (ledger_for s c) c in omega arith)

-- ---- all of them

-- consumers after their parts keep their ids
served_id : (c : Consumer) (n : ℕ) → (after_entries c n).id ≡ c.id
unfolding after_entries after_one
served_id c zero = refl
served_id c (suc n) = served_id (after_one c) n ∙ taken_id c c.nacked

served_step : (s : State) (c : Consumer) → after_entries c (plain_due (ledger_for s c) c) ≡ plain_served s c
unfolding plain_served
served_step s c = refl

served_is : (s : State) (c : Consumer) → (plain_served s c).id ≡ c.id
unfolding plain_served
served_is s c = served_id c (plain_due (ledger_for s c) c)

-- the parts of the consumers from some on, those before them served
pub plain_all : (s : State) (done l : List Consumer) → ((x : Consumer) → Memᴰ x l → Every (λ (y : Consumer). y.id < x.id) done) → Ascending l
    → serve_each serve_plain (map (λ (c : Consumer). c.id) l) (with_tables s s.topics (done ++ l) s.dispatchers)
    ≡ record { dispatched = all_plain_records s l; state = with_tables s s.topics (done ++ map (plain_served s) l) s.dispatchers }
unfolding serve_each all_plain_records Ascending
plain_all s done [] w a = refl
plain_all s done (c ∷ l) w a =
    let n : ℕ = plain_due (ledger_for s c) c in
    let b : Consumer = plain_served s c in
    let rest : State → Pushed = λ x. serve_each serve_plain (map (λ (c : Consumer). c.id) l) x in
    let others : (x : Consumer) → Memᴰ x l → Every (λ (y : Consumer). y.id < x.id) (done ++ b ∷ []) =
    λ x m. every_snoc {P = λ (y : Consumer). y.id < x.id} done b (w x (Memᴰ.tail m)) (rw (served_is s c) (a.0 x m)) in
    ap (λ (r : Pushed). record { dispatched = r.dispatched ++ (rest r.state).dispatched; state = (rest r.state).state })
    (serve_among s done l c.id (w c (Memᴰ.head refl)) c refl)
    ∙ ap (λ (r : Pushed). record { dispatched = plain_records (ledger_for s c) c n ++ r.dispatched; state = r.state })
    (ap (λ (k : List Consumer). rest (with_tables s s.topics k s.dispatchers)) (rw (served_step s c) (sym (append_assoc done (b ∷ []) l)))
    ∙ plain_all s (done ++ b ∷ []) l others a.1
    ∙ ap (λ (k : List Consumer). record { dispatched = all_plain_records s l; state = with_tables s s.topics k s.dispatchers })
    (append_assoc done (b ∷ []) (map (plain_served s) l)))
