-- The dispatchers of a valid state are shaped: the queue and what is in flight fit because their positions are distinct
-- and below the cursor.
use mathlib.Core.Path.{◌≡◌, ap, ◌∙◌}
use mathlib.Core.Bool.{Bool, true, false, cond}
use mathlib.Core.List.{List, [], ◌∷◌, ◌++◌, map}
use mathlib.Core.Option
use mathlib.Core.Option.{some}
use Prim.Native.Nat.{ℕ, ◌+◌, ◌≤◌, zero-le}
use native.Mathlib.Omega.{arith}
use lib.Dec.{eqb}
use lib.ListN.{length, length-append, length-map}
use Rattle.words.specs.Codec.{All}
use Rattle.rules.specs.Table.{Every, find, or_else}
use Rattle.rules.specs.State.{Topic, by_number, topic_of, ledger_of, Held, Dispatcher, State}
use Rattle.rules.specs.Valid.{ValidDispatcher}
use Rattle.rules.proofs.Says.{every_head, every_tail}
use Rattle.layout.specs.Whole.{ShapedTopic, ShapedDispatcher}
use Rattle.layout.proofs.Pigeons.{distinct_below}

-- what holds of every element, element by element
pub every_all : {A : Type 0} {P : A → Type 0} (l : List A) → Every P l → All P l
every_all [] h = tt
every_all (a ∷ l) h = (every_head h, every_all l (every_tail h))

-- a ledger that is found is short enough
found_fits : (e n : ℕ) (l : List Topic) → All (ShapedTopic e) l
    → length (or_else (Option.map (λ (t : Topic). t.messages) (find by_number n l)) []) ≤ e
unfolding find or_else
found_fits e n [] h = zero-le
found_fits e n (t ∷ l) h = go (eqb n t.number) (found_fits e n l h.1)
  where
    go : (b : Bool) → length (or_else (Option.map (λ (t : Topic). t.messages) (find by_number n l)) []) ≤ e
        → length (or_else (Option.map (λ (t : Topic). t.messages) (cond b (some t) (find by_number n l))) []) ≤ e
    go true q = h.0
    go false q = q

-- the ledger of a topic of a shaped state
pub ledger_fits : (s : State) (n : ℕ) → All (ShapedTopic s.entries) s.topics → length (ledger_of s n) ≤ s.entries
unfolding ledger_of topic_of
ledger_fits s n h = found_fits s.entries n s.topics h

-- a valid dispatcher: queue and flight together fit E
pub dispatcher_shaped : (s : State) → All (ShapedTopic s.entries) s.topics → (d : Dispatcher) → ValidDispatcher s d
    → ShapedDispatcher s.entries d
dispatcher_shaped s t d v =
    let held : List ℕ = map (λ (h : Held). h.position) d.in_flight in
    let fits : length (ledger_of s d.pair.topic) ≤ s.entries = ledger_fits s d.pair.topic t in
    let most : length (held ++ d.redelivery) ≤ d.cursor =
    distinct_below d.cursor (held ++ d.redelivery) v.places.places_distinct v.places.places_below_cursor in
    let sum : length (held ++ d.redelivery) ≡ length d.in_flight + length d.redelivery =
    length-append held d.redelivery
    ∙ ap (λ (n : ℕ). n + length d.redelivery) (length-map d.in_flight (λ (h : Held). h.position)) in
    let cursor : d.cursor ≤ length (ledger_of s d.pair.topic) = v.cursor_in_ledger in
    record {
      ring_fits = v.ring.ring_count;
      outside_fits = v.outside_ids.outside_count;
      queue_fits = omega arith;
      flight_fits = omega arith;
      marks_fit = rw v.entry_marks.one_each fits;
    }

-- each element, seen by what is valid of it
pub all_valid : {A : Type 0} {P Q : A → Type 0} → ((a : A) → P a → Q a) → (l : List A) → Every P l → All Q l
all_valid {Q = Q} f l h = every_all {P = Q} l (λ a m. f a (h a m))
