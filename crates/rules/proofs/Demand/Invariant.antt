-- What holds between a state and the book of the calls that led to it, as long as the leak switch is off and no live id is
-- replaced. Every call keeps it, and what demand 3 says of a dispatcher is a part of it. A pair with no dispatcher counts
-- as one with the dispatcher that a subscribe would make.
use Prim.Native.Nat.{ℕ, ◌+◌, ◌≤◌, ◌<◌}
use mathlib.Core.Path.{◌≡◌}
use mathlib.Core.Bool.{Bool, true, false, cond}
use mathlib.Core.List.{List, map}
use mathlib.Core.Option.{Option, none, some}
use lib.Dec.{ltb}
use lib.ListN.{length, get_or}
use Rattle.rules.specs.Permits.{zero_permits, least_permits}
use Rattle.rules.specs.Table.{any, all, member, count}
use Rattle.rules.specs.State.{Id, same_id, StoredMessage, Pair, same_pair, Consumer, Acked, Mark, Held, Dispatcher, State, completed, unacknowledged, new_mark, by_pair, consumer_of, ledger_of, dispatcher}
use Rattle.rules.specs.State.Kind.{plain, shared}
use Rattle.rules.specs.Ledger.{position_of, message_at}
use Rattle.rules.specs.Book.{Book, Account, Who}
use Rattle.rules.specs.Book.Who.{away, live_plain, attached_to}
use Rattle.rules.specs.Demand.{grants_of, costs_of, sum_over}
use Rattle.rules.proofs.Table.{Once, one_if}

-- ---- consumers

-- a live shared consumer and its account
pub record Attached (c : Consumer) (a : Account) : Type 0 where
  -- it is shared
  pub kind_is : c.kind ≡ shared
  -- it is attached to its pair
  pub pair_is : c.pair ≡ a.pair
  -- its permits are its grants less its costs
  pub balanced : c.permits + a.costs ≡ a.grants + zero_permits
  -- they are at least -255: a dispatch is made only where permits are above 0, and costs at most 256
  pub least : least_permits ≤ c.permits

-- who is live in the state is live in the book, and of one kind
abbrev pub Agree : Option Consumer → Who → Type 0
Agree none away = Unit {0}
Agree none live_plain = ⊥
Agree none (attached_to a) = ⊥
Agree (some c) away = ⊥
Agree (some c) live_plain = c.kind ≡ plain
Agree (some c) (attached_to a) = Attached c a

-- how often an id stands among those attached to a pair, by who it is
abbrev pub attached_count : Pair → Who → ℕ
attached_count p away = 0
attached_count p live_plain = 0
attached_count p (attached_to a) = one_if (same_pair p a.pair)

-- a total is the grants of a ring's consumers less their costs
abbrev pub Balanced : (ℕ → Who) → List ℕ → ℕ → Type 0
Balanced who ring total = total + sum_over costs_of who ring ≡ sum_over grants_of who ring + zero_permits

-- ---- entries

-- whether the entry at a position is complete, by its mark
abbrev pub complete_in : List Mark → ℕ → Bool
complete_in marks k = (get_or marks k new_mark).acked.complete

-- how far an id is acknowledged, by the marks and the complete ids outside the ledger
unfoldable pub acked_by : List StoredMessage → List Mark → List Id → Id → Acked
acked_by l marks outside i =
    cond (ltb (position_of i l) (length l))
    (get_or marks (position_of i l) new_mark).acked
    (cond (any (same_id i) outside) completed unacknowledged)

-- a dispatcher's marks and the book's
pub record MarksAgree (l : List StoredMessage) (acked : Id → Acked) (mark_delete : ℕ) (marks : List Mark) (outside : List Id) : Type 0 where
  -- a mark for each entry
  pub size : length marks ≡ length l
  -- every id is as far acknowledged by the one as by the other
  pub agree : (i : Id) → acked i ≡ acked_by l marks outside i
  -- mark-delete is in the ledger
  pub in_list : mark_delete ≤ length l
  -- what is below it is complete
  pub below : (k : ℕ) → k < mark_delete → complete_in marks k ≡ true

-- how often a position stands, in flight and in the queue
abbrev pub stands : ℕ → List Held → List ℕ → ℕ
stands k held queue = count k (map (λ (h : Held). h.position) held) + count k queue

-- whether a ring has the holder of an entry
abbrev pub held_in : List ℕ → Held → Bool
held_in ring h = member h.holder ring

-- where the entries of a dispatcher stand
pub record Placed (l : List StoredMessage) (ring : List ℕ) (handed : Id → Bool) (cursor : ℕ) (queue : List ℕ) (held : List Held)
    (marks : List Mark) : Type 0 where
  -- the cursor is in the ledger
  pub cursor_in_list : cursor ≤ length l
  -- what was handed out lies below the cursor
  pub handed_below : (i : Id) → handed i ≡ true → position_of i l < cursor
  -- what lies below it and is not complete stands once
  pub once : (k : ℕ) → k < cursor → complete_in marks k ≡ false → stands k held queue ≡ 1
  -- what lies at or past it does not stand at all
  pub never : (k : ℕ) → cursor ≤ k → stands k held queue ≡ 0
  -- only ring ids hold
  pub holders : all (held_in ring) held ≡ true

-- ---- a dispatcher

-- its pair, ring and total, and what the book has of them
pub record Ringed (p : Pair) (who : ℕ → Who) (ring : List ℕ) (pair : Pair) (attached : List ℕ) (total : ℕ) : Type 0 where
  -- it is the pair's
  pub pair_is : pair ≡ p
  -- its ring is the book's
  pub ring_is : attached ≡ ring
  -- of at most 32 ids
  pub ring_size : length ring ≤ 32
  -- its total is the book's
  pub balanced : Balanced who ring total

-- a dispatcher of a pair, over its ledger, and what the book has of the pair
pub record Fits (p : Pair) (l : List StoredMessage) (who : ℕ → Who) (ring : List ℕ) (handed : Id → Bool) (acked : Id → Acked)
    (d : Dispatcher) : Type 0 where
  -- its ring is the book's, and its total
  pub ringed : Ringed p who ring d.pair d.attached d.total_available_permits
  -- its marks are the book's
  pub marks_agree : MarksAgree l acked d.mark_delete d.marks d.outside
  -- its entries stand where they should
  pub placed : Placed l ring handed d.cursor d.redelivery d.in_flight d.marks

-- the same with the ledger and all else taken from a state and a book
abbrev pub FitsAt : State → Book → Pair → Dispatcher → Type 0
FitsAt s b p d = Fits p (ledger_of s p.topic) b.who (b.attached p) (b.handed_out p) (b.acked p) d

-- ---- the whole

-- a state and its book
pub record Invariant (s : State) (b : Book) : Type 0 where
  -- the leak switch is off
  pub leak_off : s.leak_shared_permits_on_churn ≡ false
  -- the dispatchers' pairs are the book's
  pub pairs : map (λ (d : Dispatcher). d.pair) s.dispatchers ≡ b.pairs
  -- no pair has two dispatchers
  pub pairs_once : Once by_pair s.dispatchers
  -- the book's lists are the ledgers
  pub lists : (n : ℕ) → b.topics n ≡ ledger_of s n
  -- no id stands twice in a ledger
  pub ids_once : (n k : ℕ) → k < length (ledger_of s n) → position_of (message_at (ledger_of s n) k).id (ledger_of s n) ≡ k
  -- batches are at most 256
  pub batches : (n k : ℕ) → (message_at (ledger_of s n) k).batch_size ≤ 256
  -- who is live agrees
  pub live : (i : ℕ) → Agree (consumer_of s i) (b.who i)
  -- an id stands once among those attached to its own pair, and nowhere else
  pub attached_once : (p : Pair) (i : ℕ) → count i (b.attached p) ≡ attached_count p (b.who i)
  -- every pair's dispatcher is as the book has it
  pub fits : (p : Pair) → FitsAt s b p (dispatcher s p)
