-- A plain consumer's entries one after the other: what it is after some of them, which one comes next, and how many it is
-- due at most.
use mathlib.Core.Path.{◌≡◌, refl, sym, ap, ap₂, ◌∙◌}
use mathlib.Core.Bool.{cond}
use mathlib.Core.List.{List, [], ◌∷◌, ◌++◌}
use Prim.Native.Nat.{ℕ, zero, suc, ◌+◌, ◌-◌, ◌*◌, ◌≤◌, ◌<◌, min, zero-le}
use native.Mathlib.Nat.{min-le_left, min-le_right}
use native.Mathlib.Omega.{arith}
use lib.Dec.{ltb}
use lib.ListN.{length, get_or, drop, length-append, drop_of_length-le}
use lib.Seq.{drop-cons, drop-nil}
use borrow.Author.Tests.{lt-ltb, le-ltb, ltb-true, ltb-false}
use Rattle.words.specs.Act.{lay}
use Rattle.rules.specs.Permits.{zero_permits}
use Rattle.rules.specs.Table.{Every}
use Rattle.rules.specs.State.{StoredMessage, Pair, Kind, by_kind, Consumer, State}
use Rattle.rules.specs.State.Kind.{plain, shared}
use Rattle.rules.specs.Commands.{with_permits, with_reading}
use Rattle.rules.specs.Outcome.{Dispatch}
use Rattle.rules.specs.Push.{flat}
use Rattle.rules.proofs.Table.{by_test}
use Rattle.push_laws.specs.Plain.{plain_due, next_position, taken_next, after_one, plain_record, plain_records, after_entries, ledger_for, plain_served}
use Rattle.push_laws.specs.Plain.{all_plain_records}
use Rattle.record.specs.Flat.{filled}
use Rattle.record.proofs.Filled.{rest, handed_back, laid_rest}
use Rattle.operation_laws.proofs.Frame.{every_nth}
use Rattle.push_plain.specs.Reading.{position_at, record_to, entry_record, entries_taken}

-- ---- after some entries

-- the consumer of these parts
abbrev of : ℕ → Pair → Kind → ℕ → ℕ → List ℕ → Consumer
of i p k m cursor l = record { id = i; pair = p; kind = k; permits = m; cursor = cursor; nacked = l }

-- the same permits and cursor, and so the same consumer
same_parts : (i : ℕ) (p : Pair) (k : Kind) (l : List ℕ) {m n x y : ℕ} → m ≡ n → x ≡ y → of i p k m x l ≡ of i p k n y l
same_parts i p k l e f = ap₂ (λ (a b : ℕ). of i p k a b l) e f

-- one entry, then n
taken_step : (i : ℕ) (p : Pair) (k : Kind) (m cursor : ℕ) (l : List ℕ) (n : ℕ)
    → entries_taken (taken_next (of i p k m cursor l) l) n ≡ entries_taken (of i p k m cursor l) (suc n)
unfolding entries_taken taken_next with_permits with_reading
taken_step i p k m cursor [] n =
    let a : m - 1 - n ≡ m - suc n = omega arith in
    let b : suc cursor + (n - 0) ≡ cursor + (suc n - 0) = omega arith in
    ap (λ (l : List ℕ). of i p k (m - 1 - n) (suc cursor + (n - 0)) l) (drop-nil n) ∙ same_parts i p k [] a b
taken_step i p k m cursor (x ∷ l) n =
    let a : m - 1 - n ≡ m - suc n = omega arith in
    let b : cursor + (n - length l) ≡ cursor + (suc n - suc (length l)) = omega arith in
    same_parts i p k (drop n l) a b

-- no entry
taken_none : (c : Consumer) → c ≡ entries_taken c 0
unfolding entries_taken
taken_none c =
    let a : c.permits ≡ c.permits - 0 = omega arith in
    let b : c.cursor ≡ c.cursor + (0 - length c.nacked) = omega arith in
    same_parts c.id c.pair c.kind c.nacked a b

-- entries one by one are entries taken at once
pub after_is : (c : Consumer) (n : ℕ) → after_entries c n ≡ entries_taken c n
unfolding after_entries after_one
after_is c zero = taken_none c
after_is c (suc n) = after_is (after_one c) n ∙ taken_step c.id c.pair c.kind c.permits c.cursor c.nacked n

-- n entries, then one
after_last : (c : Consumer) (n : ℕ) → after_one (after_entries c n) ≡ after_entries c (suc n)
unfolding after_entries
after_last c zero = refl
after_last c (suc n) = after_last (after_one c) n

-- a consumer's part
pub served_is : (s : State) (c : Consumer) → plain_served s c ≡ entries_taken c (plain_due (ledger_for s c) c)
unfolding plain_served
served_is s c = after_is c (plain_due (ledger_for s c) c)

-- ---- which entry comes

-- the next one after j were taken: nacked position j, or the cursor
next_dropped : (x j : ℕ) (l : List ℕ) → next_position x (drop j l) ≡ cond (ltb j (length l)) (get_or l j 0) x
unfolding next_position
next_dropped x j l =
    by_test (ltb j (length l))
    (λ t. rw (t, drop-cons l j 0 (ltb-true j (length l) t)))
    (λ t. rw (t, drop_of_length-le l (ltb-false j (length l) t)))

-- a nacked one first
pub position_nacked : (c : Consumer) (j : ℕ) → j < length c.nacked → get_or c.nacked j 0 ≡ position_at c j
unfolding position_at
position_nacked c j h = rw (lt-ltb j (length c.nacked) h)

-- then from the cursor on
pub position_later : (c : Consumer) (j : ℕ) → length c.nacked ≤ j → c.cursor + (j - length c.nacked) ≡ position_at c j
unfolding position_at
position_later c j h = rw (le-ltb j (length c.nacked) h)

-- the record of entry j is that of the next one after j entries
pub record_next : (g : List StoredMessage) (c : Consumer) (j : ℕ)
    → plain_record g (after_entries c j) (next_position (after_entries c j).cursor (after_entries c j).nacked) ≡ entry_record g c j
unfolding plain_record entry_record record_to entries_taken position_at
record_next g c j =
    ap (λ (x : Consumer). plain_record g x (next_position x.cursor x.nacked)) (after_is c j)
    ∙ ap (λ (k : ℕ). record_to g c.id k (c.permits - j - 1)) (next_dropped (c.cursor + (j - length c.nacked)) j c.nacked)

-- by what the code has at hand
pub entry_is : (g : List StoredMessage) (c : Consumer) (p j : ℕ) {l : List StoredMessage} {i k : ℕ} → l ≡ g → i ≡ c.id → k ≡ position_at c j
    → record_to l i k (p - j - 1) ≡ entry_record g (with_permits c p) j
unfolding entry_record with_permits position_at
entry_is g c p j a b d = rw (a, b, d)

-- none to write
pub fill_none : (g : List StoredMessage) (c : Consumer) (list : List ℕ) (n : ℕ) → n ≡ 0 → list ≡ filled list 0 (plain_records g c n)
unfolding filled plain_records
fill_none g c list n e = rw e

module _ (g : List StoredMessage) (c : Consumer) (n : ℕ) (first : List ℕ) where
  -- a list with the first j records and those that are left is the first list with all
  abbrev pub Filling : ℕ → List ℕ → Type 0
  Filling j list = filled list j (plain_records g (after_entries c j) (n - j)) ≡ filled first 0 (plain_records g c n)

  -- none is written
  pub filling_start : Filling 0 first
  unfolding after_entries
  filling_start = let all : n - 0 ≡ n = omega arith in ap (λ (k : ℕ). filled first 0 (plain_records g c k)) all

  -- record j written, the others left
  fill_turn : (list : List ℕ) (j : ℕ) → j < n
      → filled list j (plain_records g (after_entries c j) (n - j))
      ≡ filled ((lay (flat (entry_record g c j))).run (j * 13) list) (j + 1) (plain_records g (after_entries c (j + 1)) (n - (j + 1)))
  unfolding filled plain_records
  fill_turn list j h =
      let one : n - j ≡ suc (n - (j + 1)) = omega arith in
      let on : j + 1 ≡ suc j = omega arith in
      rw (one, record_next g c j, after_last c j, on)

  -- one more is, to the rest of the list
  pub filling_on : (list : List ℕ) (j : ℕ) {written : List ℕ} → Filling j list → j < n → j * 13 ≤ length list
      → written ≡ (lay (flat (entry_record g c j))).run 0 (rest (j * 13) list) → Filling (j + 1) (handed_back (j * 13) list written)
  filling_on list j f h room w =
      ap (λ (l : List ℕ). filled l (j + 1) (plain_records g (after_entries c (j + 1)) (n - (j + 1))))
      (laid_rest (flat (entry_record g c j)) (j * 13) list room w)
      ∙ sym (fill_turn list j h)
      ∙ f

  -- all are
  pub filling_end : (list : List ℕ) (j : ℕ) → Filling j list → j ≡ n → list ≡ filled first 0 (plain_records g c n)
  unfolding filled plain_records
  filling_end list j f e = let none : n - j ≡ 0 = omega arith in rw none at f

-- as many records as entries
pub length_records : (g : List StoredMessage) (c : Consumer) (n : ℕ) → length (plain_records g c n) ≡ n
unfolding plain_records
length_records g c zero = refl
length_records g c (suc n) = ap suc (length_records g (after_one c) n)

-- ---- how many are due

-- one of the two, by the kind
module _ (g : List StoredMessage) (c : Consumer) where
  pub due_shared : c.kind ≡ shared → plain_due g c ≡ 0
  unfolding plain_due by_kind
  due_shared e = rw e

  pub due_plain_is : c.kind ≡ plain → plain_due g c ≡ min (c.permits - zero_permits) (length c.nacked + (length g - c.cursor))
  unfolding plain_due by_kind
  due_plain_is e = rw e

  -- no more than wait
  pub due_waiting : plain_due g c ≤ length c.nacked + (length g - c.cursor)
  unfolding plain_due by_kind
  due_waiting = go c.kind
    where
      go : (k : Kind) → by_kind k (min (c.permits - zero_permits) (length c.nacked + (length g - c.cursor))) 0 ≤ length c.nacked + (length g - c.cursor)
      go plain = min-le_right _ _
      go shared = zero-le

  -- no more than it has permits for
  due_over : plain_due g c ≤ c.permits - zero_permits
  unfolding plain_due by_kind
  due_over = go c.kind
    where
      go : (k : Kind) → by_kind k (min (c.permits - zero_permits) (length c.nacked + (length g - c.cursor))) 0 ≤ c.permits - zero_permits
      go plain = min-le_left _ _
      go shared = zero-le

  pub due_permitted : plain_due g c ≤ c.permits
  due_permitted = below (plain_due g c) c.permits zero_permits due_over
    where
      below : (d p z : ℕ) → d ≤ p - z → d ≤ p
      below d p z h = omega arith

-- with other permits
module _ (g : List StoredMessage) (c : Consumer) (p : ℕ) where
  pub charged_shared : c.kind ≡ shared → plain_due g (with_permits c p) ≡ 0
  unfolding with_permits
  charged_shared e = due_shared g (with_permits c p) e

  pub charged_plain : c.kind ≡ plain → plain_due g (with_permits c p) ≡ min (p - zero_permits) (length c.nacked + (length g - c.cursor))
  unfolding with_permits
  charged_plain e = due_plain_is g (with_permits c p) e

  pub charged_waiting : plain_due g (with_permits c p) ≤ length c.nacked + (length g - c.cursor)
  unfolding with_permits
  charged_waiting = due_waiting g (with_permits c p)

  pub charged_permitted : plain_due g (with_permits c p) ≤ p
  unfolding with_permits
  charged_permitted = due_permitted g (with_permits c p)

-- a consumer's part, with other permits
pub charged_served : (s : State) (c : Consumer) (p : ℕ) {n : ℕ} → n ≡ plain_due (ledger_for s c) (with_permits c p)
    → entries_taken (with_permits c p) n ≡ plain_served s (with_permits c p)
unfolding with_permits
charged_served s c p e = ap (λ (k : ℕ). entries_taken (with_permits c p) k) e ∙ sym (served_is s (with_permits c p))

-- ---- each of them lies in the ledger

pub position_inside : (g : List StoredMessage) (c : Consumer) (j n : ℕ) → c.cursor ≤ length g → Every (λ (k : ℕ). k < length g) c.nacked
    → j < n → n ≤ length c.nacked + (length g - c.cursor) → position_at c j < length g
unfolding position_at
position_inside g c j n a b h k =
    by_test (ltb j (length c.nacked))
    (λ t. rw t (every_nth {P = λ (k : ℕ). k < length g} c.nacked j 0 b (ltb-true j (length c.nacked) t)))
    (λ t. let l = ltb-false j (length c.nacked) t in
    rw t (past c.cursor j (length c.nacked) (length g) n a l h k))
  where
    past : (x j l g n : ℕ) → x ≤ g → l ≤ j → j < n → n ≤ l + (g - x) → x + (j - l) < g
    past x j l g n a b h k = omega arith

-- ---- all of them

-- the records of the consumers from i on: those of consumer i, then of the others
pub all_turn : (s : State) (l : List Consumer) (i : ℕ) (z : Consumer) → i < length l
    → all_plain_records s (drop i l)
    ≡ plain_records (ledger_for s (get_or l i z)) (get_or l i z) (plain_due (ledger_for s (get_or l i z)) (get_or l i z)) ++ all_plain_records s
    (drop (i + 1) l)
unfolding all_plain_records
all_turn s l i z h = let on : i + 1 ≡ suc i = omega arith in rw (on, drop-cons l i z h)

-- and as many
pub all_turn_length : (s : State) (l : List Consumer) (i : ℕ) (z : Consumer) → i < length l
    → length (all_plain_records s (drop i l)) ≡ plain_due (ledger_for s (get_or l i z)) (get_or l i z) + length (all_plain_records s (drop (i + 1) l))
all_turn_length s l i z h =
    ap (λ (r : List Dispatch). length r) (all_turn s l i z h)
    ∙ length-append (plain_records (ledger_for s (get_or l i z)) (get_or l i z) (plain_due (ledger_for s (get_or l i z)) (get_or l i z)))
    (all_plain_records s (drop (i + 1) l))
    ∙ ap (λ (n : ℕ). n + length (all_plain_records s (drop (i + 1) l)))
    (length_records (ledger_for s (get_or l i z)) (get_or l i z) (plain_due (ledger_for s (get_or l i z)) (get_or l i z)))
