-- Demand 3 over words: a store is opened and calls are made on it through the exports, one after the other. The book is told
-- of each call what its caller knows: the call, the number in the answer, and the records that a push left in the words of
-- its lent list. Its proof is proofs/Demand.antt; demand 3 over states is in the rules (specs/Demand.antt).
use Rattle.std.specs.Prelude.{ℕ, ◌/◌, ◌≤◌, ◌≡◌, Bool, true, cond, not, ◌&&◌, List, [], ◌∷◌, eqb, length}
use Rattle.rules.specs.Table.{all}
use Rattle.rules.specs.Push.{records_read}
use Rattle.rules.specs.Calls.{Call, needed, fits, number_in, value_in}
use Rattle.rules.specs.Calls.Call.{Append, Subscribe, Flow, Ack, Seek, Redeliver, Close, Push}
use Rattle.rules.specs.Book.{Book, Told, empty_book, enter}
use Rattle.rules.specs.Book.Told.{told_refused, told_done}
use Rattle.rules.specs.Demand.{subscribes_live, Accounted}
use Rattle.layout.specs.Layout.{decode, spells}
use Rattle.layout.specs.Calls.{outcome, answer, after, list_after, open_after}

-- ---- calls through the exports

-- a call as an export is given it, and the words of the list that is lent with it to be filled (push's; any other call has
-- none, and what stands here is not looked at)
pub record Lent : Type 0 where
  pub call : Call
  pub list : List ℕ

-- whether the room of a push is what its lent list holds: 13 words a record
unfoldable pub room_of_list : Call → List ℕ → Bool
room_of_list (Append topic m) list = true
room_of_list (Subscribe i kind p) list = true
room_of_list (Flow i grant) list = true
room_of_list (Ack i acked) list = true
room_of_list (Seek i target) list = true
room_of_list (Redeliver i back) list = true
room_of_list (Close i) list = true
room_of_list (Push room) list = eqb room (length list / 13)

-- whether an export can be given the call: its arguments have their widths, and its room is its list's
unfoldable pub can_be_given : Lent → Bool
can_be_given c = fits c.call && room_of_list c.call c.list

-- ---- the book, from words

-- what the book is told of an answer and of the lent list after the call: refused where the number is not 0; else done,
-- with as many records as the value says, read from the list. (The book looks at the records of a push alone.)
unfoldable pub told_by : ℕ → List ℕ → Told
told_by answered list =
    cond (eqb (number_in answered) 0) (told_done (records_read (value_in answered) list)) told_refused

-- the words of a store, and the book of the calls that led to them
pub record WordsReached : Type 0 where
  pub words : List ℕ
  pub book : Book

-- words opened with the leak switch off, with the empty book
unfoldable pub at_opening : List ℕ → ℕ → ℕ → WordsReached
at_opening ws e noop = record { words = open_after ws e 0 noop; book = empty_book }

-- after one more call
unfoldable pub after_call : WordsReached → Lent → WordsReached
after_call r c =
    record {
      words = after r.words c.call;
      book =
          enter r.book c.call
          (told_by (answer r.words c.call) (list_after c.list (outcome r.words c.call)));
    }

-- after a list of calls, each given the words as the last one left them
unfoldable pub after_calls : WordsReached → List Lent → WordsReached
after_calls r [] = r
after_calls r (c ∷ calls) = after_calls (after_call r c) calls

-- ---- demand 3

-- whether a call is a subscribe of an id that the book has as live, answered as done other than as a no-op
unfoldable pub replaces : ℕ → WordsReached → Lent → Bool
replaces noop r c =
    subscribes_live r.book c.call && eqb (number_in (answer r.words c.call)) 0 && eqb noop 0

-- whether no call of a list is such a subscribe
unfoldable pub never_replaces : ℕ → WordsReached → List Lent → Bool
never_replaces noop r [] = true
never_replaces noop r (c ∷ calls) = not (replaces noop r c) && never_replaces noop (after_call r c) calls

-- what demand 3 says of words and their book: they spell a state, and in it every permit and every message is accounted for
pub record WordsAccounted (r : WordsReached) : Type 0 where
  pub spelt : spells r.words ≡ true
  pub accounted : Accounted (record { state = decode r.words; book = r.book })

-- demand 3 over words: for every list of words long enough for E, either no-op switch, leak off, and every list of calls
-- that the exports can be given, in which no live id is replaced
unfoldable pub Demand3Words : Type 0
Demand3Words =
    (ws : List ℕ) (e noop : ℕ) (calls : List Lent) → 1 ≤ e → e ≤ 4096 → needed e ≤ length ws
    → all can_be_given calls ≡ true → never_replaces noop (at_opening ws e noop) calls ≡ true
    → WordsAccounted (after_calls (at_opening ws e noop) calls)
