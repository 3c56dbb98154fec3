-- How many dispatches a push makes, read from its answer: fewer than an answer can say, and at most as many as there is
-- room for. And a flat list of which only the room was lent: what the push left there is what it would leave in the whole.
use mathlib.Core.Path.{◌≡◌, refl, sym, ap, ◌∙◌}
use mathlib.Core.Bool.{Bool, true, false, cond}
use mathlib.Core.List.{List, ◌++◌, append_assoc}
use Prim.Native.Nat.{ℕ, ◌+◌, ◌*◌, ◌/◌, ◌%◌, ◌^◌, ◌≤◌, ◌<◌}
use native.Mathlib.Nat.{mod-eq_of_lt}
use native.Mathlib.Omega.{arith}
use lib.Dec.{eqb, leb}
use lib.ListN.{length, take, drop, take-append-drop}
use lib.Seq.{drop-append-le, length-take-le}
use borrow.Author.Tests.{leb-true}
use Rattle.rules.specs.State.{State}
use Rattle.rules.specs.Outcome.{Dispatch, Outcome}
use Rattle.rules.specs.Outcome.Outcome.{refused, short, done}
use Rattle.rules.specs.Outcome.Value.{dispatches}
use Rattle.rules.specs.Push.{Pushed, push_pending, push, flat_records}
use Rattle.rules.specs.Book.{records_of}
use Rattle.rules.specs.Calls.{rule, value_number, answer_word, number_in, value_in}
use Rattle.rules.specs.Calls.Call.{Push}
use Rattle.layout.specs.Layout.{decode, spells}
use Rattle.layout.specs.Calls.{outcome, answer, with_records, made_words, list_after}
use Rattle.layout.proofs.FewDue.{few_due}
use Rattle.operation_laws.proofs.Frame.{valid_now}
use Rattle.rules.proofs.Answers.{flats_length}
use Rattle.record.specs.declared.Dispatch as declared
use Rattle.told.specs.Told.{made_told as told}
use Rattle.push_records.specs.Listed.{records_in, dispatched, room, listed}
use Rattle.push_records.proofs.Reading.{read_made}

-- how many dispatches a push made
abbrev pub made : Outcome → ℕ
made o = length (dispatched o)

-- a number below 2 ^ 56 is told
told_done : (n : ℕ) → n < 2 ^ 56 → told (n % 2 ^ 56 * 256) ≡ n
unfolding told number_in value_in
told_done n h =
    let whole : n % 2 ^ 56 ≡ n = mod-eq_of_lt h in
    let low : n * 256 % 256 ≡ 0 = omega arith in
    let high : n * 256 / 256 ≡ n = omega arith in
    ap (λ (k : ℕ). told (k * 256)) whole ∙ rw (low, high)

-- with 15 none is
told_short : (n : ℕ) → told (n % 2 ^ 56 * 256 + 15) ≡ 0
unfolding told number_in
told_short n =
    let m : ℕ = n % 2 ^ 56 in
    let low : (m * 256 + 15) % 256 ≡ 15 = omega arith in
    rw low

-- a push of a state, of which few are due: done within the room, or short
record Pushing (r : ℕ) (o : Outcome) : Type 0 where
  pub counted : told (answer_word o) ≡ made o
  pub within : made o ≤ r

by_room : (r : ℕ) (l : List Dispatch) (s : State) → length l < 2 ^ 56 → (b : Bool) → leb (length l) r ≡ b
    → Pushing r (cond b (done (dispatches l) s) (short (length l)))
unfolding answer_word value_number dispatched records_of
by_room r l s few true h = record { counted = told_done (length l) few; within = leb-true (length l) r h }
by_room r l s few false h = record { counted = told_short (length l); within = omega arith }

module _ (ws : List ℕ) (r : ℕ) where
  few : spells ws ≡ true → length (push_pending (decode ws)).dispatched < 2 ^ 56
  few spelt = omega (arith, few_due (decode ws) (valid_now ws spelt))

  by_words : (b : Bool) → spells ws ≡ b → Pushing r (cond b (rule (decode ws) (Push r)) (refused 1))
  unfolding answer_word dispatched rule push told number_in value_in
  by_words true h =
      let all : Pushed = push_pending (decode ws) in
      by_room r all.dispatched all.state (few h) (leb (length all.dispatched) r) refl
  by_words false h = record { counted = refl; within = omega arith }

  pushing : Pushing r (outcome ws (Push r))
  unfolding outcome
  pushing = by_words (spells ws) refl

  -- the answer says how many dispatches were made
  pub made_told : told (answer ws (Push r)) ≡ made (outcome ws (Push r))
  unfolding answer
  made_told = pushing.counted

  -- they are at most as many as there is room for
  pub made_within : made (outcome ws (Push r)) ≤ r
  made_within = pushing.within

-- ---- a part of a flat list

-- the rest of a part, and what follows the part
drop_part : (m k : ℕ) (l : List ℕ) → m ≤ k → k ≤ length l → drop m (take k l) ++ drop k l ≡ drop m l
drop_part m k l h g =
    let fits : m ≤ length (take k l) = rw (length-take-le k l g) h in
    sym (drop-append-le m (take k l) (drop k l) fits) ∙ ap (λ (z : List ℕ). drop m z) (take-append-drop k l)

part_by : (r : ℕ) (l : List ℕ) (o : Outcome) → made o ≤ r → r * 13 ≤ length l
    → list_after (take (r * 13) l) o ++ drop (r * 13) l ≡ list_after l o
unfolding made_words list_after dispatched with_records
part_by r l (refused n) h g = take-append-drop (r * 13) l
part_by r l (short n) h g = take-append-drop (r * 13) l
part_by r l (done v s) h g =
    let x : List ℕ = flat_records (records_of v) in
    let n : length x ≤ r * 13 = rw (flats_length (records_of v)) (omega (arith, h)) in
    append_assoc x (drop (length x) (take (r * 13) l)) (drop (r * 13) l)
    ∙ ap (λ (z : List ℕ). x ++ z) (drop_part (length x) (r * 13) l n g)

-- what a push leaves in the part that was lent, with the rest, is what it would leave in the whole
pub part_lent : (ws : List ℕ) (r : ℕ) (l : List ℕ) → r * 13 ≤ length l
    → list_after (take (r * 13) l) (outcome ws (Push r)) ++ drop (r * 13) l ≡ list_after l (outcome ws (Push r))
part_lent ws r l g = part_by r l (outcome ws (Push r)) (made_within ws r) g

-- ---- the room

-- what fits into the words, and into the records
pub room_words : (words records : ℕ) → room words records * 13 ≤ words
unfolding room
room_words words records = omega arith

pub room_records : (words records : ℕ) → room words records ≤ records
unfolding room
room_records words records = omega arith

-- the number that an answer tells: it fits into the records, and its words into the words
module _ (ws ys : List ℕ) (m : ℕ) {a k : ℕ} (answered : a ≡ answer ws (Push (room (length ys) m))) (counted : k ≡ told a) where
  pub made_is : k ≡ made (outcome ws (Push (room (length ys) m)))
  made_is = counted ∙ ap (λ (z : ℕ). told z) answered ∙ made_told ws (room (length ys) m)

  pub made_records : k ≤ m
  made_records = omega (arith, made_is, made_within ws (room (length ys) m), room_records (length ys) m)

  pub made_in_words : k * 13 ≤ length ys
  made_in_words = omega (arith, made_is, made_within ws (room (length ys) m), room_words (length ys) m)

  -- and the list filled with so many records, from what the push left in the flat list, is the push's
  pub made_listed : (flat : List ℕ) (list : List declared.Dispatch) → flat ≡ list_after ys (outcome ws (Push (room (length ys) m)))
      → records_in flat k ++ drop k list ≡ listed (outcome ws (Push (room (length ys) m))) list
  unfolding listed
  made_listed flat list left =
      let o : Outcome = outcome ws (Push (room (length ys) m)) in
      ap (λ (z : ℕ). records_in flat z ++ drop z list) made_is
      ∙ ap (λ (z : List ℕ). records_in z (made o) ++ drop (made o) list) left
      ∙ ap (λ (z : List declared.Dispatch). z ++ drop (made o) list) (read_made ys o)
