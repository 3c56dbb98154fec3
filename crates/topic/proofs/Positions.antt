-- A message sought position by position: what the loops of `find.rt` turn on.
use mathlib.Core.Path.{◌≡◌, refl, ap, ap₂, ◌∙◌}
use mathlib.Core.Bool.{Bool}
use mathlib.Core.List.{List, [], ◌∷◌}
use Prim.Native.Nat.{ℕ, ◌+◌, ◌*◌, ◌≤◌, ◌<◌}
use native.Mathlib.Omega.{arith}
use lib.ListN.{length, get_or}
use Rattle.std.specs.Option.{is_some}
use Rattle.std.specs.declared.option.Option.{Option}
use Rattle.std.specs.declared.option.Option.TheVariants.{None, Some}
use Rattle.rules.specs.Table.{Key}
use Rattle.rules.specs.State.{Id, StoredMessage}
use Rattle.rules.specs.Ledger.{position_of, holds_id, at_or_after, first_at_or_after, seek_position, no_message, message_at}
use Rattle.rules.proofs.Ledger.{seek_position_cons}
use Rattle.layout.specs.Layout.{decode}
use Rattle.layout.specs.Offsets.{topic_at, message_in}
use Rattle.layout.specs.Fields.{topic_nth}
use Rattle.layout.specs.Placed.{TopicIn}
use Rattle.layout.proofs.Gets.{read_message_ledger, read_message_entry, read_message_handle, read_message_batch}
use Rattle.store.specs.Find.{slot}
use Rattle.store.specs.Found.{found}
use Rattle.store.proofs.Founds.{found_some, found_none, found_is}
use Rattle.topic.specs.Ids.{id_of, id_at, message_of, by_message_id}

-- the position of an id is its slot
pub position_slot : (i : Id) (l : List StoredMessage) → position_of i l ≡ slot by_message_id i l
unfolding position_of slot
position_slot i [] = refl
position_slot i (m ∷ l) = rw (position_slot i l)

-- what a search for an id tells is its position, and none where the ledger does not hold it
pub position_found : {k : ℕ} (i : Id) (l : List StoredMessage) → Some k ≡ found by_message_id i l → (k ≡ position_of i l) × (k < length l)
position_found i l e = let f = found_some by_message_id i l e in (rw (position_slot i l) f.0, f.1)

pub position_missing : (i : Id) (l : List StoredMessage) → None ≡ found by_message_id i l → length l ≤ position_of i l
position_missing i l e = rw (position_slot i l) (found_none by_message_id i l e)

-- whether a search for an id told a position is whether the ledger holds it
pub found_held : {b : Bool} {r : Option ℕ} (i : Id) (l : List StoredMessage) → b ≡ is_some r → r ≡ found by_message_id i l → b ≡ holds_id i l
unfolding holds_id
found_held i l t e = t ∙ ap (λ (o : Option ℕ). is_some o) e ∙ found_is by_message_id i l ∙ rw (position_slot i l)

-- and by ids that they are at or after
abbrev pub by_later_id : Key StoredMessage Id
by_later_id = record { key = λ m. m.id; same = λ i j. at_or_after j i }

-- the position that a seek finds is that slot
pub seek_slot : (i : Id) (l : List StoredMessage) → seek_position i l ≡ slot by_later_id i l
unfolding seek_position first_at_or_after slot
seek_slot i [] = refl
seek_slot i (m ∷ l) = seek_position_cons i m l ∙ rw (seek_slot i l)

-- ---- a message in the words

-- the id of message k of a topic, where the code reads it
pub id_here : {e : ℕ} {ws : List ℕ} (t at k : ℕ) → TopicIn e ws t → at ≡ topic_at e t → k < length (topic_nth (decode ws) t).messages
    → id_at ws (at + 4 + k * 4) ≡ (get_or (topic_nth (decode ws) t).messages k no_message).id
id_here {e} {ws} t at k h a l =
    let n : at + 4 + k * 4 ≡ topic_at e t + message_in k = omega arith in
    rw n (ap₂ id_of (read_message_ledger h.canon t h.there k l) (read_message_entry h.canon t h.there k l))

-- the batch size of a message, where the code reads it
pub batch_here : {e : ℕ} {ws : List ℕ} (t at k : ℕ) → TopicIn e ws t → at ≡ topic_at e t → k < length (topic_nth (decode ws) t).messages
    → get_or ws (at + 7 + k * 4) 0 ≡ (message_at (topic_nth (decode ws) t).messages k).batch_size
unfolding message_at
batch_here {e} t at k h a l =
    let n : at + 7 + k * 4 ≡ topic_at e t + message_in k + 3 = omega arith in
    rw n (read_message_batch h.canon t h.there k l)

-- a whole message, where the code reads it
pub message_here : {e : ℕ} {ws : List ℕ} (t at k : ℕ) → TopicIn e ws t → at ≡ topic_at e t → k < length (topic_nth (decode ws) t).messages
    → message_of (get_or ws (at + 4 + k * 4) 0) (get_or ws (at + 4 + k * 4 + 1) 0) (get_or ws (at + 4 + k * 4 + 2) 0) (get_or ws (at + 4 + k * 4 + 3) 0)
    ≡ message_at (topic_nth (decode ws) t).messages k
unfolding message_at
message_here {e} t at k h a l =
    let n : at + 4 + k * 4 ≡ topic_at e t + message_in k = omega arith in
    rw n (
    rw (
      read_message_ledger h.canon t h.there k l,
      read_message_entry h.canon t h.there k l,
      read_message_handle h.canon t h.there k l,
      read_message_batch h.canon t h.there k l,
    ) refl)
