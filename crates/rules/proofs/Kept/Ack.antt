-- An ack keeps a state sound. The groups may pass the 64 ids outside the ledger for a moment, so that their number is
-- left to refusal 11.
use Prim.Native.Nat.{ℕ, ◌+◌, ◌-◌, ◌≤◌}
use mathlib.Core.Path.{◌≡◌, refl, sym, ◌∙◌, ap, subst}
use mathlib.Core.Bool.{Bool, true, not, ◌&&◌}
use mathlib.Core.List.{List, [], ◌∷◌}
use native.Mathlib.Omega.{arith}
use lib.Dec.{eqb}
use lib.ListN.{length, drop, length-drop}
use borrow.Author.Tests.{ltb-false}
use Rattle.rules.specs.Table.{all, keep}
use Rattle.rules.specs.State.{StoredMessage, Consumer, Mark, Held, Dispatcher, State, ledger_of, dispatcher}
use Rattle.rules.specs.State.Kind.{shared}
use Rattle.rules.specs.Dispatcher.{with_mark_delete, with_places, with_marks, complete_at, ack_id, drop_complete, leading_complete, advance_mark_delete}
use Rattle.rules.specs.Groups.{Group}
use Rattle.rules.specs.Commands.{ack_groups, ack_shared, ack}
use Rattle.rules.specs.Calls.{fits}
use Rattle.rules.specs.Calls.Call.{Ack}
use Rattle.rules.specs.Valid.{is_word, ValidId, ValidMarks, ValidConsumer, ValidDispatcher, Sound}
use Rattle.rules.proofs.Says.{says_and, says_true, every_head, every_tail}
use Rattle.rules.proofs.Table.{by_test, count_parted}
use Rattle.rules.proofs.State.{dispatcher_pair}
use Rattle.rules.proofs.Kept.Every.{kept_was}
use Rattle.rules.proofs.Kept.Frame.{consumer_valid, sound_own_dispatcher}
use Rattle.rules.proofs.Kept.Parts.{Places, places_of, fewer_places, valid_with_places, valid_with_mark_delete, valid_with_marks, dispatcher_valid}
use Rattle.rules.proofs.Kept.Outcomes.{Keeps, keeps_guard, keeps_live, keeps_groups, keeps_kind}
use Rattle.rules.proofs.Kept.Marks.{Outside, outside_of, of_outside, ack_id_rest, ack_id_marks, ack_id_outside}
use Rattle.rules.proofs.Kept.Groups.{Ids, groups_ids}

-- ---- each id of a list acknowledged

-- nothing but marks and ids outside changes
ack_groups_rest : (ledger : List StoredMessage) (d : Dispatcher) (gs : List Group)
    → ack_groups ledger d gs ≡ with_marks d (ack_groups ledger d gs).marks (ack_groups ledger d gs).outside
unfolding ack_groups with_marks
ack_groups_rest ledger d [] = refl
ack_groups_rest ledger d (g ∷ gs) =
    let e : Dispatcher = ack_id ledger d g.id g.words in
    ack_groups_rest ledger e gs ∙ ack_id_rest ledger d g.id g.words (ack_groups ledger e gs).marks (ack_groups ledger e gs).outside

-- the marks stay valid
ack_groups_marks : (ledger : List StoredMessage) (d : Dispatcher) (gs : List Group) → ValidMarks ledger d.marks → ValidMarks ledger (ack_groups ledger d gs).marks
unfolding ack_groups
ack_groups_marks ledger d [] v = v
ack_groups_marks ledger d (g ∷ gs) v =
    ack_groups_marks ledger (ack_id ledger d g.id g.words) gs (ack_id_marks ledger d g.id g.words v)

-- and so do the ids outside, but for their number
ack_groups_outside : (ledger : List StoredMessage) (d : Dispatcher) (gs : List Group) → Ids gs
    → Outside ledger d.outside → Outside ledger (ack_groups ledger d gs).outside
unfolding ack_groups
ack_groups_outside ledger d [] w v = v
ack_groups_outside ledger d (g ∷ gs) w v =
    ack_groups_outside ledger (ack_id ledger d g.id g.words) gs (every_tail {P = λ (x : Group). ValidId x.id} w)
    (ack_id_outside ledger d g.id g.words (every_head {P = λ (x : Group). ValidId x.id} w) v)

-- ---- afterwards

-- what is left in flight where some is dropped
pub kept_places : (q : Held → Bool) (ring : List ℕ) (cursor : ℕ) (held : List Held) (queue : List ℕ) → Places ring cursor held queue → Places ring cursor (keep q held) queue
kept_places q ring cursor held queue p =
    fewer_places ring cursor held queue (keep q held) queue p (λ a m. p.holders a (kept_was q held a m))
    (λ k. let e = count_parted q (λ (h : Held). h.position) k held in omega arith)

-- the acker drops its complete entries
drop_complete_valid : (s : State) (i : ℕ) (d : Dispatcher) → ValidDispatcher s d → ValidDispatcher s (drop_complete i d)
unfolding drop_complete
drop_complete_valid s i d v =
    let q : Held → Bool = λ (h : Held). not (eqb i h.holder && complete_at d h.position) in
    valid_with_places s d v d.redelivery (keep q d.in_flight) (kept_places q d.attached d.cursor d.in_flight d.redelivery (places_of d v.places))

-- no more marks lead than there are
pub leading_le : (l : List Mark) → leading_complete l ≤ length l
unfolding leading_complete
leading_le [] = omega arith
leading_le (m ∷ l) = let h = leading_le l in by_test m.acked.complete (λ t. rw t (omega arith)) (λ t. rw t (omega arith))

-- mark-delete goes forward in the ledger
advance_valid : (s : State) (d : Dispatcher) → ValidDispatcher s d → ValidDispatcher s (advance_mark_delete d)
unfolding advance_mark_delete
advance_valid s d v =
    let n : ℕ = d.mark_delete in
    let h = leading_le (drop n d.marks) in
    let e : length (drop n d.marks) ≡ length d.marks - n = length-drop n d.marks in
    let f : length d.marks ≡ length (ledger_of s d.pair.topic) = v.entry_marks.one_each in
    let g : n ≤ length (ledger_of s d.pair.topic) = v.mark_delete_in_ledger in
    valid_with_mark_delete s d v (n + leading_complete (drop n d.marks)) (omega arith)

-- ---- the ack

-- the dispatcher after its ids are acknowledged
acked_valid : (s : State) (d : Dispatcher) (gs : List Group) → ValidDispatcher s d → Ids gs
    → length (ack_groups (ledger_of s d.pair.topic) d gs).outside ≤ 64 → ValidDispatcher s (ack_groups (ledger_of s d.pair.topic) d gs)
acked_valid s d gs v ids h =
    let ledger : List StoredMessage = ledger_of s d.pair.topic in
    let e : Dispatcher = ack_groups ledger d gs in
    subst (ValidDispatcher s) (sym (ack_groups_rest ledger d gs))
    (valid_with_marks s d v e.marks e.outside (ack_groups_marks ledger d gs v.entry_marks)
    (of_outside ledger e.outside h (ack_groups_outside ledger d gs ids (outside_of ledger d.outside v.outside_ids))))

-- a shared ack
ack_shared_keeps : (s : State) (i : ℕ) (c : Consumer) (gs : List Group) → Sound s → ValidConsumer s c → c.kind ≡ shared
    → Ids gs → Keeps Sound s (ack_shared s i (dispatcher s c.pair) gs)
unfolding ack_shared with_marks drop_complete advance_mark_delete with_places with_mark_delete
ack_shared_keeps s i c gs v w k ids =
    let d : Dispatcher = dispatcher s c.pair in
    let ledger : List StoredMessage = ledger_of s d.pair.topic in
    let acked : Dispatcher = ack_groups ledger d gs in
    let rest = ack_groups_rest ledger d gs in
    keeps_guard Sound s v _ 11 _ (λ t.
    sound_own_dispatcher s c (advance_mark_delete (drop_complete i acked)) v w k
    (ap (λ (x : Dispatcher). x.pair) rest ∙ dispatcher_pair s c.pair) (ap (λ (x : Dispatcher). x.attached) rest)
    (advance_valid s (drop_complete i acked)
    (drop_complete_valid s i acked
    (acked_valid s d gs (dispatcher_valid s c.pair v w.topic_byte w.subscription_byte) ids (ltb-false 64 (length acked.outside) t)))))

-- any ack
pub ack_keeps : (s : State) (i : ℕ) (list : List ℕ) → Sound s → fits (Ack i list) ≡ true → Keeps Sound s (ack s i list)
unfolding fits ack
ack_keeps s i list v f =
    let width = (says_and (is_word i) (all is_word list) (says_true _) (says_true _)).gives f in
    keeps_live Sound s v i _ (λ c e.
    keeps_groups Sound s v list _ (λ gs g.
    keeps_kind Sound s v c.kind _ _
    (λ k. v)
    (λ k. ack_shared_keeps s i c gs v (consumer_valid s i c v e) k (groups_ids list gs width.1 g))))
