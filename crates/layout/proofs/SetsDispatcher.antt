-- What writing a word, or a run of words, of a dispatcher does to the state that a store decodes to: its head, its ring, its
-- queue, what is in flight, its marks, its outside ids. Each write is a put of the changed state.
use mathlib.Core.Path.{◌≡◌, refl, sym, ap, ◌∙◌}
use mathlib.Core.Bool.{Bool}
use mathlib.Core.List.{List, [], ◌∷◌, ◌++◌}
use Prim.Native.Nat.{ℕ, ◌+◌, ◌-◌, ◌*◌, ◌≤◌, ◌<◌}
use native.Mathlib.Nat.{add-zero}
use native.Mathlib.Omega.{arith}
use lib.ListN.{length, get_or, set, take, drop, replicate}
use Rattle.words.specs.Act.{store, up, lay, both, close}
use Rattle.words.specs.Codec.{word, pair, via, flag, asFlag, spell, bit}
use Rattle.words.proofs.Field.{writes_flag}
use Rattle.words.proofs.Lists.{writes_append, writes_insert, writes_remove}
use Rattle.words.proofs.Entries.{appends_entry, cuts_entries}
use Rattle.bits.specs.declared.UnackedBits.{UnackedBits}
use Rattle.rules.specs.State.{Id, Mark, Held, Dispatcher, new_mark}
use Rattle.rules.specs.Dispatcher.{with_attached, with_next, with_cursor, with_mark_delete, with_total, with_places, with_marks}
use Rattle.layout.specs.Records.{id_codec, bits_codec, mark_codec, held_codec, dispatcher_codec}
use Rattle.layout.specs.Layout.{decode}
use Rattle.layout.specs.Canon.{CanonStore}
use Rattle.layout.specs.Offsets.{dispatcher_at, ring_in, outside_in, outside_id_in, queue_in, flight_in, held_in, marks_in, mark_in}
use Rattle.layout.specs.Fields.{of_topic, of_subscription, for_pair, with_complete, with_count, with_bits, dispatcher_now, put_dispatcher_at}
use Rattle.layout.proofs.Widths.{width_id, width_mark, width_held}
use Rattle.layout.proofs.Part.{Part, part_in, nth}
use Rattle.layout.proofs.Parts.{topic_part, subscription_part, complete_part, count_part, bits_part, dispatcher_pair_part, next_part, cursor_part, mark_delete_part, total_part, ring_part, outside_part, queue_part, flight_part, marks_part, held_part, mark_part}
use Rattle.layout.proofs.Spot.{spot_in, spot_at, runs, lays, writes_field, lists, raises}
use Rattle.layout.proofs.Blank.{blank_mark, writes_raise, writes_replace, writes_extend, replaces_entries, drops_entries, extends_entries}
use Rattle.layout.proofs.GetsDispatcher.{dispatcher_here, dispatcher_short}

-- ---- how records are spelt, word by word

-- an id
pub enc_id : (i : Id) → id_codec.enc i ≡ i.ledger ∷ i.entry ∷ []
unfolding id_codec via pair word
enc_id i = refl

-- an entry in flight
pub enc_held : (h : Held) → held_codec.enc h ≡ h.holder ∷ h.position ∷ []
unfolding held_codec via pair word
enc_held h = refl

-- a mark
pub enc_mark : (m : Mark)
    → mark_codec.enc m
    ≡ bit m.acked.complete ∷ m.redelivery_count ∷ m.acked.unacked.w0 ∷ m.acked.unacked.w1 ∷ m.acked.unacked.w2
    ∷ m.acked.unacked.w3 ∷ []
unfolding mark_codec bits_codec via pair word flag asFlag
enc_mark m = refl

module _ {e : ℕ} {ws : List ℕ} (h : CanonStore e ws) (d : ℕ) (k : d < length (decode ws).dispatchers) where
  -- a field of one word
  write_one : {n v : ℕ} {f : ℕ → Dispatcher} → Part (dispatcher_codec e) (dispatcher_now ws d) n word v f
      → (x : ℕ) → set ws (dispatcher_at e d + n) x ≡ put_dispatcher_at ws d (f x)
  write_one p x = writes_field h (spot_in (dispatcher_here h d k) p) x

  -- ---- the head

  -- the topic
  pub write_dispatcher_topic : (x : ℕ)
      → set ws (dispatcher_at e d) x ≡ put_dispatcher_at ws d (for_pair (dispatcher_now ws d) (of_topic (dispatcher_now ws d).pair x))
  write_dispatcher_topic x =
      writes_field h
      (spot_at (add-zero (dispatcher_at e d))
      (spot_in (dispatcher_here h d k) (part_in (dispatcher_pair_part e (dispatcher_now ws d)) (topic_part _)))) x

  -- the subscription
  pub write_dispatcher_subscription : (x : ℕ) → set ws (dispatcher_at e d + 1) x
      ≡ put_dispatcher_at ws d (for_pair (dispatcher_now ws d) (of_subscription (dispatcher_now ws d).pair x))
  write_dispatcher_subscription x = write_one (part_in (dispatcher_pair_part e _) (subscription_part _)) x

  -- the next slot of the ring
  pub write_next : (x : ℕ) → set ws (dispatcher_at e d + 2) x ≡ put_dispatcher_at ws d (with_next (dispatcher_now ws d) x)
  write_next x = write_one (next_part e _) x

  -- the cursor
  pub write_cursor : (x : ℕ) → set ws (dispatcher_at e d + 3) x ≡ put_dispatcher_at ws d (with_cursor (dispatcher_now ws d) x)
  write_cursor x = write_one (cursor_part e _) x

  -- mark-delete
  pub write_mark_delete : (x : ℕ) → set ws (dispatcher_at e d + 4) x ≡ put_dispatcher_at ws d (with_mark_delete (dispatcher_now ws d) x)
  write_mark_delete x = write_one (mark_delete_part e _) x

  -- the total of permits
  pub write_total : (x : ℕ) → set ws (dispatcher_at e d + 5) x ≡ put_dispatcher_at ws d (with_total (dispatcher_now ws d) x)
  write_total x = write_one (total_part e _) x

  -- ---- the ring

  -- one more id
  pub append_ring : (x : ℕ) → length (dispatcher_now ws d).attached < 32
      → set (set ws (dispatcher_at e d + 12 + length (dispatcher_now ws d).attached) x) (dispatcher_at e d + ring_in)
      (length (dispatcher_now ws d).attached + 1)
      ≡ put_dispatcher_at ws d (with_attached (dispatcher_now ws d) ((dispatcher_now ws d).attached ++ x ∷ []))
  unfolding store
  append_ring x l =
      lists h (spot_in (dispatcher_here h d k) (ring_part e _)) (store x) _ _ (appends_entry 32 (dispatcher_now ws d).attached x l)
      (dispatcher_at e d + 12 + length (dispatcher_now ws d).attached) (omega arith)

  -- id j is taken out
  pub remove_ring : (j : ℕ) → j < length (dispatcher_now ws d).attached
      → set ((close 1 (length (dispatcher_now ws d).attached - (j + 1))).run (dispatcher_at e d + 12 + j) ws)
      (dispatcher_at e d + ring_in) (length (dispatcher_now ws d).attached - 1)
      ≡ put_dispatcher_at ws d
      (with_attached (dispatcher_now ws d) (take j (dispatcher_now ws d).attached ++ drop (j + 1) (dispatcher_now ws d).attached))
  remove_ring j l =
      lists h (spot_in (dispatcher_here h d k) (ring_part e _)) (close 1 (length (dispatcher_now ws d).attached - (j + 1))) _ _
      (cuts_entries 32 (dispatcher_now ws d).attached j 1 (omega arith) (dispatcher_short h d k).ring_fits)
      (dispatcher_at e d + 12 + j) (omega arith)

  -- id j becomes another
  pub write_ring : (j x : ℕ) → j < length (dispatcher_now ws d).attached
      → set ws (dispatcher_at e d + 12 + j) x
      ≡ put_dispatcher_at ws d (with_attached (dispatcher_now ws d) (set (dispatcher_now ws d).attached j x))
  unfolding word
  write_ring j x l =
      writes_field h
      (spot_at (omega arith)
      (spot_in (dispatcher_here h d k)
      (part_in (ring_part e _) (nth word refl 32 (dispatcher_now ws d).attached j 0 l (dispatcher_short h d k).ring_fits)))) x

  -- ---- the queue

  -- one more position
  pub append_queue : (x : ℕ) → length (dispatcher_now ws d).redelivery < e
      → set (set ws (dispatcher_at e d + 174 + length (dispatcher_now ws d).redelivery) x) (dispatcher_at e d + queue_in)
      (length (dispatcher_now ws d).redelivery + 1)
      ≡ put_dispatcher_at ws d
      (with_places (dispatcher_now ws d) ((dispatcher_now ws d).redelivery ++ x ∷ []) (dispatcher_now ws d).in_flight)
  unfolding store
  append_queue x l =
      lists h (spot_in (dispatcher_here h d k) (queue_part e _)) (store x) _ _ (appends_entry e (dispatcher_now ws d).redelivery x l)
      (dispatcher_at e d + 174 + length (dispatcher_now ws d).redelivery) (omega arith)

  -- more positions at the end
  pub extend_queue : (l : List ℕ) → length (dispatcher_now ws d).redelivery + length l ≤ e
      → set ((lay l).run (dispatcher_at e d + 174 + length (dispatcher_now ws d).redelivery) ws) (dispatcher_at e d + queue_in)
      (length (dispatcher_now ws d).redelivery + length l)
      ≡ put_dispatcher_at ws d (with_places (dispatcher_now ws d) ((dispatcher_now ws d).redelivery ++ l) (dispatcher_now ws d).in_flight)
  extend_queue l m =
      lists h (spot_in (dispatcher_here h d k) (queue_part e _)) (lay l) _ _ (extends_entries e (dispatcher_now ws d).redelivery l m)
      (dispatcher_at e d + 174 + length (dispatcher_now ws d).redelivery) (omega arith)

  -- the first n positions are taken out
  pub drop_queue : (n : ℕ) → n ≤ length (dispatcher_now ws d).redelivery
      → set ((close n (length (dispatcher_now ws d).redelivery - n)).run (dispatcher_at e d + 174) ws) (dispatcher_at e d + queue_in)
      (length (dispatcher_now ws d).redelivery - n)
      ≡ put_dispatcher_at ws d
      (with_places (dispatcher_now ws d) (drop n (dispatcher_now ws d).redelivery) (dispatcher_now ws d).in_flight)
  drop_queue n l =
      lists h (spot_in (dispatcher_here h d k) (queue_part e _)) (close n (length (dispatcher_now ws d).redelivery - n)) 0 _
      (drops_entries e (dispatcher_now ws d).redelivery n l (dispatcher_short h d k).queue_fits) (dispatcher_at e d + 174) (omega arith)

  -- the queue becomes another that is no longer
  pub replace_queue : (l : List ℕ) → length l ≤ length (dispatcher_now ws d).redelivery
      → set ((lay (l ++ replicate (length (dispatcher_now ws d).redelivery - length l) 0)).run (dispatcher_at e d + 174) ws)
      (dispatcher_at e d + queue_in) (length l)
      ≡ put_dispatcher_at ws d (with_places (dispatcher_now ws d) l (dispatcher_now ws d).in_flight)
  replace_queue l m =
      lists h (spot_in (dispatcher_here h d k) (queue_part e _))
      (lay (l ++ replicate (length (dispatcher_now ws d).redelivery - length l) 0)) 0 _
      (replaces_entries e (dispatcher_now ws d).redelivery l m (dispatcher_short h d k).queue_fits) (dispatcher_at e d + 174)
      (omega arith)

  -- ---- what is in flight

  -- one more entry
  pub append_flight : (x : Held) → length (dispatcher_now ws d).in_flight < e
      → set ((lay (x.holder ∷ x.position ∷ [])).run (dispatcher_at e d + held_in e (length (dispatcher_now ws d).in_flight)) ws)
      (dispatcher_at e d + flight_in e) (length (dispatcher_now ws d).in_flight + 1)
      ≡ put_dispatcher_at ws d
      (with_places (dispatcher_now ws d) (dispatcher_now ws d).redelivery ((dispatcher_now ws d).in_flight ++ x ∷ []))
  append_flight x l =
      ap (λ (vs : List ℕ). set ((lay vs).run (dispatcher_at e d + held_in e (length (dispatcher_now ws d).in_flight)) ws)
      (dispatcher_at e d + flight_in e) (length (dispatcher_now ws d).in_flight + 1)) (sym (enc_held x))
      ∙ lists h (spot_in (dispatcher_here h d k) (flight_part e _)) (lay (held_codec.enc x)) _ _
      (writes_append held_codec width_held e (dispatcher_now ws d).in_flight x l)
      (dispatcher_at e d + held_in e (length (dispatcher_now ws d).in_flight)) (omega arith)

  -- more entries at the end
  pub extend_flight : (l : List Held) → length (dispatcher_now ws d).in_flight + length l ≤ e
      → set ((lay (spell held_codec l)).run (dispatcher_at e d + held_in e (length (dispatcher_now ws d).in_flight)) ws)
      (dispatcher_at e d + flight_in e) (length (dispatcher_now ws d).in_flight + length l)
      ≡ put_dispatcher_at ws d (with_places (dispatcher_now ws d) (dispatcher_now ws d).redelivery ((dispatcher_now ws d).in_flight ++ l))
  extend_flight l m =
      lists h (spot_in (dispatcher_here h d k) (flight_part e _)) (lay (spell held_codec l)) _ _
      (writes_extend held_codec width_held e (dispatcher_now ws d).in_flight l m)
      (dispatcher_at e d + held_in e (length (dispatcher_now ws d).in_flight)) (omega arith)

  -- entry j is written whole
  pub write_held : (j : ℕ) → j < length (dispatcher_now ws d).in_flight → (x : Held)
      → (lay (x.holder ∷ x.position ∷ [])).run (dispatcher_at e d + held_in e j) ws
      ≡ put_dispatcher_at ws d
      (with_places (dispatcher_now ws d) (dispatcher_now ws d).redelivery (set (dispatcher_now ws d).in_flight j x))
  write_held j l x =
      ap (λ (vs : List ℕ). (lay vs).run (dispatcher_at e d + held_in e j) ws) (sym (enc_held x))
      ∙ lays h (spot_in (dispatcher_here h d k) (held_part e (dispatcher_now ws d) j l (dispatcher_short h d k).flight_fits)) x

  -- entry j is taken out
  pub remove_flight : (j : ℕ) → j < length (dispatcher_now ws d).in_flight
      → set ((close 2 ((length (dispatcher_now ws d).in_flight - (j + 1)) * 2)).run (dispatcher_at e d + held_in e j) ws)
      (dispatcher_at e d + flight_in e) (length (dispatcher_now ws d).in_flight - 1)
      ≡ put_dispatcher_at ws d
      (with_places (dispatcher_now ws d) (dispatcher_now ws d).redelivery
      (take j (dispatcher_now ws d).in_flight ++ drop (j + 1) (dispatcher_now ws d).in_flight))
  remove_flight j l =
      lists h (spot_in (dispatcher_here h d k) (flight_part e _)) _ _ _
      (writes_remove held_codec width_held e (dispatcher_now ws d).in_flight j l (dispatcher_short h d k).flight_fits)
      (dispatcher_at e d + held_in e j) (omega arith)

  -- what is in flight becomes another list that is no longer
  pub replace_flight : (l : List Held) → length l ≤ length (dispatcher_now ws d).in_flight
      → set ((lay (spell held_codec l ++ replicate ((length (dispatcher_now ws d).in_flight - length l) * 2) 0)).run
      (dispatcher_at e d + held_in e 0) ws) (dispatcher_at e d + flight_in e) (length l)
      ≡ put_dispatcher_at ws d (with_places (dispatcher_now ws d) (dispatcher_now ws d).redelivery l)
  replace_flight l m =
      lists h (spot_in (dispatcher_here h d k) (flight_part e _))
      (lay (spell held_codec l ++ replicate ((length (dispatcher_now ws d).in_flight - length l) * 2) 0)) 0 _
      (writes_replace held_codec width_held e (dispatcher_now ws d).in_flight l m (dispatcher_short h d k).flight_fits)
      (dispatcher_at e d + held_in e 0) (omega arith)

  -- ---- the outside ids

  -- one more id, before id j: those from j on move up, it is laid in, the count is stored
  pub insert_outside : (j : ℕ) (x : Id) → j ≤ length (dispatcher_now ws d).outside → length (dispatcher_now ws d).outside < 64
      → set ((both (up 2 ((length (dispatcher_now ws d).outside - j) * 2)) (lay (x.ledger ∷ x.entry ∷ []))).run (dispatcher_at e d + outside_id_in j) ws)
      (dispatcher_at e d + outside_in) (length (dispatcher_now ws d).outside + 1)
      ≡ put_dispatcher_at ws d
      (with_marks (dispatcher_now ws d) (dispatcher_now ws d).marks (take j (dispatcher_now ws d).outside ++ x ∷ drop j (dispatcher_now ws d).outside))
  insert_outside j x m l =
      ap (λ (vs : List ℕ). set ((both (up 2 ((length (dispatcher_now ws d).outside - j) * 2)) (lay vs)).run (dispatcher_at e d + outside_id_in j) ws)
      (dispatcher_at e d + outside_in) (length (dispatcher_now ws d).outside + 1)) (sym (enc_id x))
      ∙ lists h (spot_in (dispatcher_here h d k) (outside_part e _)) (both (up 2 ((length (dispatcher_now ws d).outside - j) * 2)) (lay (id_codec.enc x))) _ _
      (writes_insert id_codec width_id 64 (dispatcher_now ws d).outside j x m l)
      (dispatcher_at e d + outside_id_in j) (omega arith)

  -- id j is taken out
  pub remove_outside : (j : ℕ) → j < length (dispatcher_now ws d).outside
      → set ((close 2 ((length (dispatcher_now ws d).outside - (j + 1)) * 2)).run (dispatcher_at e d + outside_id_in j) ws)
      (dispatcher_at e d + outside_in) (length (dispatcher_now ws d).outside - 1)
      ≡ put_dispatcher_at ws d
      (with_marks (dispatcher_now ws d) (dispatcher_now ws d).marks
      (take j (dispatcher_now ws d).outside ++ drop (j + 1) (dispatcher_now ws d).outside))
  remove_outside j l =
      lists h (spot_in (dispatcher_here h d k) (outside_part e _)) _ _ _
      (writes_remove id_codec width_id 64 (dispatcher_now ws d).outside j l (dispatcher_short h d k).outside_fits)
      (dispatcher_at e d + outside_id_in j) (omega arith)

  -- the outside ids become another list that is no longer
  pub replace_outside : (l : List Id) → length l ≤ length (dispatcher_now ws d).outside
      → set ((lay (spell id_codec l ++ replicate ((length (dispatcher_now ws d).outside - length l) * 2) 0)).run
      (dispatcher_at e d + outside_id_in 0) ws) (dispatcher_at e d + outside_in) (length l)
      ≡ put_dispatcher_at ws d (with_marks (dispatcher_now ws d) (dispatcher_now ws d).marks l)
  replace_outside l m =
      lists h (spot_in (dispatcher_here h d k) (outside_part e _))
      (lay (spell id_codec l ++ replicate ((length (dispatcher_now ws d).outside - length l) * 2) 0)) 0 _
      (writes_replace id_codec width_id 64 (dispatcher_now ws d).outside l m (dispatcher_short h d k).outside_fits)
      (dispatcher_at e d + outside_id_in 0) (omega arith)

  -- ---- the marks

  -- n more marks of entries not acknowledged: the count is stored
  pub raise_marks : (n : ℕ) → length (dispatcher_now ws d).marks + n ≤ e
      → set ws (dispatcher_at e d + marks_in e) (length (dispatcher_now ws d).marks + n)
      ≡ put_dispatcher_at ws d
      (with_marks (dispatcher_now ws d) ((dispatcher_now ws d).marks ++ replicate n new_mark) (dispatcher_now ws d).outside)
  raise_marks n l =
      raises h (spot_in (dispatcher_here h d k) (marks_part e _)) (length (dispatcher_now ws d).marks + n)
      (writes_raise blank_mark e (dispatcher_now ws d).marks n l)

  -- one more mark
  pub append_mark : (x : Mark) → length (dispatcher_now ws d).marks < e
      → set ((lay (mark_codec.enc x)).run (dispatcher_at e d + mark_in e (length (dispatcher_now ws d).marks)) ws)
      (dispatcher_at e d + marks_in e) (length (dispatcher_now ws d).marks + 1)
      ≡ put_dispatcher_at ws d (with_marks (dispatcher_now ws d) ((dispatcher_now ws d).marks ++ x ∷ []) (dispatcher_now ws d).outside)
  append_mark x l =
      lists h (spot_in (dispatcher_here h d k) (marks_part e _)) (lay (mark_codec.enc x)) _ _
      (writes_append mark_codec width_mark e (dispatcher_now ws d).marks x l)
      (dispatcher_at e d + mark_in e (length (dispatcher_now ws d).marks)) (omega arith)

  module _ (m : ℕ) (l : m < length (dispatcher_now ws d).marks) where
    -- mark m, where it stands
    mark_here :
        Part (dispatcher_codec e) (dispatcher_now ws d) (mark_in e m) mark_codec (get_or (dispatcher_now ws d).marks m new_mark)
        (λ x. with_marks (dispatcher_now ws d) (set (dispatcher_now ws d).marks m x) (dispatcher_now ws d).outside)
    mark_here = mark_part e (dispatcher_now ws d) m l (dispatcher_short h d k).marks_fit

    -- mark m is written whole
    pub write_mark : (x : Mark) → (lay (mark_codec.enc x)).run (dispatcher_at e d + mark_in e m) ws
        ≡ put_dispatcher_at ws d (with_marks (dispatcher_now ws d) (set (dispatcher_now ws d).marks m x) (dispatcher_now ws d).outside)
    write_mark x = lays h (spot_in (dispatcher_here h d k) mark_here) x

    -- its complete flag
    pub write_mark_complete : (x : Bool) → set ws (dispatcher_at e d + mark_in e m) (bit x)
        ≡ put_dispatcher_at ws d
        (with_marks (dispatcher_now ws d)
        (set (dispatcher_now ws d).marks m (with_complete (get_or (dispatcher_now ws d).marks m new_mark) x))
        (dispatcher_now ws d).outside)
    unfolding store
    write_mark_complete x =
        runs h (spot_at (omega arith) (spot_in (spot_in (dispatcher_here h d k) mark_here) (complete_part _))) {act = store (bit x)}
        (writes_flag (get_or (dispatcher_now ws d).marks m new_mark).acked.complete x)

    -- its redelivery count
    pub write_redelivery_count : (x : ℕ) → set ws (dispatcher_at e d + mark_in e m + 1) x
        ≡ put_dispatcher_at ws d
        (with_marks (dispatcher_now ws d)
        (set (dispatcher_now ws d).marks m (with_count (get_or (dispatcher_now ws d).marks m new_mark) x)) (dispatcher_now ws d).outside)
    write_redelivery_count x = writes_field h (spot_in (spot_in (dispatcher_here h d k) mark_here) (count_part _)) x

    -- the four words of the bits
    pub write_bits : (x : UnackedBits) → (lay (x.w0 ∷ x.w1 ∷ x.w2 ∷ x.w3 ∷ [])).run (dispatcher_at e d + mark_in e m + 2) ws
        ≡ put_dispatcher_at ws d
        (with_marks (dispatcher_now ws d)
        (set (dispatcher_now ws d).marks m (with_bits (get_or (dispatcher_now ws d).marks m new_mark) x)) (dispatcher_now ws d).outside)
    unfolding bits_codec via pair word
    write_bits x = lays h (spot_in (spot_in (dispatcher_here h d k) mark_here) (bits_part _)) x
