-- A new entry as the dispatchers of its topic see it: what one dispatcher gains in the steps of the code, and all of them
-- one after another.
use mathlib.Core.Path.{◌≡◌, refl, sym, ap, ◌∙◌, subst}
use mathlib.Core.Bool.{true, false, cond, not}
use mathlib.Core.List.{List, [], ◌∷◌, ◌++◌, map}
use Prim.Native.Nat.{ℕ, zero, suc, ◌+◌, ◌≤◌, ◌<◌}
use native.Mathlib.Nat.{le_of_suc-le-suc, not-suc-le-zero}
use native.Mathlib.Numerals.{add-one}
use native.Mathlib.Omega.{arith}
use lib.Dec.{eqb}
use lib.ListN.{length, get_or, set, take, drop, length-append, length-set}
use lib.Seq.{get_or-append_seam, set-append_seam, set-get_or}
use borrow.Author.Tests.{eq-eqb, ne_eqb, eqb-true, eqb-false}
use Rattle.rules.specs.Table.{Every, any, keep, Distinct}
use Rattle.rules.specs.State.{Id, same_id, Mark, Dispatcher, State, completed, unacknowledged, new_mark, with_dispatchers}
use Rattle.rules.specs.Dispatcher.{with_marks, is_outside}
use Rattle.rules.specs.Commands.{with_new_entry}
use Rattle.rules.proofs.Says.{says_not, says_all}
use Rattle.rules.proofs.Table.{by_test, keep_all, length_keep}
use Rattle.rules.proofs.State.{decides_ids}
use Rattle.layout.specs.Layout.{decode, put}
use Rattle.layout.specs.Whole.{Shaped, ShapedDispatcher}
use Rattle.layout.specs.Canon.{CanonStore}
use Rattle.layout.specs.Fields.{zero_dispatcher, dispatcher_nth, set_dispatcher, with_complete}
use Rattle.layout.specs.Placed.{DispatcherIn}
use Rattle.layout.proofs.Store.{canon_entries, put_decode}
use Rattle.layout.proofs.Placed.{dispatcher_in, shaped_set_dispatcher, shaped_marks}
use Rattle.store.specs.Find.{slot}
use Rattle.dispatcher.specs.Outside.{by_itself}
use Rattle.append.specs.Entries.{gained, TakesEntry, Takes}
use Rattle.operation_laws.proofs.Frame.{every_nth, then_write, canon_after, decode_after, dispatcher_twice, dispatcher_set_in, dispatcher_now_is}

-- ---- an id among the outside ids

module _ (i : Id) where
  -- found, it is among them
  any_found : (l : List Id) → slot by_itself i l < length l → any (same_id i) l ≡ true
  unfolding slot any
  any_found [] h = absurd (not-suc-le-zero h)
  any_found (a ∷ l) h =
      by_test (same_id i a) (λ t. rw t)
      (λ t. let h' : suc (slot by_itself i l) < suc (length l) = rw t at h in rw t (any_found l (le_of_suc-le-suc h')))

  -- not found, it is not
  any_none : (l : List Id) → length l ≤ slot by_itself i l → any (same_id i) l ≡ false
  unfolding slot any
  any_none [] h = refl
  any_none (a ∷ l) h =
      by_test (same_id i a) (λ t. let h' : suc (length l) ≤ 0 = rw t at h in absurd (not-suc-le-zero h'))
      (λ t. let h' : suc (length l) ≤ suc (slot by_itself i l) = rw t at h in rw t (any_none l (le_of_suc-le-suc h')))

  -- and all others are all of them
  keep_none : (l : List Id) → length l ≤ slot by_itself i l → keep (λ (j : Id). not (same_id i j)) l ≡ l
  unfolding slot keep
  keep_none [] h = refl
  keep_none (a ∷ l) h =
      by_test (same_id i a) (λ t. let h' : suc (length l) ≤ 0 = rw t at h in absurd (not-suc-le-zero h'))
      (λ t. let h' : suc (length l) ≤ suc (slot by_itself i l) = rw t at h in
      rw t (ap (λ (r : List Id). a ∷ r) (keep_none l (le_of_suc-le-suc h'))))

  -- found, all others are those before and after it
  keep_found : (l : List Id) → Distinct same_id l → slot by_itself i l < length l
      → keep (λ (j : Id). not (same_id i j)) l ≡ take (slot by_itself i l) l ++ drop (suc (slot by_itself i l)) l
  unfolding slot keep Distinct
  keep_found [] u h = absurd (not-suc-le-zero h)
  keep_found (a ∷ l) u h =
      by_test (same_id i a)
      (λ t. let e : i ≡ a = decides_ids.equal i a t in
      let others = (says_all (λ (j : Id). says_not (same_id i j)) l).given (λ x m. rw e (u.0 x m)) in
      rw t (keep_all (λ (j : Id). not (same_id i j)) l others))
      (λ t. let h' : suc (slot by_itself i l) < suc (length l) = rw t at h in
      rw t (ap (λ (r : List Id). a ∷ r) (keep_found l u.1 (le_of_suc-le-suc h'))))

-- ---- the steps of the code

-- a new mark at the end
abbrev pub raised : Dispatcher → Dispatcher
raised d = with_marks d (d.marks ++ new_mark ∷ []) d.outside

-- mark k complete
abbrev pub complete_at : ℕ → Dispatcher → Dispatcher
complete_at k d = with_marks d (set d.marks k (with_complete (get_or d.marks k new_mark) true)) d.outside

-- outside id j left out
abbrev pub without_outside : ℕ → Dispatcher → Dispatcher
without_outside j d = with_marks d d.marks (take j d.outside ++ drop (j + 1) d.outside)

-- an id that was not outside: a new mark is all
pub gained_new : (i : Id) (d : Dispatcher) (j : ℕ) → j ≡ slot by_itself i d.outside → length d.outside ≤ j → raised d ≡ gained i d
unfolding gained is_outside
gained_new i d j e h =
    let h' : length d.outside ≤ slot by_itself i d.outside = rw e at h in
    rw (any_none i d.outside h', keep_none i d.outside h')

-- an id that was outside: the mark is complete, and the id leaves its place
pub gained_known : (i : Id) (d : Dispatcher) (j k : ℕ) → Distinct same_id d.outside → k ≡ length d.marks → j ≡ slot by_itself i d.outside
    → j < length d.outside → without_outside j (complete_at k (raised d)) ≡ gained i d
unfolding gained is_outside with_marks with_complete
gained_known i d j k u n e h =
    let h' : slot by_itself i d.outside < length d.outside = rw e at h in
    rw (n, get_or-append_seam d.marks new_mark [] new_mark, set-append_seam, any_found i d.outside h', keep_found i d.outside u h', e, add-one)

module _ {e : ℕ} {ws : List ℕ} (d : ℕ) (h : DispatcherIn e ws d) (t : TakesEntry e (dispatcher_nth (decode ws) d)) where
  -- the record fits after the first step
  raised_fits : ShapedDispatcher (decode ws).entries (raised (dispatcher_nth (decode ws) d))
  raised_fits =
      let x = dispatcher_nth (decode ws) d in
      let n : length (x.marks ++ new_mark ∷ []) ≤ e = simp length-append (omega (arith, t.room)) in
      rw (canon_entries h.canon) (shaped_marks x h.lists_fit (x.marks ++ new_mark ∷ []) x.outside n h.lists_fit.outside_fits)

  module _ {us : List ℕ} (w : us ≡ put ws (set_dispatcher (decode ws) d (raised (dispatcher_nth (decode ws) d)))) where
    -- after the first step the dispatcher is there, with one more mark
    pub raised_in : DispatcherIn e us d × (length (dispatcher_nth (decode ws) d).marks < length (dispatcher_nth (decode us) d).marks)
    unfolding with_marks
    raised_in =
        let x = dispatcher_nth (decode ws) d in
        let same = dispatcher_now_is ws (decode ws) d (raised x) h.canon.shaped raised_fits w h.there in (
          dispatcher_set_in ws (decode ws) d (raised x) h.canon.shaped (canon_entries h.canon) raised_fits w h.there,
          rw same (simp length-append (omega arith)),
        )

    module _ {vs : List ℕ} (k : ℕ) (w' : vs ≡ put us (set_dispatcher (decode us) d (complete_at k (dispatcher_nth (decode us) d)))) where
      complete_fits : ShapedDispatcher (decode ws).entries (complete_at k (raised (dispatcher_nth (decode ws) d)))
      unfolding with_marks
      complete_fits =
          let x = raised (dispatcher_nth (decode ws) d) in
          let n : length (set x.marks k (with_complete (get_or x.marks k new_mark) true)) ≤ (decode ws).entries = rw length-set raised_fits.marks_fit in
          shaped_marks x raised_fits (set x.marks k (with_complete (get_or x.marks k new_mark) true)) x.outside n raised_fits.outside_fits

      -- the two steps in one
      pub completed_words : vs ≡ put ws (set_dispatcher (decode ws) d (complete_at k (raised (dispatcher_nth (decode ws) d))))
      completed_words = dispatcher_twice ws (decode ws) d (raised (dispatcher_nth (decode ws) d)) (complete_at k) h.canon.shaped raised_fits h.there w w'

      -- after the second the dispatcher is there, with the same outside ids
      pub completed_in : DispatcherIn e vs d × ((dispatcher_nth (decode vs) d).outside ≡ (dispatcher_nth (decode ws) d).outside)
      unfolding with_marks
      completed_in =
          let x = complete_at k (raised (dispatcher_nth (decode ws) d)) in (
            dispatcher_set_in ws (decode ws) d x h.canon.shaped (canon_entries h.canon) complete_fits completed_words h.there,
            ap (λ (y : Dispatcher). y.outside) (dispatcher_now_is ws (decode ws) d x h.canon.shaped complete_fits completed_words h.there),
          )

      -- the three steps in one
      pub removed_words : {xs : List ℕ} (j : ℕ) → xs ≡ put vs (set_dispatcher (decode vs) d (without_outside j (dispatcher_nth (decode vs) d)))
          → xs ≡ put ws (set_dispatcher (decode ws) d (without_outside j (complete_at k (raised (dispatcher_nth (decode ws) d)))))
      removed_words j w'' =
          dispatcher_twice ws (decode ws) d (complete_at k (raised (dispatcher_nth (decode ws) d))) (without_outside j) h.canon.shaped complete_fits h.there
          completed_words w''

-- ---- one dispatcher

-- one of the topic gains the entry
pub entry_there : (topic : ℕ) (i : Id) (d : Dispatcher) → topic ≡ d.pair.topic → gained i d ≡ with_new_entry topic i d
unfolding gained with_new_entry
entry_there topic i d e = rw (eq-eqb topic d.pair.topic e)

-- any other stays as it is
pub entry_not : (topic : ℕ) (i : Id) (d : Dispatcher) → (topic ≡ d.pair.topic → ⊥) → with_new_entry topic i d ≡ d
unfolding with_new_entry
entry_not topic i d e = rw (ne_eqb topic d.pair.topic e)

-- and so do the words
pub entry_words_not : {e : ℕ} {ws : List ℕ} (topic : ℕ) (i : Id) (d : ℕ) → CanonStore e ws → (topic ≡ (dispatcher_nth (decode ws) d).pair.topic → ⊥)
    → ws ≡ put ws (set_dispatcher (decode ws) d (with_new_entry topic i (dispatcher_nth (decode ws) d)))
unfolding set_dispatcher with_dispatchers
entry_words_not {e} {ws} topic i d h n =
    rw (entry_not topic i (dispatcher_nth (decode ws) d) n, set-get_or (decode ws).dispatchers d zero_dispatcher) (sym (put_decode h))

-- its record fits
entry_fits : (e topic : ℕ) (i : Id) (d : Dispatcher) → ShapedDispatcher e d → Takes e topic d → ShapedDispatcher e (with_new_entry topic i d)
unfolding gained
entry_fits e topic i d h t =
    by_test (eqb topic d.pair.topic)
    (λ q. let p : topic ≡ d.pair.topic = eqb-true topic d.pair.topic q in
    let m : Mark = record { acked = cond (is_outside i d) completed unacknowledged; redelivery_count = 0 } in
    let n : length (d.marks ++ m ∷ []) ≤ e = simp length-append (omega (arith, (t p).room)) in
    let o = length_keep (λ (j : Id). not (same_id i j)) d.outside in
    let l = h.outside_fits in
    rw (← entry_there topic i d p)
    (shaped_marks d h (d.marks ++ m ∷ []) (keep (λ (j : Id). not (same_id i j)) d.outside) n (omega arith)))
    (λ q. rw (entry_not topic i d (eqb-false topic d.pair.topic q)) h)

-- ---- one after another

module _ {A : Type 0} (f : A → A) where
  -- the first n elements changed
  abbrev pub first_changed : ℕ → List A → List A
  first_changed n l = map f (take n l) ++ drop n l

  changed_turn : (l : List A) (n : ℕ) (z : A) → n < length l → set (first_changed n l) n (f (get_or (first_changed n l) n z)) ≡ first_changed (suc n) l
  changed_turn [] n z h = absurd (not-suc-le-zero h)
  changed_turn (a ∷ l) zero z h = refl
  changed_turn (a ∷ l) (suc n) z h = ap (λ (r : List A). f a ∷ r) (changed_turn l n z (le_of_suc-le-suc h))

  changed_nth : (l : List A) (n : ℕ) (z : A) → n < length l → get_or (first_changed n l) n z ≡ get_or l n z
  changed_nth [] n z h = absurd (not-suc-le-zero h)
  changed_nth (a ∷ l) zero z h = refl
  changed_nth (a ∷ l) (suc n) z h = changed_nth l n z (le_of_suc-le-suc h)

  changed_length : (l : List A) (n : ℕ) → length (first_changed n l) ≡ length l
  changed_length [] zero = refl
  changed_length [] (suc n) = refl
  changed_length (a ∷ l) zero = refl
  changed_length (a ∷ l) (suc n) = ap suc (changed_length l n)

  changed_all : (l : List A) → first_changed (length l) l ≡ map f l
  changed_all [] = refl
  changed_all (a ∷ l) = ap (λ (r : List A). f a ∷ r) (changed_all l)

-- the first n dispatchers have the new entry
abbrev pub stepped : ℕ → Id → ℕ → State → State
stepped topic i n s = with_dispatchers s (first_changed (with_new_entry topic i) n s.dispatchers)

-- the words after n dispatchers
pub record Stepped (topic : ℕ) (i : Id) (ws us : List ℕ) (n : ℕ) : Type 0 where
  pub shaped : Shaped (stepped topic i n (decode ws))
  pub words : us ≡ put ws (stepped topic i n (decode ws))

module _ {e : ℕ} {ws : List ℕ} (topic : ℕ) (i : Id) (h : CanonStore e ws) where
  -- no dispatcher yet
  pub step_start : Stepped topic i ws ws 0
  unfolding with_dispatchers
  step_start = record { shaped = h.shaped; words = sym (put_decode h) }

  -- all of them
  pub step_end : {us : List ℕ} (n : ℕ) → n ≡ length (decode ws).dispatchers → Stepped topic i ws us n
      → us ≡ put ws (with_dispatchers (decode ws) (map (with_new_entry topic i) (decode ws).dispatchers))
  step_end n q s =
      s.words ∙ rw q (ap (λ (l : List Dispatcher). put ws (with_dispatchers (decode ws) l)) (changed_all (with_new_entry topic i) (decode ws).dispatchers))

  module _ {us : List ℕ} (n : ℕ) (s : Stepped topic i ws us n) (k : n < length (decode ws).dispatchers) where
    -- the dispatcher of a turn is as it was
    same_nth : dispatcher_nth (decode us) n ≡ dispatcher_nth (decode ws) n
    unfolding with_dispatchers
    same_nth =
        ap (λ (t : State). dispatcher_nth t n) (decode_after ws (stepped topic i n (decode ws)) s.shaped s.words)
        ∙ changed_nth (with_new_entry topic i) (decode ws).dispatchers n zero_dispatcher k

    -- it is there, and takes the entry if it took it at first
    pub step_in : Every (Takes e topic) (decode ws).dispatchers → DispatcherIn e us n × Takes e topic (dispatcher_nth (decode us) n)
    unfolding with_dispatchers
    step_in t =
        let d = ap (λ (x : State). length x.dispatchers) (decode_after ws (stepped topic i n (decode ws)) s.shaped s.words) in
        let l : n < length (decode us).dispatchers = rw (d, changed_length (with_new_entry topic i) (decode ws).dispatchers n) k in (
          dispatcher_in (canon_after ws (stepped topic i n (decode ws)) s.shaped (canon_entries h) s.words) n l,
          rw same_nth (every_nth (decode ws).dispatchers n zero_dispatcher t k),
        )

    -- the state after a turn
    turned : set_dispatcher (stepped topic i n (decode ws)) n (with_new_entry topic i (dispatcher_nth (stepped topic i n (decode ws)) n)) ≡ stepped topic i (n + 1) (decode ws)
    unfolding with_dispatchers set_dispatcher
    turned =
        rw add-one
        (ap (λ (l : List Dispatcher). with_dispatchers (decode ws) l) (changed_turn (with_new_entry topic i) (decode ws).dispatchers n zero_dispatcher k))

    -- a turn
    pub step_turn : {vs : List ℕ} → Every (Takes e topic) (decode ws).dispatchers
        → vs ≡ put us (set_dispatcher (decode us) n (with_new_entry topic i (dispatcher_nth (decode us) n))) → Stepped topic i ws vs (n + 1)
    unfolding with_dispatchers set_dispatcher
    step_turn t w =
        let x = stepped topic i n (decode ws) in
        let same : dispatcher_nth x n ≡ dispatcher_nth (decode ws) n = changed_nth (with_new_entry topic i) (decode ws).dispatchers n zero_dispatcher k in
        let fits : ShapedDispatcher (decode ws).entries (with_new_entry topic i (dispatcher_nth x n)) =
        rw (same, canon_entries h)
        (entry_fits e topic i (dispatcher_nth (decode ws) n) (dispatcher_in h n k).lists_fit (every_nth (decode ws).dispatchers n zero_dispatcher t k)) in
        record {
          shaped = subst Shaped turned (shaped_set_dispatcher x s.shaped n (with_new_entry topic i (dispatcher_nth x n)) fits);
          words =
              then_write ws x (λ (y : State). set_dispatcher y n (with_new_entry topic i (dispatcher_nth y n))) s.shaped refl s.words w
              ∙ ap (put ws) turned;
        }
