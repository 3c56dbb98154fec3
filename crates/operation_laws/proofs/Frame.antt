-- What every command's proof needs: a record found at its slot, a record written there as the rules put it, the answer and
-- the words of an outcome, and one write after another. Nothing here speaks of code.
use mathlib.Core.Path.{◌≡◌, refl, sym, ap, ◌∙◌, subst}
use mathlib.Core.Bool.{Bool, true, false, not}
use mathlib.Core.List.{List, [], ◌∷◌, ◌++◌, Memᴰ}
use mathlib.Core.Option.{none, some}
use Prim.Native.Nat.{ℕ, zero, suc, ◌+◌, ◌*◌, ◌%◌, ◌^◌, ◌≤◌, ◌<◌}
use native.Mathlib.Nat.{le_of_suc-le-suc, not-suc-le-zero}
use native.Mathlib.Numerals.{add-one}
use native.Mathlib.Omega.{arith}
use lib.Dec.{eqb, ltb}
use lib.ListN.{length, get_or, set, take, drop, length-set}
use lib.Seq.{get_or-set_same, set-set}
use borrow.Author.Tests.{ltb-true, ltb-false, le-ltb, eqb-true, eq-eqb, ne_eqb}
use Rattle.rules.specs.Table.{Key, put, keep, Every, or_else}
use Rattle.rules.specs.State.{Pair, Kind, by_kind, Consumer, Dispatcher, State, new_dispatcher, by_id, by_pair, consumer_of, dispatcher_of, ledger_of, dispatcher, insert, with_consumers, with_dispatchers, put_consumer, put_dispatcher}
use Rattle.rules.specs.State.Kind.{plain, shared}
use Rattle.rules.specs.Outcome.{Value, Outcome, guard, found_or_4, with_live}
use Rattle.rules.specs.Outcome.Outcome.{refused, done}
use Rattle.rules.specs.Outcome.Value.{nothing, permits_after, cursor_after}
use Rattle.rules.specs.Commands.{without_consumer}
use Rattle.rules.specs.Valid.{Ascending, ValidConsumer, ValidDispatcher, Valid}
use Rattle.rules.specs.Calls.{Call, rule, answer_word, value_number}
use Rattle.rules.proofs.Says.{says_not, says_all, every_head, every_tail}
use Rattle.rules.proofs.Table.{by_test, Decides, find_key, keep_all}
use Rattle.rules.proofs.State.{decides_pairs, consumer_id}
use Rattle.rules.proofs.Valid.{says_valid}
use Rattle.rules.proofs.Kept.Every.{found_in}
use Rattle.layout.specs.Layout.{decode, spells, put as put_state}
use Rattle.layout.specs.Whole.{Shaped, ShapedConsumer, ShapedDispatcher}
use Rattle.layout.specs.Canon.{CanonStore}
use Rattle.layout.specs.Calls.{words_after, answer, after}
use Rattle.layout.specs.Placed.{ConsumerIn, DispatcherIn}
use Rattle.layout.specs.Fields.{zero_consumer, zero_dispatcher, consumer_nth, dispatcher_nth, set_consumer, set_dispatcher}
use Rattle.layout.proofs.Store.{decode_put, canon_put, spells_valid, spells_canon}
use Rattle.layout.proofs.Placed.{consumer_in, dispatcher_in, shaped_set_consumer, shaped_set_dispatcher}
use Rattle.layout.proofs.Spot.{put_step}
use Rattle.layout.proofs.Calls.{outcome_is}
use Rattle.store.specs.Find.{slot}
use Rattle.store.proofs.Finding.{slot_found, slot_none}
use Rattle.operation_laws.specs.Place.{by_above}

-- ---- rows of any table, by their slot

module _ {A K : Type 0} (k : Key A K) where
  -- a row put where its key stands is set there
  pub put_found : (a : A) (l : List A) → slot k (k.key a) l < length l → put k a l ≡ set l (slot k (k.key a) l) a
  unfolding slot put
  put_found a [] h = absurd (not-suc-le-zero h)
  put_found a (b ∷ l) h =
      by_test (k.same (k.key a) (k.key b)) (λ t. rw t)
      (λ t. let h' : suc (slot k (k.key a) l) < suc (length l) = rw t at h in
      rw t (ap (λ (r : List A). b ∷ r) (put_found a l (le_of_suc-le-suc h'))))

  -- a row put where no key is the same stands at the end
  pub put_missing : (a : A) (l : List A) → length l ≤ slot k (k.key a) l → put k a l ≡ l ++ a ∷ []
  unfolding slot put
  put_missing a [] h = refl
  put_missing a (b ∷ l) h =
      by_test (k.same (k.key a) (k.key b)) (λ t. let h' : suc (length l) ≤ 0 = rw t at h in absurd (not-suc-le-zero h'))
      (λ t. let h' : suc (length l) ≤ suc (slot k (k.key a) l) = rw t at h in
      rw t (ap (λ (r : List A). b ∷ r) (put_missing a l (le_of_suc-le-suc h'))))

  -- the row at a slot has the key
  pub slot_key : (w : Decides k.same) (j : K) (l : List A) (z : A) → slot k j l < length l → k.key (get_or l (slot k j l) z) ≡ j
  slot_key w j l z h = sym (w.equal j _ (find_key k j l (get_or l (slot k j l) z) (slot_found k j l z h)))

  -- the row at a slot stands in the table
  pub slot_in : (j : K) (l : List A) (z : A) → slot k j l < length l → Memᴰ (get_or l (slot k j l) z) l
  slot_in j l z h = found_in k j l (get_or l (slot k j l) z) (slot_found k j l z h)

-- ---- consumers by ascending id

-- an id below all is not among them
below_all : (i : ℕ) (l : List Consumer) → Every (λ (c : Consumer). i < c.id) l → length l ≤ slot by_id i l
unfolding slot
below_all i [] f = omega arith
below_all i (c ∷ l) f =
    let h : i < c.id = every_head f in
    let r = below_all i l (every_tail f) in
    rw (ne_eqb i c.id (λ q. omega arith)) (omega arith)

-- what holds of every element holds of the one at a place
pub every_nth : {A : Type 0} {P : A → Type 0} (l : List A) (i : ℕ) (z : A) → Every P l → i < length l → P (get_or l i z)
every_nth [] i z f h = absurd (not-suc-le-zero h)
every_nth (a ∷ l) zero z f h = every_head f
every_nth (a ∷ l) (suc i) z f h = every_nth l i z (every_tail f) (le_of_suc-le-suc h)

-- the consumer at a place has its id's slot there
pub slot_nth : (l : List Consumer) (i : ℕ) (z : Consumer) → Ascending l → i < length l → i ≡ slot by_id (get_or l i z).id l
unfolding slot Ascending
slot_nth [] i z a h = absurd (not-suc-le-zero h)
slot_nth (c ∷ l) zero z a h = rw (eq-eqb c.id c.id refl)
slot_nth (c ∷ l) (suc i) z a h =
    let low : c.id < (get_or l i z).id = every_nth l i z a.0 (le_of_suc-le-suc h) in
    rw (ne_eqb (get_or l i z).id c.id (λ q. omega arith)) (ap suc (slot_nth l i z a.1 (le_of_suc-le-suc h)))

-- a consumer inserted at an id that stands there is set there
pub insert_found : (c : Consumer) (l : List Consumer) → Ascending l → slot by_id c.id l < length l
    → insert c l ≡ set l (slot by_id c.id l) c
unfolding slot insert Ascending
insert_found c [] a h = absurd (not-suc-le-zero h)
insert_found c (d ∷ l) a h =
    by_test (eqb c.id d.id)
    (λ t. let e = eqb-true c.id d.id t in rw (t, le-ltb c.id d.id (omega arith)))
    (λ t. let h' : suc (slot by_id c.id l) < suc (length l) = rw t at h in
    by_test (ltb c.id d.id)
    (λ u. let low = ltb-true c.id d.id u in
    let out = below_all c.id l (λ x m. let y = a.0 x m in omega arith) in
    let none : ⊥ = omega arith in absurd none)
    (λ u. rw (t, u) (ap (λ (r : List Consumer). d ∷ r) (insert_found c l a.1 (le_of_suc-le-suc h')))))

-- a consumer inserted at an id that does not stand there has its place
pub insert_missing : (c : Consumer) (l : List Consumer) → length l ≤ slot by_id c.id l
    → insert c l ≡ take (slot by_above c.id l) l ++ c ∷ drop (slot by_above c.id l) l
unfolding slot insert
insert_missing c [] h = refl
insert_missing c (d ∷ l) h =
    by_test (eqb c.id d.id)
    (λ t. let h' : suc (length l) ≤ 0 = rw t at h in absurd (not-suc-le-zero h'))
    (λ t. let h' : suc (length l) ≤ suc (slot by_id c.id l) = rw t at h in
    by_test (ltb c.id d.id) (λ u. rw u)
    (λ u. rw (u, t) (ap (λ (r : List Consumer). d ∷ r) (insert_missing c l (le_of_suc-le-suc h')))))

-- the consumers without the one at a slot
keep_others : (i : ℕ) (l : List Consumer) → Ascending l → slot by_id i l < length l
    → keep (λ (c : Consumer). not (eqb i c.id)) l ≡ take (slot by_id i l) l ++ drop (suc (slot by_id i l)) l
unfolding slot keep Ascending
keep_others i [] a h = absurd (not-suc-le-zero h)
keep_others i (d ∷ l) a h =
    by_test (eqb i d.id)
    (λ t. let e = eqb-true i d.id t in
    let others = (says_all (λ (c : Consumer). says_not (eqb i c.id)) l).given
    (λ x m. let y = a.0 x m in ne_eqb i x.id (λ q. omega arith)) in
    rw t (keep_all (λ (c : Consumer). not (eqb i c.id)) l others))
    (λ t. let h' : suc (slot by_id i l) < suc (length l) = rw t at h in
    rw t (ap (λ (r : List Consumer). d ∷ r) (keep_others i l a.1 (le_of_suc-le-suc h'))))

-- ---- a live consumer, by its slot

module _ (s : State) (i id : ℕ) (e : i ≡ slot by_id id s.consumers) where
  -- the consumer of an id that was found
  pub consumer_found : i < length s.consumers → consumer_of s id ≡ some (consumer_nth s i)
  unfolding consumer_of
  consumer_found h = rw e (slot_found by_id id s.consumers zero_consumer (rw e at h))

  -- it has that id
  pub consumer_found_id : i < length s.consumers → (consumer_nth s i).id ≡ id
  consumer_found_id h = sym (consumer_id s id (consumer_nth s i) (consumer_found h))

  -- it is valid in a valid state
  pub consumer_found_valid : Valid s → i < length s.consumers → ValidConsumer s (consumer_nth s i)
  consumer_found_valid v h = v.tables.each_consumer (consumer_nth s i) (rw e (slot_in by_id id s.consumers zero_consumer (rw e at h)))

  -- what is done with a live consumer is done with it
  pub live_found : (f : Consumer → Outcome) → i < length s.consumers → with_live s id f ≡ f (consumer_nth s i)
  unfolding with_live found_or_4
  live_found f h = rw (consumer_found h)

  -- an id that was not found
  pub consumer_missing : length s.consumers ≤ i → consumer_of s id ≡ none
  unfolding consumer_of
  consumer_missing h = slot_none by_id id s.consumers (rw e at h)

  -- gives refusal 4
  pub live_missing : (f : Consumer → Outcome) → length s.consumers ≤ i → with_live s id f ≡ refused 4
  unfolding with_live found_or_4
  live_missing f h = rw (consumer_missing h)

  -- a consumer of such an id that is put in the state has its place
  pub put_consumer_new : (c : Consumer) → length s.consumers ≤ i → c.id ≡ id
      → put_consumer s c ≡ with_consumers s (take (slot by_above c.id s.consumers) s.consumers ++ c ∷ drop (slot by_above c.id s.consumers) s.consumers)
  unfolding put_consumer
  put_consumer_new c h q =
      let e' : i ≡ slot by_id c.id s.consumers = e ∙ ap (λ (j : ℕ). slot by_id j s.consumers) (sym q) in
      ap (with_consumers s) (insert_missing c s.consumers (rw e' at h))

  -- a consumer of that id set at its slot is put in the state
  pub set_consumer_put : (c : Consumer) → Valid s → i < length s.consumers → c.id ≡ id → set_consumer s i c ≡ put_consumer s c
  unfolding set_consumer put_consumer
  set_consumer_put c v h q =
      let e' : i ≡ slot by_id c.id s.consumers = e ∙ ap (λ (j : ℕ). slot by_id j s.consumers) (sym q) in
      ap (with_consumers s) (ap (λ (j : ℕ). set s.consumers j c) e'
      ∙ sym (insert_found c s.consumers v.tables.consumers_ascending (rw e' at h)))

  -- the state without it
  pub without_consumer_at : Valid s → i < length s.consumers
      → without_consumer s id ≡ with_consumers s (take i s.consumers ++ drop (i + 1) s.consumers)
  unfolding without_consumer
  without_consumer_at v h =
      ap (with_consumers s) (keep_others id s.consumers v.tables.consumers_ascending (rw e at h) ∙ rw (e, add-one))

-- ---- the dispatcher of a pair, by its slot

module _ (s : State) (d : ℕ) (p : Pair) (e : d ≡ slot by_pair p s.dispatchers) where
  -- the dispatcher of a pair that has one
  pub dispatcher_found : d < length s.dispatchers → dispatcher s p ≡ dispatcher_nth s d
  unfolding dispatcher dispatcher_of or_else
  dispatcher_found h = rw (slot_found by_pair p s.dispatchers zero_dispatcher (rw e at h)) (rw e)

  -- it has that pair
  pub dispatcher_found_pair : d < length s.dispatchers → (dispatcher_nth s d).pair ≡ p
  dispatcher_found_pair h = rw e (slot_key by_pair decides_pairs p s.dispatchers zero_dispatcher (rw e at h))

  -- it is valid in a valid state
  pub dispatcher_found_valid : Valid s → d < length s.dispatchers → ValidDispatcher s (dispatcher_nth s d)
  dispatcher_found_valid v h = v.tables.each_dispatcher (dispatcher_nth s d) (rw e (slot_in by_pair p s.dispatchers zero_dispatcher (rw e at h)))

  -- a dispatcher of that pair set at its slot is put in the state
  pub set_dispatcher_put : (x : Dispatcher) → d < length s.dispatchers → x.pair ≡ p → set_dispatcher s d x ≡ put_dispatcher s x
  unfolding set_dispatcher put_dispatcher
  set_dispatcher_put x h q =
      let e' : d ≡ slot by_pair x.pair s.dispatchers = e ∙ ap (λ (j : Pair). slot by_pair j s.dispatchers) (sym q) in
      ap (with_dispatchers s) (ap (λ (j : ℕ). set s.dispatchers j x) e'
      ∙ sym (put_found by_pair x s.dispatchers (rw e' at h)))

  -- a pair that has none: a subscribe would make it
  pub dispatcher_missing : length s.dispatchers ≤ d → dispatcher s p ≡ new_dispatcher p (length (ledger_of s p.topic))
  unfolding dispatcher dispatcher_of or_else
  dispatcher_missing h = rw (slot_none by_pair p s.dispatchers (rw e at h))

  -- and it joins the others at the end
  pub put_dispatcher_last : (x : Dispatcher) → length s.dispatchers ≤ d → x.pair ≡ p
      → put_dispatcher s x ≡ with_dispatchers s (s.dispatchers ++ x ∷ [])
  unfolding put_dispatcher
  put_dispatcher_last x h q =
      let e' : d ≡ slot by_pair x.pair s.dispatchers = e ∙ ap (λ (j : Pair). slot by_pair j s.dispatchers) (sym q) in
      ap (with_dispatchers s) (put_missing by_pair x s.dispatchers (rw e' at h))

  -- a shared consumer that is valid has a dispatcher
  pub shared_found : (c : Consumer) → ValidConsumer s c → c.kind ≡ shared → c.pair ≡ p → d < length s.dispatchers
  unfolding new_dispatcher
  shared_found c v k q =
      by_test (ltb d (length s.dispatchers)) (λ t. ltb-true d (length s.dispatchers) t)
      (λ t. let m : Memᴰ c.id (dispatcher s p).attached = subst (λ (j : Pair). Memᴰ c.id (dispatcher s j).attached) q (v.shared_in_ring k) in
      let n : (dispatcher s p).attached ≡ [] = ap (λ (x : Dispatcher). x.attached) (dispatcher_missing (ltb-false d (length s.dispatchers) t)) in
      absurd (mathlib.Core.List.Memᴰ.not-nil (subst (λ (l : List ℕ). Memᴰ c.id l) n m)))

-- ---- tests

-- a refusal in its case
pub guard_stop : (t : Bool) (n : ℕ) (o : Outcome) → t ≡ true → guard t n o ≡ refused n
unfolding guard
guard_stop t n o e = rw e

-- and in no other
pub guard_pass : (t : Bool) (n : ℕ) (o : Outcome) → t ≡ false → guard t n o ≡ o
unfolding guard
guard_pass t n o e = rw e

-- one of two, by the kind
pub kind_plain : {A : Type 0} (k : Kind) (a b : A) → k ≡ plain → by_kind k a b ≡ a
unfolding by_kind
kind_plain k a b e = rw e

pub kind_shared : {A : Type 0} (k : Kind) (a b : A) → k ≡ shared → by_kind k a b ≡ b
unfolding by_kind
kind_shared k a b e = rw e

-- ---- answers

-- words that spell a state decode to a valid one
pub valid_now : (ws : List ℕ) → spells ws ≡ true → Valid (decode ws)
valid_now ws h = (says_valid (decode ws)).gives (spells_valid ws h)

module _ (ws : List ℕ) (x : Call) (h : spells ws ≡ true) where
  -- a refusal is its number, and leaves the words
  pub refused_with : {n : ℕ} → rule (decode ws) x ≡ refused n → record { answer : n ≡ answer ws x; words : ws ≡ after ws x }
  unfolding answer after answer_word words_after
  refused_with o = record { answer = rw (outcome_is ws x h, o); words = rw (outcome_is ws x h, o) }

  -- done, the answer is the value and the words are those of the state after
  pub done_with : {v : Value} {t : State} {vs : List ℕ} (n r : ℕ) → rule (decode ws) x ≡ done v t → value_number v ≡ n → r ≡ n % 2 ^ 56 * 256
      → vs ≡ put_state ws t → record { answer : r ≡ answer ws x; words : vs ≡ after ws x }
  unfolding answer after answer_word words_after
  done_with n r o q e f = record { answer = rw (outcome_is ws x h, o, q) e; words = rw (outcome_is ws x h, o) f }

  -- done with no value, the answer is 0
  pub done_with_nothing : {t : State} {vs : List ℕ} → rule (decode ws) x ≡ done nothing t → vs ≡ put_state ws t
      → record { answer : 0 ≡ answer ws x; words : vs ≡ after ws x }
  unfolding value_number
  done_with_nothing o f = done_with 0 0 o refl refl f

-- both clauses as a pair
pub both : {A B : Type 0} → record { answer : A; words : B } → A × B
both r = (r.answer, r.words)

-- the values as numbers
pub value_permits : (n : ℕ) → value_number (permits_after n) ≡ n
unfolding value_number
value_permits n = refl

pub value_cursor : (n : ℕ) → value_number (cursor_after n) ≡ n
unfolding value_number
value_cursor n = refl

-- ---- one write after another

-- a second write, told of the words that the first one left, told of the first words
pub then_write : {us vs : List ℕ} (ws : List ℕ) (s : State) (f : State → State) → Shaped s → (f s).entries ≡ s.entries
    → us ≡ put_state ws s → vs ≡ put_state us (f (decode us)) → vs ≡ put_state ws (f s)
then_write {us} ws s f h q e g = g ∙ rw e (put_step ws s f h q)

-- the words after a write are spelt as they should be
pub canon_after : {e : ℕ} {us : List ℕ} (ws : List ℕ) (s : State) → Shaped s → s.entries ≡ e → us ≡ put_state ws s → CanonStore e us
canon_after {e} {us} ws s h q w = rw (w, ← q) (canon_put ws s h)

-- and decode to what was written
pub decode_after : {us : List ℕ} (ws : List ℕ) (s : State) → Shaped s → us ≡ put_state ws s → decode us ≡ s
decode_after ws s h w = rw w (decode_put ws s h)

-- a consumer set, then changed
pub consumer_twice : {us vs : List ℕ} (ws : List ℕ) (s : State) (i : ℕ) (c : Consumer) (g : Consumer → Consumer)
    → Shaped s → ShapedConsumer c → i < length s.consumers → us ≡ put_state ws (set_consumer s i c)
    → vs ≡ put_state us (set_consumer (decode us) i (g (consumer_nth (decode us) i)))
    → vs ≡ put_state ws (set_consumer s i (g c))
unfolding set_consumer with_consumers
consumer_twice ws s i c g h k l e f =
    then_write ws (set_consumer s i c) (λ (t : State). set_consumer t i (g (consumer_nth t i))) (shaped_set_consumer s h i c k) refl e f
    ∙ rw (get_or-set_same s.consumers i c zero_consumer l, set-set s.consumers i c (g c))

-- a dispatcher set, then changed
pub dispatcher_twice : {us vs : List ℕ} (ws : List ℕ) (s : State) (d : ℕ) (x : Dispatcher) (g : Dispatcher → Dispatcher)
    → Shaped s → ShapedDispatcher s.entries x → d < length s.dispatchers → us ≡ put_state ws (set_dispatcher s d x)
    → vs ≡ put_state us (set_dispatcher (decode us) d (g (dispatcher_nth (decode us) d)))
    → vs ≡ put_state ws (set_dispatcher s d (g x))
unfolding set_dispatcher with_dispatchers
dispatcher_twice ws s d x g h k l e f =
    then_write ws (set_dispatcher s d x) (λ (t : State). set_dispatcher t d (g (dispatcher_nth t d))) (shaped_set_dispatcher s h d x k) refl e f
    ∙ rw (get_or-set_same s.dispatchers d x zero_dispatcher l, set-set s.dispatchers d x (g x))

-- a consumer is there after it was set
pub consumer_still_in : {e : ℕ} {us : List ℕ} (ws : List ℕ) (s : State) (i : ℕ) (c : Consumer) → Shaped s → s.entries ≡ e → ShapedConsumer c
    → us ≡ put_state ws (set_consumer s i c) → i < length s.consumers → ConsumerIn e us i
unfolding set_consumer with_consumers
consumer_still_in {e} {us} ws s i c h q k w l =
    let t : Shaped (set_consumer s i c) = shaped_set_consumer s h i c k in
    let same : (decode us).consumers ≡ set s.consumers i c = ap (λ (x : State). x.consumers) (decode_after ws (set_consumer s i c) t w) in
    consumer_in (canon_after ws (set_consumer s i c) t q w) i (rw (same, length-set) l)

-- a dispatcher is there after it was set
pub dispatcher_set_in : {e : ℕ} {us : List ℕ} (ws : List ℕ) (s : State) (d : ℕ) (x : Dispatcher) → Shaped s → s.entries ≡ e → ShapedDispatcher s.entries x
    → us ≡ put_state ws (set_dispatcher s d x) → d < length s.dispatchers → DispatcherIn e us d
unfolding set_dispatcher with_dispatchers
dispatcher_set_in {e} {us} ws s d x h q k w l =
    let t : Shaped (set_dispatcher s d x) = shaped_set_dispatcher s h d x k in
    let same : (decode us).dispatchers ≡ set s.dispatchers d x = ap (λ (y : State). y.dispatchers) (decode_after ws (set_dispatcher s d x) t w) in
    dispatcher_in (canon_after ws (set_dispatcher s d x) t q w) d (rw (same, length-set) l)

-- and is what was set
pub dispatcher_now_is : {us : List ℕ} (ws : List ℕ) (s : State) (d : ℕ) (x : Dispatcher) → Shaped s → ShapedDispatcher s.entries x
    → us ≡ put_state ws (set_dispatcher s d x) → d < length s.dispatchers → dispatcher_nth (decode us) d ≡ x
unfolding set_dispatcher with_dispatchers
dispatcher_now_is ws s d x h k w l =
    ap (λ (y : State). dispatcher_nth y d) (decode_after ws (set_dispatcher s d x) (shaped_set_dispatcher s h d x k) w)
    ∙ get_or-set_same s.dispatchers d x zero_dispatcher l

-- a dispatcher is there after a consumer was set
pub dispatcher_still_in : {e : ℕ} {us : List ℕ} (ws : List ℕ) (s : State) (i d : ℕ) (c : Consumer) → Shaped s → s.entries ≡ e → ShapedConsumer c
    → us ≡ put_state ws (set_consumer s i c) → d < length s.dispatchers → DispatcherIn e us d
unfolding set_consumer with_consumers
dispatcher_still_in {e} {us} ws s i d c h q k w l =
    let t : Shaped (set_consumer s i c) = shaped_set_consumer s h i c k in
    let same : (decode us).dispatchers ≡ s.dispatchers = ap (λ (x : State). x.dispatchers) (decode_after ws (set_consumer s i c) t w) in
    dispatcher_in (canon_after ws (set_consumer s i c) t q w) d (rw same l)

-- a consumer set, then a dispatcher changed
pub consumer_then_dispatcher : {us vs : List ℕ} (ws : List ℕ) (s : State) (i d : ℕ) (c : Consumer) (g : Dispatcher → Dispatcher)
    → Shaped s → ShapedConsumer c → us ≡ put_state ws (set_consumer s i c)
    → vs ≡ put_state us (set_dispatcher (decode us) d (g (dispatcher_nth (decode us) d)))
    → vs ≡ put_state ws (set_dispatcher (set_consumer s i c) d (g (dispatcher_nth s d)))
unfolding set_consumer with_consumers set_dispatcher with_dispatchers
consumer_then_dispatcher ws s i d c g h k e f =
    then_write ws (set_consumer s i c) (λ (t : State). set_dispatcher t d (g (dispatcher_nth t d)))
    (shaped_set_consumer s h i c k) refl e f

-- the two set at their slots are put in the state
pub set_both : (s : State) (i id d : ℕ) (p : Pair) (c : Consumer) (x : Dispatcher) → Valid s
    → i ≡ slot by_id id s.consumers → i < length s.consumers → c.id ≡ id
    → d ≡ slot by_pair p s.dispatchers → d < length s.dispatchers → x.pair ≡ p
    → set_dispatcher (set_consumer s i c) d x ≡ put_dispatcher (put_consumer s c) x
unfolding put_consumer with_consumers
set_both s i id d p c x v e h q f k r =
    ap (λ (t : State). set_dispatcher t d x) (set_consumer_put s i id e c v h q)
    ∙ set_dispatcher_put (put_consumer s c) d p f x k r

-- ---- the store as code sees it

-- words that spell a state of E entries are spelt as they should be
pub canon_of : (e : ℕ) (ws : List ℕ) → spells ws ≡ true → e ≡ (decode ws).entries → CanonStore e ws
canon_of e ws h q = rw q (spells_canon h)
