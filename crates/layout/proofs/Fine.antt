-- Values whose spelling has only 64-bit words: by the parts of a codec, and the records of a valid state.
use mathlib.Core.Path.{◌≡◌, refl}
use mathlib.Core.Bool.{Bool, true, false}
use mathlib.Core.List.{List, [], ◌∷◌, ◌++◌, map}
use Prim.Native.Nat.{ℕ, zero, suc, ◌+◌, ◌*◌, ◌^◌, ◌≤◌, ◌<◌, zero-le, suc-le-suc}
use native.Mathlib.Omega.{arith}
use lib.Dec.{eqb, ltb}
use lib.ListN.{length, get_or, replicate}
use borrow.Author.Tests.{ltb-true, ltb-false, eqb-true}
use Rattle.words.specs.Words.{fit}
use Rattle.words.specs.Codec.{Codec, Change, word, zeros, pair, via, flag, asFlag, tag, asTag, upto, spell, All}
use Rattle.words.proofs.Check.{and_left, and_right}
use Rattle.words.proofs.Each.{all_append, all_take}
use Rattle.bits.specs.Bits.{bits_empty}
use Rattle.bits.specs.Four.{words}
use Rattle.bits.proofs.Sets.{below_are_words}
use Rattle.rules.specs.State.{Id, StoredMessage, Topic, Pair, Kind, Consumer, Mark, Held, Dispatcher, State, new_mark, ledger_of}
use Rattle.rules.specs.State.Kind.{plain, shared}
use Rattle.rules.specs.Ledger.{message_at}
use Rattle.rules.specs.Valid.{ValidId, ValidMessage, ValidTopic, ValidConsumer, ValidMark, ValidDispatcher}
use Rattle.layout.specs.Records.{as_id, id_codec, as_message, message_codec, as_bits, bits_codec, as_mark, mark_codec, as_held, held_codec, as_pair, pair_codec, kind_codec, as_consumer, consumer_codec, as_topic, topic_codec, as_dispatcher, dispatcher_codec}
use Rattle.layout.specs.Whole.{Shaped}
use Rattle.layout.proofs.Shaped.{all_as}
use Rattle.layout.proofs.Valid.{every_all, ledger_fits}

-- a 64-bit number
abbrev pub Narrow : ℕ → Type 0
Narrow n = n < 2 ^ 64

-- a value whose spelling has only 64-bit words
abbrev pub Fine : {A : Type 0} → Codec A → A → Type 0
Fine c a = All Narrow (c.enc a)

-- ---- by parts

-- a word
pub fine_word : (n : ℕ) → Narrow n → Fine word n
unfolding word
fine_word n h = (h, tt)

-- a flag
pub fine_flag : (b : Bool) → Fine flag b
unfolding flag asFlag via word
fine_flag false = (omega arith, tt)
fine_flag true = (omega arith, tt)

-- a tag
pub fine_tag : (n : ℕ) (u : Unit {0}) → Narrow n → Fine (tag n) u
unfolding tag asTag via word
fine_tag n u h = (h, tt)

fine_replicate : (k : ℕ) → All Narrow (replicate k 0)
fine_replicate zero = tt
fine_replicate (suc k) = (omega arith, fine_replicate k)

-- words reserved
pub fine_zeros : (k : ℕ) (u : Unit {0}) → Fine (zeros k) u
unfolding zeros
fine_zeros k u = fine_replicate k

-- two values
pub fine_pair : {A B : Type 0} (c : Codec A) (d : Codec B) (p : A × B) → Fine c p.0 → Fine d p.1 → Fine (pair c d) p
unfolding pair
fine_pair c d p h k = all_append Narrow (c.enc p.0) (d.enc p.1) h k

-- by a change of type
pub fine_via : {A B : Type 0} {c : Codec A} (v : Change c B) (b : B) → Fine c (v.from b) → Fine (via v) b
unfolding via
fine_via v b h = h

fine_spell : {A : Type 0} (c : Codec A) (l : List A) → All (Fine c) l → All Narrow (spell c l)
unfolding spell
fine_spell c [] h = tt
fine_spell c (a ∷ l) h = all_append Narrow (c.enc a) (spell c l) h.0 (fine_spell c l h.1)

-- a list
pub fine_upto : {A : Type 0} (c : Codec A) (cap : ℕ) (l : List A) → cap ≤ 4096 → All (Fine c) l → Fine (upto c cap) l
unfolding upto fit
fine_upto c cap l h k = (
  omega arith,
  all_take Narrow (cap * c.width) (spell c l ++ replicate (cap * c.width) 0)
      (all_append Narrow (spell c l) (replicate (cap * c.width) 0) (fine_spell c l k) (fine_replicate (cap * c.width))),
)

-- ---- lists

all_split : {A : Type 0} (P : A → Type 0) (l m : List A) → All P (l ++ m) → All P l × All P m
all_split P [] m h = (tt, h)
all_split P (a ∷ l) m h = let r : All P l × All P m = all_split P l m h.1 in ((h.0, r.0), r.1)

all_map : {A B : Type 0} (P : B → Type 0) (f : A → B) (l : List A) → All P (map f l) → All (λ a. P (f a)) l
all_map P f [] h = tt
all_map P f (a ∷ l) h = (h.0, all_map P f l h.1)

all_both : {A : Type 0} {P Q R : A → Type 0} → ((a : A) → P a → Q a → R a) → (l : List A) → All P l → All Q l → All R l
all_both f [] h k = tt
all_both f (a ∷ l) h k = (f a h.0 k.0, all_both f l h.1 k.1)

all_nth : {A : Type 0} (P : A → Type 0) (d : A) (l : List A) → ((i : ℕ) → i < length l → P (get_or l i d)) → All P l
all_nth P d [] h = tt
all_nth P d (a ∷ l) h = (h 0 (suc-le-suc zero-le), all_nth P d l (λ i k. h (suc i) (suc-le-suc k)))

-- ---- small records

fine_id : (i : Id) → ValidId i → Fine id_codec i
unfolding id_codec
fine_id i v =
    fine_via as_id i (fine_pair _ _ _ (fine_word i.ledger v.ledger_word) (fine_word i.entry v.entry_word))

fine_message : (m : StoredMessage) → ValidMessage m → Fine message_codec m
unfolding message_codec
fine_message m v =
    let b : m.batch_size ≤ 256 = v.batch_range in
    fine_via as_message m
    (fine_pair _ _ _ (fine_id m.id v.id_words)
    (fine_pair _ _ _ (fine_word m.handle v.handle_word) (fine_word m.batch_size (omega arith))))

empty_narrow : (ws : List ℕ) → bits_empty ws ≡ true → All Narrow ws
unfolding bits_empty
empty_narrow [] e = tt
empty_narrow (w ∷ ws) e =
    let z : w ≡ 0 = eqb-true w 0 (and_left (eqb w 0) (bits_empty ws) e) in
    (omega arith, empty_narrow ws (and_right (eqb w 0) (bits_empty ws) e))

bits_narrow : (m : StoredMessage) (k : Mark) → ValidMark m k → All Narrow (words k.acked.unacked)
bits_narrow m k v = go (ltb 1 m.batch_size) refl
  where
    bits : List ℕ
    bits = words k.acked.unacked

    go : (t : Bool) → ltb 1 m.batch_size ≡ t → All Narrow bits
    go true e =
        all_nth Narrow 0 bits
        (λ i h. below_are_words m.batch_size bits (v.bits_in_batch (ltb-true 1 m.batch_size e)) i)
    go false e = empty_narrow bits (v.no_bits_below_2 (ltb-false 1 m.batch_size e))

fine_mark : (m : StoredMessage) (k : Mark) → ValidMark m k → Fine mark_codec k
unfolding mark_codec bits_codec
fine_mark m k v =
    let c : k.redelivery_count < 2 ^ 32 = v.count_range in
    let b : All Narrow (words k.acked.unacked) = bits_narrow m k v in
    fine_via as_mark k
    (fine_pair _ _ _ (fine_flag k.acked.complete)
    (fine_pair _ _ _ (fine_word k.redelivery_count (omega arith))
    (fine_via as_bits k.acked.unacked
    (fine_pair _ _ _
    (fine_pair _ _ _ (fine_word _ b.0) (fine_word _ b.1.0))
    (fine_pair _ _ _ (fine_word _ b.1.1.0) (fine_word _ b.1.1.1.0))))))

fine_held : (h : Held) → Narrow h.holder → Narrow h.position → Fine held_codec h
unfolding held_codec
fine_held h a b = fine_via as_held h (fine_pair _ _ _ (fine_word h.holder a) (fine_word h.position b))

fine_two : (p : Pair) → p.topic < 256 → p.subscription < 256 → Fine pair_codec p
unfolding pair_codec
fine_two p a b =
    fine_via as_pair p
    (fine_pair _ _ _ (fine_word p.topic (omega arith)) (fine_word p.subscription (omega arith)))

fine_kind : (k : Kind) → Fine kind_codec k
unfolding kind_codec flag asFlag via word
fine_kind plain = (omega arith, tt)
fine_kind shared = (omega arith, tt)

-- ---- records of a state

-- numbers below one that is at most 4,096
fine_numbers : (cap n : ℕ) (l : List ℕ) → cap ≤ 4096 → n ≤ 4096 → All (λ k. k < n) l → Fine (upto word cap) l
fine_numbers cap n l c h k = fine_upto word cap l c (all_as (λ a b. fine_word a (omega arith)) l k)

-- a consumer
pub fine_consumer : (s : State) → Shaped s → (c : Consumer) → ValidConsumer s c → Fine consumer_codec c
unfolding consumer_codec
fine_consumer s h c v =
    let n : ℕ = length (ledger_of s c.pair.topic) in
    let e : s.entries ≤ 4096 = h.E_most in
    let l : n ≤ s.entries = ledger_fits s c.pair.topic h.each_topic in
    let p : c.permits ≤ 2 ^ 62 + 2 ^ 40 = v.permits_to in
    let k : c.cursor ≤ n = v.cursor_in_ledger in
    fine_via as_consumer c
    (fine_pair _ _ _ (fine_word c.id v.id_word)
    (fine_pair _ _ _ (fine_two c.pair v.topic_byte v.subscription_byte)
    (fine_pair _ _ _ (fine_kind c.kind)
    (fine_pair _ _ _ (fine_word c.permits (omega arith))
    (fine_pair _ _ _ (fine_word c.cursor (omega arith))
    (fine_pair _ _ _
    (fine_numbers 64 n c.nacked (omega arith) (omega arith) (every_all {P = λ (k : ℕ). k < n} c.nacked v.nacked_in_ledger))
    (fine_zeros 1 tt)))))))

-- a topic
pub fine_topic : (e : ℕ) → e ≤ 4096 → (t : Topic) → ValidTopic e t → Fine (topic_codec e) t
unfolding topic_codec
fine_topic e h t v =
    let n : t.number < 256 = v.number_byte in
    fine_via (as_topic e) t
    (fine_pair _ _ _ (fine_word t.number (omega arith))
    (fine_pair _ _ _ (fine_zeros 2 tt)
    (fine_upto message_codec e t.messages h
    (all_as fine_message t.messages (every_all {P = ValidMessage} t.messages v.each_message)))))

-- a dispatcher
pub fine_dispatcher : (s : State) → Shaped s → (d : Dispatcher) → ValidDispatcher s d → Fine (dispatcher_codec s.entries) d
unfolding dispatcher_codec
fine_dispatcher s h d v =
    let e : ℕ = s.entries in
    let n : ℕ = length (ledger_of s d.pair.topic) in
    let m : e ≤ 4096 = h.E_most in
    let l : n ≤ e = ledger_fits s d.pair.topic h.each_topic in
    let c : d.cursor ≤ n = v.cursor_in_ledger in
    let k : d.mark_delete ≤ n = v.mark_delete_in_ledger in
    let t : d.total_available_permits ≤ 2 ^ 62 + 2 ^ 60 = v.total_to in
    let r : length d.attached ≤ 32 = v.ring.ring_count in
    let below : All (λ (i : ℕ). i < d.cursor) (map (λ (x : Held). x.position) d.in_flight) × All (λ (i : ℕ). i < d.cursor)
    d.redelivery =
    all_split (λ (i : ℕ). i < d.cursor) (map (λ (x : Held). x.position) d.in_flight) d.redelivery
    (every_all {P = λ (i : ℕ). i < d.cursor} (map (λ (x : Held). x.position) d.in_flight ++ d.redelivery)
    v.places.places_below_cursor) in
    let holders : All (λ (x : Held). Narrow x.holder) d.in_flight =
    every_all {P = λ (x : Held). Narrow x.holder} d.in_flight
    (λ x i. v.ring.ring_words x.holder (v.places.holders_in_ring x i)) in
    fine_via (as_dispatcher e) d
    (fine_pair _ _ _ (fine_two d.pair v.pair_topic_byte v.pair_subscription_byte)
    (fine_pair _ _ _
    (fine_pair _ _ _
    (fine_pair _ _ _ (fine_word d.next (next_narrow d.attached d.next r v.ring.next_in_range v.ring.next_if_empty))
    (fine_word d.cursor (omega arith)))
    (fine_pair _ _ _ (fine_word d.mark_delete (omega arith)) (fine_word d.total_available_permits (omega arith))))
    (fine_pair _ _ _ (fine_zeros 5 tt)
    (fine_pair _ _ _
    (fine_upto word 32 d.attached (omega arith)
    (all_as fine_word d.attached (every_all {P = Narrow} d.attached v.ring.ring_words)))
    (fine_pair _ _ _
    (fine_upto id_codec 64 d.outside (omega arith)
    (all_as fine_id d.outside (every_all {P = ValidId} d.outside v.outside_ids.outside_words)))
    (fine_pair _ _ _ (fine_numbers e d.cursor d.redelivery m (omega arith) below.1)
    (fine_pair _ _ _
    (fine_upto held_codec e d.in_flight m
    (all_both {P = λ (x : Held). Narrow x.holder} {Q = λ (x : Held). x.position < d.cursor} (λ x a b. fine_held x a (omega arith))
    d.in_flight holders
    (all_map (λ (i : ℕ). i < d.cursor) (λ (x : Held). x.position) d.in_flight below.0)))
    (fine_upto mark_codec e d.marks m
    (all_nth (Fine mark_codec) new_mark d.marks
    (λ i q.
    fine_mark (message_at (ledger_of s d.pair.topic) i) (get_or d.marks i new_mark)
    (v.entry_marks.each_mark i (rw v.entry_marks.one_each at q))))))))))))
  where
    next_narrow : (ring : List ℕ) (n : ℕ) → length ring ≤ 32 → (0 < length ring → n < length ring) → (length ring ≡ 0 → n ≡ 0) → Narrow n
    next_narrow [] n a f g = let z : n ≡ 0 = g refl in omega arith
    next_narrow (x ∷ ring) n a f g = let z : n < suc (length ring) = f (suc-le-suc zero-le) in omega arith
