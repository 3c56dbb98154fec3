-- The check of a store's records, as equations between tests, in the order in which one pass over the words makes them:
-- what `canonical` comes to for each record, at the offset where the record stands. Lists of plain records come to a count
-- and a blank rest; only kinds and marks have words of their own to test.
use mathlib.Core.Path.{◌≡◌, refl, ap, ap₂, ◌∙◌}
use mathlib.Core.Bool.{Bool, true, false, ◌&&◌}
use mathlib.Core.List.{List}
use Prim.Native.Nat.{ℕ, zero, suc, ◌+◌, ◌-◌, ◌*◌, ◌≤◌, ◌<◌}
use native.Mathlib.Nat.{mul-one, mul-le-mul_right}
use native.Mathlib.Omega.{arith}
use lib.Dec.{leb}
use lib.ListN.{length, get_or, drop}
use borrow.Author.Tests.{leb-true}
use Rattle.words.specs.Words.{blank}
use Rattle.words.specs.Codec.{Codec, word, pair, via, flag, asFlag, upto}
use Rattle.words.specs.Store.{canonical, canonicals}
use Rattle.words.proofs.Width.{width_word, width_flag, width_zeros, width_pair, width_upto}
use Rattle.words.proofs.Check.{canonical_word, canonical_flag, canonical_zeros, canonical_pair, canonical_via, canonical_upto, canonicals_none, canonicals_cons, and_true}
use Rattle.layout.specs.Records.{as_id, id_codec, as_message, message_codec, as_bits, bits_codec, as_mark, mark_codec, as_held, held_codec, as_pair, pair_codec, flag_of, kind_of, as_kind, kind_codec, as_consumer, consumer_codec, as_topic, topic_codec, as_dispatcher, dispatcher_codec}
use Rattle.layout.specs.Offsets.{flight_in, held_in, marks_in}
use Rattle.layout.proofs.Widths.{width_id, width_message, width_bits, width_held, width_of_pair, width_kind, width_numbers}

-- ---- plain records: any words spell one

-- any words that are there, at any offset, are canonical
pub record Plain {A : Type 0} (c : Codec A) (w : ℕ) : Type 0 where
  pub sized : c.width ≡ w
  pub any : (off : ℕ) (ws : List ℕ) → off + w ≤ length ws → canonical c (drop off ws) ≡ true

both_true : {x y : Bool} → x ≡ true → y ≡ true → x && y ≡ true
both_true e f = rw (e, f)

-- a word
pub plain_word : Plain word 1
plain_word = record { sized = width_word; any = λ off ws h. canonical_word off ws (omega arith) }

plain_pair : {A B : Type 0} {c : Codec A} {d : Codec B} {m n : ℕ} → Plain c m → Plain d n → Plain (pair c d) (m + n)
plain_pair {c = c} {d = d} {m = m} p q =
    record {
      sized = width_pair c d p.sized q.sized;
      any =
          λ off ws h.
          canonical_pair c d p.sized off ws
          ∙ both_true (p.any off ws (omega arith)) (q.any (off + m) ws (omega arith));
    }

-- an id
pub plain_id : Plain id_codec 2
unfolding id_codec
plain_id =
    record {
      sized = width_id;
      any = λ off ws h. canonical_via as_id (drop off ws) refl ∙ (plain_pair plain_word plain_word).any off ws h;
    }

-- a pair
pub plain_of_pair : Plain pair_codec 2
unfolding pair_codec
plain_of_pair =
    record {
      sized = width_of_pair;
      any = λ off ws h. canonical_via as_pair (drop off ws) refl ∙ (plain_pair plain_word plain_word).any off ws h;
    }

-- an entry in flight
pub plain_held : Plain held_codec 2
unfolding held_codec
plain_held =
    record {
      sized = width_held;
      any = λ off ws h. canonical_via as_held (drop off ws) refl ∙ (plain_pair plain_word plain_word).any off ws h;
    }

-- a message
pub plain_message : Plain message_codec 4
unfolding message_codec
plain_message =
    record {
      sized = width_message;
      any =
          λ off ws h.
          canonical_via as_message (drop off ws) refl
          ∙ (plain_pair plain_id (plain_pair plain_word plain_word)).any off ws h;
    }

-- the bits of a mark
pub plain_bits : Plain bits_codec 4
unfolding bits_codec
plain_bits =
    record {
      sized = width_bits;
      any =
          λ off ws h.
          canonical_via as_bits (drop off ws) refl
          ∙ (plain_pair (plain_pair plain_word plain_word) (plain_pair plain_word plain_word)).any off ws h;
    }

-- ---- lists of plain records: a count within the slots, and the rest blank

module _ {A : Type 0} {c : Codec A} {w : ℕ} (p : Plain c w) where
  plain_slots : (n off : ℕ) (ws : List ℕ) → off + n * w ≤ length ws → canonicals c n (drop off ws) ≡ true
  plain_slots zero off ws h = canonicals_none c (drop off ws)
  plain_slots (suc n) off ws h =
      canonicals_cons c p.sized n off ws
      ∙ both_true (p.any off ws (omega arith)) (plain_slots n (off + w) ws (omega arith))

  -- the count, and the rest of the slots
  pub check_list : (cap off first : ℕ) (ws : List ℕ) → off + 1 ≡ first → first + cap * w ≤ length ws
      → canonical (upto c cap) (drop off ws)
      ≡ leb (get_or ws off 0) cap && blank ((cap - get_or ws off 0) * w) (drop (first + get_or ws off 0 * w) ws)
  check_list cap off first ws f h = canonical_upto c p.sized cap off ws (omega arith) ∙ rw (← f) (go (leb n cap) refl)
    where
      n : ℕ
      n = get_or ws off 0

      go :
          (t : Bool) → leb n cap ≡ t
          → t && canonicals c n (drop (off + 1) ws) && blank ((cap - n) * w) (drop (off + 1 + n * w) ws)
          ≡ t && blank ((cap - n) * w) (drop (off + 1 + n * w) ws)
      go true e =
          let k : n * w ≤ cap * w = mul-le-mul_right w (leb-true n cap e) in
          rw (plain_slots n (off + 1) ws (omega arith))
      go false e = refl

-- numbers, a word each
pub check_numbers : (cap off first : ℕ) (ws : List ℕ) → off + 1 ≡ first → first + cap ≤ length ws
    → canonical (upto word cap) (drop off ws)
    ≡ leb (get_or ws off 0) cap && blank (cap - get_or ws off 0) (drop (first + get_or ws off 0) ws)
check_numbers cap off first ws f h = simp mul-one at (check_list plain_word cap off first ws f (omega arith))

-- ---- records of a state

-- a first part and what follows it
pub part : {A B : Type 0} (c : Codec A) (d : Codec B) {m : ℕ} (off next : ℕ) (ws : List ℕ) → off + m ≡ next → c.width ≡ m
    → canonical (pair c d) (drop off ws) ≡ canonical c (drop off ws) && canonical d (drop next ws)
part c d off next ws e sized = rw (← e) (canonical_pair c d sized off ws)

-- a plain part in front says nothing
pub skip : {A B : Type 0} {c : Codec A} {m : ℕ} (d : Codec B) (off next : ℕ) (ws : List ℕ) → off + m ≡ next → Plain c m → next ≤ length ws
    → canonical (pair c d) (drop off ws) ≡ canonical d (drop next ws)
skip {c = c} d off next ws e p h =
    part c d off next ws e p.sized ∙ ap (λ (t : Bool). t && canonical d (drop next ws)) (p.any off ws (omega arith))

flag_kind : (b : Bool) → flag_of (kind_of b) ≡ b
flag_kind false = refl
flag_kind true = refl

-- a kind: 0 or 1
pub check_kind : (at : ℕ) (ws : List ℕ) → at < length ws → canonical kind_codec (drop at ws) ≡ leb (get_or ws at 0) 1
unfolding kind_codec flag via asFlag
check_kind at ws h = canonical_via as_kind (drop at ws) (flag_kind (flag.dec (drop at ws))) ∙ canonical_flag at ws h

-- a mark: complete is 0 or 1
pub check_mark : (at : ℕ) (ws : List ℕ) → at + 6 ≤ length ws → canonical mark_codec (drop at ws) ≡ leb (get_or ws at 0) 1
unfolding mark_codec
check_mark at ws h =
    canonical_via as_mark (drop at ws) refl
    ∙ canonical_pair flag (pair word bits_codec) width_flag at ws
    ∙ ap₂ ◌&&◌ (canonical_flag at ws (omega arith)) ((plain_pair plain_word plain_bits).any (at + 1) ws (omega arith))
    ∙ and_true (leb (get_or ws at 0) 1)

-- a consumer: the kind, the number of nacked positions, the rest of their slots, the word reserved
pub check_consumer : (at : ℕ) (ws : List ℕ) → at + 72 ≤ length ws
    → canonical consumer_codec (drop at ws)
    ≡ leb (get_or ws (at + 3) 0) 1
    && (leb (get_or ws (at + 6) 0) 64 && blank (64 - get_or ws (at + 6) 0) (drop (at + 7 + get_or ws (at + 6) 0) ws)
    && blank 1 (drop (at + 71) ws))
unfolding consumer_codec
check_consumer at ws h =
    canonical_via as_consumer (drop at ws) refl
    ∙ skip _ at (at + 1) ws refl plain_word (omega arith)
    ∙ skip _ (at + 1) (at + 3) ws (omega arith) plain_of_pair (omega arith)
    ∙ part _ _ (at + 3) (at + 4) ws (omega arith) width_kind
    ∙ ap₂ ◌&&◌ (check_kind (at + 3) ws (omega arith))
    (skip _ (at + 4) (at + 5) ws (omega arith) plain_word (omega arith)
    ∙ skip _ (at + 5) (at + 6) ws (omega arith) plain_word (omega arith)
    ∙ part _ _ (at + 6) (at + 71) ws (omega arith) (width_numbers 64)
    ∙ ap₂ ◌&&◌ (check_numbers 64 (at + 6) (at + 7) ws (omega arith) (omega arith)) (canonical_zeros 1 (drop (at + 71) ws)))

-- a topic: the words reserved, the number of messages, the rest of their slots
pub check_topic : (e at : ℕ) (ws : List ℕ) → at + (4 + 4 * e) ≤ length ws
    → canonical (topic_codec e) (drop at ws)
    ≡ blank 2 (drop (at + 1) ws)
    && (leb (get_or ws (at + 3) 0) e && blank ((e - get_or ws (at + 3) 0) * 4) (drop (at + 4 + get_or ws (at + 3) 0 * 4) ws))
unfolding topic_codec
check_topic e at ws h =
    canonical_via (as_topic e) (drop at ws) refl
    ∙ skip _ at (at + 1) ws refl plain_word (omega arith)
    ∙ part _ _ (at + 1) (at + 3) ws (omega arith) (width_zeros 2)
    ∙ ap₂ ◌&&◌ (canonical_zeros 2 (drop (at + 1) ws)) (check_list plain_message e (at + 3) (at + 4) ws (omega arith) (omega arith))

-- the heads of a dispatcher's lists, as a one-pass check meets them: the words reserved; ring, outside ids, queue and
-- flight, each with its count and the rest of its slots; the marks
pub check_dispatcher : (e at : ℕ) (ws : List ℕ) → at + (176 + 9 * e) ≤ length ws
    → canonical (dispatcher_codec e) (drop at ws)
    ≡ blank 5 (drop (at + 6) ws)
    && (leb (get_or ws (at + 11) 0) 32 && blank (32 - get_or ws (at + 11) 0) (drop (at + 12 + get_or ws (at + 11) 0) ws)
    && (leb (get_or ws (at + 44) 0) 64 && blank ((64 - get_or ws (at + 44) 0) * 2) (drop (at + 45 + get_or ws (at + 44) 0 * 2) ws)
    && (leb (get_or ws (at + 173) 0) e && blank (e - get_or ws (at + 173) 0) (drop (at + 174 + get_or ws (at + 173) 0) ws)
    && (leb (get_or ws (at + flight_in e) 0) e
    && blank ((e - get_or ws (at + flight_in e) 0) * 2) (drop (at + held_in e 0 + get_or ws (at + flight_in e) 0 * 2) ws)
    && canonical (upto mark_codec e) (drop (at + marks_in e) ws)))))
unfolding dispatcher_codec
check_dispatcher e at ws h =
    canonical_via (as_dispatcher e) (drop at ws) refl
    ∙ skip _ at (at + 2) ws refl plain_of_pair (omega arith)
    ∙ skip _ (at + 2) (at + 6) ws (omega arith) (plain_pair (plain_pair plain_word plain_word) (plain_pair plain_word plain_word))
    (omega arith)
    ∙ part _ _ (at + 6) (at + 11) ws (omega arith) (width_zeros 5)
    ∙ ap₂ ◌&&◌ (canonical_zeros 5 (drop (at + 6) ws))
    (part _ _ (at + 11) (at + 44) ws (omega arith) (width_numbers 32)
    ∙ ap₂ ◌&&◌ (check_numbers 32 (at + 11) (at + 12) ws (omega arith) (omega arith))
    (part _ _ (at + 44) (at + 173) ws (omega arith) (width_upto id_codec 64 width_id)
    ∙ ap₂ ◌&&◌ (check_list plain_id 64 (at + 44) (at + 45) ws (omega arith) (omega arith))
    (part _ _ (at + 173) (at + flight_in e) ws (omega arith) (width_numbers e)
    ∙ ap₂ ◌&&◌ (check_numbers e (at + 173) (at + 174) ws (omega arith) (omega arith))
    (part _ _ (at + flight_in e) (at + marks_in e) ws (omega arith) (width_upto held_codec e width_held)
    ∙ ap (λ (t : Bool). t && canonical (upto mark_codec e) (drop (at + marks_in e) ws))
    (check_list plain_held e (at + flight_in e) (at + held_in e 0) ws (omega arith) (omega arith))))))
