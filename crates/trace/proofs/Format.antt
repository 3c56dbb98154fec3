-- What is read at the front of some bytes: where a record or a header ends in them, more bytes behind change nothing of
-- what is read; and the records of bytes are the first one and those of the rest.
use Prim.Native.Nat.{ℕ, zero, suc, ◌*◌, ◌≤◌, ◌<◌}
use mathlib.Core.Path.{◌≡◌, refl, sym, ap, ◌∙◌, subst}
use mathlib.Core.Bool.{Bool, true, false, cond, ◌&&◌}
use mathlib.Core.List.{List, [], ◌∷◌, ◌++◌, map}
use mathlib.Core.Option.{Option, none, some, bind}
use native.Mathlib.Omega.{arith}
use lib.Dec.{eqb, ltb}
use lib.ListN.{length, take, drop, length-append, length-drop, take-append-drop, get_or-append}
use lib.Seq.{length-take-le, take-append-le, drop-append-le}
use borrow.Author.Tests.{ltb-true, ltb-false, lt-ltb, le-ltb}
use Rattle.words.specs.Words.{starts}
use Rattle.trace.specs.Format.{number, number_bytes, header, HEADER_BYTES, Record, MOST_WORDS, FRONT_BYTES, record_size, Reach}
use Rattle.trace.specs.Format.{record_reach, header_reach, words_in, record_in, records_within, records_by, in_bytes, records}
use Rattle.trace.specs.Format.Reach.{ends, cut_off, wrong}
use Rattle.trace.specs.Played.{record_call, calls_in}
use Rattle.trace.proofs.Records.{EndsIn, ends_in, too_many_in, reaches_in, by_first, by_wrong, by_cut}

-- the count of a record
abbrev pub count_in : List ℕ → ℕ
count_in bytes = number (take 2 (drop 1 bytes))

-- ---- how far a record reaches

-- what is told of one that ends
abbrev pub Whole : List ℕ → ℕ → Type 0
Whole bytes size = EndsIn (length bytes) FRONT_BYTES (count_in bytes) (record_size (count_in bytes)) size

-- a record that ends
pub whole : (bytes : List ℕ) (size : ℕ) → record_reach bytes ≡ ends size → Whole bytes size
unfolding record_reach
whole bytes size e = ends_in (length bytes) FRONT_BYTES (count_in bytes) (record_size (count_in bytes)) size e

-- one with too many words
pub too_many : (bytes : List ℕ) → record_reach bytes ≡ wrong → (FRONT_BYTES ≤ length bytes) × (MOST_WORDS < count_in bytes)
unfolding record_reach
too_many bytes e = too_many_in (length bytes) FRONT_BYTES (count_in bytes) (record_size (count_in bytes)) e

-- and back
pub reaches : (bytes : List ℕ) → FRONT_BYTES ≤ length bytes → count_in bytes ≤ MOST_WORDS → record_size (count_in bytes) ≤ length bytes
    → record_reach bytes ≡ ends (record_size (count_in bytes))
unfolding record_reach
reaches bytes h f g = reaches_in (length bytes) FRONT_BYTES (count_in bytes) (record_size (count_in bytes)) h f g

-- ---- more bytes behind

-- they do not change the count
pub count_before : (bytes more : List ℕ) → FRONT_BYTES ≤ length bytes → count_in (bytes ++ more) ≡ count_in bytes
count_before bytes more h =
    let e = length-drop 1 bytes in
    ap number (ap (take 2) (drop-append-le 1 bytes more (omega arith)) ∙ take-append-le 2 (drop 1 bytes) more (omega arith))

-- nor words that are there
pub words_before : (n : ℕ) (bytes more : List ℕ) → 8 * n ≤ length bytes → words_in n (bytes ++ more) ≡ words_in n bytes
unfolding words_in
words_before zero bytes more h = refl
words_before (suc n) bytes more h =
    let e = length-drop 8 bytes in
    rw (take-append-le 8 bytes more (omega arith), drop-append-le 8 bytes more (omega arith), words_before n (drop 8 bytes) more (omega arith))

module _ (bytes more : List ℕ) where
  -- a record that ends, ends there
  pub ends_before : (size : ℕ) → record_reach bytes ≡ ends size → record_reach (bytes ++ more) ≡ ends size
  ends_before size e =
      let w = whole bytes size e in
      let l = length-append bytes more in
      let n = count_before bytes more w.front in
      reaches (bytes ++ more) (omega (arith, w.front)) (rw n w.few) (rw n (omega (arith, w.inside)))
      ∙ ap ends (ap record_size n ∙ sym w.is_size)

  -- it is the same record
  pub record_before : (size : ℕ) → record_reach bytes ≡ ends size → record_in (bytes ++ more) ≡ record_in bytes
  unfolding record_in
  record_before size e =
      let w = whole bytes size e in
      let l = length-drop 3 bytes in
      let i = w.inside in
      let f = w.front in
      rw (
        get_or-append bytes more 0 0 (omega arith),
        count_before bytes more f,
        drop-append-le FRONT_BYTES bytes more f,
        words_before (count_in bytes) (drop FRONT_BYTES bytes) more (omega arith),
      )

  -- and what follows it has more behind
  pub rest_before : (size : ℕ) → record_reach bytes ≡ ends size → drop size (bytes ++ more) ≡ drop size bytes ++ more
  rest_before size e = let w = whole bytes size e in drop-append-le size bytes more (rw w.is_size w.inside)

  -- one with too many words has too many
  pub wrong_before : record_reach bytes ≡ wrong → record_reach (bytes ++ more) ≡ wrong
  unfolding record_reach
  wrong_before e =
      let w = too_many bytes e in
      let l = length-append bytes more in
      let n = count_before bytes more w.0 in
      rw (le-ltb (length (bytes ++ more)) FRONT_BYTES (omega (arith, w.0)), n, lt-ltb MOST_WORDS (count_in bytes) w.1)

-- ---- a record alone

module _ (held : List ℕ) (size : ℕ) (e : record_reach held ≡ ends size) where
  -- the bytes of a record have its length
  pub taken_length : length (take size held) ≡ size
  taken_length = let w = whole held size e in length-take-le size held (rw w.is_size w.inside)

  -- and all of the count
  taken_count : count_in held ≡ count_in (take size held)
  taken_count =
      let w = whole held size e in
      let l = taken_length in
      ap count_in (sym (take-append-drop size held)) ∙ count_before (take size held) (drop size held) (omega (arith, w.is_size))

  -- so alone they are that record, and no more
  pub taken_reach : record_reach (take size held) ≡ ends (length (take size held))
  taken_reach =
      let w = whole held size e in
      let l = taken_length in
      let n = taken_count in
      reaches (take size held) (omega (arith, w.is_size)) (rw (← n) w.few) (rw (← n) (omega (arith, w.is_size)))
      ∙ ap ends (ap record_size (sym n) ∙ sym w.is_size ∙ sym l)

  -- the same one
  pub taken_record : record_in (take size held) ≡ record_in held
  taken_record =
      sym (record_before (take size held) (drop size held) (length (take size held)) taken_reach)
      ∙ ap record_in (take-append-drop size held)

-- ---- records one after the other

-- a whole record is not empty, and is there
record_inside : (bytes : List ℕ) (size : ℕ) → record_reach bytes ≡ ends size → (1 ≤ size) × (size ≤ length bytes)
record_inside bytes size e =
    let w = whole bytes size e in
    (omega (arith, w.is_size), omega (arith, w.is_size, w.inside))

-- no bytes, no records
pub records_none : records [] ≡ []
unfolding records records_by records_within
records_none = refl

-- a record, and those after it
pub records_first : (bytes : List ℕ) (size : ℕ) → record_reach bytes ≡ ends size → records bytes ≡ some (record_in bytes) ∷ records (drop size bytes)
unfolding records
records_first bytes size e = by_first in_bytes record_inside bytes size e

-- one with too many words, and no more
pub records_wrong : (bytes : List ℕ) → record_reach bytes ≡ wrong → records bytes ≡ none ∷ []
unfolding records
records_wrong [] e = absurd (let w = too_many [] e in omega (arith, w.0))
records_wrong (b ∷ bytes) e = by_wrong in_bytes record_inside b bytes e

-- one that is cut off, and no more
pub records_cut : (b : ℕ) (bytes : List ℕ) → record_reach (b ∷ bytes) ≡ cut_off → records (b ∷ bytes) ≡ none ∷ []
unfolding records
records_cut b bytes e = by_cut in_bytes record_inside b bytes e

-- ---- the header

-- words that start with some start with them whatever follows
starts_before : (us bytes more : List ℕ) → length us ≤ length bytes → starts us (bytes ++ more) ≡ starts us bytes
unfolding starts
starts_before [] bytes more h = refl
starts_before (u ∷ us) [] more h = absurd (omega arith)
starts_before (u ∷ us) (b ∷ bytes) more h = rw (starts_before us bytes more (omega arith))

-- too few do not
starts_short : (us bytes : List ℕ) → length bytes < length us → starts us bytes ≡ false
unfolding starts
starts_short [] bytes h = absurd (omega arith)
starts_short (u ∷ us) [] h = refl
starts_short (u ∷ us) (b ∷ bytes) h = go (eqb b u) (starts_short us bytes (omega arith))
  where
    go : (t : Bool) → starts us bytes ≡ false → t && starts us bytes ≡ false
    go true e = e
    go false e = refl

-- a header has five bytes
header_length : length header ≡ HEADER_BYTES
unfolding header number_bytes
header_length = refl

-- what an answer of `header_reach` tells
unfoldable HeaderTold : List ℕ → Reach → Type 0
HeaderTold bytes (ends size) = (size ≡ HEADER_BYTES) × (HEADER_BYTES ≤ length bytes) × (starts header bytes ≡ true)
HeaderTold bytes cut_off = starts header bytes ≡ false
HeaderTold bytes wrong = (HEADER_BYTES ≤ length bytes) × (starts header bytes ≡ false)

-- it is told by the tests
header_told : (bytes : List ℕ) → HeaderTold bytes (header_reach bytes)
unfolding header_reach HeaderTold
header_told bytes = go (ltb (length bytes) HEADER_BYTES) (starts header bytes) refl refl
  where
    go : (a b : Bool) → ltb (length bytes) HEADER_BYTES ≡ a → starts header bytes ≡ b
        → HeaderTold bytes (cond a cut_off (cond b (ends HEADER_BYTES) wrong))
    go true b e f = starts_short header bytes (let h = ltb-true (length bytes) HEADER_BYTES e in omega (arith, header_length))
    go false true e f = (refl, ltb-false (length bytes) HEADER_BYTES e, f)
    go false false e f = (ltb-false (length bytes) HEADER_BYTES e, f)

-- a right header lies in the bytes
pub header_inside : (bytes : List ℕ) (size : ℕ) → header_reach bytes ≡ ends size → size ≤ length bytes
unfolding HeaderTold
header_inside bytes size e = let w = subst (HeaderTold bytes) e (header_told bytes) in rw w.0 w.1

module _ (bytes more : List ℕ) where
  -- a right header is right whatever follows, and what follows it has more behind
  pub header_right : (size : ℕ) → header_reach bytes ≡ ends size
      → (starts header (bytes ++ more) ≡ true) × (drop HEADER_BYTES (bytes ++ more) ≡ drop size bytes ++ more)
  unfolding HeaderTold
  header_right size e =
      let w = subst (HeaderTold bytes) e (header_told bytes) in
      let h = w.1 in (
        starts_before header bytes more (omega (arith, header_length)) ∙ w.2,
        drop-append-le HEADER_BYTES bytes more h ∙ ap (λ (n : ℕ). drop n bytes ++ more) (sym w.0),
      )

  -- a wrong one is wrong
  pub header_wrong : header_reach bytes ≡ wrong → starts header (bytes ++ more) ≡ false
  unfolding HeaderTold
  header_wrong e =
      let w = subst (HeaderTold bytes) e (header_told bytes) in
      let h = w.0 in
      starts_before header bytes more (omega (arith, header_length)) ∙ w.1

-- one that is cut off is none
pub header_cut : (bytes : List ℕ) → header_reach bytes ≡ cut_off → starts header bytes ≡ false
unfolding HeaderTold
header_cut bytes e = subst (HeaderTold bytes) e (header_told bytes)

-- ---- as calls

-- a record's calls
pub calls_first : (bytes : List ℕ) (size : ℕ) → record_reach bytes ≡ ends size → calls_in bytes ≡ record_call (record_in bytes) ∷ calls_in (drop size bytes)
unfolding calls_in bind
calls_first bytes size e = ap (map (λ (r : Option Record). bind r record_call)) (records_first bytes size e)

-- where there is none
pub calls_bad : (bytes : List ℕ) → records bytes ≡ none ∷ [] → calls_in bytes ≡ none ∷ []
unfolding calls_in bind
calls_bad bytes e = ap (map (λ (r : Option Record). bind r record_call)) e

-- and where there are no bytes
pub calls_none : calls_in [] ≡ []
unfolding calls_in
calls_none = ap (map (λ (r : Option Record). bind r record_call)) records_none
