-- A trace as bytes (request A4): the mark `HBT`, a 16-bit version, then records: a kind byte, a 16-bit count n (at most
-- 1,217) and n words of 8 bytes, all high byte first.
use Rattle.std.specs.Prelude.{ℕ, zero, suc, ◌+◌, ◌*◌, ◌/◌, ◌%◌, cond, List, [], ◌∷◌, ◌++◌, ltb, length, get_or, take, drop}
use Rattle.std.proofs.Math.Option.{Option, none, some}
use Rattle.words.specs.Words.{starts}

-- ---- numbers, high byte first

-- the number that bytes after others spell
unfoldable pub number_from : ℕ → List ℕ → ℕ
number_from high [] = high
number_from high (b ∷ bytes) = number_from (high * 256 + b) bytes

-- the number that bytes spell
unfoldable pub number : List ℕ → ℕ
number bytes = number_from 0 bytes

-- a number in k bytes
unfoldable pub number_bytes : ℕ → ℕ → List ℕ
number_bytes zero n = []
number_bytes (suc k) n = number_bytes k (n / 256) ++ n % 256 ∷ []

-- ---- the header

-- the mark `HBT` and the version 1
unfoldable pub header : List ℕ
header = 72 ∷ 66 ∷ 84 ∷ number_bytes 2 1

-- the bytes of a header
abbrev pub HEADER_BYTES : ℕ
HEADER_BYTES = 5

-- ---- records

-- a record: its kind, and its words
pub record Record : Type 0 where
  pub kind : ℕ
  pub words : List ℕ

-- the most words of a record
abbrev pub MOST_WORDS : ℕ
MOST_WORDS = 1217

-- the bytes before a record's words: kind and count
abbrev pub FRONT_BYTES : ℕ
FRONT_BYTES = 3

-- the bytes of a record of n words
abbrev pub record_size : ℕ → ℕ
record_size n = FRONT_BYTES + 8 * n

-- how far something reaches from the front of some bytes: to a place in them; it is cut off, there are too few to tell; or
-- it is wrong, whatever follows
pub data Reach : Type 0 where
  ends : ℕ → Reach
  cut_off : Reach
  wrong : Reach

-- how far a record reaches in so many bytes or words: it has a front, whose count says how long it is in all, and is wrong where
-- that count is too large
abbrev pub reach_in : ℕ → ℕ → ℕ → ℕ → Reach
reach_in long front count size =
    cond (ltb long front) cut_off (cond (ltb MOST_WORDS count) wrong (cond (ltb long size) cut_off (ends size)))

-- how far the record at the front of some bytes reaches
unfoldable pub record_reach : List ℕ → Reach
record_reach bytes =
    let n = number (take 2 (drop 1 bytes)) in
    reach_in (length bytes) FRONT_BYTES n (record_size n)

-- how far the header reaches: wrong where mark or version is
unfoldable pub header_reach : List ℕ → Reach
header_reach bytes =
    cond (ltb (length bytes) HEADER_BYTES) cut_off (cond (starts header bytes) (ends HEADER_BYTES) wrong)

-- the first n words that bytes spell
unfoldable pub words_in : ℕ → List ℕ → List ℕ
words_in zero bytes = []
words_in (suc n) bytes = number (take 8 bytes) ∷ words_in n (drop 8 bytes)

-- the record at the front of some bytes, which is whole
unfoldable pub record_in : List ℕ → Record
record_in bytes =
    record { kind = get_or bytes 0 0; words = words_in (number (take 2 (drop 1 bytes))) (drop FRONT_BYTES bytes) }

-- ---- records one after the other

-- how records stand in bytes or words: how far the first one reaches, and which it is where it is whole
pub record Form : Type 0 where
  pub reach : List ℕ → Reach
  pub first : List ℕ → Record

-- the first record and those that are read after it; nothing where it is cut off or wrong, and no more
unfoldable pub first_record : Form → List ℕ → (List ℕ → List (Option Record)) → Reach → List (Option Record)
first_record form ws read (ends size) = some (form.first ws) ∷ read (drop size ws)
first_record form ws read cut_off = none ∷ []
first_record form ws read wrong = none ∷ []

-- at most k records
unfoldable pub records_within : Form → ℕ → List ℕ → List (Option Record)
records_within form zero ws = []
records_within form (suc k) [] = []
records_within form (suc k) (w ∷ ws) = first_record form (w ∷ ws) (records_within form k) (form.reach (w ∷ ws))

-- the records of a form
unfoldable pub records_by : Form → List ℕ → List (Option Record)
records_by form ws = records_within form (length ws) ws

-- records as they stand in a trace
abbrev pub in_bytes : Form
in_bytes = record { reach = record_reach; first = record_in }

-- the records of some bytes
unfoldable pub records : List ℕ → List (Option Record)
records bytes = records_by in_bytes bytes

-- ---- written

-- words, 8 bytes each
unfoldable pub words_bytes : List ℕ → List ℕ
words_bytes [] = []
words_bytes (w ∷ ws) = number_bytes 8 w ++ words_bytes ws

-- a record
unfoldable pub record_bytes : Record → List ℕ
record_bytes r = r.kind ∷ number_bytes 2 (length r.words) ++ words_bytes r.words
