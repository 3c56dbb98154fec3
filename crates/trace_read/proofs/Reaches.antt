-- How far a header or a record reaches, by the tests that the code makes.
use Prim.Native.Nat.{ℕ, ◌≤◌, ◌<◌}
use mathlib.Core.Path.{◌≡◌, refl, ap}
use mathlib.Core.Bool.{Bool, true, false}
use mathlib.Core.List.{List}
use lib.ListN.{length, get_or, take}
use borrow.Author.Tests.{lt-ltb, le-ltb}
use borrow.Author.Rules.{rules}
use Rattle.words.specs.Words.{starts}
use Rattle.words.proofs.Check.{starts_true}
use Rattle.trace.specs.Format.{number_from, number, number_bytes, header, HEADER_BYTES, header_reach}
use Rattle.trace.specs.Format.{MOST_WORDS, FRONT_BYTES, record_size, Reach, record_reach}
use Rattle.trace.specs.Format.Reach.{ends, cut_off, wrong}
use Rattle.trace.proofs.Format.{count_in}
use Rattle.trace_read.specs.Reached.{reached}
use Rattle.trace_read.specs.declared.Reach.TheVariants.{Ends, CutOff, Wrong}
use Rattle.trace_read.proofs.Numbers.{starts_number}

module _ (bytes : List ℕ) where
  -- ---- the header

  -- bytes that start with a header have its number
  started : starts header bytes ≡ true → number (take HEADER_BYTES bytes) ≡ number header
  unfolding header number_bytes
  started e = ap (λ (l : List ℕ). number (take HEADER_BYTES l)) (starts_true header bytes e)

  -- and the other way round
  starting : ((i : ℕ) → get_or bytes i 0 < 256) → HEADER_BYTES ≤ length bytes → number (take HEADER_BYTES bytes) ≡ number header
      → starts header bytes ≡ true
  unfolding header number_bytes number number_from
  starting f h e = (starts_number 0 0 header bytes (search rules) f h e).1

  -- so others do not start with it
  not_started : (number (take HEADER_BYTES bytes) ≡ number header → ⊥) → starts header bytes ≡ false
  not_started f = go (starts header bytes) refl
    where
      go : (t : Bool) → starts header bytes ≡ t → t ≡ false
      go true e = absurd (f (started e))
      go false e = refl

  -- too few bytes
  pub header_short : length bytes < HEADER_BYTES → CutOff ≡ reached (header_reach bytes)
  unfolding header_reach reached
  header_short h = rw (lt-ltb (length bytes) HEADER_BYTES h)

  module _ (h : HEADER_BYTES ≤ length bytes) where
    -- another number
    pub header_wrong : (number (take HEADER_BYTES bytes) ≡ number header → ⊥) → Wrong ≡ reached (header_reach bytes)
    unfolding header_reach reached
    header_wrong f = rw (le-ltb (length bytes) HEADER_BYTES h, not_started f)

    -- its number
    pub header_ends : ((i : ℕ) → get_or bytes i 0 < 256) → number (take HEADER_BYTES bytes) ≡ number header
        → Ends HEADER_BYTES ≡ reached (header_reach bytes)
    unfolding header_reach reached
    header_ends f e = rw (le-ltb (length bytes) HEADER_BYTES h, starting f h e)

  -- ---- a record

  -- too few bytes for its front
  pub record_short : length bytes < FRONT_BYTES → CutOff ≡ reached (record_reach bytes)
  unfolding record_reach reached
  record_short h = rw (lt-ltb (length bytes) FRONT_BYTES h)

  module _ (n : ℕ) (is : n ≡ count_in bytes) (h : FRONT_BYTES ≤ length bytes) where
    -- too many words
    pub record_wrong : MOST_WORDS < n → Wrong ≡ reached (record_reach bytes)
    unfolding record_reach reached
    record_wrong f = rw (le-ltb (length bytes) FRONT_BYTES h, ← is, lt-ltb MOST_WORDS n f)

    -- too few bytes for them
    pub record_cut : n ≤ MOST_WORDS → length bytes < record_size n → CutOff ≡ reached (record_reach bytes)
    unfolding record_reach reached
    record_cut f g = rw (le-ltb (length bytes) FRONT_BYTES h, ← is, le-ltb MOST_WORDS n f, lt-ltb (length bytes) (record_size n) g)

    -- all are there
    pub record_ends : n ≤ MOST_WORDS → record_size n ≤ length bytes → Ends (record_size n) ≡ reached (record_reach bytes)
    unfolding record_reach reached
    record_ends f g = rw (le-ltb (length bytes) FRONT_BYTES h, ← is, le-ltb MOST_WORDS n f, le-ltb (length bytes) (record_size n) g)

-- ---- the answer told back

-- it ends there
pub ends_there : (r : Reach) (size : ℕ) → Ends size ≡ reached r → r ≡ ends size
unfolding reached
ends_there (ends n) size e = cc
ends_there cut_off size e = cc
ends_there wrong size e = cc

-- it is cut off
pub cut_there : (r : Reach) → CutOff ≡ reached r → r ≡ cut_off
unfolding reached
cut_there (ends n) e = cc
cut_there cut_off e = refl
cut_there wrong e = cc

-- it is wrong
pub wrong_there : (r : Reach) → Wrong ≡ reached r → r ≡ wrong
unfolding reached
wrong_there (ends n) e = cc
wrong_there cut_off e = cc
wrong_there wrong e = refl
