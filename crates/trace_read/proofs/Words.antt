-- The words of a record read one after another: what the loop of `read_words` turns on.
use Prim.Native.Nat.{ℕ, suc, ◌+◌, ◌-◌, ◌/◌, ◌<◌}
use mathlib.Core.Path.{◌≡◌}
use mathlib.Core.List.{List}
use native.Mathlib.Omega.{arith}
use lib.ListN.{length, set, take, drop}
use lib.Seq.{drop-drop}
use Rattle.words.specs.Wrote.{Wrote}
use Rattle.words.proofs.Writers.{wrote_byte, Left, left_start, left_on, left_end}
use Rattle.trace.specs.Format.{number, MOST_WORDS, FRONT_BYTES, record_size, record_reach, words_in, record_in}
use Rattle.trace.specs.Format.Reach.{ends}
use Rattle.trace.proofs.Format.{count_in, Whole, whole}

-- Of the words of a whole record n are read: the others, laid from the n-th place on, finish all.
pub record Begun (bytes before now : List ℕ) (n : ℕ) : Type 0 where
  pub is_whole : Whole bytes (length bytes)
  pub rest : Left before 0 (record_in bytes).words now n (words_in (count_in bytes - n) (drop (record_size n) bytes))

-- none at first
pub begun_start : (bytes before : List ℕ) → record_reach bytes ≡ ends (length bytes) → Begun bytes before before 0
unfolding record_in
begun_start bytes before e =
    let f : count_in bytes - 0 ≡ count_in bytes = omega arith in
    record {
      is_whole = whole bytes (length bytes) e;
      rest = rw f (left_start before 0 (words_in (count_in bytes) (drop FRONT_BYTES bytes)));
    }

-- as many as the bytes behind its front have room for
pub as_many : (bytes : List ℕ) → record_reach bytes ≡ ends (length bytes) → (length bytes - FRONT_BYTES) / 8 ≡ count_in bytes
as_many bytes e = let w = whole bytes (length bytes) e in omega (arith, w)

module _ {bytes before now : List ℕ} {n : ℕ} (p : Begun bytes before now n) where
  -- one word more
  pub begun_on : {word : ℕ} → n < count_in bytes → word ≡ number (take 8 (drop (record_size n) bytes)) → Begun bytes before (set now n word) (n + 1)
  unfolding words_in
  begun_on {word} h is =
      let e : count_in bytes - n ≡ suc (count_in bytes - (n + 1)) = omega arith in
      let there : record_size n + 8 ≡ record_size (n + 1) = omega arith in
      record {
        is_whole = p.is_whole;
        rest = rw (← there) (left_on (rw (e, drop-drop 8 (record_size n) bytes, ← is) at p.rest) (wrote_byte now n word));
      }

  -- all of them
  pub begun_end : n ≡ count_in bytes → Wrote MOST_WORDS before 0 (record_in bytes).words now n
  unfolding words_in
  begun_end h =
      let e : count_in bytes - n ≡ 0 = omega arith in
      let l = rw e at p.rest in
      left_end MOST_WORDS (omega (arith, p.is_whole)) l
