-- What opening writes is the spelling of the empty state: the header's four words, and zeros.
use mathlib.Core.Path.{◌≡◌, refl, sym, ap, ap₂, ◌∙◌}
use mathlib.Core.Bool.{Bool, not}
use mathlib.Core.List.{List, ◌∷◌, ◌++◌}
use Prim.Native.Nat.{ℕ, suc, ◌+◌, ◌*◌, ◌≤◌, ◌<◌}
use native.Mathlib.Omega.{arith}
use lib.Dec.{eqb}
use lib.ListN.{length, set, drop, replicate, length-replicate, replicate-append-replicate}
use borrow.Author.Tests.{le-leb, lt-leb, le-ltb, lt-ltb}
use Rattle.words.specs.Codec.{bit, word, flag, asFlag, tag, asTag, zeros, pair, via}
use Rattle.words.proofs.Act.{lay_front}
use Rattle.rules.specs.Outcome.{guard}
use Rattle.rules.specs.Outcome.Outcome.{refused, done}
use Rattle.rules.specs.Outcome.Value.{nothing}
use Rattle.rules.specs.Calls.{needed, opened, opening, answer_word, value_number}
use Rattle.layout.specs.Layout.{layout_tag, header_codec, header_of, encode, put}
use Rattle.layout.specs.Calls.{words_after, open_outcome, open_answer, open_after}
use Rattle.layout.proofs.Body.{width_body, zero_body}
use Rattle.store.specs.Open.{opened_words}

-- the header of the empty state
opened_header : (e : ℕ) (leak noop : Bool) → header_codec.enc (header_of (opened e leak noop)) ≡ layout_tag ∷ e ∷ bit leak ∷ bit noop ∷ replicate 12 0
unfolding header_codec opened via pair tag asTag word flag asFlag zeros
opened_header e leak noop = refl

-- the words of the empty state
pub opened_encode : (e : ℕ) (leak noop : Bool) → encode (opened e leak noop) ≡ layout_tag ∷ e ∷ bit leak ∷ bit noop ∷ replicate (4092 + 128 * e) 0
unfolding encode opened
opened_encode e leak noop =
    let sum : 12 + (4080 + 128 * e) ≡ 4092 + 128 * e = omega arith in
    ap₂ {A = List ℕ} {B = List ℕ} ◌++◌ (opened_header e leak noop) (zero_body e leak noop ∙ ap (λ (n : ℕ). replicate n 0) (width_body e))
    ∙ ap (λ (l : List ℕ). layout_tag ∷ e ∷ bit leak ∷ bit noop ∷ l)
    (replicate-append-replicate 12 (4080 + 128 * e) 0 ∙ ap (λ (n : ℕ). replicate n 0) sum)

-- words over which the header's four words and zeros are laid
opened_front : (ws : List ℕ) (e leak noop m : ℕ) → 4 + m ≤ length ws → opened_words ws e (4 + m) leak noop ≡ layout_tag ∷ e ∷ leak ∷ noop ∷ (replicate m 0 ++ drop (4 + m) ws)
unfolding opened_words
opened_front ws e leak noop m h =
    let n : length (replicate {A = ℕ} (4 + m) 0) ≡ 4 + m = length-replicate (4 + m) 0 in
    let four : 4 + m ≡ suc (suc (suc (suc m))) = omega arith in
    ap (λ (l : List ℕ). set (set (set (set l 0 layout_tag) 1 e) 2 leak) 3 noop)
    (lay_front (replicate (4 + m) 0) ws (omega arith)
    ∙ ap₂ {A = ℕ} {B = ℕ} (λ j k. replicate j 0 ++ drop k ws) four n)

-- what is written is the opened state put in place
pub opened_put : (ws : List ℕ) (e : ℕ) (leak noop : Bool) → needed e ≤ length ws → opened_words ws e (4096 + 128 * e) (bit leak) (bit noop) ≡ put ws (opened e leak noop)
unfolding put needed opened
opened_put ws e leak noop h =
    let n : 4096 + 128 * e ≡ 4 + (4092 + 128 * e) = omega arith in
    ap (λ (k : ℕ). opened_words ws e k (bit leak) (bit noop)) n
    ∙ opened_front ws e (bit leak) (bit noop) (4092 + 128 * e) (omega arith)
    ∙ ap₂ {A = List ℕ} {B = ℕ} (λ l k. l ++ drop k ws) (sym (opened_encode e leak noop)) (sym n)

-- ---- the three ways an opening ends

-- a refusal is its number, and leaves the words
pub open_refused : (ws : List ℕ) (e leak noop k : ℕ) → open_outcome ws e leak noop ≡ refused k
    → record { answer : k ≡ open_answer ws e leak noop; words : ws ≡ open_after ws e leak noop }
unfolding open_answer open_after answer_word words_after
open_refused ws e leak noop k o = record { answer = rw o; words = rw o }

-- done, the answer is 0 and the words are the opened state's
pub open_done : (ws : List ℕ) (e leak noop : ℕ) {l n : ℕ} → open_outcome ws e leak noop ≡ done nothing (opened e (not (eqb leak 0)) (not (eqb noop 0))) → needed e ≤ length ws
    → l ≡ bit (not (eqb leak 0)) → n ≡ bit (not (eqb noop 0))
    → record { answer : 0 ≡ open_answer ws e leak noop; words : opened_words ws e (4096 + 128 * e) l n ≡ open_after ws e leak noop }
unfolding open_answer open_after answer_word words_after value_number
open_done ws e leak noop o h p q =
    record { answer = rw o; words = rw (o, p, q) (opened_put ws e (not (eqb leak 0)) (not (eqb noop 0)) h) }

-- 2 below the range
pub open_low : (ws : List ℕ) (e leak noop : ℕ) → e < 1 → open_outcome ws e leak noop ≡ refused 2
unfolding open_outcome opening guard
open_low ws e leak noop h = rw (lt-leb 1 e h)

-- and above it
pub open_high : (ws : List ℕ) (e leak noop : ℕ) → 1 ≤ e → 4096 < e → open_outcome ws e leak noop ≡ refused 2
unfolding open_outcome opening guard
open_high ws e leak noop a h = rw (le-leb 1 e a, lt-leb e 4096 h)

-- 3 where the store is too short
pub open_short : (ws : List ℕ) (e leak noop : ℕ) → 1 ≤ e → e ≤ 4096 → length ws < needed e → open_outcome ws e leak noop ≡ refused 3
unfolding open_outcome opening guard
open_short ws e leak noop a b h = rw (le-leb 1 e a, le-leb e 4096 b, lt-ltb (length ws) (needed e) h)

-- else done
pub open_whole : (ws : List ℕ) (e leak noop : ℕ) → 1 ≤ e → e ≤ 4096 → needed e ≤ length ws → open_outcome ws e leak noop ≡ done nothing (opened e (not (eqb leak 0)) (not (eqb noop 0)))
unfolding open_outcome opening guard
open_whole ws e leak noop a b h = rw (le-leb 1 e a, le-leb e 4096 b, le-ltb (length ws) (needed e) h)
