-- The three numbers that the walk over an id's fields keeps say whether it is right and how many words it has: what the loop of
-- `id.rt` turns on. What was counted so far and the fields that are left decide.
use Prim.Native.Nat.{ℕ, suc, ◌+◌, ◌<◌, ◌≤◌}
use mathlib.Core.Path.{◌≡◌, refl, sym, ap, ◌∙◌}
use mathlib.Core.Bool.{Bool, true, false, cond, ◌&&◌, and-false}
use mathlib.Core.List.{List, [], ◌∷◌, map}
use mathlib.Core.Option
use mathlib.Core.Option.{Option, none, some, bind}
use Rattle.std.specs.Prelude.{Some, None}
use native.Mathlib.Nat.{add-zero, zero-add}
use native.Mathlib.Omega.{arith}
use lib.Dec.{eqb, leb, ltb}
use lib.ListN.{length, length-map}
use borrow.Author.Tests.{lt-leb, le-ltb, leb-false, ltb-true, ltb-false, eq-eqb, ne_eqb}
use Rattle.rules.specs.Table.{all, keep, is_some}
use Rattle.rules.specs.State.{Id}
use Rattle.rules.specs.Groups.{Group}
use Rattle.rules.proofs.Table.{by_test}
use Rattle.wire.specs.Fields.{field, fields, left}
use Rattle.wire.specs.Fields as wire
use Rattle.wire.specs.Select.{numbered, uint64, required, up_to, numbers}
use Rattle.wire.specs.Ids.{id_of, group_of}
use Rattle.wire.proofs.Fields.{left_start, left_end}
use Rattle.wire.proofs.Ids.{group_short}
use Rattle.wire_fields.specs.Found.{as_field, answered}
use Rattle.wire_fields.specs.declared.field.Field.{Field}
use Rattle.wire_fields.proofs.Walks.{Stands, left_on, left_bad}
use Rattle.wire_ids.specs.Parts.{words_in, one_more, counted, parts_with, parts_after}
use Rattle.wire_ids.specs.declared.id.Parts.{Parts}

-- ---- what is told of an id

-- how many words the ack set of an id has that is there; 17, one too many, where it is not
unfoldable pub found_words : Option Group → ℕ
found_words none = 17
found_words (some g) = length g.words

-- what the three numbers say: how many words, or 17
unfoldable pub words_told : Parts → ℕ
words_told p = cond (eqb p.ledgers 1 && eqb p.entries 1) p.words 17

-- the same of the fields from a place on, after what was counted before; they may not be there
unfoldable pub told_after : Parts → Option (List wire.Field) → ℕ
told_after p none = 17
told_after p (some fs) = words_told (parts_after p fs)

-- a field is a varint
abbrev is_varint : wire.Field → Bool
is_varint f = eqb f.wire 0

-- ---- one number

-- all fields of a list that are of one number
unfoldable all_counted : ℕ → ℕ → List wire.Field → ℕ
all_counted most n [] = n
all_counted most n (f ∷ fs) = all_counted most (one_more most f.wire n) fs

-- what is too many stays so
stays : (k type : ℕ) → one_more (suc k) type (suc k) ≡ suc k
unfolding one_more
stays k type = rw (le-ltb (suc k) (suc k) (omega arith), and-false (eqb type 0))

-- whatever follows
all_stay : (k : ℕ) (fs : List wire.Field) → all_counted (suc k) (suc k) fs ≡ suc k
unfolding all_counted
all_stay k [] = refl
all_stay k (f ∷ fs) = rw (stays k f.wire) (all_stay k fs)

-- the number is how many there are if they are at most k and all varints, and else k + 1
count_law : (k n : ℕ) (fs : List wire.Field) → n ≤ suc k
    → all_counted (suc k) n fs ≡ cond (leb (n + length fs) k && all is_varint fs) (n + length fs) (suc k)
unfolding all_counted all one_more
count_law k n [] h =
    rw (add-zero n) (by_test (leb n k) (λ t. rw t) (λ t. let l = leb-false n k t in rw t (omega arith)))
count_law k n (f ∷ fs) h =
    by_test (eqb f.wire 0)
    (λ t. by_test (ltb n (suc k))
    (λ u.
    let l = ltb-true n (suc k) u in
    let e : n + suc (length fs) ≡ n + 1 + length fs = omega arith in
    rw (t, u, e) (count_law k (n + 1) fs (omega arith)))
    (λ u.
    let l = ltb-false n (suc k) u in
    rw (t, u, lt-leb (n + suc (length fs)) k (omega arith)) (all_stay k fs)))
    (λ t. rw (t, and-false (leb (n + suc (length fs)) k)) (all_stay k fs))

-- 1 is one varint: a number that has to be there is there
one_told : (fs : List wire.Field) → eqb (all_counted 2 0 fs) 1 ≡ is_some (required uint64 fs)
unfolding all_counted one_more required uint64 is_some
one_told [] = refl
one_told (f ∷ []) = by_test (eqb f.wire 0) (λ t. rw t) (λ t. rw t)
one_told (f ∷ g ∷ fs) =
    let e : all_counted 2 0 (f ∷ g ∷ fs) ≡ 2 =
    count_law 1 0 (f ∷ g ∷ fs) (omega arith) ∙ rw (lt-leb (0 + suc (suc (length fs))) 1 (omega arith)) in
    ap (λ (n : ℕ). eqb n 1) e

-- at most 16 are the words of an id
words_law : (id : Id) (fs : List wire.Field)
    → found_words (bind (numbers 16 fs) (λ (words : List ℕ). some (record { id = id; words = words }))) ≡ all_counted 17 0 fs
unfolding found_words bind numbers up_to
words_law id fs = sym (count_law 16 0 fs (omega arith) ∙ rw (zero-add (length fs)) (sym (go (leb (length fs) 16 && all is_varint fs))))
  where
    go : (t : Bool)
        → found_words
        (bind
        (Option.map (map (λ (f : wire.Field). f.value)) (cond t (some fs) none))
        (λ (words : List ℕ). some (record { id = id; words = words })))
        ≡ cond t (length fs) 17
    go true = length-map fs (λ (f : wire.Field). f.value)
    go false = refl

-- ---- all three

-- nothing was counted yet
abbrev pub no_parts : Parts
no_parts = record { ledgers = 0; entries = 0; words = 0 }

-- a field in front of others is counted if it is of the number
counted_first : (wanted most n : ℕ) (f : wire.Field) (fs : List wire.Field)
    → all_counted most (counted wanted most f.number f.wire n) (numbered wanted fs) ≡ all_counted most n (numbered wanted (f ∷ fs))
unfolding all_counted counted numbered keep
counted_first wanted most n f fs = by_test (eqb f.number wanted) (λ t. rw t) (λ t. rw t)

-- so each of the three is that of its number's fields
parts_law : (p : Parts) (fs : List wire.Field)
    → parts_after p fs
    ≡ record {
      ledgers = all_counted 2 p.ledgers (numbered 1 fs);
      entries = all_counted 2 p.entries (numbered 2 fs);
      words = all_counted 17 p.words (numbered 5 fs);
    }
unfolding parts_after parts_with all_counted numbered keep
parts_law p [] = refl
parts_law p (f ∷ fs) =
    parts_law (parts_with f.number f.wire p) fs
    ∙ rw (
      counted_first 1 2 p.ledgers f fs,
      counted_first 2 2 p.entries f fs,
      counted_first 5 17 p.words f fs,
    )

-- the three say what the fields do
told_law : (fs : List wire.Field)
    → found_words
    (bind (id_of fs) (λ (id : Id). bind (numbers 16 (numbered 5 fs)) (λ (words : List ℕ). some (record { id = id; words = words }))))
    ≡ words_told (parts_after no_parts fs)
unfolding words_told id_of bind is_some found_words
told_law fs =
    rw (parts_law no_parts fs, one_told (numbered 1 fs), one_told (numbered 2 fs))
    (go (required uint64 (numbered 1 fs)) (required uint64 (numbered 2 fs)))
  where
    go : (a b : Option ℕ)
        → found_words
        (bind
        (bind a (λ (ledger : ℕ). bind b (λ (entry : ℕ). some (record { ledger = ledger; entry = entry }))))
        (λ (id : Id). bind (numbers 16 (numbered 5 fs)) (λ (words : List ℕ). some (record { id = id; words = words }))))
        ≡ cond (is_some a && is_some b) (all_counted 17 0 (numbered 5 fs)) 17
    go none b = refl
    go (some ledger) none = refl
    go (some ledger) (some entry) = words_law _ (numbered 5 fs)

-- ---- what is answered

-- 17 words are told: there is no id
told_none : (m : List ℕ) (n : ℕ) → n ≡ found_words (group_of m) → 16 < n → None ≡ answered words_in (group_of m)
unfolding found_words answered
told_none m n e h = go (group_of m) refl e
  where
    go : (i : Option Group) → group_of m ≡ i → n ≡ found_words i → None ≡ answered words_in i
    go none p q = refl
    go (some g) p q = let s = group_short m g p in absurd (omega arith)

-- at most 16 are: there is one with as many
told_some : (m : List ℕ) (n : ℕ) → n ≡ found_words (group_of m) → n ≤ 16 → Some n ≡ answered words_in (group_of m)
unfolding found_words answered
told_some m n e h = go (group_of m) e
  where
    go : (i : Option Group) → n ≡ found_words i → Some n ≡ answered words_in i
    go none q = absurd (omega arith)
    go (some g) q = rw q

-- ---- the loop

-- what was counted up to a place, and what is left, tell the words of the id
pub record Partly (m : List ℕ) (at : ℕ) (p : Parts) : Type 0 where
  pub inside : at ≤ length m
  pub rest : found_words (group_of m) ≡ told_after p (left m at)

module _ (m : List ℕ) where
  -- nothing was counted yet
  pub partly_start : Partly m 0 no_parts
  unfolding group_of bind told_after found_words
  partly_start = record { inside = omega arith; rest = rw (left_start m) (go (fields m)) }
    where
      go : (o : Option (List wire.Field))
          → found_words
          (bind o (λ (fs : List wire.Field). bind (id_of fs) (λ (id : Id).
          bind (numbers 16 (numbered 5 fs)) (λ (words : List ℕ). some (record { id = id; words = words })))))
          ≡ told_after no_parts o
      go none = refl
      go (some fs) = told_law fs

  module _ {at : ℕ} {p : Parts} (c : Partly m at p) where
    -- at the end the three numbers are told
    pub partly_end : length m ≤ at → words_told p ≡ found_words (group_of m)
    unfolding told_after parts_after
    partly_end h = sym (c.rest ∙ rw (left_end m at h))

    -- where no field is, it is no id
    pub partly_bad : at < length m → field m at ≡ none → None ≡ answered words_in (group_of m)
    unfolding told_after
    partly_bad h e = told_none m 17 (sym (c.rest ∙ rw (left_bad m at h e))) (omega arith)

    -- a field more
    pub partly_on : at < length m → (f : Field) → Stands m at f → (q : Parts) → q ≡ parts_with f.number f.wire p
        → Partly m f.next q
    unfolding told_after parts_after as_field
    partly_on h f w q e =
        record {
          inside = w.ends;
          rest = c.rest ∙ ap (told_after p) (left_on m at f h w) ∙ go (left m f.next) ∙ rw (e, w.same);
        }
      where
        go : (o : Option (List wire.Field))
            → told_after p (Option.map (λ (l : List wire.Field). w.g ∷ l) o) ≡ told_after (parts_with w.g.number w.g.wire p) o
        go none = refl
        go (some l) = refl

    -- the ways out after the end: not one ledger, not one entry, one of each and too many words or few
    pub no_ledger : length m ≤ at → (p.ledgers ≡ 1 → ⊥) → None ≡ answered words_in (group_of m)
    unfolding words_told
    no_ledger h n = told_none m 17 (rw (ne_eqb p.ledgers 1 n) at (partly_end h)) (omega arith)

    pub no_entry : length m ≤ at → (p.entries ≡ 1 → ⊥) → None ≡ answered words_in (group_of m)
    unfolding words_told
    no_entry h n = told_none m 17 (rw (ne_eqb p.entries 1 n, and-false (eqb p.ledgers 1)) at (partly_end h)) (omega arith)

    has_both : length m ≤ at → p.ledgers ≡ 1 → p.entries ≡ 1 → p.words ≡ found_words (group_of m)
    unfolding words_told
    has_both h l e = rw (eq-eqb p.ledgers 1 l, eq-eqb p.entries 1 e) at (partly_end h)

    pub many_words : length m ≤ at → p.ledgers ≡ 1 → p.entries ≡ 1 → 16 < p.words → None ≡ answered words_in (group_of m)
    many_words h l e w = told_none m p.words (has_both h l e) w

    pub few_words : length m ≤ at → p.ledgers ≡ 1 → p.entries ≡ 1 → p.words ≤ 16 → Some p.words ≡ answered words_in (group_of m)
    few_words h l e w = told_some m p.words (has_both h l e) w
