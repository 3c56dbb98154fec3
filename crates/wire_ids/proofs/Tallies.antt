-- Ids counted field by field: what the loop of `size.rt` turns on. The tally so far and the fields that are left decide what the
-- ids take in all.
use Prim.Native.Nat.{ℕ, zero, suc, ◌+◌, ◌-◌, ◌*◌, ◌<◌, ◌≤◌}
use mathlib.Core.Path.{◌≡◌, refl, sym, ap, ◌∙◌}
use mathlib.Core.Bool.{true, false, cond, and-false}
use mathlib.Core.List.{List, [], ◌∷◌}
use mathlib.Core.Option.{Option, none, some, map, bind}
use Rattle.std.specs.Prelude.{Some, None}
use Rattle.std.specs.Prelude as code
use native.Mathlib.Nat.{add-zero, pos_of_ne-zero}
use native.Mathlib.Omega.{arith}
use lib.Dec.{eqb, leb}
use lib.ListN.{length, take, drop, length-append}
use borrow.Author.Tests.{le-leb, lt-leb, leb-true, leb-false, eqb-false, eq-eqb, ne_eqb}
use Rattle.rules.specs.Table.{all, keep}
use Rattle.rules.specs.Groups.{Group}
use Rattle.rules.proofs.Table.{by_test}
use Rattle.wire.specs.Fields.{field, fields, left}
use Rattle.wire.specs.Fields as wire
use Rattle.wire.specs.Select.{numbered, up_to, bytes_of}
use Rattle.wire.specs.Ids.{group_of, groups_of, id_list, group_words, list_words}
use Rattle.wire.proofs.Fields.{left_start, left_end}
use Rattle.wire.proofs.Ids.{group_short}
use Rattle.wire_fields.specs.Found.{as_field, answered}
use Rattle.wire_fields.specs.declared.field.Field.{Field}
use Rattle.wire_fields.proofs.Walks.{Stands, left_on, left_bad}
use Rattle.wire_fields.proofs.Answered.{from_some, from_none}
use Rattle.wire_ids.specs.Parts.{words_in}
use Rattle.wire_ids.specs.Sizes.{ids_of, size_of, tallied, tally_id, tally_with}
use Rattle.wire_ids.specs.declared.size.Tally.{Tally}

-- at most one more field of a repeated one
up_to_on : (k : ℕ) (f : wire.Field) (l : List wire.Field) → eqb f.wire 2 ≡ true
    → up_to (suc k) 2 (f ∷ l) ≡ map (λ (r : List wire.Field). f ∷ r) (up_to k 2 l)
unfolding up_to all
up_to_on k f l t =
    by_test (leb (length l) k)
    (λ u. rw (le-leb (suc (length l)) (suc k) (more u), u, t) (by_test (all (λ (g : wire.Field). eqb g.wire 2) l) (λ v. rw v) (λ v. rw v)))
    (λ u. rw (lt-leb (suc (length l)) (suc k) (fewer u), u))
  where
    more : leb (length l) k ≡ true → suc (length l) ≤ suc k
    more u = let h = leb-true (length l) k u in omega arith

    fewer : leb (length l) k ≡ false → suc k < suc (length l)
    fewer u = let h = leb-false (length l) k u in omega arith

-- one of another wire type, or none allowed
up_to_other : (k : ℕ) (f : wire.Field) (l : List wire.Field) → eqb f.wire 2 ≡ false → up_to k 2 (f ∷ l) ≡ none
unfolding up_to all
up_to_other k f l t = rw (t, and-false (leb (suc (length l)) k))

up_to_full : (f : wire.Field) (l : List wire.Field) → up_to 0 2 (f ∷ l) ≡ none
unfolding up_to
up_to_full f l = rw (lt-leb (suc (length l)) 0 (omega arith))

up_to_nothing : (k : ℕ) → up_to k 2 [] ≡ some []
unfolding up_to all
up_to_nothing k = rw (le-leb 0 k (omega arith))

-- the words of ids, after some others
unfoldable size_after : ℕ → Option (List Group) → code.Option ℕ
size_after words none = None
size_after words (some ids) = Some (words + length (list_words ids))

-- one group in front of others
group_first : (words : ℕ) (g : Group) (o : Option (List Group))
    → size_after words (map (λ (l : List Group). g ∷ l) o) ≡ size_after (words + (3 + length g.words)) o
unfolding size_after list_words group_words
group_first words g none = refl
group_first words g (some ids) =
    let e = length-append g.words (list_words ids) in
    ap Some (omega arith)

-- an id takes 19 words at most
id_room : (t u : Tally) (bytes : List ℕ) (i : Option Group) → group_of bytes ≡ i → 0 < t.left → t.words + 19 * t.left ≤ 1216
    → Some u ≡ tallied t i → u.words + 19 * u.left ≤ 1216
unfolding tallied
id_room t u bytes none p h r e = let n : ◌≡◌ {A = ℕ} 0 1 = cc in absurd (omega arith)
id_room t u bytes (some g) p h r e =
    let q : u ≡ record { left = t.left - 1; words = t.words + (3 + length g.words) } = cc in
    let s = group_short bytes g p in
    rw q (omega arith)

module _ (m : List ℕ) (number : ℕ) where
  -- a tally that goes on or not
  unfoldable pub tally_on : code.Option Tally → (Tally → code.Option ℕ) → code.Option ℕ
  tally_on (Some t) rest = rest t
  tally_on None rest = None

  -- the tally of some fields
  unfoldable pub tally_fields : List wire.Field → Tally → code.Option ℕ
  tally_fields [] t = Some t.words
  tally_fields (f ∷ fs) t = tally_on (tally_with m number (as_field f) t) (tally_fields fs)

  -- an id in front of others
  id_first : (left words : ℕ) (f : wire.Field) (o : Option (List wire.Field)) (i : Option Group) → group_of (bytes_of m f) ≡ i
      → size_after words (bind (map (λ (r : List wire.Field). f ∷ r) o) (groups_of m))
      ≡ tally_on (tallied (record { left = suc left; words = words }) i) (λ (t : Tally). size_after t.words (bind o (groups_of m)))
  unfolding size_after bind groups_of tallied tally_on
  id_first left words f none none e = refl
  id_first left words f none (some g) e = refl
  id_first left words f (some r) none e = rw e
  id_first left words f (some r) (some g) e = rw e (group_first words g (groups_of m r))

  -- one id fewer is left
  one_fewer : (k words : ℕ) (i : Option Group) (h : ℕ → ℕ → code.Option ℕ)
      → tally_on (tallied (record { left = suc k; words = words }) i) (λ (t : Tally). h k t.words)
      ≡ tally_on (tallied (record { left = suc k; words = words }) i) (λ (t : Tally). h t.left t.words)
  unfolding tally_on tallied
  one_fewer k words none h = refl
  one_fewer k words (some g) h =
      let e : k ≡ suc k - 1 = omega arith in ap (λ (j : ℕ). h j (words + (3 + length g.words))) e

  -- what goes on alike
  same_on : (x : code.Option Tally) (g h : Tally → code.Option ℕ) → ((t : Tally) → g t ≡ h t) → tally_on x g ≡ tally_on x h
  unfolding tally_on
  same_on (Some t) g h e = e t
  same_on None g h e = refl

  -- a field in front of others
  field_first : (left words : ℕ) (f : wire.Field) (fs : List wire.Field) → (t : Tally) → t ≡ record { left = left; words = words }
      → eqb f.number number ≡ true
      → size_after words (bind (up_to left 2 (f ∷ numbered number fs)) (groups_of m))
      ≡ tally_on (tally_with m number (as_field f) t) (λ (u : Tally). size_after u.words (bind (up_to u.left 2 (numbered number fs)) (groups_of m)))
  unfolding tally_with tally_id as_field size_after bind tally_on
  field_first left words f fs t e n =
      rw (e, n)
      (by_test (eqb f.wire 2)
      (λ u. rw u (go left u))
      (λ u. rw (u, up_to_other left f (numbered number fs) u)))
    where
      go : (left : ℕ) → eqb f.wire 2 ≡ true
          → size_after words (bind (up_to left 2 (f ∷ numbered number fs)) (groups_of m))
          ≡ tally_on
          (cond (eqb left 0) None (tallied (record { left = left; words = words }) (group_of (bytes_of m f))))
          (λ (u : Tally). size_after u.words (bind (up_to u.left 2 (numbered number fs)) (groups_of m)))
      go zero u = rw (up_to_full f (numbered number fs))
      go (suc k) u =
          rw (up_to_on k f (numbered number fs) u, ne_eqb (suc k) 0 (λ z. omega arith))
          (id_first k words f (up_to k 2 (numbered number fs)) (group_of (bytes_of m f)) refl
          ∙ one_fewer k words (group_of (bytes_of m f)) (λ (j w : ℕ). size_after w (bind (up_to j 2 (numbered number fs)) (groups_of m))))

  -- a field of another number
  passed_by : (f : wire.Field) (fs : List wire.Field) (t : Tally) → eqb f.number number ≡ false
      → tally_on (tally_with m number (as_field f) t) (tally_fields fs) ≡ tally_fields fs t
  unfolding tally_with as_field tally_on
  passed_by f fs t n = rw n

  -- where nothing follows, nothing is told
  nothing : (x : code.Option Tally) → tally_on x (λ (t : Tally). None) ≡ None
  unfolding tally_on
  nothing (Some t) = refl
  nothing None = refl

  -- so the tally is of the ids under the number
  tally_law : (fs : List wire.Field) (left words : ℕ)
      → size_after words (bind (up_to left 2 (numbered number fs)) (groups_of m)) ≡ tally_fields fs (record { left = left; words = words })
  unfolding tally_fields size_after numbered keep bind groups_of list_words
  tally_law [] left words = rw (up_to_nothing left) (ap Some (add-zero words))
  tally_law (f ∷ fs) left words =
      let t : Tally = record { left = left; words = words } in
      by_test (eqb f.number number)
      (λ n. rw n
      (field_first left words f fs t refl n
      ∙ same_on (tally_with m number (as_field f) t) _ (tally_fields fs) (λ u. tally_law fs u.left u.words)))
      (λ n. rw n (tally_law fs left words ∙ sym (passed_by f fs t n)))

  -- the tally of fields that may be there, from a place on
  unfoldable pub tally_left : Option (List wire.Field) → Tally → code.Option ℕ
  tally_left none t = None
  tally_left (some fs) t = tally_fields fs t

  size_start : answered size_of (ids_of m number) ≡ tally_left (fields m) (record { left = 64; words = 0 })
  unfolding ids_of answered tally_left bind id_list size_after
  size_start = go (fields m)
    where
      first : (o : Option (List Group)) → answered size_of o ≡ size_after 0 o
      first none = refl
      first (some ids) = ap Some (omega arith)

      go : (o : Option (List wire.Field))
          → answered size_of (bind o (λ (fs : List wire.Field). id_list m (numbered number fs))) ≡ tally_left o (record { left = 64; words = 0 })
      go none = refl
      go (some fs) = first (bind (up_to 64 2 (numbered number fs)) (groups_of m)) ∙ tally_law fs 64 0

  -- a field leaves room for the ids that may follow
  tally_room : (f : Field) (t u : Tally) → t.words + 19 * t.left ≤ 1216 → Some u ≡ tally_with m number f t
      → u.words + 19 * u.left ≤ 1216
  unfolding tally_with tally_id
  tally_room f t u r e =
      by_test (eqb f.number number)
      (λ n. by_test (eqb f.wire 2)
      (λ v. by_test (eqb t.left 0)
      (λ z. never (rw (n, v, z) at e))
      (λ z. id_room t u (bytes_of_code f) (group_of (bytes_of_code f)) refl (pos_of_ne-zero (eqb-false t.left 0 z)) r (rw (n, v, z) at e)))
      (λ v. never (rw (n, v) at e)))
      (λ n. let q : u ≡ t = same (rw n at e) in rw q r)
    where
      bytes_of_code : Field → List ℕ
      bytes_of_code f = take (f.next - f.start) (drop f.start m)

      never : {P : Type 0} → Some u ≡ None → P
      never z = let n : ◌≡◌ {A = ℕ} 0 1 = cc in absurd (omega arith)

      same : Some u ≡ Some t → u ≡ t
      same z = cc

  -- the tally so far, with room for what may follow, and the fields that are left are all ids
  pub record Counted (at : ℕ) (t : Tally) : Type 0 where
    pub inside : at ≤ length m
    pub room : t.words + 19 * t.left ≤ 1216
    pub rest : answered size_of (ids_of m number) ≡ tally_left (left m at) t

  pub counted_start : Counted 0 (record { left = 64; words = 0 })
  counted_start = record { inside = omega arith; room = omega arith; rest = rw (left_start m) size_start }

  module _ {at : ℕ} {t : Tally} (c : Counted at t) where
    pub counted_end : length m ≤ at → Some t.words ≡ answered size_of (ids_of m number)
    unfolding tally_left tally_fields
    counted_end h = sym (c.rest ∙ rw (left_end m at h))

    pub counted_unformed : at < length m → field m at ≡ none → None ≡ answered size_of (ids_of m number)
    unfolding tally_left
    counted_unformed h e = sym (c.rest ∙ rw (left_bad m at h e))

    module _ (f : Field) (h : at < length m) (w : Stands m at f) where
      -- the field in front of what is left
      now_tally : answered size_of (ids_of m number) ≡ tally_on (tally_with m number f t) (tally_left (left m f.next))
      unfolding tally_left tally_fields
      now_tally =
          c.rest ∙ ap (λ (o : Option (List wire.Field)). tally_left o t) (left_on m at f h w)
          ∙ go (left m f.next) ∙ ap (λ (k : Field). tally_on (tally_with m number k t) (tally_left (left m f.next))) (sym w.same)
        where
          go : (o : Option (List wire.Field)) → tally_left (map (λ (l : List wire.Field). w.g ∷ l) o) t
              ≡ tally_on (tally_with m number (as_field w.g) t) (tally_left o)
          go none = sym (nothing (tally_with m number (as_field w.g) t))
          go (some l) = refl

      pub counted_bad : None ≡ tally_with m number f t → None ≡ answered size_of (ids_of m number)
      unfolding tally_on
      counted_bad e = sym (now_tally ∙ rw (← e))

      pub counted_on : (u : Tally) → Some u ≡ tally_with m number f t → Counted f.next u
      unfolding tally_on
      counted_on u e = record { inside = w.ends; room = tally_room f t u c.room e; rest = now_tally ∙ rw (← e) }

      -- a field of another number counts for nothing
      pub counted_past : (f.number ≡ number → ⊥) → Counted f.next t
      unfolding tally_with
      counted_past n = counted_on t (rw (ne_eqb f.number number n))

-- a field of the number is an id more
pub tally_here : (m : List ℕ) (number : ℕ) (f : Field) (t : Tally) → f.number ≡ number
    → tally_id (take (f.next - f.start) (drop f.start m)) f.wire t ≡ tally_with m number f t
unfolding tally_with
tally_here m number f t e = rw (eq-eqb f.number number e)

-- there is no id
pub tallied_none : (t : Tally) (bytes : List ℕ) → None ≡ answered words_in (group_of bytes) → tallied t (group_of bytes) ≡ None
unfolding tallied
tallied_none t bytes e = rw (from_none words_in (group_of bytes) e)

-- there is one, of at most 16 words
module _ (t : Tally) (bytes : List ℕ) (n : ℕ) (e : Some n ≡ answered words_in (group_of bytes)) where
  pub words_few : n ≤ 16
  words_few =
      let p = from_some words_in (group_of bytes) e in
      let s = group_short bytes p.x p.is in
      omega (arith, p.same)

  pub tallied_some : tallied t (group_of bytes) ≡ Some (record { left = t.left - 1; words = t.words + (3 + n) })
  unfolding tallied
  tallied_some =
      let p = from_some words_in (group_of bytes) e in
      let of : ℕ → code.Option Tally = λ k. Some (record { left = t.left - 1; words = t.words + (3 + k) }) in
      ap (tallied t) p.is ∙ ap of (sym p.same)
