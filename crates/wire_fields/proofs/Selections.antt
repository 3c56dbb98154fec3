-- What was seen under a number, and what a selection of the wire takes out of the fields of that number: the same. Other crates
-- cite `walked` and the laws of each selection.
use Prim.Native.Nat.{ℕ, zero, suc, ◌+◌, ◌*◌, ◌/◌, ◌%◌, ◌<◌, ◌≤◌}
use mathlib.Core.Path.{◌≡◌, refl, sym, ap, ◌∙◌}
use mathlib.Core.Bool.{Bool, true, false, cond, ◌&&◌, and-true, and-false}
use mathlib.Core.List.{List, [], ◌∷◌}
use mathlib.Core.Option.{Option, none, some}
use Rattle.std.specs.Prelude.{Some, None}
use native.Mathlib.Omega.{arith}
use native.Mathlib.Nat.{add-zero, zero-add}
use lib.Dec.{eqb, leb}
use lib.ListN.{length, get_or, replicate}
use borrow.Author.Tests.{ne_eqb, eqb-true, leb-true, leb-false, lt-leb}
use Rattle.rules.specs.Table.{keep, all}
use Rattle.rules.proofs.Table.{by_test}
use Rattle.wire.specs.Fields.{Field, fields}
use Rattle.wire.specs.Select.{numbered, required, optional, part, up_to}
use Rattle.wire_fields.specs.Found.{as_field, answered, as_is}
use Rattle.wire_fields.specs.Picked.{Wanted, wanted_of, nothing_seen, content_of, seen_with, seen_field, seen_after, all_seen, all_after, picked_after, picked}
use Rattle.wire_fields.specs.Selected.{is_one, number, optional_number, place, at_most, place_of}
use Rattle.wire_fields.proofs.Answered.{from_some, from_none, told_is, told_none}
use Rattle.wire_fields.specs.declared.pick.Seen.{Seen}
use Rattle.wire_fields.specs.declared.select.Place.{Place}

-- ---- what was seen of a list of fields

-- whether a field has a wire type
abbrev of_wire : ℕ → Field → Bool
of_wire wire f = eqb f.wire wire

-- how the fields of a number are counted after some others: one of another wire type counts as 65, and the count stops there
unfoldable pub count_after : ℕ → ℕ → List Field → ℕ
count_after wire n [] = n
count_after wire n (f ∷ l) = count_after wire (cond (of_wire wire f) (cond (leb 65 n) n (n + 1)) 65) l

-- what was seen is this of the fields of the number: how many there are, and what a single one is
pub record Saw (wire : ℕ) (l : List Field) (s : Seen) : Type 0 where
  pub count : s.count ≡ count_after wire 0 l
  pub single : (f : Field) → l ≡ f ∷ [] → of_wire wire f ≡ true → (s.content ≡ content_of (as_field f)) × (s.next ≡ f.next)

-- ---- counting

module _ (wire n : ℕ) (f : Field) (l : List Field) where
  -- one field more
  count_right : of_wire wire f ≡ true → leb 65 n ≡ false → count_after wire n (f ∷ l) ≡ count_after wire (n + 1) l
  unfolding count_after
  count_right t u =
      ap (λ (b : Bool). count_after wire (cond b (cond (leb 65 n) n (n + 1)) 65) l) t
      ∙ ap (λ (b : Bool). count_after wire (cond b n (n + 1)) l) u

  count_full : of_wire wire f ≡ true → leb 65 n ≡ true → count_after wire n (f ∷ l) ≡ count_after wire n l
  unfolding count_after
  count_full t u =
      ap (λ (b : Bool). count_after wire (cond b (cond (leb 65 n) n (n + 1)) 65) l) t
      ∙ ap (λ (b : Bool). count_after wire (cond b n (n + 1)) l) u

  count_wrong : of_wire wire f ≡ false → count_after wire n (f ∷ l) ≡ count_after wire 65 l
  unfolding count_after
  count_wrong t = ap (λ (b : Bool). count_after wire (cond b (cond (leb 65 n) n (n + 1)) 65) l) t

  -- either it is counted, or the count is full
  by_count : {P : Type 0} → (of_wire wire f ≡ true → n ≤ 64 → count_after wire n (f ∷ l) ≡ count_after wire (n + 1) l → P)
      → (of_wire wire f ≡ true → 65 ≤ n → count_after wire n (f ∷ l) ≡ count_after wire n l → P)
      → (of_wire wire f ≡ false → count_after wire n (f ∷ l) ≡ count_after wire 65 l → P) → P
  by_count right full wrong =
      by_test (of_wire wire f)
      (λ t. by_test (leb 65 n)
      (λ u. full t (leb-true 65 n u) (count_full t u))
      (λ u. let h = leb-false 65 n u in right t (omega arith) (count_right t u)))
      (λ t. wrong t (count_wrong t))

-- a count does not go back
no_less : (wire k n : ℕ) (l : List Field) → k ≤ n → k ≤ 65 → k ≤ count_after wire n l
unfolding count_after
no_less wire k n [] h u = h
no_less wire k n (f ∷ l) h u =
    by_count wire n f l
    (λ t g e. let x = no_less wire k (n + 1) l (omega arith) u in rw e x)
    (λ t g e. rw e (no_less wire k n l h u))
    (λ t e. rw e (no_less wire k 65 l u u))

-- fields that are few and all of the wire type are counted as they are
all_counted : (wire k n : ℕ) (l : List Field) → k ≤ 64
    → leb (count_after wire n l) k ≡ (leb (n + length l) k && all (of_wire wire) l)
unfolding count_after all
all_counted wire k n [] u = rw (add-zero n) (sym (and-true (leb n k)))
all_counted wire k n (f ∷ l) u =
    by_count wire n f l
    (λ t g e. let z : n + 1 + length l ≡ n + suc (length l) = omega arith in rw (e, t) (all_counted wire k (n + 1) l u ∙ rw z))
    (λ t g e. let x = no_less wire 65 n l g (omega arith) in
    rw (e, lt-leb (count_after wire n l) k (omega arith), lt-leb (n + suc (length l)) k (omega arith)))
    (λ t e. let x = no_less wire 65 65 l (omega arith) (omega arith) in
    rw (e, t, lt-leb (count_after wire 65 l) k (omega arith), and-false (leb (n + suc (length l)) k)))

-- and then their count is their number
counted_length : (wire n : ℕ) (l : List Field) → count_after wire n l ≤ 64 → count_after wire n l ≡ n + length l
unfolding count_after
counted_length wire n [] h = sym (add-zero n)
counted_length wire n (f ∷ l) h =
    by_count wire n f l
    (λ t g e. let x = counted_length wire (n + 1) l (rw e at h) in omega arith)
    (λ t g e. let x = no_less wire 65 n l g (omega arith) in absurd (omega arith))
    (λ t e. let x = no_less wire 65 65 l (omega arith) (omega arith) in absurd (omega arith))

-- ---- what a walk sees

-- the fields of a number, one field after another
pub numbered_in : (n : ℕ) (f : Field) (fs : List Field) → eqb f.number n ≡ true → numbered n (f ∷ fs) ≡ f ∷ numbered n fs
unfolding numbered keep
numbered_in n f fs t = rw t

pub numbered_out : (n : ℕ) (f : Field) (fs : List Field) → eqb f.number n ≡ false → numbered n (f ∷ fs) ≡ numbered n fs
unfolding numbered keep
numbered_out n f fs t = rw t

module _ (w : Wanted) where
  -- a field of another number is passed by
  seen_out : (s : Seen) (f : Field) (fs : List Field) → eqb f.number w.number ≡ false → seen_after w s (f ∷ fs) ≡ seen_after w s fs
  unfolding seen_after seen_field seen_with as_field
  seen_out s f fs t =
      ap (λ (b : Bool). seen_after w (cond b (cond (eqb f.wire w.wire)
      (cond (leb 65 s.count) s (record { count = s.count + 1; content = content_of (as_field f); next = f.next }))
      (record { count = 65; content = 0; next = 0 })) s) fs) t

  -- one of the number is counted
  seen_count : (s : Seen) (f : Field) → eqb f.number w.number ≡ true
      → (seen_field w s (as_field f)).count ≡ cond (of_wire w.wire f) (cond (leb 65 s.count) s.count (s.count + 1)) 65
  unfolding seen_field seen_with as_field
  seen_count s f t =
      by_test (eqb f.wire w.wire)
      (λ u. by_test (leb 65 s.count) (λ v. rw (t, u, v)) (λ v. rw (t, u, v)))
      (λ u. rw (t, u))

  all_count : (s : Seen) (fs : List Field) → (seen_after w s fs).count ≡ count_after w.wire s.count (numbered w.number fs)
  unfolding seen_after numbered keep count_after
  all_count s [] = refl
  all_count s (f ∷ fs) =
      by_test (eqb f.number w.number)
      (λ t. all_count (seen_field w s (as_field f)) fs
      ∙ ap (λ (n : ℕ). count_after w.wire n (numbered w.number fs)) (seen_count s f t)
      ∙ ap (count_after w.wire s.count) (sym (numbered_in w.number f fs t)))
      (λ t. ap (λ (x : Seen). x.count) (seen_out s f fs t) ∙ all_count s fs
      ∙ ap (count_after w.wire s.count) (sym (numbered_out w.number f fs t)))

  -- none of the number leaves what was seen
  none_seen : (s : Seen) (fs : List Field) → numbered w.number fs ≡ [] → seen_after w s fs ≡ s
  unfolding seen_after
  none_seen s [] e = refl
  none_seen s (f ∷ fs) e =
      by_test (eqb f.number w.number)
      (λ t.
      let z = numbered_in w.number f fs t in
      let n : ◌≡◌ {A = ℕ} 0 1 = cc in
      absurd (omega arith))
      (λ t. seen_out s f fs t ∙ none_seen s fs (sym (numbered_out w.number f fs t) ∙ e))

  -- a single one is kept
  single_kept : (f : Field) → eqb f.number w.number ≡ true → of_wire w.wire f ≡ true
      → seen_field w nothing_seen (as_field f) ≡ record { count = 1; content = content_of (as_field f); next = f.next }
  unfolding seen_field seen_with as_field
  single_kept f t u = rw (t, u)

  single_seen : (fs : List Field) (g : Field) → numbered w.number fs ≡ g ∷ [] → of_wire w.wire g ≡ true
      → seen_after w nothing_seen fs ≡ record { count = 1; content = content_of (as_field g); next = g.next }
  unfolding numbered keep seen_after
  single_seen [] g e u = let n : ◌≡◌ {A = ℕ} 0 1 = cc in absurd (omega arith)
  single_seen (f ∷ fs) g e u =
      by_test (eqb f.number w.number)
      (λ t.
      let z = numbered_in w.number f fs t in
      let r : numbered w.number fs ≡ [] = cc in
      let q : g ≡ f = cc in
      rw q (none_seen (seen_field w nothing_seen (as_field f)) fs r ∙ single_kept f t (rw q at u)))
      (λ t. seen_out nothing_seen f fs t ∙ single_seen fs g (sym (numbered_out w.number f fs t) ∙ e) u)

  -- so what was seen of all fields is that of the fields of the number
  saw : (fs : List Field) → Saw w.wire (numbered w.number fs) (seen_after w nothing_seen fs)
  saw fs =
      record {
        count = all_count nothing_seen fs;
        single = λ f e u. let k = single_seen fs f e u in (ap (λ (x : Seen). x.content) k, ap (λ (x : Seen). x.next) k);
      }

-- ---- a message that was walked

-- what was seen of some fields under each of some tags
unfoldable pub each_seen : List ℕ → List Field → List Seen
each_seen [] fs = []
each_seen (t ∷ ts) fs = seen_after (wanted_of t) nothing_seen fs ∷ each_seen ts fs

-- a message is well formed, and this was seen under some tags
pub record Walked (m tags : List ℕ) (seen : List Seen) : Type 0 where
  pub fs : List Field
  pub all_fields : fields m ≡ some fs
  pub are : seen ≡ each_seen tags fs

-- the first of some tags is seen for itself
first_after : (t : ℕ) (ts : List ℕ) (s : Seen) (ss : List Seen) (fs : List Field)
    → all_after (t ∷ ts) (s ∷ ss) fs ≡ seen_after (wanted_of t) s fs ∷ all_after ts ss fs
unfolding all_after all_seen seen_after
first_after t ts s ss [] = refl
first_after t ts s ss (f ∷ fs) = first_after t ts (seen_field (wanted_of t) s (as_field f)) (all_seen ts ss (as_field f)) fs

nothing_after : (fs : List Field) → all_after [] [] fs ≡ []
unfolding all_after all_seen
nothing_after [] = refl
nothing_after (f ∷ fs) = nothing_after fs

each_after : (tags : List ℕ) (fs : List Field) → all_after tags (replicate (length tags) nothing_seen) fs ≡ each_seen tags fs
unfolding each_seen
each_after [] fs = nothing_after fs
each_after (t ∷ ts) fs =
    first_after t ts nothing_seen (replicate (length ts) nothing_seen) fs
    ∙ ap (λ (l : List Seen). seen_after (wanted_of t) nothing_seen fs ∷ l) (each_after ts fs)

pub walked : (m tags : List ℕ) (seen : List Seen) → Some seen ≡ picked m tags → Walked m tags seen
unfolding picked picked_after
walked m tags seen e = go (fields m) refl e
  where
    go : (o : Option (List Field)) → fields m ≡ o → Some seen ≡ picked_after tags (replicate (length tags) nothing_seen) o → Walked m tags seen
    go none p q = let n : ◌≡◌ {A = ℕ} 0 1 = cc in absurd (omega arith)
    go (some fs) p q =
        let t : seen ≡ all_after tags (replicate (length tags) nothing_seen) fs = cc in
        record { fs = fs; all_fields = p; are = t ∙ each_after tags fs }

-- each of them
nth_seen : (tags : List ℕ) (fs : List Field) (i : ℕ) → i < length tags
    → get_or (each_seen tags fs) i nothing_seen ≡ seen_after (wanted_of (get_or tags i 0)) nothing_seen fs
unfolding each_seen
nth_seen [] fs i h = absurd (omega arith)
nth_seen (t ∷ ts) fs zero h = refl
nth_seen (t ∷ ts) fs (suc i) h = nth_seen ts fs i (omega arith)

saw_nth : {m tags : List ℕ} {seen : List Seen} (w : Walked m tags seen) (i : ℕ) → i < length tags
    → Saw (get_or tags i 0 % 8) (numbered (get_or tags i 0 / 8) w.fs) (get_or seen i nothing_seen)
saw_nth {tags = tags} w i h = rw (w.are, nth_seen tags w.fs i h) (saw (wanted_of (get_or tags i 0)) w.fs)

-- under the first three
module _ {m : List ℕ} {a : ℕ} {seen : List Seen} where
  pub at_a : {ts : List ℕ} (w : Walked m (a ∷ ts) seen) → Saw (a % 8) (numbered (a / 8) w.fs) (get_or seen 0 nothing_seen)
  at_a w = saw_nth w 0 (omega arith)

  pub at_b : {b : ℕ} {ts : List ℕ} (w : Walked m (a ∷ b ∷ ts) seen) → Saw (b % 8) (numbered (b / 8) w.fs) (get_or seen 1 nothing_seen)
  at_b w = saw_nth w 1 (omega arith)

  pub at_c : {b c : ℕ} {ts : List ℕ} (w : Walked m (a ∷ b ∷ c ∷ ts) seen)
      → Saw (c % 8) (numbered (c / 8) w.fs) (get_or seen 2 nothing_seen)
  at_c w = saw_nth w 2 (omega arith)

-- it is not well formed
pub walked_not : (m tags : List ℕ) → None ≡ picked m tags → fields m ≡ none
unfolding picked picked_after
walked_not m tags e = go (fields m) e
  where
    go : (o : Option (List Field)) → None ≡ picked_after tags (replicate (length tags) nothing_seen) o → o ≡ none
    go none q = refl
    go (some fs) q = let n : ◌≡◌ {A = ℕ} 0 1 = cc in absurd (omega arith)

-- ---- selections

-- whether some fields are one, of the wire type
unfoldable one_of : ℕ → List Field → Bool
one_of wire [] = false
one_of wire (f ∷ []) = of_wire wire f
one_of wire (f ∷ g ∷ l) = false

one_counted : (wire : ℕ) (l : List Field) (s : Seen) → Saw wire l s → is_one s ≡ one_of wire l
unfolding is_one one_of count_after
one_counted wire [] s w = rw w.count
one_counted wire (f ∷ []) s w =
    by_count wire 0 f []
    (λ t g e. rw (w.count, e, t))
    (λ t g e. absurd (omega arith))
    (λ t e. rw (w.count, e, t))
one_counted wire (f ∷ g ∷ l) s w =
    let two : 2 ≤ count_after wire 0 (f ∷ g ∷ l) =
    by_count wire 0 f (g ∷ l)
    (λ t h e. rw e (by_count wire 1 g l
    (λ u i d. rw d (no_less wire 2 2 l (omega arith) (omega arith)))
    (λ u i d. absurd (omega arith))
    (λ u d. rw d (no_less wire 2 65 l (omega arith) (omega arith)))))
    (λ t h e. absurd (omega arith))
    (λ t e. rw e (no_less wire 2 65 (g ∷ l) (omega arith) (omega arith))) in
    ne_eqb s.count 1 (λ z. omega (arith, w.count))

pub number_law : (fits : ℕ → Bool) (l : List Field) (s : Seen) → Saw 0 l s → number fits s ≡ answered as_is (required fits l)
unfolding number required answered one_of content_of as_field
number_law fits [] s w = rw (one_counted 0 [] s w)
number_law fits (f ∷ []) s w = rw (one_counted 0 (f ∷ []) s w) (by_test (eqb f.wire 0) (λ t. rw t (right t)) (λ t. rw t))
  where
    right : eqb f.wire 0 ≡ true → cond (fits s.content) (Some s.content) None ≡ answered as_is (cond (fits f.value) (some f.value) none)
    right t =
        let q : s.content ≡ f.value = (w.single f refl t).0 ∙ rw t in
        rw q (by_test (fits f.value) (λ u. rw u) (λ u. rw u))
number_law fits (f ∷ g ∷ l) s w = rw (one_counted 0 (f ∷ g ∷ l) s w)

pub required_is : (fits : ℕ → Bool) {l : List Field} {s : Seen} {v : ℕ} → Saw 0 l s → Some v ≡ number fits s → required fits l ≡ some v
required_is fits {l = l} {s = s} {v = v} w e = told_is (required fits l) (e ∙ number_law fits l s w)

pub required_bad : (fits : ℕ → Bool) {l : List Field} {s : Seen} → Saw 0 l s → None ≡ number fits s → required fits l ≡ none
required_bad fits {l = l} {s = s} w e = told_none (required fits l) (e ∙ number_law fits l s w)

-- none was seen exactly where there is none
pub none_counted : (wire : ℕ) (f : Field) (l : List Field) (s : Seen) → Saw wire (f ∷ l) s → 1 ≤ s.count
none_counted wire f l s w =
    rw w.count
    (by_count wire 0 f l
    (λ t g e. rw e (no_less wire 1 1 l (omega arith) (omega arith)))
    (λ t g e. absurd (omega arith))
    (λ t e. rw e (no_less wire 1 65 l (omega arith) (omega arith))))

optional_law : (fits : ℕ → Bool) (l : List Field) (s : Seen) → Saw 0 l s → optional_number fits s ≡ answered as_is (optional fits l)
unfolding optional_number optional answered count_after
optional_law fits [] s w = rw w.count
optional_law fits (f ∷ l) s w =
    let n = none_counted 0 f l s w in
    let t : eqb s.count 0 ≡ false = ne_eqb s.count 0 (λ e. omega arith) in
    rw t (number_law fits (f ∷ l) s w)

pub optional_is : (fits : ℕ → Bool) {l : List Field} {s : Seen} {v : ℕ}
    → Saw 0 l s → Some v ≡ optional_number fits s → optional fits l ≡ some v
optional_is fits {l = l} {s = s} {v = v} w e = told_is (optional fits l) (e ∙ optional_law fits l s w)

pub optional_bad : (fits : ℕ → Bool) {l : List Field} {s : Seen}
    → Saw 0 l s → None ≡ optional_number fits s → optional fits l ≡ none
optional_bad fits {l = l} {s = s} w e = told_none (optional fits l) (e ∙ optional_law fits l s w)

-- a part of a list of fields stands at a place
pub record PartAt (l : List Field) (start next : ℕ) : Type 0 where
  pub f : Field
  pub is : part l ≡ some f
  pub starts : f.start ≡ start
  pub ends : f.next ≡ next

pub place_law : (l : List Field) (s : Seen) → Saw 2 l s → place s ≡ answered place_of (part l)
unfolding place part answered place_of one_of content_of as_field
place_law [] s w = rw (one_counted 2 [] s w)
place_law (f ∷ []) s w =
    rw (one_counted 2 (f ∷ []) s w)
    (by_test (eqb f.wire 2)
    (λ t.
    let k = eqb-true f.wire 2 t in
    let z : eqb f.wire 0 ≡ false = ne_eqb f.wire 0 (λ e. omega arith) in
    let p = w.single f refl t in
    let q : s.content ≡ f.start = p.0 ∙ rw z in
    rw (t, q, p.1))
    (λ t. rw t))
place_law (f ∷ g ∷ l) s w = rw (one_counted 2 (f ∷ g ∷ l) s w)

pub part_is : {l : List Field} {s : Seen} {p : Place} → Saw 2 l s → Some p ≡ place s → PartAt l p.start p.next
unfolding place_of
part_is {l = l} {s = s} {p = p} w e =
    let t = from_some place_of (part l) (e ∙ place_law l s w) in
    record { f = t.x; is = t.is; starts = cc; ends = cc }

pub part_bad : {l : List Field} {s : Seen} → Saw 2 l s → None ≡ place s → part l ≡ none
part_bad {l = l} {s = s} w e = from_none place_of (part l) (e ∙ place_law l s w)

-- at most k fields, all of a wire type
module _ (k : ℕ) (few : k ≤ 64) {wire : ℕ} {l : List Field} {s : Seen} (w : Saw wire l s) where
  several_law : leb s.count k ≡ (leb (length l) k && all (of_wire wire) l)
  several_law = rw w.count (all_counted wire k 0 l few ∙ rw (zero-add (length l)))

  pub several_is : {n : ℕ} → Some n ≡ at_most k s → (up_to k wire l ≡ some l) × (n ≡ length l) × (n ≤ k)
  unfolding up_to at_most
  several_is {n = n} e =
      by_test (leb s.count k)
      (λ t.
      let z : Some n ≡ Some s.count = rw t at e in
      let q : n ≡ s.count = cc in
      let h = leb-true s.count k t in
      let m = counted_length wire 0 l (omega (arith, w.count)) in
      (rw (← several_law, t), omega (arith, w.count), omega arith))
      (λ t. let z : Some n ≡ None = rw t at e in let o : ◌≡◌ {A = ℕ} 0 1 = cc in absurd (omega arith))

  pub several_bad : None ≡ at_most k s → up_to k wire l ≡ none
  unfolding up_to at_most
  several_bad e =
      by_test (leb s.count k)
      (λ t. let z : None ≡ Some s.count = rw t at e in let n : ◌≡◌ {A = ℕ} 0 1 = cc in absurd (omega arith))
      (λ t. rw (← several_law, t))

-- ---- what was asked for by a tag that was made of a number

-- a part's
pub saw_part : (n : ℕ) (fs : List Field) {s : Seen} → Saw ((n * 8 + 2) % 8) (numbered ((n * 8 + 2) / 8) fs) s → Saw 2 (numbered n fs) s
saw_part n fs w =
    let d : (n * 8 + 2) / 8 ≡ n = omega arith in
    let r : (n * 8 + 2) % 8 ≡ 2 = omega arith in
    rw (d, r) at w

-- a varint's
pub saw_varint : (n : ℕ) (fs : List Field) {s : Seen} → Saw (n * 8 % 8) (numbered (n * 8 / 8) fs) s → Saw 0 (numbered n fs) s
saw_varint n fs w =
    let d : n * 8 / 8 ≡ n = omega arith in
    let r : n * 8 % 8 ≡ 0 = omega arith in
    rw (d, r) at w
