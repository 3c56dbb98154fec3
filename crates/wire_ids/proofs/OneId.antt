-- One id laid in one walk over its fields: what the loop of `lay.rt` turns on. Finishing from here is finishing from the start, and
-- what is finished from the start is the id's group: each field has a slot of its own, so that their order does not matter.
use Prim.Native.Nat.{ℕ, suc, ◌+◌, ◌<◌, ◌≤◌}
use mathlib.Core.Path.{◌≡◌, refl, sym, ap, ◌∙◌}
use mathlib.Core.Bool.{true, false, ◌&&◌}
use mathlib.Core.List.{List, [], ◌∷◌, map}
use mathlib.Core.Option.{Option, none, some, map-eq-some_iff, bind-eq-some_iff, some-injective, none-ne-some}
use native.Mathlib.Nat.{add-zero}
use native.Mathlib.Omega.{arith}
use lib.Dec.{eqb}
use lib.ListN.{length, set, length-set}
use lib.Seq.{set_comm}
use borrow.Author.Tests.{eqb-true}
use Rattle.rules.specs.Table.{or_else, keep, is_some}
use Rattle.rules.specs.Groups.{Group}
use Rattle.rules.proofs.Table.{by_test, never_both}
use Rattle.words.specs.Act.{lay}
use Rattle.words.proofs.Act.{lay_append}
use Rattle.wire.specs.Fields.{field, fields}
use Rattle.wire.specs.Fields as wire
use Rattle.wire.specs.Select.{uint64, numbered, required, up_to, numbers}
use Rattle.wire.specs.Ids.{id_of, group_of, group_words}
use Rattle.wire.proofs.Options.{answered}
use Rattle.wire.proofs.Ids.{up_to_is}
use Rattle.wire_fields.specs.Found.{as_field}
use Rattle.wire_fields.specs.Values.{all_of, values, values_of, Laid}
use Rattle.wire_fields.specs.declared.field.Field.{Field}
use Rattle.wire_fields.proofs.Walks.{Stands}
use Rattle.wire_fields.proofs.Laying.{left_of, Formed, formed_start, formed_on, formed_not_bad, formed_end}
use Rattle.wire_ids.specs.Groups.{words_of_group, id_words, count_with, put_in, IdRoom, Put}

-- ---- an id that was tested

-- its message is well formed, with one ledger and one entry, and its words are these, the count and the numbers of its ack set
record Tested (m : List ℕ) : Type 0 where
  ledger : ℕ
  entry : ℕ
  formed : fields m ≡ some (all_of m)
  one_ledger : values_of m 1 ≡ ledger ∷ []
  one_entry : values_of m 2 ≡ entry ∷ []
  is : id_words m ≡ ledger ∷ entry ∷ length (values_of m 5) ∷ values_of m 5

-- a number that has to be there is the only one
only : (fs : List wire.Field) (v : ℕ) → required uint64 fs ≡ some v → map (λ (f : wire.Field). f.value) fs ≡ v ∷ []
unfolding required
only [] v e = absurd (none-ne-some v e)
only (f ∷ []) v e = ap (λ (x : ℕ). x ∷ []) (answered (eqb f.wire 0 && uint64 f.value) f.value e).1
only (f ∷ g ∷ fs) v e = absurd (none-ne-some v e)

-- repeated numbers are those of the fields
numbers_are : (k : ℕ) (fs : List wire.Field) (ws : List ℕ) → numbers k fs ≡ some ws → map (λ (f : wire.Field). f.value) fs ≡ ws
unfolding numbers
numbers_are k fs ws e =
    let v = (map-eq-some_iff (map (λ (f : wire.Field). f.value)) (up_to k 0 fs)).0 e in
    ap (map (λ (f : wire.Field). f.value)) (up_to_is k 0 fs v.0 v.1) ∙ v.2

-- what was read of the fields
tested_fields : (m : List ℕ) (fs : List wire.Field) (g : Group) (ledger entry : ℕ) → group_of m ≡ some g → fields m ≡ some fs
    → required uint64 (numbered 1 fs) ≡ some ledger → required uint64 (numbered 2 fs) ≡ some entry → numbers 16 (numbered 5 fs) ≡ some g.words
    → record { ledger = ledger; entry = entry } ≡ g.id → Tested m
unfolding values_of values all_of or_else id_words words_of_group group_words
tested_fields m fs g ledger entry e f l n w i =
    record {
      ledger = ledger;
      entry = entry;
      formed = rw f;
      one_ledger = rw f (only (numbered 1 fs) ledger l);
      one_entry = rw f (only (numbered 2 fs) entry n);
      is = rw (e, f, numbers_are 16 (numbered 5 fs) g.words w, ← i);
    }

-- what was read of the message
tested_some : (m : List ℕ) (g : Group) → group_of m ≡ some g → Tested m
unfolding group_of id_of
tested_some m g e =
    let p = (bind-eq-some_iff (fields m) _).0 e in
    let q = (bind-eq-some_iff (id_of p.0) _).0 p.2 in
    let r = (bind-eq-some_iff (numbers 16 (numbered 5 p.0)) _).0 q.2 in
    let x = (bind-eq-some_iff (required uint64 (numbered 1 p.0)) _).0 q.1 in
    let y = (bind-eq-some_iff (required uint64 (numbered 2 p.0)) _).0 x.2 in
    let h = some-injective _ g r.2 in
    tested_fields m p.0 g x.0 y.0 e p.1 x.1 y.1
    (r.1 ∙ ap (λ (k : Group). some k.words) h)
    (some-injective _ q.0 y.2 ∙ ap (λ (k : Group). k.id) h)

-- an id that is there was tested
tested : (m : List ℕ) → is_some (group_of m) ≡ true → Tested m
unfolding is_some
tested m e = go (group_of m) refl e
  where
    go : (o : Option Group) → group_of m ≡ o → is_some o ≡ true → Tested m
    go none p q = never_both true refl (sym q)
    go (some g) p q = tested_some m g p

-- ---- what the walk does to the list

-- the list when all fields are put into their places and the count is stored
unfoldable pub finished : ℕ → ℕ → List ℕ → List wire.Field → List ℕ
finished to n list [] = set list (to + 2) n
finished to n list (f ∷ fs) = finished to (count_with f.number n) (put_in list to n f.number f.value) fs

-- values stored one after the other in one place
unfoldable over : ℕ → List ℕ → List ℕ → List ℕ
over i list [] = list
over i list (v ∷ vs) = over i (set list i v) vs

-- they leave what is stored in another place
over_set : (i j v : ℕ) (list vs : List ℕ) → (j ≡ i → ⊥) → over i (set list j v) vs ≡ set (over i list vs) j v
unfolding over
over_set i j v list [] h = refl
over_set i j v list (x ∷ vs) h = rw (set_comm list j i v x h) (over_set i j v (set list i x) vs h)

-- the head of a group and then its words
lays_head : (list vs : List ℕ) (to ledger entry n : ℕ)
    → (lay (ledger ∷ entry ∷ n ∷ vs)).run to list ≡ (lay vs).run (to + 3) (set (set (set list to ledger) (to + 1) entry) (to + 2) n)
unfolding lay
lays_head list vs to ledger entry n =
    let a : suc to ≡ to + 1 = omega arith in
    let b : suc (suc to) ≡ to + 2 = omega arith in
    let x : (lay (ledger ∷ entry ∷ n ∷ [])).run to list ≡ set (set (set list to ledger) (suc to) entry) (suc (suc to)) n = refl in
    lay_append (ledger ∷ entry ∷ n ∷ []) vs to list ∙ ap ((lay vs).run (to + 3)) (x ∙ rw (b, a))

-- so the words are laid behind the head, whose places hold the ledger, the entry and the count
finished_law : (to n : ℕ) (list : List ℕ) (fs : List wire.Field)
    → finished to n list fs
    ≡ (lay (values 5 fs)).run (to + 3 + n)
    (set (over (to + 1) (over to list (values 1 fs)) (values 2 fs)) (to + 2) (n + length (values 5 fs)))
unfolding finished over values numbered keep lay count_with put_in
finished_law to n list [] = rw (add-zero n)
finished_law to n list (f ∷ fs) =
    by_test (eqb f.number 5)
    (λ t5.
    let e = eqb-true f.number 5 t5 in
    let t1 : eqb f.number 1 ≡ false = rw e in
    let t2 : eqb f.number 2 ≡ false = rw e in
    rw (t5, t1, t2) (finished_law to (n + 1) (set list (to + 3 + n) f.value) fs ∙ word_first))
    (λ t5. by_test (eqb f.number 1)
    (λ t1.
    let e = eqb-true f.number 1 t1 in
    let t2 : eqb f.number 2 ≡ false = rw e in
    rw (t5, t1, t2) (finished_law to n (set list to f.value) fs))
    (λ t1. by_test (eqb f.number 2)
    (λ t2.
    rw (t5, t1, t2)
    (finished_law to n (set list (to + 1) f.value) fs ∙ rw (over_set to (to + 1) f.value list (values 1 fs) (λ e. omega arith))))
    (λ t2. rw (t5, t1, t2) (finished_law to n list fs))))
  where
    word_first : (lay (values 5 fs)).run (to + 3 + (n + 1))
        (set
        (over (to + 1) (over to (set list (to + 3 + n) f.value) (values 1 fs)) (values 2 fs))
        (to + 2)
        (n + 1 + length (values 5 fs)))
        ≡ (lay (f.value ∷ values 5 fs)).run (to + 3 + n)
        (set (over (to + 1) (over to list (values 1 fs)) (values 2 fs)) (to + 2) (n + suc (length (values 5 fs))))
    word_first =
        let a : to + 3 + (n + 1) ≡ suc (to + 3 + n) = omega arith in
        let b : n + suc (length (values 5 fs)) ≡ n + 1 + length (values 5 fs) = omega arith in
        rw (
          a,
          b,
          over_set to (to + 3 + n) f.value list (values 1 fs) (λ e. omega arith),
          over_set (to + 1) (to + 3 + n) f.value (over to list (values 1 fs)) (values 2 fs) (λ e. omega arith),
          set_comm (over (to + 1) (over to list (values 1 fs)) (values 2 fs)) (to + 3 + n) (to + 2) f.value
              (n + 1 + length (values 5 fs))
              (λ e. omega arith),
        )

-- of an id that was tested they are its group
group_finished : (m list : List ℕ) (to : ℕ) → Tested m → finished to 0 list (all_of m) ≡ (lay (id_words m)).run to list
unfolding values_of over
group_finished m list to t =
    let a : to + 3 + 0 ≡ to + 3 = omega arith in
    let b : 0 + length (values 5 (all_of m)) ≡ length (values 5 (all_of m)) = omega arith in
    finished_law to 0 list (all_of m)
    ∙ rw (a, b, t.one_ledger, t.one_entry, t.is) (sym (lays_head list (values 5 (all_of m)) to t.ledger t.entry (length (values 5 (all_of m)))))

-- ---- the loop

-- a field in front of others makes one word more or none
count_first : (n : ℕ) (f : wire.Field) (fs : List wire.Field) → n + length (values 5 (f ∷ fs)) ≡ count_with f.number n + length (values 5 fs)
unfolding values numbered keep count_with
count_first n f fs = by_test (eqb f.number 5) (λ t. rw t (omega arith)) (λ t. rw t)

-- a number put into its place leaves the length
put_even : (list : List ℕ) (to n number value : ℕ) → length (put_in list to n number value) ≡ length list
unfolding put_in
put_even list to n number value =
    by_test (eqb number 5)
    (λ t. rw t (length-set list (to + 3 + n) value))
    (λ t. by_test (eqb number 1)
    (λ u. rw (t, u) (length-set list to value))
    (λ u. by_test (eqb number 2) (λ v. rw (t, u, v) (length-set list (to + 1) value)) (λ v. rw (t, u, v))))

-- a list and a count so far, in laying an id into a list from a place on
pub record Filling (m list : List ℕ) (to at : ℕ) (here : List ℕ) (n : ℕ) : Type 0 where
  pub inside : at ≤ length m
  pub formed : Formed m at
  pub size : length here ≡ length list
  pub count : length (values_of m 5) ≡ n + length (values 5 (left_of m at))
  pub room : to + 3 + (n + length (values 5 (left_of m at))) ≤ length here
  pub rest : finished to 0 list (all_of m) ≡ finished to n here (left_of m at)

module _ (m list : List ℕ) (to : ℕ) where
  -- nothing is laid yet
  pub filling_start : IdRoom m (length list) to → Filling m list to 0 list 0
  unfolding values_of
  filling_start r =
      let t = tested m r.read in
      let q = formed_start m t.formed in
      let k = ap length t.is in
      let h = r.room in
      record {
        inside = omega arith;
        formed = q.0;
        size = refl;
        count = rw q.1 (omega arith);
        room = rw q.1 (omega arith);
        rest = rw q.1;
      }

  module _ {at n : ℕ} {here : List ℕ} (l : Filling m list to at here n) where
    -- no way out but the end
    pub filling_bad : {P : Type 0} → at < length m → field m at ≡ none → P
    filling_bad h e = formed_not_bad m at h e l.formed

    -- at the end the id is laid once the count is stored
    pub filling_end : IdRoom m (length list) to → length m ≤ at → Laid list to (id_words m) (set here (to + 2) n) (to + 3 + n)
    unfolding finished values numbered keep values_of
    filling_end r h =
        let t = tested m r.read in
        let e = formed_end m at h in
        let k = ap length t.is in
        let c : length (values_of m 5) ≡ n + 0 = l.count ∙ rw e in
        record { is = sym (sym (group_finished m list to t) ∙ l.rest ∙ rw e); ends = omega arith }

    module _ (f : Field) (h : at < length m) (w : Stands m at f) where
      -- what is left has one word more or none
      now_count : n + length (values 5 (left_of m at)) ≡ count_with f.number n + length (values 5 (left_of m f.next))
      unfolding as_field
      now_count =
          ap (λ (fs : List wire.Field). n + length (values 5 fs)) (formed_on m at f h w l.formed).1
          ∙ count_first n w.g (left_of m f.next) ∙ rw w.same

      -- there is room for it
      pub filling_room : to + 3 + count_with f.number n ≤ length here
      filling_room = omega (arith, now_count, l.room)

      -- its number is put into its place
      pub filling_on : (after : List ℕ) (many : ℕ) → Put here to n f.number f.value after many → Filling m list to f.next after many
      unfolding finished as_field
      filling_on after many p =
          let s : length after ≡ length here = ap length p.is ∙ put_even here to n f.number f.value in
          let o = formed_on m at f h w l.formed in
          record {
            inside = w.ends;
            formed = o.0;
            size = s ∙ l.size;
            count = l.count ∙ rw p.count now_count;
            room = omega (arith, now_count, l.room, p.count);
            rest = l.rest ∙ ap (finished to n here) o.1 ∙ rw (p.is, p.count, w.same);
          }
