-- Records written one after the other: some and then others, the length that stays, and all of them from the start on.
use Rattle.std.proofs.Common.{◌≡◌, ℕ, suc, ◌+◌, ◌-◌, ◌*◌, ◌%◌, ◌^◌, ◌≤◌, List, [], ◌∷◌, ◌++◌, length, take, drop, sym, refl, ap, ap₂, ◌∙◌, append_assoc}
use Rattle.std.proofs.Common.{add-zero, arith}
use Rattle.std.proofs.Common.{length-append, length-drop, take-append-drop, drop-drop}
use mathlib.Core.List.{append-nil}
use lib.ListN.{drop_of_length-le}
use borrow.Rule.Slice.PartMut.{put_mid}
use Rattle.std.proofs.lemmas.List.{get_or-drop, length-take-le, take_rest}
use lib.Seq.{sets-eq}
use Rattle.words.specs.Act.{lay}
use Rattle.rules.specs.Outcome.{Dispatch}
use Rattle.rules.specs.Push.{flat, flat_records}
use Rattle.rules.proofs.Answers.{flat_length}
use Rattle.layout.specs.Calls.{with_records}
use Rattle.record.specs.Flat.{filled, record_words, record_at}
use Rattle.record.specs.declared.Dispatch as declared

-- the rules' dispatch with the fields of the code's record, and permits in excess form
abbrev pub dispatch_with : declared.Dispatch → ℕ → Dispatch
dispatch_with x permits =
    record {
      consumer = x.consumer;
      message = record { id = record { ledger = x.ledger; entry = x.entry }; handle = x.handle; batch_size = x.batch_size };
      ack_set_words = x.ack_set_words;
      ack_set = x.ack_set;
      redelivery_count = x.redelivery_count;
      cost = x.cost;
      permits = permits;
    }

-- a record whose permits are in two's complement has the flat words of that dispatch
pub record_flat : (x : declared.Dispatch) (permits : ℕ) {d : Dispatch} → x.permits ≡ (permits + (2 ^ 64 - 2 ^ 62)) % 2 ^ 64 → dispatch_with x permits ≡ d
    → record_words x ≡ flat d
unfolding record_words flat
record_flat x permits e f =
    ap (λ (p : ℕ). x.consumer ∷ x.ledger ∷ x.entry ∷ x.handle ∷ x.batch_size ∷ x.ack_set_words
    ∷ x.ack_set.w0 ∷ x.ack_set.w1 ∷ x.ack_set.w2 ∷ x.ack_set.w3 ∷ x.redelivery_count ∷ x.cost ∷ p ∷ []) e
    ∙ ap flat f

-- some records, then others
pub filled_append : (list : List ℕ) (m : ℕ) (a b : List Dispatch) → filled list m (a ++ b) ≡ filled (filled list m a) (m + length a) b
unfolding filled
filled_append list m [] b = rw (add-zero m)
filled_append list m (x ∷ a) b =
    filled_append ((lay (flat x)).run (m * 13) list) (suc m) a b
    ∙ ap (λ (n : ℕ). filled (filled ((lay (flat x)).run (m * 13) list) (suc m) a) n b) (let e : suc m + length a ≡ m + suc (length a) = omega arith in e)

-- the list stays as long as it was
pub filled_length : (list : List ℕ) (m : ℕ) (l : List Dispatch) → length (filled list m l) ≡ length list
unfolding filled
filled_length list m [] = refl
filled_length list m (x ∷ l) = filled_length ((lay (flat x)).run (m * 13) list) (suc m) l ∙ (lay (flat x)).even (m * 13) list

-- a record written at the start
laid_first : (x : Dispatch) (r : List ℕ) → 13 ≤ length r → (lay (flat x)).run 0 r ≡ flat x ++ drop 13 r
unfolding lay
laid_first x r h = sets-eq (flat x) r 0 (rw (flat_length x) h) ∙ rw (flat_length x)

-- a record written after some words
laid : (d : List ℕ) (m : ℕ) (x : Dispatch) (r : List ℕ) → length d ≡ m * 13 → 13 ≤ length r → (lay (flat x)).run (m * 13) (d ++ r) ≡ (d ++ flat x) ++ drop 13 r
laid d m x r e h =
    let there : m * 13 ≡ length d + 0 = omega arith in
    rw there ((lay (flat x)).local 0 d r) ∙ ap (λ (k : List ℕ). d ++ k) (laid_first x r h) ∙ sym (append_assoc d (flat x) (drop 13 r))

-- records written after some words leave these as they are
filled_local : (d : List ℕ) (m : ℕ) (l : List Dispatch) (r : List ℕ) → length d ≡ m * 13 → 13 * length l ≤ length r
    → filled (d ++ r) m l ≡ d ++ with_records r (flat_records l)
unfolding filled flat_records with_records
filled_local d m [] r e h = refl
filled_local d m (x ∷ l) r e h =
    let far : length (drop 13 r) ≡ length r - 13 = length-drop 13 r in
    let long : length (d ++ flat x) ≡ suc m * 13 = rw (length-append d (flat x), flat_length x) (omega arith) in
    ap (λ (ws : List ℕ). filled ws (suc m) l) (laid d m x r e (omega arith))
    ∙ filled_local (d ++ flat x) (suc m) l (drop 13 r) long (omega arith)
    ∙ rw (append_assoc d (flat x), length-append (flat x) (flat_records l), flat_length x, append_assoc (flat x), drop-drop)

-- all of them from the start on
pub filled_records : (list : List ℕ) (l : List Dispatch) → 13 * length l ≤ length list → with_records list (flat_records l) ≡ filled list 0 l
filled_records list l h = sym (filled_local [] 0 l list refl h)

-- ---- what is written to the rest of a list

-- the rest of a list, as code lends it
abbrev pub rest : ℕ → List ℕ → List ℕ
rest to list = take (length list - to) (drop to list)

-- the list with the rest as it was handed back
abbrev pub handed_back : ℕ → List ℕ → List ℕ → List ℕ
handed_back to list written = put_mid to (length list - to) list written

-- nothing follows the rest
back : (to : ℕ) (list written : List ℕ) → handed_back to list written ≡ take to list ++ written
back to list written =
    let none : drop (length list - to) (drop to list) ≡ [] = drop_of_length-le (drop to list) (rw (length-drop to list) (omega arith)) in
    ap (λ (l : List ℕ). take to list ++ (written ++ l)) none ∙ ap (λ (l : List ℕ). take to list ++ l) (append-nil written)

-- words laid at its start are laid there in the list
pub laid_rest : (ws : List ℕ) (to : ℕ) (list : List ℕ) {written : List ℕ} → to ≤ length list → written ≡ (lay ws).run 0 (rest to list)
    → handed_back to list written ≡ (lay ws).run to list
laid_rest ws to list {written = written} h w =
    let there : length (take to list) + 0 ≡ to = rw (length-take-le to list h) (omega arith) in
    back to list written
    ∙ ap (λ (l : List ℕ). take to list ++ l) (w ∙ ap (λ (l : List ℕ). (lay ws).run 0 l) (take_rest list to))
    ∙ sym ((lay ws).local 0 (take to list) (drop to list))
    ∙ ap₂ {A = ℕ} {B = List ℕ} {C = List ℕ} (λ k l. (lay ws).run k l) there (take-append-drop to list)

-- records from one on, after some words that are m records long
filled_after : (d r : List ℕ) (m k : ℕ) (l : List Dispatch) → length d ≡ m * 13 → d ++ filled r k l ≡ filled (d ++ r) (m + k) l
unfolding filled
filled_after d r m k [] e = refl
filled_after d r m k (x ∷ l) e =
    let there : length d + k * 13 ≡ (m + k) * 13 = omega arith in
    let on : m + suc k ≡ suc (m + k) = omega arith in
    filled_after d ((lay (flat x)).run (k * 13) r) m (suc k) l e
    ∙ ap₂ {A = List ℕ} {B = ℕ} {C = List ℕ} (λ ws n. filled ws n l)
    (sym ((lay (flat x)).local (k * 13) d r) ∙ ap (λ (n : ℕ). (lay (flat x)).run n (d ++ r)) there) on

-- records from its first on are records from m on in the list
pub filled_rest : (m : ℕ) (list : List ℕ) {written : List ℕ} (l : List Dispatch) → m * 13 ≤ length list → written ≡ filled (rest (m * 13) list) 0 l
    → handed_back (m * 13) list written ≡ filled list m l
filled_rest m list {written = written} l h w =
    back (m * 13) list written
    ∙ ap (λ (r : List ℕ). take (m * 13) list ++ r) (w ∙ ap (λ (r : List ℕ). filled r 0 l) (take_rest list (m * 13)))
    ∙ filled_after (take (m * 13) list) (drop (m * 13) list) m 0 l (length-take-le (m * 13) list h)
    ∙ ap₂ {A = List ℕ} {B = ℕ} {C = List ℕ} (λ ws n. filled ws n l) (take-append-drop (m * 13) list) (add-zero m)

-- ---- what is read from it

-- the record that the rest begins with is the list's
pub record_rest : (ws : List ℕ) (i : ℕ) → record_at (rest (i * 13) ws) 0 ≡ record_at ws i
unfolding record_at
record_rest ws i = simp (take_rest, get_or-drop)
