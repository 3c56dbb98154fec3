-- `push::push_pending` meets its contract: the permits of at most 32 consumers lie in a local array; the shared part by the permits
-- in the store, then the plain part.
use mathlib.Core.Path.{◌≡◌, sym, ap, ◌∙◌, subst}
use mathlib.Core.List.{List, map}
use Prim.Native.Nat.{ℕ, ◌*◌, ◌≤◌}
use native.Mathlib.Omega.{arith}
use lib.ListN.{length}
use Rattle.words.specs.Codec.{All}
use Rattle.rules.specs.State.{State, with_dispatchers}
use Rattle.rules.specs.Outcome.{Dispatch}
use Rattle.layout.specs.Layout.{decode, put}
use Rattle.layout.specs.Whole.{ShapedDispatcher}
use Rattle.operation_laws.proofs.Frame.{canon_of}
use Rattle.push_laws.specs.Shared.{services, permits_left, all_service_records, served_dispatcher}
use Rattle.push_laws.specs.Whole.{permits_now, local_push}
use Rattle.record.specs.Flat.{filled}
use Rattle.record.proofs.Filled.{filled_length}
use Rattle.push_plain.specs.Reading.{all_served}
use Rattle.push_turn.proofs.Zeros.{zeros_enough, zeros_lent, zeros_sized}
use Rattle.push.proofs.Pushing.{due_small, consumers_few, length_permits, left, shared_records, all_counted, served_rows, canon_now, readable_on}
use Rattle.push.proofs.Pushing.{permits_on, room_on, pushed_count, pushed_words, pushed_records}
use borrow.Author.Rules.{rules}
use Rattle.push.proofs.push_pending.Goals as goal

-- what the shared part leaves, by the permits in the store
module _ (s : State) {q : List ℕ} (loaded : q ≡ permits_now s) where
  value_told : {n : ℕ} → n ≡ length (all_service_records s (services s s.dispatchers q)) → n ≡ length (shared_records s)
  value_told {n} h = subst (λ (p : List ℕ). n ≡ length (all_service_records s (services s s.dispatchers p))) loaded h

  words_told : (ws : List ℕ) {t : List ℕ} → t ≡ put ws (with_dispatchers s (map (served_dispatcher s) (services s s.dispatchers q)))
      → t ≡ put ws (with_dispatchers s (served_rows s))
  words_told ws {t} h = subst (λ (p : List ℕ). t ≡ put ws (with_dispatchers s (map (served_dispatcher s) (services s s.dispatchers p)))) loaded h

  permits_told : {t : List ℕ} → t ≡ permits_left q (services s s.dispatchers q) → t ≡ left s
  permits_told {t} h = subst (λ (p : List ℕ). t ≡ permits_left p (services s s.dispatchers p)) loaded h

  records_told : (l : List ℕ) {t : List ℕ} → t ≡ filled l 0 (all_service_records s (services s s.dispatchers q)) → t ≡ filled l 0 (shared_records s)
  records_told l {t} h = subst (λ (p : List ℕ). t ≡ filled l 0 (all_service_records s (services s s.dispatchers p))) loaded h

  fits_told : (e : ℕ) → All (ShapedDispatcher e) (map (served_dispatcher s) (services s s.dispatchers q)) → All (ShapedDispatcher e) (served_rows s)
  fits_told e h = subst (λ (p : List ℕ). All (ShapedDispatcher e) (map (served_dispatcher s) (services s s.dispatchers p))) loaded h

pub consumer_count-n-requires : goal.consumer_count-n-requires
consumer_count-n-requires c = canon_of c.args.e c.args.store.now c.requires.0 c.requires.1

pub slice_bounds-all-end : goal.slice_bounds-all-end
slice_bounds-all-end c = zeros_enough c.consumer_count-n.ensures (consumers_few c.args.e c.args.store.now c.requires.0 c.requires.1)

pub slice_bounds-permits-end : goal.slice_bounds-permits-end
slice_bounds-permits-end c = zeros_lent c.consumer_count-n.ensures (consumers_few c.args.e c.args.store.now c.requires.0 c.requires.1)

pub load_permits-requires : goal.load_permits-requires
load_permits-requires c =
    let few = consumers_few c.args.e c.args.store.now c.requires.0 c.requires.1 in
    (canon_of c.args.e c.args.store.now c.requires.0 c.requires.1, zeros_sized c.consumer_count-n.ensures few)

pub push_pending_shared-shared-requires : goal.push_pending_shared-shared-requires
push_pending_shared-shared-requires c =
    let p = c.requires in
    let s = decode c.args.store.now in
    let q = c.load_permits.ensures in
    let n = all_counted s in
    let r = p.2 in
    let few : length (shared_records s) * 13 ≤ length c.args.list.now = omega (arith, n, r) in (
      p.0,
      p.1,
      ap length q ∙ length_permits s,
      subst (λ (l : List ℕ). length (all_service_records s (services s s.dispatchers l)) * 13 ≤ length c.args.list.now) (sym q) few,
    )

-- the list is as long as it was, and has room for the records of the shared part
as_long : (ls : List ℕ) (l : List Dispatch) {ks : List ℕ} → ks ≡ filled ls 0 l → length ks ≡ length ls
as_long ls l r = ap length r ∙ filled_length ls 0 l

shared_fits : (s : State) {m n : ℕ} → m ≡ length (shared_records s) → length (local_push s).dispatched * 13 ≤ n → m * 13 ≤ n
shared_fits s q r = let c = all_counted s in omega (arith, c, q, r)

pub overflow_mul-shared : goal.overflow_mul-shared
overflow_mul-shared c =
    let s = decode c.args.store.now in
    let m = value_told s c.load_permits.ensures c.push_pending_shared-shared.ensures.value in
    let room : c.push_pending_shared-shared.result * 13 ≤ length c.args.list.now = shared_fits s m c.requires.2 in
    search rules

pub offset_bounds-list-shared : goal.offset_bounds-list-shared
offset_bounds-list-shared c =
    let s = decode c.args.store.now in
    let m = value_told s c.load_permits.ensures c.push_pending_shared-shared.ensures.value in
    let room : c.push_pending_shared-shared.result * 13 ≤ length c.args.list.now = shared_fits s m c.requires.2 in
    search rules

pub slice_bounds-serve_plain-count : goal.slice_bounds-serve_plain-count
slice_bounds-serve_plain-count c =
    let s = decode c.args.store.now in
    let shared = c.push_pending_shared-shared.ensures in
    rw (as_long c.args.list.now _ shared.records) (shared_fits s (value_told s c.load_permits.ensures shared.value) c.requires.2)

pub slice_bounds-serve_plain-start : goal.slice_bounds-serve_plain-start
slice_bounds-serve_plain-start c =
    let s = decode c.args.store.now in
    let shared = c.push_pending_shared-shared.ensures in
    let room : c.push_pending_shared-shared.result * 13 ≤ length c.push_pending_shared-shared.new.list =
    rw (as_long c.args.list.now _ shared.records) (shared_fits s (value_told s c.load_permits.ensures shared.value) c.requires.2) in
    room

pub overflow_add-result : goal.overflow_add-result
overflow_add-result c =
    let p = c.requires in
    let ws = c.args.store.now in
    let loaded = c.load_permits.ensures in
    let shared = c.push_pending_shared-shared.ensures in
    let f = fits_told (decode ws) loaded c.args.e shared.fits in
    let a = words_told (decode ws) loaded ws shared.words in
    let b = permits_told (decode ws) loaded shared.permits in
    let all = pushed_count ws p.0 p.1 f a b (value_told (decode ws) loaded shared.value) c.serve_plain.ensures.value in
    let few = due_small (decode ws) (canon_of c.args.e ws p.0 p.1).shaped in
    record { fits = omega (arith, all, few) }

pub serve_plain-requires : goal.serve_plain-requires
serve_plain-requires c =
    let p = c.requires in
    let ws = c.args.store.now in
    let loaded = c.load_permits.ensures in
    let shared = c.push_pending_shared-shared.ensures in
    let f = fits_told (decode ws) loaded c.args.e shared.fits in
    let a = words_told (decode ws) loaded ws shared.words in
    let b = permits_told (decode ws) loaded shared.permits in
    let long = as_long c.args.list.now _ shared.records in (
      canon_now ws p.0 p.1 f a,
      readable_on ws p.0 p.1 f a,
      permits_on ws p.0 p.1 f a b,
      room_on ws p.0 p.1 f a b c.push_pending_shared-shared.new.list (value_told (decode ws) loaded shared.value) (rw long p.2),
    )

pub returns : goal.returns
unfolding all_served
returns c =
    let p = c.requires in
    let ws = c.args.store.now in
    let loaded = c.load_permits.ensures in
    let shared = c.push_pending_shared-shared.ensures in
    let plain = c.serve_plain.ensures in
    let f = fits_told (decode ws) loaded c.args.e shared.fits in
    let a = words_told (decode ws) loaded ws shared.words in
    let b = permits_told (decode ws) loaded shared.permits in
    let v = value_told (decode ws) loaded shared.value in
    let records = records_told (decode ws) loaded c.args.list.now shared.records in
    record {
      value = pushed_count ws p.0 p.1 f a b v plain.value;
      words = pushed_words ws p.0 p.1 f a b plain.words;
      records =
          pushed_records ws p.0 p.1 f a b c.push_pending_shared-shared.new.list c.args.list.now c.push_pending_shared-shared.result v records
          (rw (as_long c.args.list.now _ shared.records) (shared_fits (decode ws) v p.2)) plain.records;
    }
