-- The laws of whole stores: decode after put, put after put, put of what is decoded; what `spells` gives, and that each
-- state has just one spelling. Every layer above reasons on states by these alone.
use mathlib.Core.Path.{◌≡◌, refl, sym, ap, ap₂, ◌∙◌, subst}
use mathlib.Core.Bool.{Bool, true, ◌&&◌}
use mathlib.Core.List.{List, [], ◌++◌, append_assoc, append-nil}
use Prim.Native.Nat.{ℕ, ◌+◌, ◌≤◌}
use native.Mathlib.Omega.{arith}
use lib.Dec.{leb}
use lib.ListN.{length, get_or, take, drop, length-append, length-drop}
use lib.Seq.{drop_at, take_at, get_or-drop}
use borrow.Author.Tests.{le-leb}
use Rattle.words.specs.Words.{starts}
use Rattle.words.specs.Codec.{word, pair, via, tag}
use Rattle.words.specs.Store as words
use Rattle.words.specs.Store.{Canon}
use Rattle.words.proofs.Width.{width_pair, width_via}
use Rattle.words.proofs.Store.{put_dec, canon_enc}
use Rattle.words.proofs.Check.{starts_self, starts_true, and_left, and_right}
use Rattle.words.proofs.Canon.{canon_pair, canon_via}
use Rattle.rules.specs.State.{State}
use Rattle.rules.specs.Valid.{valid}
use Rattle.rules.specs.Calls.{needed}
use Rattle.layout.specs.Layout.{header_codec, body_codec, header_of, body_of, state_of, Header, clamp, entries_in, encode, decode, spells, put}
use Rattle.layout.specs.Whole.{as_state, state_codec, Shaped}
use Rattle.layout.specs.Canon.{CanonStore}
use Rattle.layout.proofs.Shaped.{clamp_from, clamp_to, clamp_in}
use Rattle.layout.proofs.Header.{width_header, ok_header}
use Rattle.layout.proofs.Body.{width_body, ok_body, body_ok, valid_shaped}

-- ---- the codec of states

-- the whole state: as many words as are needed
pub width_state : (e : ℕ) → (state_codec e).width ≡ needed e
unfolding state_codec needed
width_state e = width_via (as_state e) (width_pair _ _ width_header (width_body e)) ∙ omega arith

-- a state's spelling is that of the codec of its E
pub encode_is : (s : State) → encode s ≡ (state_codec s.entries).enc s
unfolding encode state_codec via pair
encode_is s = refl

-- a spelling has the words that are needed
pub length_encode : (s : State) → length (encode s) ≡ needed s.entries
length_encode s = ap length (encode_is s) ∙ (state_codec s.entries).len s ∙ width_state s.entries

-- a shaped state is Ok for the codec of its E
pub ok_state : (s : State) → Shaped s → (state_codec s.entries).Ok s
unfolding state_codec via pair
ok_state s h = (ok_header s, ok_body s h)

-- whatever words decode to is shaped
pub shaped_decode : (ws : List ℕ) → Shaped (decode ws)
unfolding decode entries_in
shaped_decode ws =
    let n : ℕ = (header_codec.dec ws).entries in
    body_ok (decode ws) (clamp_from n) (clamp_to n) ((body_codec (clamp n)).sound (drop 16 ws))

-- ---- E

-- the E that a header says is word 1
pub entries_word : (ws : List ℕ) → (header_codec.dec ws).entries ≡ get_or ws 1 0
unfolding header_codec via pair word tag
entries_word ws = get_or-drop 1 ws 0 0

-- E as it is decoded
pub entries_decode : (ws : List ℕ) → (decode ws).entries ≡ entries_in ws
unfolding decode
entries_decode ws = refl

-- in its range, it is word 1
pub entries_in_range : (ws : List ℕ) → 1 ≤ get_or ws 1 0 → get_or ws 1 0 ≤ 4096 → entries_in ws ≡ get_or ws 1 0
unfolding entries_in
entries_in_range ws h k = ap clamp (entries_word ws) ∙ clamp_in (get_or ws 1 0) h k

-- words that say E decode by the codec of E
pub decode_as : (e : ℕ) (ws : List ℕ) → (header_codec.dec ws).entries ≡ e → entries_in ws ≡ e → decode ws ≡ (state_codec e).dec ws
unfolding decode state_codec via pair
decode_as e ws h k =
    ap (λ (n : ℕ). state_of n (header_codec.dec ws) ((body_codec n).dec (drop 16 ws))) k
    ∙ ap₂ (λ (n w : ℕ). state_of n (header_codec.dec ws) ((body_codec e).dec (drop w ws))) (sym h) (sym width_header)

-- ---- a spelling with anything after it

-- what was spelt is decoded
pub decode_spelt : (s : State) (r : List ℕ) → Shaped s → decode (encode s ++ r) ≡ s
unfolding encode entries_in
decode_spelt s r h =
    let t : List ℕ = (body_codec s.entries).enc (body_of s) ++ r in
    let e : header_codec.dec (encode s ++ r) ≡ header_of s =
    rw (append_assoc (header_codec.enc (header_of s))) (header_codec.round (header_of s) t (ok_header s)) in
    let n : (header_codec.dec (encode s ++ r)).entries ≡ s.entries = ap (λ (x : Header). x.entries) e in
    decode_as s.entries (encode s ++ r) n (ap clamp n ∙ clamp_in s.entries h.E_least h.E_most)
    ∙ rw (encode_is s) ((state_codec s.entries).round s r (ok_state s h))

-- the spelling of a shaped state is a store as it should be
pub canon_spelt : (s : State) (r : List ℕ) → Shaped s → CanonStore s.entries (encode s ++ r)
unfolding encode entries_in needed
canon_spelt s r h =
    let x : List ℕ = header_codec.enc (header_of s) in
    let t : List ℕ = (body_codec s.entries).enc (body_of s) ++ r in
    let a : x ++ (body_codec s.entries).enc (body_of s) ++ r ≡ x ++ t = append_assoc x ((body_codec s.entries).enc (body_of s)) r in
    let n : (header_codec.dec (encode s ++ r)).entries ≡ s.entries =
    rw a (ap (λ (y : Header). y.entries) (header_codec.round (header_of s) t (ok_header s))) in
    let l : length (encode s ++ r) ≡ needed s.entries + length r =
    length-append (encode s) r ∙ ap (λ (k : ℕ). k + length r) (length_encode s) in
    let d : drop 16 (encode s ++ r) ≡ t = ap (drop 16) a ∙ drop_at x t 16 (header_codec.len (header_of s) ∙ width_header) in
    record {
      E_word = sym (entries_word (encode s ++ r)) ∙ n;
      E_in = ap clamp n ∙ clamp_in s.entries h.E_least h.E_most;
      E_from = h.E_least;
      E_to = h.E_most;
      long = omega arith;
      long_needed = omega arith;
      header = rw a (canon_enc header_codec (header_of s) t (ok_header s));
      body = rw d (canon_enc (body_codec s.entries) (body_of s) r (ok_body s h));
      shaped = shaped_decode (encode s ++ r);
    }

-- ---- stores as they should be

-- such a store is canonical for the codec of its E
pub canon_state : {e : ℕ} {ws : List ℕ} → CanonStore e ws → Canon (state_codec e) ws
unfolding state_codec
canon_state {e} {ws} h =
    (canon_via (as_state e) ws refl).1 ((canon_pair header_codec (body_codec e) ws).1 (h.header, rw width_header h.body))

-- and is decoded by it
pub decode_canon : {e : ℕ} {ws : List ℕ} → CanonStore e ws → decode ws ≡ (state_codec e).dec ws
decode_canon {e} {ws} h = decode_as e ws (entries_word ws ∙ h.E_word) h.E_in

-- its E
pub canon_entries : {e : ℕ} {ws : List ℕ} → CanonStore e ws → (decode ws).entries ≡ e
canon_entries {e} {ws} h = entries_decode ws ∙ h.E_in

-- a put is a put by the codec of the state's E
pub put_as : {e : ℕ} (ws : List ℕ) (s : State) → s.entries ≡ e → put ws s ≡ words.put (state_codec e) ws s
unfolding put words.put
put_as ws s e =
    subst (λ (k : ℕ). encode s ++ drop (needed s.entries) ws ≡ (state_codec k).enc s ++ drop (state_codec k).width ws) e
    (ap₂ {C = List ℕ} (λ (l : List ℕ) (k : ℕ). l ++ drop k ws) (encode_is s) (sym (width_state s.entries)))

-- ---- the laws of get and put

-- what was put is decoded
pub decode_put : (ws : List ℕ) (s : State) → Shaped s → decode (put ws s) ≡ s
unfolding put
decode_put ws s h = decode_spelt s (drop (needed s.entries) ws) h

-- after a put of a shaped state the store is as it should be
pub canon_put : (ws : List ℕ) (s : State) → Shaped s → CanonStore s.entries (put ws s)
unfolding put
canon_put ws s h = canon_spelt s (drop (needed s.entries) ws) h

-- a put leaves the words past the needed ones
pub drop_put : (ws : List ℕ) (s : State) → drop (needed s.entries) (put ws s) ≡ drop (needed s.entries) ws
unfolding put
drop_put ws s = drop_at (encode s) (drop (needed s.entries) ws) (needed s.entries) (length_encode s)

-- of two puts of states of the same E the last one stands
pub put_put : (ws : List ℕ) (s t : State) → s.entries ≡ t.entries → put (put ws s) t ≡ put ws t
unfolding put
put_put ws s t e =
    ap (λ (r : List ℕ). encode t ++ r)
    (subst (λ (k : ℕ). drop (needed k) (put ws s) ≡ drop (needed k) ws) e (drop_put ws s))

-- to put what is decoded changes nothing
pub put_decode : {e : ℕ} {ws : List ℕ} → CanonStore e ws → put ws (decode ws) ≡ ws
put_decode {e} {ws} h =
    put_as ws (decode ws) (canon_entries h)
    ∙ ap (words.put (state_codec e) ws) (decode_canon h)
    ∙ put_dec (state_codec e) (canon_state h)

-- a put keeps the length
pub length_put : (ws : List ℕ) (s : State) → needed s.entries ≤ length ws → length (put ws s) ≡ length ws
unfolding put
length_put ws s h = rw (length-append (encode s), length_encode s, length-drop) (omega arith)

-- ---- what spells a state

-- words that spell a state are its spelling and whatever follows
pub spells_spelt : (ws : List ℕ) → spells ws ≡ true → ws ≡ encode (decode ws) ++ drop (needed (decode ws).entries) ws
unfolding spells
spells_spelt ws h =
    let x : Bool = leb (needed (decode ws).entries) (length ws) in
    let y : Bool = starts (encode (decode ws)) ws in
    rw (length_encode (decode ws)) at
    (starts_true (encode (decode ws)) ws (and_right x y (and_left (x && y) (valid (decode ws)) h)))

-- and the state is valid
pub spells_valid : (ws : List ℕ) → spells ws ≡ true → valid (decode ws) ≡ true
unfolding spells
spells_valid ws h =
    and_right (leb (needed (decode ws).entries) (length ws) && starts (encode (decode ws)) ws) (valid (decode ws)) h

-- and they are a store as it should be
pub spells_canon : {ws : List ℕ} → spells ws ≡ true → CanonStore (decode ws).entries ws
spells_canon {ws} h =
    subst (λ (l : List ℕ). CanonStore (decode ws).entries l) (sym (spells_spelt ws h))
    (canon_spelt (decode ws) (drop (needed (decode ws).entries) ws) (shaped_decode ws))

-- the spelling of a valid state spells a state, whatever follows
pub spelt_spells : (s : State) (r : List ℕ) → valid s ≡ true → spells (encode s ++ r) ≡ true
unfolding spells
spelt_spells s r v =
    let e : decode (encode s ++ r) ≡ s = decode_spelt s r (valid_shaped s v) in
    let l : length (encode s ++ r) ≡ needed s.entries + length r =
    length-append (encode s) r ∙ ap (λ (k : ℕ). k + length r) (length_encode s) in
    rw (e, le-leb (needed s.entries) (length (encode s ++ r)) (omega arith), starts_self (encode s) r) v

-- alone
pub encode_spells : (s : State) → valid s ≡ true → spells (encode s) ≡ true
encode_spells s v = rw (append-nil (encode s)) at (spelt_spells s [] v)

-- or put into any words
pub put_spells : (ws : List ℕ) (s : State) → valid s ≡ true → spells (put ws s) ≡ true
unfolding put
put_spells ws s v = spelt_spells s (drop (needed s.entries) ws) v

-- a canonical store with a valid state spells it
pub canon_spells : {e : ℕ} {ws : List ℕ} → CanonStore e ws → valid (decode ws) ≡ true → spells ws ≡ true
canon_spells {ws = ws} h v = ap spells (sym (put_decode h)) ∙ put_spells ws (decode ws) v

-- the needed words of a store are the one spelling of its state
pub spells_take : (ws : List ℕ) → spells ws ≡ true → take (needed (decode ws).entries) ws ≡ encode (decode ws)
spells_take ws h =
    let s : State = decode ws in
    let r : List ℕ = drop (needed s.entries) ws in
    ap (take (needed s.entries)) (spells_spelt ws h) ∙ take_at (encode s) r (needed s.entries) (length_encode s)

-- two stores that spell the same state have the same needed words
pub one_spelling : (ws vs : List ℕ) → spells ws ≡ true → spells vs ≡ true → decode ws ≡ decode vs
    → take (needed (decode ws).entries) ws ≡ take (needed (decode ws).entries) vs
one_spelling ws vs h k e =
    spells_take ws h ∙ ap encode e ∙ sym (spells_take vs k)
    ∙ ap (λ (s : State). take (needed s.entries) vs) (sym e)
