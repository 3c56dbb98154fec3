-- A dispatcher made word by word.
use mathlib.Core.Path.{◌≡◌, refl, ap, ◌∙◌}
use mathlib.Core.List.{List, [], ◌∷◌, ◌++◌}
use Prim.Native.Nat.{ℕ, ◌+◌, ◌≤◌, ◌<◌}
use native.Mathlib.Omega.{arith}
use lib.ListN.{replicate, length, length-append, set, get_or}
use lib.Seq.{get_or-append_seam, set-append_seam}
use Rattle.words.proofs.Each.{all_append}
use Rattle.rules.specs.Permits.{zero_permits}
use Rattle.rules.specs.State.{Dispatcher, State, new_mark, new_dispatcher, with_dispatchers}
use Rattle.rules.specs.Dispatcher.{with_total, with_marks}
use Rattle.layout.specs.Layout.{decode, put}
use Rattle.layout.specs.Whole.{Shaped, ShapedDispatcher}
use Rattle.layout.specs.Canon.{CanonStore}
use Rattle.layout.specs.Offsets.{dispatcher_at, marks_in}
use Rattle.layout.specs.Placed.{DispatcherIn}
use Rattle.layout.specs.Fields.{zero_dispatcher, dispatcher_nth, dispatcher_now, put_dispatcher_at, set_dispatcher, of_topic, of_subscription, for_pair}
use Rattle.layout.proofs.Store.{canon_entries}
use Rattle.layout.proofs.Placed.{dispatcher_in, shaped_dispatchers, shaped_for_pair, shaped_total}
use Rattle.layout.proofs.SetsDispatcher as sets_d
use Rattle.operation_laws.proofs.Frame.{then_write, canon_after, decode_after, dispatcher_twice, dispatcher_set_in, dispatcher_now_is}

-- a blank dispatcher fits
shaped_blank : (e : ℕ) → ShapedDispatcher e zero_dispatcher
shaped_blank e =
    record { ring_fits = omega arith; outside_fits = omega arith; queue_fits = omega arith; flight_fits = omega arith; marks_fit = omega arith }

-- a dispatcher of a pair with no permits and so many marks more
abbrev filled : ℕ → ℕ → ℕ → Dispatcher → Dispatcher
filled topic subscription n d =
    let d1 = for_pair d (of_topic d.pair topic) in
    let d2 = for_pair d1 (of_subscription d1.pair subscription) in
    let d3 = with_total d2 zero_permits in
    with_marks d3 (d3.marks ++ replicate n new_mark) d3.outside

module _ {e : ℕ} {us : List ℕ} (d : ℕ) (h : DispatcherIn e us d) where
  -- words with a dispatcher at d
  abbrev HasD : List ℕ → Dispatcher → Type 0
  HasD vs x = vs ≡ put us (set_dispatcher (decode us) d x)

  same : (decode us).entries ≡ e
  same = canon_entries h.canon

  -- one write more
  then_d : {vs xs : List ℕ} (x : Dispatcher) (g : Dispatcher → Dispatcher) → ShapedDispatcher e x → HasD vs x
      → (DispatcherIn e vs d → xs ≡ put_dispatcher_at vs d (g (dispatcher_now vs d))) → HasD xs (g x)
  then_d x g k w f =
      dispatcher_twice us (decode us) d x g h.canon.shaped (rw same k) h.there w
      (f (dispatcher_set_in us (decode us) d x h.canon.shaped same (rw same k) w h.there))

  -- its four words
  filled_dispatcher : (topic subscription n : ℕ) → length (dispatcher_nth (decode us) d).marks ≡ 0 → n ≤ e
      → HasD (set (set (set (set us (dispatcher_at e d) topic) (dispatcher_at e d + 1) subscription) (dispatcher_at e d + 5) zero_permits) (dispatcher_at e d + marks_in e) n)
      (filled topic subscription n (dispatcher_nth (decode us) d))
  unfolding for_pair of_topic of_subscription with_total with_marks
  filled_dispatcher topic subscription n none r =
      let x = dispatcher_nth (decode us) d in
      let d1 = for_pair x (of_topic x.pair topic) in
      let d2 = for_pair d1 (of_subscription d1.pair subscription) in
      let d3 = with_total d2 zero_permits in
      let k1 = shaped_for_pair x h.lists_fit (of_topic x.pair topic) in
      let k2 = shaped_for_pair d1 k1 (of_subscription d1.pair subscription) in
      let k3 = shaped_total d2 k2 zero_permits in
      let v3 = set (set (set us (dispatcher_at e d) topic) (dispatcher_at e d + 1) subscription) (dispatcher_at e d + 5) zero_permits in
      let w1 : HasD (set us (dispatcher_at e d) topic) d1 = sets_d.write_dispatcher_topic h.canon d h.there topic in
      let w2 = then_d d1 (λ (y : Dispatcher). for_pair y (of_subscription y.pair subscription)) k1 w1 (λ i. sets_d.write_dispatcher_subscription i.canon d i.there subscription) in
      let w3 : HasD v3 d3 = then_d d2 (λ (y : Dispatcher). with_total y zero_permits) k2 w2 (λ i. sets_d.write_total i.canon d i.there zero_permits) in
      let q : length (dispatcher_now v3 d).marks ≡ 0 = ap (λ (y : Dispatcher). length y.marks) (dispatcher_now_is us (decode us) d d3 h.canon.shaped (rw same k3) w3 h.there) ∙ none in
      let m : n ≡ length (dispatcher_now v3 d).marks + n = omega arith in
      let f : length (dispatcher_now v3 d).marks + n ≤ e = omega arith in
      then_d d3 (λ (y : Dispatcher). with_marks y (y.marks ++ replicate n new_mark) y.outside) k3 w3
      (λ i. ap (set v3 (dispatcher_at e d + marks_in e)) m ∙ sets_d.raise_marks i.canon d i.there n f)

-- the blank one at the end, then its words
pub made_dispatcher : {e : ℕ} {ws us : List ℕ} (n topic subscription entries : ℕ) → CanonStore e ws → n ≡ length (decode ws).dispatchers → n < 8 → entries ≤ e
    → us ≡ put ws (with_dispatchers (decode ws) ((decode ws).dispatchers ++ zero_dispatcher ∷ []))
    → set (set (set (set us (dispatcher_at e n) topic) (dispatcher_at e n + 1) subscription) (dispatcher_at e n + 5) zero_permits) (dispatcher_at e n + marks_in e) entries
    ≡ put ws (with_dispatchers (decode ws) ((decode ws).dispatchers ++ new_dispatcher (record { topic = topic; subscription = subscription }) entries ∷ []))
unfolding set_dispatcher for_pair of_topic of_subscription with_total with_marks new_dispatcher with_dispatchers
made_dispatcher {e} {ws} {us} n topic subscription entries h c r f w =
    let l = (decode ws).dispatchers in
    let t : State = with_dispatchers (decode ws) (l ++ zero_dispatcher ∷ []) in
    let longer : length (l ++ zero_dispatcher ∷ []) ≡ length l + 1 = length-append l (zero_dispatcher ∷ []) in
    let shaped : Shaped t =
    shaped_dispatchers (decode ws) h.shaped (l ++ zero_dispatcher ∷ []) (omega arith)
    (all_append (ShapedDispatcher (decode ws).entries) l (zero_dispatcher ∷ []) h.shaped.each_dispatcher (shaped_blank (decode ws).entries, tt)) in
    let now : decode us ≡ t = decode_after ws t shaped w in
    let more : length (decode us).dispatchers ≡ length l + 1 = ap (λ (s : State). length s.dispatchers) now ∙ longer in
    let there : DispatcherIn e us n = dispatcher_in (canon_after ws t shaped (canon_entries h) w) n (omega arith) in
    let blank : get_or (l ++ zero_dispatcher ∷ []) n zero_dispatcher ≡ zero_dispatcher = rw c (get_or-append_seam l zero_dispatcher [] zero_dispatcher) in
    let z : length (dispatcher_nth (decode us) n).marks ≡ 0 = ap (λ (s : State). length (dispatcher_nth s n).marks) now ∙ ap (λ (x : Dispatcher). length x.marks) blank in
    then_write ws t (λ (s : State). set_dispatcher s n (filled topic subscription entries (dispatcher_nth s n))) shaped refl w
    (filled_dispatcher n there topic subscription entries z f)
    ∙ rw (blank, c, set-append_seam)
