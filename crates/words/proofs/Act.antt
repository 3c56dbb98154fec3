-- What acts do to words, as plain equations on lists: a run of stores is a cut and a paste, and each turn of a loop
-- that writes or moves words takes the act for j words to the act for j + 1.
use mathlib.Core.Path.{◌≡◌, refl, sym, ap, ◌∙◌}
use mathlib.Core.List.{List, [], ◌∷◌, ◌++◌, append_assoc}
use Prim.Native.Nat.{ℕ, suc, ◌+◌, ◌≤◌, ◌<◌}
use native.Mathlib.Nat.{zero-add, add-suc, suc-add, add-zero}
use native.Mathlib.Numerals.{add-one}
use native.Mathlib.Omega.{arith}
use lib.ListN.{length, get_or, set, take, drop, replicate, length-append, length-take, length-drop, length-replicate, replicate-append-replicate}
use lib.Seq.{sets-eq, set_comm, get_or-set_other, take-suc, get_or-drop, drop-cons, length-take-le, drop_at, take_at, drop-drop}
use Rattle.words.specs.Act.{Act, store, lay, clear, both, past, down, up, close}

-- ---- runs of stores

-- A run of stores that fits is a cut and a paste.
pub lay_eq : (vs : List ℕ) (off : ℕ) (ws : List ℕ) → off + length vs ≤ length ws → (lay vs).run off ws ≡ take off ws ++ vs ++ drop (off + length vs) ws
unfolding lay
lay_eq vs off ws h = sets-eq vs ws off h

-- The first word is stored, then the others from the next word on.
pub lay_cons : (v : ℕ) (vs : List ℕ) (off : ℕ) (ws : List ℕ) → (lay (v ∷ vs)).run off ws ≡ (lay vs).run (off + 1) ((store v).run off ws)
unfolding lay store
lay_cons v vs off ws = let e : off + 1 ≡ suc off = omega arith in rw e

-- Words are laid by parts.
pub lay_append : (us vs : List ℕ) (off : ℕ) (ws : List ℕ) → (lay (us ++ vs)).run off ws ≡ (lay vs).run (off + length us) ((lay us).run off ws)
unfolding lay
lay_append [] vs off ws = rw add-zero
lay_append (u ∷ us) vs off ws = rw (add-suc, ← suc-add) (lay_append us vs (suc off) (set ws off u))

-- One more word at the end: the turn of a loop that writes words.
pub lay_snoc : (vs : List ℕ) (v off : ℕ) (ws : List ℕ) → (lay (vs ++ (v ∷ []))).run off ws ≡ set ((lay vs).run off ws) (off + length vs) v
unfolding lay
lay_snoc vs v off ws = lay_append vs (v ∷ []) off ws

-- A run of stores leaves the words past it, and those before it.
pub getD_lay_after : (vs : List ℕ) (off i : ℕ) (ws : List ℕ) → off + length vs ≤ i → get_or ((lay vs).run off ws) i 0 ≡ get_or ws i 0
unfolding lay
getD_lay_after [] off i ws h = refl
getD_lay_after (v ∷ vs) off i ws h = getD_lay_after vs (suc off) i (set ws off v) (omega arith) ∙ get_or-set_other ws off i v 0 (λ e. omega arith)

pub getD_lay_before : (vs : List ℕ) (off i : ℕ) (ws : List ℕ) → i < off → get_or ((lay vs).run off ws) i 0 ≡ get_or ws i 0
unfolding lay
getD_lay_before [] off i ws h = refl
getD_lay_before (v ∷ vs) off i ws h = getD_lay_before vs (suc off) i (set ws off v) (omega arith) ∙ get_or-set_other ws off i v 0 (λ e. omega arith)

-- A store before a run of stores may as well come after it.
pub lay_set : (vs : List ℕ) (off i v : ℕ) (ws : List ℕ) → i < off → (lay vs).run off (set ws i v) ≡ set ((lay vs).run off ws) i v
unfolding lay
lay_set [] off i v ws h = refl
lay_set (u ∷ vs) off i v ws h = rw (set_comm ws i off v u (λ e. omega arith)) (lay_set vs (suc off) i v (set ws off u) (omega arith))

-- And so may one past it.
pub lay_set_past : (vs : List ℕ) (off i v : ℕ) (ws : List ℕ) → off + length vs ≤ i → (lay vs).run off (set ws i v) ≡ set ((lay vs).run off ws) i v
unfolding lay
lay_set_past [] off i v ws h = refl
lay_set_past (u ∷ vs) off i v ws h =
    rw (set_comm ws i off v u (λ e. omega arith)) (lay_set_past vs (suc off) i v (set ws off u) (omega arith))

-- ---- an act on a part of the words

-- An act after the words l, of which there are off.
pub run_after : (x : Act) (l t : List ℕ) (off i : ℕ) → length l ≡ off → x.run (off + i) (l ++ t) ≡ l ++ x.run i t
run_after x l t off i e = rw (← e) (x.local i l t)

pub run_at : (x : Act) (l t : List ℕ) (off : ℕ) → length l ≡ off → x.run off (l ++ t) ≡ l ++ x.run 0 t
run_at x l t off e = ap (λ (k : ℕ). x.run k (l ++ t)) (sym (add-zero off)) ∙ run_after x l t off 0 e

-- Words laid over the first words.
pub lay_front : (vs t : List ℕ) → length vs ≤ length t → (lay vs).run 0 t ≡ vs ++ drop (length vs) t
lay_front vs t h = lay_eq vs 0 t (omega arith) ∙ ap (λ (k : ℕ). vs ++ drop k t) (zero-add (length vs))

pub lay_over : (us vs r : List ℕ) → length us ≡ length vs → (lay vs).run 0 (us ++ r) ≡ vs ++ r
lay_over us vs r e = lay_front vs (us ++ r) (rw length-append (omega arith)) ∙ ap (λ (t : List ℕ). vs ++ t) (drop_at us r (length vs) e)

-- The words vs move down over the gap us, and as many zeros follow them.
pub close_words : (us vs r : List ℕ) (w n : ℕ) → length us ≡ w → length vs ≡ n → (close w n).run 0 (us ++ (vs ++ r)) ≡ vs ++ (replicate w 0 ++ r)
unfolding both past down lay
close_words us vs r w n e f =
    let x : List ℕ = us ++ (vs ++ r) in
    let z : List ℕ = replicate w 0 in
    let lz : length z ≡ w = length-replicate {A = ℕ} w 0 in
    let lx : length x ≡ length us + (length vs + length r) = simp length-append in
    let d : (lay vs).run 0 x ≡ vs ++ drop n x = lay_front vs x (omega arith) ∙ ap (λ (k : ℕ). vs ++ drop k x) f in
    let t : drop w (drop n x) ≡ r = drop-drop w n x ∙ rw (← append_assoc us vs r) (drop_at (us ++ vs) r (n + w) (rw length-append (omega arith))) in
    rw (zero-add w, zero-add n, drop_at us (vs ++ r) w e, take_at vs r n f)
    (ap ((lay z).run n) d
    ∙ run_at (lay z) vs (drop n x) n f
    ∙ ap (λ (q : List ℕ). vs ++ q) (lay_front z (drop n x) (rw length-drop (omega arith)) ∙ ap (λ (q : List ℕ). z ++ q) (rw lz t)))

-- The words vs move up over z, and us is laid before them.
pub insert_words : (us vs z r : List ℕ) (w n : ℕ) → length us ≡ w → length z ≡ w → length vs ≡ n
    → (both (up w n) (lay us)).run 0 (vs ++ (z ++ r)) ≡ us ++ (vs ++ r)
unfolding both up lay
insert_words us vs z r w n e g f =
    let x : List ℕ = vs ++ (z ++ r) in
    let lx : length x ≡ length vs + (length z + length r) = simp length-append in
    let d : drop (w + length vs) x ≡ r = rw (← append_assoc vs z r) (drop_at (vs ++ z) r (w + length vs) (rw length-append (omega arith))) in
    let m : (lay vs).run w x ≡ take w x ++ (vs ++ r) = lay_eq vs w x (omega arith) ∙ rw (d, append_assoc) in
    rw (zero-add w, take_at vs (z ++ r) n f)
    (ap ((lay us).run 0) m ∙ lay_over (take w x) us (vs ++ r) (length-take-le w x (omega arith) ∙ sym e))

-- ---- loops: before the first turn, and from turn to turn

pub lay_none : (off : ℕ) (ws : List ℕ) → (lay []).run off ws ≡ ws
unfolding lay
lay_none off ws = refl

pub down_none : (w off : ℕ) (ws : List ℕ) → (down w 0).run off ws ≡ ws
unfolding down
down_none w off ws = refl

pub up_none : (w off : ℕ) (ws : List ℕ) → (up w 0).run off ws ≡ ws
unfolding up
up_none w off ws = refl

-- One more word of vs is written.
pub lay_turn : {us : List ℕ} (vs : List ℕ) (j off : ℕ) (ws : List ℕ) → us ≡ (lay (take j vs)).run off ws → j < length vs
    → set us (off + j) (get_or vs j 0) ≡ (lay (take (j + 1) vs)).run off ws
lay_turn vs j off ws s h =
    rw (
      s,
      add-one j,
      take-suc vs j 0 h,
      lay_snoc (take j vs) (get_or vs j 0) off ws,
      length-take-le j vs (omega arith),
    )

-- One more word is cleared.
pub clear_turn : {us : List ℕ} (j off : ℕ) (ws : List ℕ) → us ≡ (clear j).run off ws → set us (off + j) 0 ≡ (clear (j + 1)).run off ws
clear_turn j off ws s =
    rw s
    (sym
    (ap (λ (vs : List ℕ). (lay vs).run off ws) (sym (replicate-append-replicate {A = ℕ} j 1 0))
    ∙ lay_snoc (replicate j 0) 0 off ws
    ∙ ap (λ (k : ℕ). set ((clear j).run off ws) (off + k) 0) (length-replicate {A = ℕ} j 0)))

-- One more word is moved down.
pub down_turn : {us : List ℕ} (w j off : ℕ) (ws : List ℕ) → us ≡ (down w j).run off ws → off + w + j < length ws
    → set us (off + j) (get_or us (off + w + j) 0) ≡ (down w (j + 1)).run off ws
unfolding down lay
down_turn {us} w j off ws s h =
    let l : List ℕ = drop (off + w) ws in
    let after : get_or ((lay (take j l)).run off ws) (off + w + j) 0 ≡ get_or ws (off + w + j) 0 =
    getD_lay_after (take j l) off (off + w + j) ws (rw length-take (omega arith)) in
    let e : get_or us (off + w + j) 0 ≡ get_or l j 0 = rw s (after ∙ sym (get_or-drop (off + w) ws j 0)) in
    ap (set us (off + j)) e ∙ lay_turn l j off ws s (rw length-drop (omega arith))

-- One more word is moved up, the last one first.
pub up_turn : {us : List ℕ} (w m off : ℕ) (ws : List ℕ) → us ≡ (up w m).run (off + 1) ws → off < length ws
    → set us (off + w) (get_or us off 0) ≡ (up w (m + 1)).run off ws
unfolding up lay
up_turn w m off ws e h =
    let vs : List ℕ = take m (drop (suc off) ws) in
    let s : suc off + w ≡ suc (off + w) = omega arith in
    rw (
      e,
      add-one off,
      add-one m,
      drop-cons ws off 0 h,
      s,
      getD_lay_before vs (suc (off + w)) off ws (omega arith),
    )
    (sym (lay_set vs (suc (off + w)) (off + w) (get_or ws off 0) ws (omega arith)))
