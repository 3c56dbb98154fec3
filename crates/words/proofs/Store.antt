-- The laws of get and put over a whole store, for any codec: decode after put, put after put, put of what is decoded,
-- and that a value has just one spelling. Every layer above reasons on decoded values by these alone.
use mathlib.Core.Path.{◌≡◌, sym, ap, ◌∙◌}
use mathlib.Core.List.{List, ◌++◌}
use Prim.Native.Nat.{ℕ, ◌≤◌}
use native.Mathlib.Omega.{arith}
use lib.ListN.{length, get_or, take, drop, length-append, length-drop}
use lib.Seq.{drop_at, take_at}
use Rattle.words.specs.Codec.{Codec}
use Rattle.words.specs.Store.{put, Canon}
use Rattle.words.specs.Act.{Act}
use Rattle.words.specs.Field.{Reads, Writes, Holds}

module _ {A : Type 0} (c : Codec A) where
  -- What was put is decoded.
  pub dec_put : (ws : List ℕ) (a : A) → c.Ok a → c.dec (put c ws a) ≡ a
  unfolding put
  dec_put ws a ok = c.round a (drop c.width ws) ok

  -- A put leaves the words after the spelling.
  pub drop_put : (ws : List ℕ) (a : A) → drop c.width (put c ws a) ≡ drop c.width ws
  unfolding put
  drop_put ws a = drop_at (c.enc a) (drop c.width ws) c.width (c.len a)

  -- Of two puts the last one stands.
  pub put_put : (ws : List ℕ) (a b : A) → put c (put c ws a) b ≡ put c ws b
  unfolding put
  put_put ws a b = ap (λ (r : List ℕ). c.enc b ++ r) (drop_put ws a)

  -- To put what is decoded changes nothing.
  pub put_dec : {ws : List ℕ} → Canon c ws → put c ws (c.dec ws) ≡ ws
  unfolding put
  put_dec h = sym h.spelt

  -- A put keeps the length.
  pub length_put : (ws : List ℕ) (a : A) → c.width ≤ length ws → length (put c ws a) ≡ length ws
  unfolding put
  length_put ws a h = rw (length-append (c.enc a), c.len a, length-drop) (omega arith)

  -- The spelling of an Ok value, with anything after it, is canonical.
  pub canon_enc : (a : A) (r : List ℕ) → c.Ok a → Canon c (c.enc a ++ r)
  canon_enc a r ok =
      record {
        long = rw (length-append (c.enc a), c.len a) (omega arith);
        spelt = rw (c.round a r ok, drop_at (c.enc a) r c.width (c.len a));
      }

  -- After a put of an Ok value the store is canonical.
  pub canon_put : (ws : List ℕ) (a : A) → c.Ok a → Canon c (put c ws a)
  unfolding put
  canon_put ws a ok = canon_enc a (drop c.width ws) ok

  -- A canonical store's first words are the spelling of what it decodes to.
  pub canon_take : {ws : List ℕ} → Canon c ws → take c.width ws ≡ c.enc (c.dec ws)
  canon_take {ws} h = ap (take c.width) h.spelt ∙ take_at (c.enc (c.dec ws)) (drop c.width ws) c.width (c.len (c.dec ws))

  -- A value has just one spelling.
  pub one_spelling : {ws vs : List ℕ} → Canon c ws → Canon c vs → c.dec ws ≡ c.dec vs → take c.width ws ≡ take c.width vs
  one_spelling h k e = canon_take h ∙ ap c.enc e ∙ sym (canon_take k)

  -- Two canonical stores that decode alike and go on alike are the same.
  pub same_store : {ws vs : List ℕ} → Canon c ws → Canon c vs → c.dec ws ≡ c.dec vs → drop c.width ws ≡ drop c.width vs → ws ≡ vs
  same_store h k e d = h.spelt ∙ rw (e, d) (sym k.spelt)

module _ {A : Type 0} {c : Codec A} where
  -- A word of a canonical store.
  pub canon_reads : {ws : List ℕ} {off v : ℕ} → Canon c ws → Reads c (c.dec ws) off v → get_or ws off 0 ≡ v
  canon_reads {ws} {off} h s = ap (λ (l : List ℕ). get_or l off 0) h.spelt ∙ s.got (drop c.width ws)

  -- An act on a canonical store is a put.
  pub canon_writes : {ws : List ℕ} {off : ℕ} {act : Act} {b : A} → Canon c ws → Writes c (c.dec ws) off act b → act.run off ws ≡ put c ws b
  unfolding put
  canon_writes {ws} {off} {act} h s = ap (act.run off) h.spelt ∙ s.done (drop c.width ws)

  -- A word of a store after a put.
  pub put_reads : {a : A} {off v : ℕ} (ws : List ℕ) → Reads c a off v → get_or (put c ws a) off 0 ≡ v
  unfolding put
  put_reads ws s = s.got (drop c.width ws)

  -- An act after a put is another put.
  pub put_writes : {a b : A} {off : ℕ} {act : Act} (ws : List ℕ) → Writes c a off act b → act.run off (put c ws a) ≡ put c ws b
  unfolding put
  put_writes ws s = s.done (drop c.width ws)

module _ {A B : Type 0} {c : Codec A} {d : Codec B} {ws : List ℕ} {off : ℕ} {b : B} where
  -- What a canonical store holds stands there as it is spelt.
  pub canon_found : Canon c ws → (h : Holds c (c.dec ws) off d b) → drop off ws ≡ d.enc b ++ h.after (drop c.width ws)
  canon_found h k = ap (drop off) h.spelt ∙ k.found (drop c.width ws)

  -- The words of what a canonical store holds.
  pub canon_words : Canon c ws → Holds c (c.dec ws) off d b → take d.width (drop off ws) ≡ d.enc b
  canon_words h k = rw (canon_found h k) (take_at (d.enc b) (k.after (drop c.width ws)) d.width (d.len b))

  -- What a canonical store holds is decoded where it stands, and is canonical there.
  pub canon_holds : Canon c ws → Holds c (c.dec ws) off d b → d.Ok b → d.dec (drop off ws) ≡ b
  canon_holds h k ok = rw (canon_found h k) (d.round b (k.after (drop c.width ws)) ok)

  pub canon_part : Canon c ws → Holds c (c.dec ws) off d b → d.Ok b → Canon d (drop off ws)
  canon_part h k ok = rw (canon_found h k) (canon_enc d b (k.after (drop c.width ws)) ok)
