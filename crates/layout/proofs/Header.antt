-- The header: all that is said of its words one by one stands here.
use mathlib.Core.Path.{◌≡◌, refl, ap₂, ◌∙◌}
use mathlib.Core.Bool.{◌&&◌}
use mathlib.Core.List.{List}
use Prim.Native.Nat.{ℕ, ◌≤◌}
use native.Mathlib.Omega.{arith}
use lib.Dec.{eqb, leb}
use lib.ListN.{length, get_or, drop}
use Rattle.words.specs.Words.{blank}
use Rattle.words.specs.Codec.{bit, word, flag, asFlag, tag, asTag, zeros, pair, via}
use Rattle.words.specs.Field.{Reads}
use Rattle.words.specs.Store.{canonical}
use Rattle.words.proofs.Width.{width_word, width_flag, width_tag, width_zeros, width_pair, width_via}
use Rattle.words.proofs.Field.{reads_tag, reads_flag, reads_left, reads_right, reads_via}
use Rattle.words.proofs.Check.{canonical_tag, canonical_flag, canonical_zeros, canonical_via}
use Rattle.rules.specs.State.{State}
use Rattle.rules.specs.Valid.{Valid}
use Rattle.layout.specs.Layout.{layout_tag, Header, as_header, header_codec, header_of}
use Rattle.layout.specs.Offsets.{header_reserved_at, header_reserved}
use Rattle.layout.proofs.Fine.{Fine, fine_word, fine_flag, fine_tag, fine_zeros, fine_pair, fine_via}
use Rattle.layout.proofs.Check.{plain_word, part, skip}

-- its width
pub width_header : header_codec.width ≡ 16
unfolding header_codec
width_header =
    width_via as_header
    (width_pair _ _ (width_tag layout_tag)
    (width_pair _ _ width_word (width_pair _ _ width_flag (width_pair _ _ width_flag (width_zeros header_reserved)))))

-- the header of any state is Ok
pub ok_header : (s : State) → header_codec.Ok (header_of s)
unfolding header_codec via pair tag asTag word flag asFlag zeros
ok_header s = (tt, (tt, (tt, (tt, tt))))

-- that of a valid state has only 64-bit words
pub fine_header : (s : State) → Valid s → Fine header_codec (header_of s)
unfolding header_codec
fine_header s v =
    let e : s.entries ≤ 4096 = v.E_to in
    fine_via as_header (header_of s)
    (fine_pair _ _ _ (fine_tag layout_tag tt (omega arith))
    (fine_pair _ _ _ (fine_word s.entries (omega arith))
    (fine_pair _ _ _ (fine_flag s.leak_shared_permits_on_churn)
    (fine_pair _ _ _ (fine_flag s.live_id_subscribe_is_noop) (fine_zeros header_reserved tt)))))

-- its words as a check tests them: those that only one value spells
pub check_header : (ws : List ℕ) → 16 ≤ length ws
    → canonical header_codec ws
    ≡ eqb (get_or ws 0 0) layout_tag && (leb (get_or ws 2 0) 1 && (leb (get_or ws 3 0) 1 && blank header_reserved (drop header_reserved_at ws)))
unfolding header_codec
check_header ws h =
    canonical_via as_header ws refl
    ∙ part _ _ 0 1 ws refl (width_tag layout_tag)
    ∙ ap₂ ◌&&◌ (canonical_tag layout_tag 0 ws (omega arith))
    (skip _ 1 2 ws refl plain_word (omega arith)
    ∙ part _ _ 2 3 ws refl width_flag
    ∙ ap₂ ◌&&◌ (canonical_flag 2 ws (omega arith))
    (part _ _ 3 4 ws refl width_flag
    ∙ ap₂ ◌&&◌ (canonical_flag 3 ws (omega arith)) (canonical_zeros header_reserved (drop header_reserved_at ws))))

-- ---- its words, read

module _ (h : Header) where
  -- the tag
  pub reads_layout_tag : Reads header_codec h 0 layout_tag
  unfolding header_codec
  reads_layout_tag = reads_via as_header (reads_left _ _ (reads_tag layout_tag tt))

  -- the leak switch
  pub reads_leak : Reads header_codec h 2 (bit h.leak)
  unfolding header_codec
  reads_leak =
      reads_via as_header
      (reads_right _ _ (width_tag layout_tag) (reads_right _ _ width_word (reads_left _ _ (reads_flag h.leak))))

  -- the no-op switch
  pub reads_noop : Reads header_codec h 3 (bit h.noop)
  unfolding header_codec
  reads_noop =
      reads_via as_header
      (reads_right _ _ (width_tag layout_tag)
      (reads_right _ _ width_word (reads_right _ _ width_flag (reads_left _ _ (reads_flag h.noop)))))
