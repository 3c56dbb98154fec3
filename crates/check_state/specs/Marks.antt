-- A dispatcher's marks and outside ids, tested over words against the ledger of its topic.
use Rattle.std.specs.Prelude.{ℕ, ◌+◌, ◌*◌, ◌^◌, Bool, cond, not, ◌&&◌, List, [], ◌∷◌, eqb, ltb, get_or}
use Rattle.std.specs.Int.Bits.{bit_or}
use Rattle.bits.specs.Bits.{bits_empty, bits_below}
use Rattle.bits.specs.declared.UnackedBits.{UnackedBits}
use Rattle.layout.specs.Offsets.{outside_in, outside_id_in}
use Rattle.check_rows.specs.Below.{each_below}
use Rattle.check_rows.specs.Rows.{row, row_second, two_among, twos_ascend}

-- the four words of the mark at an offset
abbrev pub bits_at : List ℕ → ℕ → List ℕ
bits_at ws at = get_or ws (at + 2) 0 ∷ get_or ws (at + 3) 0 ∷ get_or ws (at + 4) 0 ∷ get_or ws (at + 5) 0 ∷ []

-- whether a redelivery count and the words of bits suit an entry of a batch size
abbrev pub mark_fits : ℕ → List ℕ → ℕ → Bool
mark_fits count bits batch = ltb count (2 ^ 32) && cond (ltb 1 batch) (bits_below batch bits) (bits_empty bits)

-- whether the mark at an offset suits an entry of a batch size
unfoldable pub mark_right : List ℕ → ℕ → ℕ → Bool
mark_right ws at batch = mark_fits (get_or ws (at + 1) 0) (bits_at ws at) batch

-- bits together with those of the mark at an offset
abbrev pub joined : UnackedBits → List ℕ → ℕ → UnackedBits
joined b ws at =
    record {
      w0 = bit_or b.w0 (get_or ws (at + 2) 0);
      w1 = bit_or b.w1 (get_or ws (at + 3) 0);
      w2 = bit_or b.w2 (get_or ws (at + 4) 0);
      w3 = bit_or b.w3 (get_or ws (at + 5) 0);
    }

-- whether mark k suits entry k of a ledger
abbrev pub mark_suits : List ℕ → ℕ → ℕ → ℕ → Bool
mark_suits ws ledger first k = mark_right ws (first + k * 6) (get_or ws (ledger + k * 4 + 3) 0)

-- whether there is a mark for each entry of a ledger, and each suits its entry
unfoldable pub marks_right : List ℕ → ℕ → ℕ → ℕ → ℕ → Bool
marks_right ws ledger entries first n = eqb n entries && each_below (mark_suits ws ledger first) n

-- whether id j stands nowhere in a ledger
abbrev pub absent_id : List ℕ → ℕ → ℕ → ℕ → ℕ → Bool
absent_id ws first ledger entries j = not (two_among ws ledger 4 entries (row ws first 2 j) (row_second ws first 2 j))

-- whether none of n ids stands in a ledger
unfoldable pub absent : List ℕ → ℕ → ℕ → ℕ → ℕ → Bool
absent ws first n ledger entries = each_below (absent_id ws first ledger entries) n

-- the outside ids of the dispatcher at an offset: ascending, none in the ledger
unfoldable pub outside_right : List ℕ → ℕ → ℕ → ℕ → Bool
outside_right ws at ledger entries =
    twos_ascend ws (at + outside_id_in 0) 2 (get_or ws (at + outside_in) 0) && absent ws (at + outside_id_in 0) (get_or ws (at + outside_in) 0) ledger entries
