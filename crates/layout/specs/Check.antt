-- The tests that a check of a store makes on the header's words, one after another.
use Rattle.std.specs.Prelude.{ℕ, Bool, ◌&&◌, List, eqb, leb, length, get_or, drop}
use Rattle.words.specs.Words.{blank}
use Rattle.layout.specs.Layout.{layout_tag}
use Rattle.layout.specs.Offsets.{header_reserved_at, header_reserved}

-- whether the header is there and its words are what they should be: the tag, E in its range, two switches, the rest blank
unfoldable pub header_right : List ℕ → Bool
header_right ws =
    leb 16 (length ws) && eqb (get_or ws 0 0) layout_tag && leb 1 (get_or ws 1 0) && leb (get_or ws 1 0) 4096
    && leb (get_or ws 2 0) 1 && leb (get_or ws 3 0) 1 && blank header_reserved (drop header_reserved_at ws)
