-- `check_words::canonical::marks_canonical` meets its contract: a table whose slots are marks, each tested by its first word.
use mathlib.Core.Path.{◌≡◌, refl, sym, ◌∙◌}
use Prim.Native.Nat.{◌+◌, ◌*◌, ◌≤◌, ◌<◌}
use native.Mathlib.Omega.{arith}
use lib.Dec.{leb}
use lib.ListN.{length, get_or, drop}
use borrow.Author.Rules.{rules}
use Rattle.words.specs.Store.{canonical}
use Rattle.layout.specs.Records.{mark_codec}
use Rattle.layout.proofs.Widths.{width_mark}
use Rattle.layout.proofs.Check.{check_mark}
use Rattle.check_words.proofs.Tables.{table_answer}
use Rattle.check_words.proofs.canonical.marks_canonical.Goals as goal

pub returns : goal.returns
returns c =
    let a = c.args in
    let l : 0 < length a.list.now = omega arith in
    table_answer mark_codec width_mark a.list.now 0 1 a.e refl l
    (c.table_canonical.ensures (λ j. canonical mark_codec (drop (1 + j * 6) a.list.now))
    (λ i r h p.
    let k : 1 + i * 6 + 6 ≤ length a.list.now = omega arith in
    let q : r ≡ leb (get_or a.list.now (1 + i * 6) 0) 1 = search rules in
    q ∙ sym (check_mark (1 + i * 6) a.list.now k)))
