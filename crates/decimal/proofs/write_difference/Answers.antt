-- `decimal::write_difference` meets its contract: a minus and how much is lacking, or how much is left.
use mathlib.Core.Path.{◌∙◌}
use lib.ListN.{length-set}
use borrow.Author.Rules.{rules}
use Rattle.decimal.proofs.Written.{positive, negative}
use Rattle.decimal.proofs.write_difference.Goals as goal

pub write_decimal-requires : goal.write_decimal-requires
write_decimal-requires c = simp length-set (search rules)

pub shape_of-buffer-then-a-b : goal.shape_of-buffer-then-a-b
shape_of-buffer-then-a-b c = c.write_decimal.ensures.long ∙ simp length-set

pub returns-then-a-b : goal.returns-then-a-b
returns-then-a-b c =
    let a = c.args in
    negative a.a a.b (search rules) c.write_decimal.ensures

pub returns : goal.returns
returns c = positive _ _ (search rules) c.write_decimal-2.ensures
