-- `store::header::entries` meets its contract: word 1 is E.
use mathlib.Core.Path.{◌∙◌}
use native.Mathlib.Omega.{arith}
use Rattle.layout.proofs.Store.{spells_canon}
use Rattle.store.proofs.header.entries.Goals as goal

pub word-requires : goal.word-requires
word-requires c = let l = (spells_canon c.requires).long in omega arith

pub returns : goal.returns
returns c = c.word.ensures ∙ (spells_canon c.requires).E_word
