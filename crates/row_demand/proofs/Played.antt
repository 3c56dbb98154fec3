-- Demand 3 of a row that was played: on a store just opened, and on words that a book tells of.
use Prim.Native.Nat.{ℕ, ◌^◌, ◌≤◌, ◌<◌}
use mathlib.Core.Path.{◌≡◌, subst}
use mathlib.Core.Bool.{true}
use mathlib.Core.List.{List}
use lib.ListN.{length}
use Rattle.rules.specs.Calls.{needed}
use Rattle.rules.specs.Book.{Book, empty_book}
use Rattle.layout.specs.Calls.{open_after}
use Rattle.layout.specs.Demand.{at_opening, WordsAccounted}
use Rattle.row.specs.Row.{RowLeft}
use Rattle.row.specs.Demand.{row_replaces_none, enter_row, TellsOf, OpenedTold, RowsKeep, ToldAccounted}
use Rattle.row.proofs.Demand.{opened_told, rows_keep, told_accounted}

module _ {ws script answers list ws' answers' list' : List ℕ} {r : ℕ} (left : RowLeft ws script answers list r ws' answers' list') (small : length list < 2 ^ 64) where
  -- the book that is told of the row too tells of the words after it
  pub told_on : (noop : ℕ) (b : Book) → TellsOf noop (record { words = ws; book = b }) → row_replaces_none noop b r script answers' list' ≡ true
      → TellsOf noop (record { words = ws'; book = enter_row b r script answers' list' })
  unfolding RowsKeep
  told_on noop b t n = rows_keep noop b ws script answers list r ws' answers' list' left small t n

  -- and in them everything is accounted for
  pub accounted_on : (noop : ℕ) (b : Book) → TellsOf noop (record { words = ws; book = b }) → row_replaces_none noop b r script answers' list' ≡ true
      → WordsAccounted (record { words = ws'; book = enter_row b r script answers' list' })
  unfolding ToldAccounted
  accounted_on noop b t n = told_accounted noop _ (told_on noop b t n)

-- a row on words that were just opened
module _ (ws script answers list : List ℕ) (e noop r : ℕ) (ws' answers' list' : List ℕ) {opened : List ℕ} (is : opened ≡ open_after ws e 0 noop)
    (left : RowLeft opened script answers list r ws' answers' list') (small : length list < 2 ^ 64) where
  -- is a row on these
  pub row_opened : RowLeft (open_after ws e 0 noop) script answers list r ws' answers' list'
  row_opened = subst (λ (w : List ℕ). RowLeft w script answers list r ws' answers' list') is left

  -- and leaves words in which everything is accounted for
  pub accounted_opened : 1 ≤ e → e ≤ 4096 → needed e ≤ length ws → row_replaces_none noop empty_book r script answers' list' ≡ true
      → WordsAccounted (record { words = ws'; book = enter_row empty_book r script answers' list' })
  unfolding OpenedTold at_opening
  accounted_opened low high long n = accounted_on row_opened small noop empty_book (opened_told ws e noop low high long) n
