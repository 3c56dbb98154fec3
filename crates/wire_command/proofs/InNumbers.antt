-- A command in numbers has the eight words of the command that was read.
use Prim.Native.Nat.{ℕ}
use mathlib.Core.Path.{◌≡◌, refl, ap}
use mathlib.Core.List.{List, ◌∷◌, ◌++◌}
use lib.ListN.{replicate}
use Rattle.command_parts.specs.declared.Target as parts
use Rattle.command_parts.specs.declared.Target.TheVariants.{Start, Id}
use Rattle.wire_command.specs.Found.{words_of_target, words_of}
use Rattle.wire_command.specs.InNumbers.{target_in_numbers, in_numbers, words_of_numbers}
use Rattle.wire_command.specs.declared.command.Command as read
use Rattle.wire_command.specs.declared.command.Command.TheVariants.{Subscribe, Flow, Ack, Seek, Redeliver, Close}
use Rattle.wire_command.specs.declared.in_numbers.Target.{Target}

-- the words of where a seek goes, and those behind it
abbrev target_words : Target → List ℕ
target_words t = t.kind ∷ t.ledger ∷ t.entry ∷ replicate 3 0

same_target : (t : parts.Target) → target_words (target_in_numbers t) ≡ words_of_target t ++ replicate 3 0
same_target Start = refl
same_target (Id ledger entry) = refl

pub same_words : (c : read.Command) → words_of_numbers (in_numbers c) ≡ words_of c
unfolding words_of_numbers in_numbers words_of
same_words (Subscribe s) = refl
same_words (Flow consumer permits) = refl
same_words (Ack consumer size) = refl
same_words (Seek s) = ap (λ (ws : List ℕ). s.consumer ∷ s.request ∷ ws) (same_target s.target)
same_words (Redeliver consumer size) = refl
same_words (Close consumer request) = refl
