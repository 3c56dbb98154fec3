-- The ids of an Ack or a Redeliver, laid as words into a lent list, are of document 01's form: at most 64 groups with at most
-- 16 words each. So ack and redeliver read them back and never answer 10.
use Prim.Native.Nat.{ℕ, zero, suc, ◌*◌, ◌≤◌}
use mathlib.Core.Path.{◌≡◌, refl}
use mathlib.Core.Bool.{Bool, true, false}
use mathlib.Core.List.{List, [], ◌∷◌, ◌++◌}
use mathlib.Core.Option.{Option, none, some}
use native.Mathlib.Nat.{not-suc-le-zero}
use native.Mathlib.Omega.{arith}
use lib.ListN.{length, length-append}
use lib.Seq.{take-append_seam, drop-append_seam}
use borrow.Author.Tests.{le-leb}
use Rattle.rules.specs.Table.{Every}
use Rattle.rules.specs.State.{State, Kind, Consumer, by_kind, consumer_of}
use Rattle.rules.specs.State.Kind.{plain, shared}
use Rattle.rules.specs.Groups.{Group, at_most_groups, groups}
use Rattle.rules.specs.Outcome.{Outcome, Value, guard, found_or_4, with_live}
use Rattle.rules.specs.Outcome.Outcome.{refused, done}
use Rattle.rules.specs.Commands.{ack_shared, with_groups, ack, redeliver_plain, redeliver}
use Rattle.rules.proofs.Says.{every_head, every_tail}
use Rattle.wire.specs.Select.{bytes_of}
use Rattle.wire.specs.Ids.{group_words, list_words}
use Rattle.wire.specs.Commands.{Command}
use Rattle.wire.specs.Commands.Command.{Subscribe, Flow, Ack, Seek, Redeliver, Close}
use Rattle.wire.specs.Promises.{OfTheForm, AcksOfTheForm, RedeliversOfTheForm, AcksNever10, RedeliversNever10}
use Rattle.wire.proofs.Ids.{Short, Listed}
use Rattle.wire.proofs.Commands.{Holds, command_gives}

-- ---- the form

-- the words of ids are read back as these ids
words_back : (k : ℕ) (ids : List Group) → length ids ≤ k → Every Short ids → at_most_groups k (list_words ids) ≡ some ids
unfolding list_words group_words at_most_groups
words_back zero [] n h = refl
words_back (suc k) [] n h = refl
words_back zero (g ∷ ids) n h = absurd (not-suc-le-zero n)
words_back (suc k) (g ∷ ids) n h =
    let few : length g.words ≤ 16 = every_head h in
    let enough : length g.words ≤ length (g.words ++ list_words ids) = rw length-append (omega arith) in
    let rest = words_back k ids (omega arith) (every_tail h) in
    rw (
      le-leb (length g.words) 16 few,
      le-leb _ _ enough,
      take-append_seam g.words (list_words ids),
      drop-append_seam g.words (list_words ids),
      rest,
    )

-- and are at most 19 for each
words_few : (ids : List Group) → Every Short ids → length (list_words ids) ≤ 19 * length ids
unfolding list_words group_words
words_few [] h = omega arith
words_few (g ∷ ids) h =
    let few : length g.words ≤ 16 = every_head h in
    let rest = words_few ids (every_tail h) in
    rw length-append (omega arith)

-- listed ids are of the form
pub of_the_form : (ids : List Group) → Listed ids → OfTheForm ids
unfolding groups
of_the_form ids l =
    let n = words_few ids l.short in
    record { read_back = words_back 64 ids l.few l.short; fits = omega arith }

-- the ids of a command are of the form
Formed : Command → Type 0
Formed (Subscribe consumer request kind topic subscription) = Unit {0}
Formed (Flow consumer permits) = Unit {0}
Formed (Ack consumer ids) = OfTheForm ids
Formed (Seek consumer request target) = Unit {0}
Formed (Redeliver consumer ids) = OfTheForm ids
Formed (Close consumer request) = Unit {0}

-- those of every command that a message can have are
all_formed : (at : ℕ) (m : List ℕ) → Holds Formed at m
unfolding Formed
all_formed at m =
    record {
      subscribes = λ consumer request kind topic subscription t s. tt;
      flows = λ consumer permits. tt;
      acks = λ consumer ids l. of_the_form ids l;
      seeks = λ consumer request target. tt;
      redelivers = λ consumer ids l. of_the_form ids l;
      closes = λ consumer request. tt;
    }

-- those of an Ack that is read are
pub acks_of_the_form : AcksOfTheForm
unfolding AcksOfTheForm Formed
acks_of_the_form m consumer ids = command_gives Formed m (λ f h. all_formed f.start (bytes_of m f)) (Ack consumer ids)

-- those of a Redeliver that is read are
pub redelivers_of_the_form : RedeliversOfTheForm
unfolding RedeliversOfTheForm Formed
redelivers_of_the_form m consumer ids = command_gives Formed m (λ f h. all_formed f.start (bytes_of m f)) (Redeliver consumer ids)

-- ---- no refusal 10

-- an outcome other than refusal 10
abbrev Not10 : Outcome → Type 0
Not10 o = o ≡ refused 10 → ⊥

-- one that is done
done_not_10 : (v : Value) (t : State) → Not10 (done v t)
done_not_10 v t e = let z : ◌≡◌ {A = ℕ} 0 1 = cc in omega arith

-- another refusal
other_not_10 : (n : ℕ) → (n ≡ 10 → ⊥) → Not10 (refused n)
other_not_10 n h e = h (cc)

-- a choice by a test between another refusal and one that is done
guard_not_10 : (t : Bool) (o : Outcome) → Not10 o → Not10 (guard t 11 o)
unfolding guard
guard_not_10 true o h = other_not_10 11 (λ e. omega arith)
guard_not_10 false o h = h

-- a choice by kind
kind_not_10 : (k : Kind) (o p : Outcome) → Not10 o → Not10 p → Not10 (by_kind k o p)
unfolding by_kind
kind_not_10 plain o p h g = h
kind_not_10 shared o p h g = g

-- what is done with a live consumer and a list of the form
live_not_10 : (s : State) (i : ℕ) (list : List ℕ) (ids : List Group) (f : Consumer → List Group → Outcome) → groups list ≡ some ids
    → ((c : Consumer) → Not10 (f c ids)) → Not10 (with_live s i (λ (c : Consumer). with_groups (groups list) (f c)))
unfolding with_live found_or_4 with_groups
live_not_10 s i list ids f g h = rw g (found (consumer_of s i))
  where
    found : (o : Option Consumer) → Not10 (found_or_4 (λ (c : Consumer). with_groups (some ids) (f c)) o)
    found none = other_not_10 4 (λ e. omega arith)
    found (some c) = h c

-- no ack of an Ack that is read
pub acks_never_10 : AcksNever10
unfolding AcksNever10 AcksOfTheForm ack ack_shared
acks_never_10 m consumer ids e s i =
    live_not_10 s i (list_words ids) ids _ (acks_of_the_form m consumer ids e).read_back
    (λ c. kind_not_10 c.kind _ _ (done_not_10 _ _) (guard_not_10 _ _ (done_not_10 _ _)))

-- no redeliver of a Redeliver that is read
pub redelivers_never_10 : RedeliversNever10
unfolding RedeliversNever10 RedeliversOfTheForm redeliver redeliver_plain
redelivers_never_10 m consumer ids e s i =
    live_not_10 s i (list_words ids) ids _ (redelivers_of_the_form m consumer ids e).read_back
    (λ c. kind_not_10 c.kind _ _ (guard_not_10 _ _ (done_not_10 _ _)) (done_not_10 _ _))
