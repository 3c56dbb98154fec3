-- What is known of the command that the message of a type has: its type is that one, and the words of its ids are those that are
-- laid into the lent list, which has room for them.
use Prim.Native.Nat.{ℕ, ◌≤◌}
use mathlib.Core.Path.{◌≡◌, refl, sym, ap, ◌∙◌, subst}
use mathlib.Core.Bool.{true}
use mathlib.Core.List.{List, []}
use mathlib.Core.Option.{Option, some, bind}
use native.Mathlib.Omega.{arith}
use lib.Dec.{eqb}
use borrow.Author.Tests.{eqb-true, ne_eqb}
use Rattle.rules.specs.Groups.{Group}
use Rattle.rules.specs.Table.{or_else}
use Rattle.rules.proofs.Table.{by_test}
use Rattle.wire.specs.Fields.{Field, fields}
use Rattle.wire.specs.Select.{numbered}
use Rattle.wire.specs.Ids.{id_list, list_words}
use Rattle.wire.specs.Commands.{Command, SUBSCRIBE, ACK, FLOW, CLOSE_CONSUMER, REDELIVER, SEEK, command_of}
use Rattle.wire.specs.Commands.{subscribe_of, flow_of, ack_of, seek_of, redeliver_of, close_of}
use Rattle.wire.specs.Commands.Command.{Subscribe, Flow, Ack, Seek, Redeliver, Close}
use Rattle.wire.specs.Answers.{LIST_WORDS, command_type, command_list}
use Rattle.wire.proofs.Options.{Gives, gives_some, gives_bind, asked}
use Rattle.wire.proofs.Ids.{ids_listed}
use Rattle.wire.proofs.Lists.{of_the_form}
use Rattle.wire_ids.specs.Sizes.{ids_of}
use Rattle.wire_ids.specs.Groups.{ids_there, Listed}
use Rattle.wire_command.specs.Found.{ids_words, IdsReady}

-- what is known of it
pub record Chosen (m : List ℕ) (kind : ℕ) (c : Command) : Type 0 where
  pub type : command_type c ≡ kind
  pub list : command_list c ≡ ids_words kind m
  pub ready : (size : ℕ) → LIST_WORDS ≤ size → IdsReady kind m size

-- no type is large
pub type_small : (c : Command) → command_type c ≤ 28
unfolding command_type
type_small (Subscribe consumer request kind topic subscription) = omega arith
type_small (Flow consumer permits) = omega arith
type_small (Ack consumer ids) = omega arith
type_small (Seek consumer request target) = omega arith
type_small (Redeliver consumer ids) = omega arith
type_small (Close consumer request) = omega arith

-- of a command without ids
without_ids : (m : List ℕ) (kind : ℕ) (c : Command) → (kind ≡ ACK → ⊥) → (kind ≡ REDELIVER → ⊥) → command_type c ≡ kind
    → command_list c ≡ [] → Chosen m kind c
unfolding ids_words
without_ids m kind c a r t l =
    record {
      type = t;
      list = l ∙ rw (ne_eqb kind ACK a, ne_eqb kind REDELIVER r);
      ready = λ size h. record { ack = λ e. absurd (a e); redeliver = λ e. absurd (r e) };
    }

-- ids that were read: they are there, and a list of enough words has room for them
module _ (m : List ℕ) (number : ℕ) {fs : List Field} {ids : List Group} (p : fields m ≡ some fs) (q : id_list m (numbered number fs) ≡ some ids) where
  same_ids : ids_there m number ≡ ids
  unfolding ids_there ids_of or_else bind
  same_ids = rw (p, q)

  ids_ready : (size : ℕ) → LIST_WORDS ≤ size → Listed m number size
  unfolding ids_of bind
  ids_ready size h =
      let fits = (of_the_form ids (ids_listed m (numbered number fs) ids q)).fits in
      record { read = rw (same_ids, p) q; room = rw same_ids (omega arith) }

module _ (at : ℕ) (m : List ℕ) where
  -- of a Subscribe
  subscribe_chosen : Gives (Chosen m SUBSCRIBE) (subscribe_of at m)
  unfolding subscribe_of command_type command_list
  subscribe_chosen =
      gives_bind (Chosen m SUBSCRIBE) _ _ (λ fs _. gives_bind (Chosen m SUBSCRIBE) _ _ (λ topic _.
      gives_bind (Chosen m SUBSCRIBE) _ _ (λ subscription _. gives_bind (Chosen m SUBSCRIBE) _ _ (λ sub_type _.
      gives_bind (Chosen m SUBSCRIBE) _ _ (λ consumer _. gives_bind (Chosen m SUBSCRIBE) _ _ (λ request _.
      gives_some (Chosen m SUBSCRIBE) _ (without_ids m SUBSCRIBE _ (λ e. omega arith) (λ e. omega arith) refl refl)))))))

  -- of an Ack
  ack_chosen : Gives (Chosen m ACK) (ack_of m)
  unfolding ack_of command_type command_list ids_words
  ack_chosen =
      gives_bind (Chosen m ACK) _ _ (λ fs p. gives_bind (Chosen m ACK) _ _ (λ consumer _.
      gives_bind (Chosen m ACK) _ _ (λ ack_type _. gives_bind (Chosen m ACK) _ _ (λ ids q.
      gives_some (Chosen m ACK) _ (record {
        type = refl;
        list = ap list_words (sym (same_ids m 3 p q));
        ready = λ size h. record { ack = λ e. ids_ready m 3 p q size h; redeliver = λ e. absurd (omega arith) };
      })))))

  -- of a Flow
  flow_chosen : Gives (Chosen m FLOW) (flow_of m)
  unfolding flow_of command_type command_list
  flow_chosen =
      gives_bind (Chosen m FLOW) _ _ (λ fs _. gives_bind (Chosen m FLOW) _ _ (λ consumer _. gives_bind (Chosen m FLOW) _ _ (λ permits _.
      gives_some (Chosen m FLOW) _ (without_ids m FLOW _ (λ e. omega arith) (λ e. omega arith) refl refl))))

  -- of a Close
  close_chosen : Gives (Chosen m CLOSE_CONSUMER) (close_of m)
  unfolding close_of command_type command_list
  close_chosen =
      gives_bind (Chosen m CLOSE_CONSUMER) _ _ (λ fs _.
      gives_bind (Chosen m CLOSE_CONSUMER) _ _ (λ consumer _. gives_bind (Chosen m CLOSE_CONSUMER) _ _ (λ request _.
      gives_some (Chosen m CLOSE_CONSUMER) _ (without_ids m CLOSE_CONSUMER _ (λ e. omega arith) (λ e. omega arith) refl refl))))

  -- of a Redeliver
  redeliver_chosen : Gives (Chosen m REDELIVER) (redeliver_of m)
  unfolding redeliver_of command_type command_list ids_words
  redeliver_chosen =
      gives_bind (Chosen m REDELIVER) _ _ (λ fs p. gives_bind (Chosen m REDELIVER) _ _ (λ consumer _.
      gives_bind (Chosen m REDELIVER) _ _ (λ ids q.
      gives_some (Chosen m REDELIVER) _ (record {
        type = refl;
        list = ap list_words (sym (same_ids m 2 p q));
        ready = λ size h. record { ack = λ e. absurd (omega arith); redeliver = λ e. ids_ready m 2 p q size h };
      }))))

  -- of a Seek
  seek_chosen : Gives (Chosen m SEEK) (seek_of m)
  unfolding seek_of command_type command_list
  seek_chosen =
      gives_bind (Chosen m SEEK) _ _ (λ fs _. gives_bind (Chosen m SEEK) _ _ (λ consumer _.
      gives_bind (Chosen m SEEK) _ _ (λ request _. gives_bind (Chosen m SEEK) _ _ (λ target _.
      gives_some (Chosen m SEEK) _ (without_ids m SEEK _ (λ e. omega arith) (λ e. omega arith) refl refl)))))

  -- what is known of a type's command is known where the type is that one
  of_type : (kind type : ℕ) (o : Option Command) → Gives (Chosen m type) o → eqb kind type ≡ true → Gives (Chosen m kind) o
  of_type kind type o g t = subst (λ (k : ℕ). Gives (Chosen m k) o) (sym (eqb-true kind type t)) g

  -- whatever the type
  pub chosen : (kind : ℕ) → Gives (Chosen m kind) (command_of kind at m)
  unfolding command_of
  chosen kind c e =
      by_test (eqb kind SUBSCRIBE) (λ t. of_type kind SUBSCRIBE _ subscribe_chosen t c (rw t at e))
      (λ s. by_test (eqb kind ACK) (λ t. of_type kind ACK _ ack_chosen t c (rw (s, t) at e))
      (λ a. by_test (eqb kind FLOW) (λ t. of_type kind FLOW _ flow_chosen t c (rw (s, a, t) at e))
      (λ f. by_test (eqb kind CLOSE_CONSUMER) (λ t. of_type kind CLOSE_CONSUMER _ close_chosen t c (rw (s, a, f, t) at e))
      (λ l. by_test (eqb kind REDELIVER) (λ t. of_type kind REDELIVER _ redeliver_chosen t c (rw (s, a, f, l, t) at e))
      (λ r. let k = asked (eqb kind SEEK) (seek_of m) (rw (s, a, f, l, r) at e) in of_type kind SEEK _ seek_chosen k.0 c k.1)))))
