-- `append::append` meets its contract: each way out is one outcome of the rule.
use mathlib.Core.Path.{sym, ap, ◌∙◌}
use native.Mathlib.Omega.{arith}
use Rattle.std.proofs.lemmas.Result.{err_from_is_err_and}
use Rattle.layout.specs.Layout.{decode}
use Rattle.refusal.specs.Words.{refusal_word, refusal_or_0}
use Rattle.refusal.proofs.Words.{refusal_not_0}
use Rattle.topic.specs.Ids.{message_of}
use Rattle.operation_laws.proofs.Frame.{valid_now, canon_of, refused_with, done_with_nothing}
use Rattle.append.proofs.Appends.{append_large, append_refused, append_done}
use Rattle.append.proofs.append.Goals as goal

pub returns-then-batch-gt-MOST_BATCH : goal.returns-then-batch-gt-MOST_BATCH
returns-then-batch-gt-MOST_BATCH c =
    let a = c.args in
    refused_with a.store.now _ c.requires (append_large (decode a.store.now) a.topic (message_of a.ledger a.entry a.handle a.batch) c.if-batch-gt-MOST_BATCH.true)

pub find_topic-t-requires : goal.find_topic-t-requires
find_topic-t-requires c = canon_of c.entries-e.result c.args.store.now c.requires c.entries-e.ensures

pub admit-requires : goal.admit-requires
admit-requires c = canon_of c.entries-e.result c.args.store.now c.requires c.entries-e.ensures

pub returns-in_err-admit : goal.returns-in_err-admit
returns-in_err-admit c =
    let a = c.args in
    let h = c.requires in
    let small = c.if-batch-gt-MOST_BATCH.false in
    let p = err_from_is_err_and c.from_residual.result c.from_residual.ensures.1 in
    let r = c.in_err-admit.field-0.0 in
    rw (p.1, p.2)
    (refused_with a.store.now _ h
    (append_refused (decode a.store.now) c.find_topic-t.result a.topic c.find_topic-t.ensures (message_of a.ledger a.entry a.handle a.batch) (refusal_word r)
    (valid_now a.store.now h).E_from (omega arith) c.in_err-admit.ensures (refusal_not_0 r)))

pub append_entry-requires : goal.append_entry-requires
append_entry-requires c =
    record {
      opened = record { spelt = c.requires; E = c.entries-e.ensures };
      found = c.find_topic-t.ensures;
      free = sym c.admit.ensures ∙ ap refusal_or_0 c.in_ok-admit.was;
    }

pub returns : goal.returns
returns c =
    let a = c.args in
    let h = c.requires in
    let small = c.if-batch-gt-MOST_BATCH.false in
    done_with_nothing a.store.now _ h
    (append_done (decode a.store.now) c.find_topic-t.result a.topic c.find_topic-t.ensures (message_of a.ledger a.entry a.handle a.batch)
    (valid_now a.store.now h).E_from (omega arith) (sym c.admit.ensures ∙ ap refusal_or_0 c.in_ok-admit.was))
    c.append_entry.ensures
