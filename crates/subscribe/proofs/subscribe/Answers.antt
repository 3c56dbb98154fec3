-- `subscribe::subscribe` meets its contract: nothing to do, no room for the consumer, or by its kind.
use mathlib.Core.Path.{sym, ap, ◌∙◌}
use Rattle.rules.specs.Calls.Call.{Subscribe}
use Rattle.layout.specs.Layout.{decode}
use Rattle.layout.specs.Fields.{pair_of}
use Rattle.layout.specs.Calls.{answer, after}
use Rattle.layout.proofs.Store.{put_decode, spells_canon}
use Rattle.operation_laws.proofs.Frame.{canon_of, refused_with, done_with_nothing}
use Rattle.command_parts.specs.declared.Kind as declared
use Rattle.command_parts.specs.Parts.{kind_of}
use Rattle.subscribe.proofs.Subscribing.{subscribe_idle, subscribe_full, idle_is, full_is}
use Rattle.subscribe.proofs.subscribe.Goals as goal

pub is_live-live-requires : goal.is_live-live-requires
is_live-live-requires c = canon_of c.entries-e.result c.args.store.now c.requires c.entries-e.ensures

pub is_idle-requires : goal.is_idle-requires
is_idle-requires c = canon_of c.entries-e.result c.args.store.now c.requires c.entries-e.ensures

pub is_full-requires : goal.is_full-requires
is_full-requires c = canon_of c.entries-e.result c.args.store.now c.requires c.entries-e.ensures

pub returns-then-is_idle : goal.returns-then-is_idle
returns-then-is_idle c =
    let a = c.args in
    let s = decode a.store.now in
    done_with_nothing a.store.now _ c.requires
    (subscribe_idle s a.command.consumer (kind_of a.command.kind) (pair_of a.command.topic a.command.subscription)
    (idle_is s c.args.command.consumer c.is_live-live.ensures c.is_idle.ensures ∙ c.if-is_idle.true))
    (sym (put_decode (spells_canon c.requires)))

pub returns-then-is_full : goal.returns-then-is_full
returns-then-is_full c =
    let a = c.args in
    let s = decode a.store.now in
    refused_with a.store.now _ c.requires
    (subscribe_full s a.command.consumer (kind_of a.command.kind) (pair_of a.command.topic a.command.subscription)
    (idle_is s c.args.command.consumer c.is_live-live.ensures c.is_idle.ensures ∙ c.if-is_idle.false)
    (full_is s c.args.command.consumer c.is_live-live.ensures c.is_full.ensures ∙ c.if-is_full.true))

pub subscribe_plain-requires : goal.subscribe_plain-requires
subscribe_plain-requires c =
    let s = decode c.args.store.now in
    record {
      opened = record { spelt = c.requires; E = c.entries-e.ensures };
      to_do = idle_is s c.args.command.consumer c.is_live-live.ensures c.is_idle.ensures ∙ c.if-is_idle.false;
      room = full_is s c.args.command.consumer c.is_live-live.ensures c.is_full.ensures ∙ c.if-is_full.false;
    }

pub subscribe_shared-requires : goal.subscribe_shared-requires
subscribe_shared-requires c =
    let s = decode c.args.store.now in
    record {
      opened = record { spelt = c.requires; E = c.entries-e.ensures };
      to_do = idle_is s c.args.command.consumer c.is_live-live.ensures c.is_idle.ensures ∙ c.if-is_idle.false;
      room = full_is s c.args.command.consumer c.is_live-live.ensures c.is_full.ensures ∙ c.if-is_full.false;
    }

pub returns-in-Plain : goal.returns-in-Plain
unfolding kind_of
returns-in-Plain c =
    let a = c.args in
    let p = pair_of a.command.topic a.command.subscription in
    record {
      answer = c.subscribe_plain.ensures.answer ∙ ap (λ (k : declared.Kind). answer a.store.now (Subscribe a.command.consumer (kind_of k) p)) (sym c.in-Plain.is);
      words = c.subscribe_plain.ensures.words ∙ ap (λ (k : declared.Kind). after a.store.now (Subscribe a.command.consumer (kind_of k) p)) (sym c.in-Plain.is);
    }

pub returns-in-Shared : goal.returns-in-Shared
unfolding kind_of
returns-in-Shared c =
    let a = c.args in
    let p = pair_of a.command.topic a.command.subscription in
    record {
      answer = c.subscribe_shared.ensures.answer ∙ ap (λ (k : declared.Kind). answer a.store.now (Subscribe a.command.consumer (kind_of k) p)) (sym c.in-Shared.is);
      words = c.subscribe_shared.ensures.words ∙ ap (λ (k : declared.Kind). after a.store.now (Subscribe a.command.consumer (kind_of k) p)) (sym c.in-Shared.is);
    }
