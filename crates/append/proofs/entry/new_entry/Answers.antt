-- `append::entry::new_entry` meets its contract, by whether the dispatcher is one of the topic.
use mathlib.Core.Path.{sym, ap, ◌∙◌}
use Rattle.layout.specs.Layout.{decode, put}
use Rattle.rules.specs.State.{Dispatcher}
use Rattle.layout.specs.Fields.{dispatcher_nth, set_dispatcher}
use Rattle.append.proofs.Entries.{entry_there, entry_words_not}
use Rattle.append.proofs.entry.new_entry.Goals as goal

pub gain_entry-requires : goal.gain_entry-requires
gain_entry-requires c = (c.requires.0, c.requires.1 (c.if-topic.true ∙ c.topic.ensures))

pub returns-then-topic : goal.returns-then-topic
returns-then-topic c =
    let a = c.args in
    let s = decode a.store.now in
    c.gain_entry.ensures
    ∙ ap (λ (y : Dispatcher). put a.store.now (set_dispatcher s a.d y))
    (entry_there a.topic a.id (dispatcher_nth s a.d) (c.if-topic.true ∙ c.topic.ensures))

pub returns-else-topic : goal.returns-else-topic
returns-else-topic c =
    let a = c.args in
    entry_words_not a.topic a.id a.d c.requires.0.canon (λ q. c.if-topic.false (q ∙ sym c.topic.ensures))
