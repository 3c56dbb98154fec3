-- `dispatcher::completion::advance_mark_delete` meets its contract: mark-delete goes to the first entry that is not complete.
use mathlib.Core.Path.{ap, ◌∙◌}
use Rattle.rules.specs.State.{Dispatcher}
use Rattle.layout.specs.Layout.{decode, put}
use Rattle.layout.specs.Fields.{dispatcher_nth, set_dispatcher}
use Rattle.dispatcher.proofs.Completing.{advanced_there}
use Rattle.dispatcher.proofs.completion.advance_mark_delete.Goals as goal

pub returns : goal.returns
returns c =
    let ws = c.args.store.now in
    let d = c.args.d in
    c.save_head.ensures
    ∙ ap (λ (y : Dispatcher). put ws (set_dispatcher (decode ws) d y))
    (advanced_there (dispatcher_nth (decode ws) d) c.load_head-head.result c.advance.new.self c.first_incomplete-k.result
    c.load_head-head.ensures c.first_incomplete-k.ensures c.advance.ensures)
