-- The comparison stops where the two pushes first differ; the records decide at the end.
use Rattle.std.proofs.Common.{sym, ◌∙◌}
use borrow.Author.Tests.{eq-eqb, ne_eqb}
use Rattle.cases_twin.specs.Twin.{no_words, no_dispatches}
use Rattle.cases_twin.proofs.Twins.{answer_lent, left_lent, flat_lent, listed_lent, other_answer, other_store, other_list, records_decide}
use Rattle.cases_twin.proofs.as_records.Goals as goal

pub returns-then-pushed-answer-clause-same : goal.returns-then-pushed-answer-clause-same
unfolding no_words
returns-then-pushed-answer-clause-same c =
    let a = c.args in
    let push = c.push_listed-pushed in
    let answers_lent = answer_lent a.twin.now no_words a.room c.requires push.ensures.answer in
    other_answer a.twin.now a.store.now a.list.now a.room a.answer answers_lent (ne_eqb push.result.answer a.answer c.if-pushed-answer.true)

pub returns-then-pushed-answer-clause-words : goal.returns-then-pushed-answer-clause-words
unfolding no_words
returns-then-pushed-answer-clause-words c = left_lent c.args.twin.now no_words c.args.room c.requires c.push_listed-pushed.ensures.words

pub returns-then-not-same_words-clause-same : goal.returns-then-not-same_words-clause-same
unfolding no_words
returns-then-not-same_words-clause-same c =
    let a = c.args in
    let push = c.push_listed-pushed in
    let answers_lent = answer_lent a.twin.now no_words a.room c.requires push.ensures.answer in
    let left = left_lent a.twin.now no_words a.room c.requires push.ensures.words in
    let answers = eq-eqb push.result.answer a.answer c.if-pushed-answer.false in
    let differ = sym c.same_words.ensures ∙ c.if-not-same_words.true in
    other_store a.twin.now a.store.now a.list.now a.room a.answer answers_lent answers left differ

pub returns-then-not-same_words-clause-words : goal.returns-then-not-same_words-clause-words
unfolding no_words
returns-then-not-same_words-clause-words c = left_lent c.args.twin.now no_words c.args.room c.requires c.push_listed-pushed.ensures.words

pub returns-then-not-same_words-2-clause-same : goal.returns-then-not-same_words-2-clause-same
unfolding no_words
returns-then-not-same_words-2-clause-same c =
    let a = c.args in
    let push = c.push_listed-pushed in
    let answers_lent = answer_lent a.twin.now no_words a.room c.requires push.ensures.answer in
    let left = left_lent a.twin.now no_words a.room c.requires push.ensures.words in
    let answers = eq-eqb push.result.answer a.answer c.if-pushed-answer.false in
    let stores = sym c.same_words.ensures ∙ c.if-not-same_words.false in
    let lists = flat_lent a.twin.now no_words a.room c.requires push.ensures.flat in
    let differ = sym c.same_words-2.ensures ∙ c.if-not-same_words-2.true in
    other_list a.twin.now a.store.now a.list.now a.room a.answer answers_lent answers left stores lists differ

pub returns-then-not-same_words-2-clause-words : goal.returns-then-not-same_words-2-clause-words
unfolding no_words
returns-then-not-same_words-2-clause-words c = left_lent c.args.twin.now no_words c.args.room c.requires c.push_listed-pushed.ensures.words

pub returns-clause-same : goal.returns-clause-same
unfolding no_words no_dispatches
returns-clause-same c =
    let a = c.args in
    let push = c.push_listed-pushed in
    let answers_lent = answer_lent a.twin.now no_words a.room c.requires push.ensures.answer in
    let left = left_lent a.twin.now no_words a.room c.requires push.ensures.words in
    let answers = eq-eqb push.result.answer a.answer c.if-pushed-answer.false in
    let stores = sym c.same_words.ensures ∙ c.if-not-same_words.false in
    let lists = flat_lent a.twin.now no_words a.room c.requires push.ensures.flat in
    let same = sym c.same_words-2.ensures ∙ c.if-not-same_words-2.false in
    c.same_words-3.ensures
    ∙ records_decide a.twin.now a.store.now a.list.now a.room a.answer answers_lent answers left stores lists same
    (listed_lent a.twin.now no_words a.room c.requires no_dispatches push.ensures.records) c.told.ensures.0 c.write_back.ensures

pub returns-clause-words : goal.returns-clause-words
unfolding no_words
returns-clause-words c = left_lent c.args.twin.now no_words c.args.room c.requires c.push_listed-pushed.ensures.words
