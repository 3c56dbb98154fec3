-- The list keeps its 832 words, so that there is room for each record.
use Rattle.std.proofs.Common.{◌≤◌, ◌*◌, ℕ, List, length, get_or, refl, sym, ap, ◌∙◌, add-one, arith, rules, length-drop}
use Rattle.std.proofs.lemmas.List.{take_rest}
use Rattle.words.specs.Act.{lay}
use Rattle.record.specs.Flat.{record_words}
use Rattle.record.proofs.Filled.{laid_rest}
use Rattle.push_records.specs.Listed.{no_dispatch}
use Rattle.cases_twin.specs.Twin.{written_back}
use Rattle.cases_twin.proofs.write_back.Goals as goal

pub loop-i-init : goal.loop-i-init
unfolding written_back
loop-i-init c = record { long = c.requires.1; within = omega arith; written = refl }

pub write_record-requires : goal.write_record-requires
write_record-requires c =
    let v = c.loop-i.invariant in
    let t = c.loop-i-test.true in
    let n = c.requires.0 in
    rw (take_rest c.loop-i.list (c.loop-i.i * 13), length-drop (c.loop-i.i * 13) c.loop-i.list) (omega (arith, v.long, t, n))

pub loop-i-preserved : goal.loop-i-preserved
unfolding written_back no_dispatch
loop-i-preserved c =
    let records = c.args.«records» in
    let i = c.loop-i.i in
    let v = c.loop-i.invariant in
    let t = c.loop-i-test.true in
    let n = c.requires.0 in
    let room : i * 13 ≤ length c.loop-i.list = omega (arith, v.long, t, n) in
    let e = laid_rest (record_words (get_or records i no_dispatch)) (i * 13) c.loop-i.list room c.write_record.ensures in
    record {
      long = search rules;
      within = omega arith;
      written = e ∙ ap (λ (l : List ℕ). (lay (record_words (get_or records i no_dispatch))).run (i * 13) l) c.loop-i.invariant.written
          ∙ ap (λ (k : ℕ). written_back records k c.args.list.now) (sym (add-one i));
    }
