-- What is left of the line, put into the words from n on, is the whole; n stays within their number.
use Prim.Native.Nat.{ℕ, ◌+◌, ◌≤◌, ◌<◌}
use native.Mathlib.Omega.{arith}
use native.Mathlib.Numerals.{add-one}
use mathlib.Core.Path.{◌≡◌, refl, sym, ◌∙◌, subst}
use lib.ListN.{length, get_or, set, length-set}
use Rattle.cases_line.specs.Line.{with_byte}
use Rattle.cases_line.proofs.Numbers.{ends, ends_small, Reading, reading_starts, reading_next, words_full, line_ended, count_full, count_ended}
use Rattle.cases_line.proofs.words_of.Goals as goal

pub loop-b-init : goal.loop-b-init
loop-b-init c = (omega arith, refl, reading_starts c.args.line.now c.args.words.now)

pub returns-then-n-words : goal.returns-then-n-words
returns-then-n-words c =
    let a = c.args in
    let l = c.loop-b in
    record {
      count = count_full a.line.now a.words.now l.words l.n l.b-index c.requires l.invariant.2 l.invariant.1 l.invariant.0 c.if-n-words.true;
      words = words_full a.line.now a.words.now l.words l.n l.b-index c.requires l.invariant.2 c.if-n-words.true;
    }

pub overflow_add-n : goal.overflow_add-n
overflow_add-n c =
    let e = c.blanks-n.ensures in
    let s = ends_small (get_or c.args.line.now c.loop-b.b-index 0) in
    record { fits = omega (arith, e, s) }

pub loop-b-preserved : goal.loop-b-preserved
loop-b-preserved c =
    let line = c.args.line.now in
    let start = c.args.words.now in
    let l = c.loop-b in
    let b = get_or line l.b-index 0 in
    let room : l.n < length l.words = c.if-n-words.false in
    let more : l.b-index < length line = omega arith in
    let joined : c.joined.result ≡ with_byte (get_or l.words l.n 0) b = c.joined.ensures in
    let ended : c.blanks-n.result ≡ ends b = c.blanks-n.ensures in
    let kept = length-set l.words l.n c.joined.result in
    let next = reading_next line start l.words l.n l.b-index room l.invariant.2 more in
    let s = ends_small b in (
      omega (arith, room, kept, ended, s),
      kept ∙ l.invariant.1,
      subst (λ (w : ℕ). Reading line start (set l.words l.n w) (l.n + c.blanks-n.result) (l.b-index + 1)) (sym joined)
          (subst (λ (k : ℕ). Reading line start (set l.words l.n (with_byte (get_or l.words l.n 0) b)) (l.n + k) (l.b-index + 1)) (sym ended)
          (subst (λ (k : ℕ). Reading line start (set l.words l.n (with_byte (get_or l.words l.n 0) b)) (l.n + ends b) k) (sym (add-one l.b-index)) next)),
    )

pub returns : goal.returns
returns c =
    let a = c.args in
    let l = c.loop-b in
    let end : length a.line.now ≤ l.b-index = omega arith in
    record {
      count = c.min.ensures ∙ count_ended a.line.now a.words.now l.words l.n l.b-index c.requires l.invariant.2 l.invariant.1 end l.invariant.0;
      words = line_ended a.line.now a.words.now l.words l.n l.b-index c.requires l.invariant.2 end;
    }
