use Rattle.std.proofs.Common.{◌≡◌, ◌+◌, ◌-◌, ◌<◌, length, arith, sym, ◌∙◌}
use Rattle.wah_words.specs.Spelling.{literal, fill, AreApart}
use Rattle.wah_words.specs.Bytes.{decoded_all}
use Rattle.wah_words.proofs.WordsLemmas.{joined_number, last_fits, appends_to_last, apart_last, apart_first, appends_fill, last_of}
use Rattle.wah_words.proofs.words.append_fill.Goals as goal
use Rattle.wah_words.proofs.words.append_fill.Goals.{then-count-gt0+else-is_fill_of, else-count-gt0}

pub overflow_add-last : goal.overflow_add-last
overflow_add-last c =
    let xs = c.args.regular.now.items in
    let k = c.len-count.result - 1 in
    let y = c.index-last.result.now in
    let place : k + 1 ≡ length xs = omega (arith, c.args.regular.now.ok.0) in
    let number = joined_number c.args.bit y c.is_fill_of.ensures.range (sym c.is_fill_of.ensures.fill ∙ c.if-is_fill_of.true) in
    let small : y + c.args.groups < 4294967296 = number.fits c.args.groups (last_fits xs k y c.args.bit c.args.groups place c.index-last.ensures number c.requires.fits) in
    omega arith

pub returns-then-is_fill_of-clause-appends : goal.returns-then-is_fill_of-clause-appends
returns-then-is_fill_of-clause-appends c =
    let xs = c.args.regular.now.items in
    let k = c.len-count.result - 1 in
    let y = c.index-last.result.now in
    let place : k + 1 ≡ length xs = omega (arith, c.args.regular.now.ok.0) in
    appends_to_last xs k y c.args.bit c.args.groups place c.index-last.ensures c.is_fill_of.ensures.range (sym c.is_fill_of.ensures.fill ∙ c.if-is_fill_of.true) c.requires.canonical c.requires.some c.requires.fits

pub returns-clause-appends : goal.returns-clause-appends
returns-clause-appends c =
    let xs = c.args.regular.now.items in
    let k = c.len-count.result - 1 in
    let apart : AreApart (last_of (literal 0) (decoded_all xs)) (fill c.args.bit c.args.groups) =
    elim c.if-count-gt0.branch [
      | then-count-gt0+else-is_fill_of w ↦ apart_last xs k w.index-last.result.now c.args.bit c.args.groups (omega (arith, c.args.regular.now.ok.0)) w.index-last.ensures (sym w.is_fill_of.ensures.fill ∙ w.if-is_fill_of.false)
      | else-count-gt0 w ↦ apart_first xs c.args.bit c.args.groups (omega (arith, c.args.regular.now.ok.0))
    ] in
    rw c.push_reserved.ensures.items (appends_fill xs c.fill_word.result c.args.bit c.args.groups c.fill_word.ensures.back c.requires.canonical apart c.requires.some)
