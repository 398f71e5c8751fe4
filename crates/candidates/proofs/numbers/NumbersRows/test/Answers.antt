use Rattle.std.proofs.Common.{◌≡◌, ◌-◌, ◌++◌, length, take, drop, ap, ◌∙◌, arith}
use Rattle.std.proofs.lemmas.List.{length-take}
use Rattle.binning.specs.Spans.{has}
use Rattle.candidates.proofs.FoundLemmas.{tests_of_part}
use Rattle.candidates.proofs.numbers.NumbersRows.test.Goals as goal

pub returns-clause-found : goal.returns-clause-found
returns-clause-found g c = λ all are.
    let n = c.args.past - c.args.first in
    let first = c.args.first in
    let size : length (take n c.args.block.now) ≡ n = omega (arith, length-take n c.args.block.now, c.requires.block, c.requires.few) in
    c.push_tests.ensures.bits
    ∙ ap (λ l. c.args.found.now.bits ++ l) (tests_of_part (has c.args.self.now.spans.now) are.numbers c.read_block.new.block all n first are.are
    (c.in_ok-read_block.ensures.numbers are.numbers are.there ∙ ap (λ k. take k (drop first are.numbers)) size))
