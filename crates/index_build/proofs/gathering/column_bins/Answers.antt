use Rattle.index_build.proofs.ReadingLemmas.{all_in_range}
use Rattle.index_build.proofs.gathering.column_bins.Goals as goal

pub make_rule-requires-clause-within : goal.make_rule-requires-clause-within
make_rule-requires-clause-within g c =
    rw c.deref.ensures.value (all_in_range c.args.column.now.ty c.in_ok-numbers-in-Weight.numbers.items c.requires.width c.in_ok-numbers-in-Weight.ensures.numbers.fit)

pub bins-requires-clause-within : goal.bins-requires-clause-within
bins-requires-clause-within g c =
    rw c.deref-in-Weight.ensures.value (all_in_range c.args.column.now.ty c.in_ok-numbers-in-Weight.numbers.items c.requires.width c.in_ok-numbers-in-Weight.ensures.numbers.fit)
