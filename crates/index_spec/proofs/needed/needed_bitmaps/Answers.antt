use Rattle.index_spec.proofs.MembersLemmas.{in_order, kept, length-equality, few}
use Rattle.index_spec.proofs.needed.needed_bitmaps.Goals as goal

pub returns-clause-rising : goal.returns-clause-rising
returns-clause-rising c = in_order

pub returns-clause-kept : goal.returns-clause-kept
returns-clause-kept c = kept

pub returns-clause-equality : goal.returns-clause-equality
returns-clause-equality c = length-equality

pub returns-clause-two_level : goal.returns-clause-two_level
returns-clause-two_level c = few
