use Rattle.std.proofs.Common.{◌≡◌, ◌∙◌}
use Rattle.std.proofs.lemmas.Result.{IfOk-weaker}
use Rattle.select_group.proofs.GroupLemmas.{each_fits, groups_told}
use Rattle.select_group.proofs.grouper.group_rows.Goals as goal

pub rows_of-requires : goal.rows_of-requires
rows_of-requires c =
    let sorted = c.in_ok-sort_unstable_keys.ensures in
    each_fits c.args.items.now 4294967296 c.args.groups.entries c.sort_unstable_keys.new.self.entries sorted.unique sorted.reordered.2 c.requires.fits

pub returns : goal.returns
returns c =
    let sorted = c.in_ok-sort_unstable_keys.ensures in
    IfOk-weaker c.rows_of.result _ _ (λ rows is records found. is ∙ groups_told c.args.items.now records c.sort_unstable_keys.new.self.entries sorted.sorted sorted.unique (λ q. sorted.reordered.2 q ∙ found q)) c.rows_of.ensures
