use Rattle.std.proofs.Common.{◌+◌, ◌≤◌, length, arith}
use Rattle.std.proofs.lemmas.Result.{IfOk-weaker}
use Rattle.wah_words.specs.Limits.{most_bits}
use Rattle.binning.specs.Bins.{cells}
use Rattle.binning.specs.Kept.{held_by}
use Rattle.binning.specs.Listed.{held_of}
use Rattle.binning.proofs.ListedLemmas.{rows_put, gathered_put, rows_of_held}
use Rattle.binning.proofs.kept_rows.put.Goals as goal

pub returns-in-Listed-clause-rows : goal.returns-in-Listed-clause-rows
returns-in-Listed-clause-rows c =
    rw c.in-Listed.is (IfOk-weaker c.put_listed.result _ _ (λ all g. rows_put (held_by all) c.in-Listed.listed c.args.is_there.now c.args.values.now c.requires.same g) c.put_listed.ensures.gathered)

pub returns-in-Listed-clause-gathered : goal.returns-in-Listed-clause-gathered
returns-in-Listed-clause-gathered c =
    let listed = c.in-Listed.listed in
    let room : length (held_of listed).places + length c.args.values.now ≤ most_bits = rw c.in-Listed.is at c.requires.room in
    let few : length listed ≤ most_bits = omega (arith, room, rows_of_held listed) in
    rw c.in-Listed.is (IfOk-weaker c.put_listed.result _ _ (λ all g column h. gathered_put (held_by all) listed column (cells c.args.is_there.now c.args.values.now) few g h) c.put_listed.ensures.gathered)
