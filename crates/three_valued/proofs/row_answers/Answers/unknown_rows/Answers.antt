use Rattle.std.proofs.Common.{◌≡◌, false, map, replicate, length, ap, sym, ◌∙◌, arith}
use Rattle.std.proofs.lemmas.List.{length-map}
use Rattle.std.proofs.lemmas.Result.{IfOk-weaker}
use Rattle.wah_logic.specs.Logic.{and_not, each_place}
use Rattle.three_valued.specs.Tables.{is_possible, is_unknown, is_yes}
use Rattle.three_valued.proofs.RowLemmas.{unknown_none, unknown_rows_of}
use Rattle.three_valued.proofs.row_answers.Answers.unknown_rows.Goals as goal

pub combined-requires : goal.combined-requires
combined-requires g c = ap length c.possible.ensures ∙ length-map c.args.self.now is_possible ∙ sym (ap length c.definite.ensures ∙ length-map c.args.self.now is_yes)

pub returns-then-is_known-clause-rows : goal.returns-then-is_known-clause-rows
returns-then-is_known-clause-rows g c =
    IfOk-weaker c.filled.result (λ v. v ≡ replicate c.len.result false) (λ v. v ≡ map is_unknown c.args.self.now)
    (λ v e. e ∙ unknown_none c.args.self.now c.len.result (c.is_known.ensures c.if-is_known.true) c.len.ensures.length) c.filled.ensures

pub returns-clause-rows : goal.returns-clause-rows
returns-clause-rows g c =
    IfOk-weaker c.combined.result (λ v. v ≡ each_place and_not c.possible.result.now c.definite.result.now) (λ v. v ≡ map is_unknown c.args.self.now)
    (λ v e. unknown_rows_of v c.possible.result.now c.definite.result.now c.args.self.now e c.possible.ensures c.definite.ensures) c.combined.ensures.values

pub returns-clause-steps : goal.returns-clause-steps
returns-clause-steps g c =
    let same = ap length c.possible.ensures ∙ length-map c.args.self.now is_possible in
    omega (arith, same, c.combined.ensures.groups)
