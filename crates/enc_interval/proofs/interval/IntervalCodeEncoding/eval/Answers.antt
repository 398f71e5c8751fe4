use Rattle.std.proofs.Common.{◌≡◌, length, ◌∙◌, arith}
use Rattle.std.proofs.lemmas.Result.{IfOk-weaker}
use Rattle.wah_words.specs.Spelling.{words_of}
use Rattle.wah_logic.specs.Logic.{each_place, and, or, and_not}
use Rattle.wah_logic.proofs.UnionLemmas.{words_few}
use Rattle.binning.proofs.FetchedLemmas.{copy_steps, item_long}
use Rattle.enc_interval.proofs.IntervalLemmas.{whole, half, more, low, high, middle}
use Rattle.enc_interval.proofs.interval.IntervalCodeEncoding.eval.Goals as goal

pub returns-in-empty-clause-union : goal.returns-in-empty-clause-union
returns-in-empty-clause-union g c = IfOk-weaker c.copy.result (λ v. v ≡ c.args.mask.now) _ (λ v e all f. e ∙ whole c.args.bins c.args.first c.args.end all c.args.fetched.now c.args.mask.now c.requires.order c.requires.within c.requires.number c.in-empty.len_below f) c.copy.ensures.copied

pub returns-in-empty-clause-steps : goal.returns-in-empty-clause-steps
returns-in-empty-clause-steps g c =
    let len = length c.args.mask.now in
    copy_steps c.copy.result len (words_of c.args.mask.now) c.args.steps.now c.copy.new.steps (length c.args.fetched.now) (words_few len c.args.mask.now (omega arith)) c.copy.ensures.steps c.copy.ensures.no_steps

pub returns-in-len1-clause-union : goal.returns-in-len1-clause-union
returns-in-len1-clause-union g c = IfOk-weaker c.copy-in-len1.result (λ v. v ≡ c.half-item.result) _ (λ v e all f. e ∙ half c.args.bins c.args.first c.args.end all c.args.fetched.now c.args.mask.now c.half-item.result c.requires.order c.requires.within c.requires.number c.in-len1.len_at_least c.in-len1.len_below c.half-item.is f) c.copy-in-len1.ensures.copied

pub returns-in-len1-clause-steps : goal.returns-in-len1-clause-steps
returns-in-len1-clause-steps g c =
    let len = length c.args.mask.now in
    let v = c.half-item.result in
    copy_steps c.copy-in-len1.result len (words_of v) c.args.steps.now c.copy-in-len1.new.steps (length c.args.fetched.now) (words_few len v (item_long len c.args.fetched.now 0 v c.requires.long c.in-len1.len_at_least c.half-item.is)) c.copy-in-len1.ensures.steps c.copy-in-len1.ensures.no_steps

pub returns-in-More-clause-union : goal.returns-in-More-clause-union
returns-in-More-clause-union g c = IfOk-weaker c.combined.result (λ v. v ≡ each_place or c.a-item.result c.b-item.result) _ (λ v e all f. e ∙ more c.args.bins c.args.first c.args.end all c.args.fetched.now c.args.mask.now c.a-item.result c.b-item.result c.requires.order c.requires.within (omega (arith, c.requires.number, c.in-len2-up.len_at_least)) c.in-More.ensures c.a-item.is c.b-item.is f) c.combined.ensures.values

pub returns-in-Low-clause-union : goal.returns-in-Low-clause-union
returns-in-Low-clause-union g c = IfOk-weaker c.combined-in-Low.result (λ v. v ≡ each_place and_not c.a-item.result c.b-item.result) _ (λ v e all f. e ∙ low c.args.bins c.args.first c.args.end all c.args.fetched.now c.args.mask.now c.a-item.result c.b-item.result c.requires.order c.requires.within (omega (arith, c.requires.number, c.in-len2-up.len_at_least)) c.in-Low.ensures c.a-item.is c.b-item.is f) c.combined-in-Low.ensures.values

pub returns-in-High-clause-union : goal.returns-in-High-clause-union
returns-in-High-clause-union g c = IfOk-weaker c.combined-in-High.result (λ v. v ≡ each_place and_not c.b-item.result c.a-item.result) _ (λ v e all f. e ∙ high c.args.bins c.args.first c.args.end all c.args.fetched.now c.args.mask.now c.a-item.result c.b-item.result c.requires.order c.requires.within (omega (arith, c.requires.number, c.in-len2-up.len_at_least)) c.in-High.ensures c.a-item.is c.b-item.is f) c.combined-in-High.ensures.values

pub returns-in_default-clause-union : goal.returns-in_default-clause-union
returns-in_default-clause-union g c = IfOk-weaker c.combined-in_default.result (λ v. v ≡ each_place and c.a-item.result c.b-item.result) _ (λ v e all f. e ∙ middle c.args.bins c.args.first c.args.end c.case_of.result all c.args.fetched.now c.args.mask.now c.a-item.result c.b-item.result c.requires.order c.requires.within (omega (arith, c.requires.number, c.in-len2-up.len_at_least)) c.case_of.ensures c.in_default.not-More c.in_default.not-Low c.in_default.not-High c.a-item.is c.b-item.is f) c.combined-in_default.ensures.values
