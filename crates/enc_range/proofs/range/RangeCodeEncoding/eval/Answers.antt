use Rattle.std.proofs.Common.{◌≡◌, length, ◌∙◌, arith}
use Rattle.std.proofs.lemmas.Result.{IfOk-weaker}
use Rattle.wah_words.specs.Spelling.{words_of}
use Rattle.wah_logic.specs.Logic.{each_place, and_not}
use Rattle.wah_logic.proofs.UnionLemmas.{words_few}
use Rattle.binning.proofs.FetchedLemmas.{copy_steps, item_long}
use Rattle.enc_range.proofs.RangeLemmas.{whole, front, back, between}
use Rattle.enc_range.proofs.range.RangeCodeEncoding.eval.Goals as goal

pub returns-in-empty-clause-union : goal.returns-in-empty-clause-union
returns-in-empty-clause-union g c = IfOk-weaker c.copy.result (λ v. v ≡ c.args.mask.now) _ (λ v e all f. e ∙ whole c.args.bins c.args.first c.args.end all c.args.fetched.now c.args.mask.now c.requires.order c.requires.within c.requires.number c.in-empty.len_below f) c.copy.ensures.copied

pub returns-in-empty-clause-steps : goal.returns-in-empty-clause-steps
returns-in-empty-clause-steps g c =
    let len = length c.args.mask.now in
    copy_steps c.copy.result len (words_of c.args.mask.now) c.args.steps.now c.copy.new.steps (length c.args.fetched.now) (words_few len c.args.mask.now (omega arith)) c.copy.ensures.steps c.copy.ensures.no_steps

pub returns-in-len1-clause-steps : goal.returns-in-len1-clause-steps
returns-in-len1-clause-steps g c =
    let len = length c.args.mask.now in
    let upto = c.upto-item.result in
    copy_steps c.copy-in-len1.result len (words_of upto) c.args.steps.now c.copy-in-len1.new.steps (length c.args.fetched.now) (words_few len upto (item_long len c.args.fetched.now 0 upto c.requires.long c.in-len1.len_at_least c.upto-item.is)) c.copy-in-len1.ensures.steps c.copy-in-len1.ensures.no_steps

pub returns-in-len1-clause-union : goal.returns-in-len1-clause-union
returns-in-len1-clause-union g c = IfOk-weaker c.copy-in-len1.result (λ v. v ≡ c.upto-item.result) _ (λ v e all f. e ∙ front c.args.bins c.args.first c.args.end all c.args.fetched.now c.args.mask.now c.upto-item.result c.requires.order c.requires.within c.requires.number c.in-len1.len_at_least c.if-first-eq0.true c.upto-item.is f) c.copy-in-len1.ensures.copied

pub returns-in-len1-2-clause-union : goal.returns-in-len1-2-clause-union
returns-in-len1-2-clause-union g c = IfOk-weaker c.combined.result (λ v. v ≡ each_place and_not c.args.mask.now c.before-item.result) _ (λ v e all f. e ∙ back c.args.bins c.args.first c.args.end all c.args.fetched.now c.args.mask.now c.before-item.result c.requires.order c.requires.within c.requires.number c.in-len1.len_at_least c.in-len1.len_below (omega arith) c.before-item.is f) c.combined.ensures.values

pub returns-in-len2-up-clause-union : goal.returns-in-len2-up-clause-union
returns-in-len2-up-clause-union g c = IfOk-weaker c.combined-in-len2-up.result (λ v. v ≡ each_place and_not c.upto-item-2.result c.before-item-2.result) _ (λ v e all f. e ∙ between c.args.bins c.args.first c.args.end all c.args.fetched.now c.args.mask.now c.before-item-2.result c.upto-item-2.result c.requires.order c.requires.within c.requires.number c.in-len2-up.len_at_least c.before-item-2.is c.upto-item-2.is f) c.combined-in-len2-up.ensures.values
