use Rattle.std.proofs.Common.{◌≡◌, length, map, sym, ap, ◌∙◌, arith}
use Rattle.std.proofs.lemmas.List.{map-id}
use Rattle.std.proofs.lemmas.Result.{IfOk-weaker}
use Rattle.wah_logic.specs.Logic.{each_place, and_not, union}
use Rattle.wah_logic.proofs.UnionLemmas.{length-union}
use Rattle.binning.proofs.FetchedLemmas.{long_rows}
use Rattle.enc_equality.proofs.EqualityLemmas.{short_run, long_run}
use Rattle.enc_equality.proofs.equality.EqualityEncoding.eval.Goals as goal

pub returns-then-is_short-clause-union : goal.returns-then-is_short-clause-union
returns-then-is_short-clause-union g c = λ all f. short_run c.args.bins c.args.first c.args.end all c.args.fetched.now c.args.mask.now c.in_ok-union.union c.requires.order (sym c.is_short.ensures ∙ c.if-is_short.true) (c.in_ok-union.ensures.values ∙ ap (λ l. union c.len.result l) (map-id c.args.fetched.now) ∙ ap (λ n. union n c.args.fetched.now) c.len.ensures.length) f

pub returns-then-is_short-clause-length : goal.returns-then-is_short-clause-length
returns-then-is_short-clause-length g c = ap length c.in_ok-union.ensures.values ∙ length-union c.len.result (map (λ v. v) c.args.fetched.now) (rw c.len.ensures.length (long_rows (length c.args.mask.now) c.args.fetched.now c.requires.long)) ∙ c.len.ensures.length

pub combined-requires : goal.combined-requires
combined-requires g c = sym (ap length c.in_ok-union.ensures.values ∙ length-union c.len.result (map (λ v. v) c.args.fetched.now) (rw c.len.ensures.length (long_rows (length c.args.mask.now) c.args.fetched.now c.requires.long)) ∙ c.len.ensures.length)

pub returns-clause-union : goal.returns-clause-union
returns-clause-union g c = IfOk-weaker c.combined.result (λ v. v ≡ each_place and_not c.args.mask.now c.in_ok-union.union) _ (λ v e all f. e ∙ long_run c.args.bins c.args.first c.args.end all c.args.fetched.now c.args.mask.now c.in_ok-union.union c.requires.order c.requires.within (sym c.is_short.ensures ∙ c.if-is_short.false) (c.in_ok-union.ensures.values ∙ ap (λ l. union c.len.result l) (map-id c.args.fetched.now) ∙ ap (λ n. union n c.args.fetched.now) c.len.ensures.length) f) c.combined.ensures.values
