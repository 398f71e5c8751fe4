use Rattle.std.proofs.Common.{◌≡◌, ℕ, ◌+◌, ◌-◌, ◌≤◌, ◌++◌, length, map, subst, refl, sym, ap, ◌∙◌, arith}
use Rattle.std.proofs.lemmas.Result.{IfOk-weaker}
use Rattle.std.specs.Int.{div_ceil}
use Rattle.index_spec.specs.Counts.{groups_of}
use Rattle.index_spec.specs.Members.{needed, coarse_needed}
use Rattle.wah_logic.specs.Logic.{each_place, or, union, groups_and_rest}
use Rattle.index_spec.specs.declared.spec.Coarse.{Coarse}
use Rattle.binning.specs.Members.{AreFetched}
use Rattle.enc_two_level.specs.Grouped.{group_rows}
use Rattle.enc_two_level.specs.Levels.{one_level}
use Rattle.enc_two_level.specs.Whole.{AreWhole, end_group}
use Rattle.enc_two_level.proofs.LawLemmas.{alone, together, fetched_groups, needed_is, groups_kept, enough_groups, some_in_group}
use Rattle.enc_two_level.proofs.EvalLemmas.{number_split, first_steps, second_steps, all_steps, back_long, union_long, union_is, split_is}
use Rattle.enc_two_level.proofs.two_level.TwoLevelEncoding.eval.Goals as goal

pub overflow_sub-fetched : goal.overflow_sub-fetched
overflow_sub-fetched g c =
    let n = c.args.bins in
    let m = c.args.self.now.ncoarse in
    let whole = c.in-Some.whole in
    let w : AreWhole n (div_ceil n m) (groups_of n m) c.args.first c.args.end whole = let P : ℕ → Type 0 = λ x. AreWhole n x (div_ceil n x) c.args.first c.args.end whole in subst P c.div_ceil-size.ensures c.in-Some.ensures in
    omega (arith, number_split c.args.self.now.coarse m n c.args.first c.args.end (length c.args.fetched.now) whole w c.requires.number)

pub eval-requires-clause-within : goal.eval-requires-clause-within
eval-requires-clause-within g c = c.in-Some.ensures.last

pub eval-requires-clause-number : goal.eval-requires-clause-number
eval-requires-clause-number g c =
    let n = c.args.bins in
    let m = c.args.self.now.ncoarse in
    let level = c.args.self.now.coarse in
    let whole = c.in-Some.whole in
    let w : AreWhole n (div_ceil n m) (groups_of n m) c.args.first c.args.end whole = let P : ℕ → Type 0 = λ x. AreWhole n x (div_ceil n x) c.args.first c.args.end whole in subst P c.div_ceil-size.ensures c.in-Some.ensures in
    let long : length c.split_at.result.0.now ≡ length (coarse_needed level whole.groups whole.from whole.to) = omega (arith, c.split_at.ensures.front_len, number_split level m n c.args.first c.args.end (length c.args.fetched.now) whole w c.requires.number) in
    long ∙ ap length (sym (needed_is level whole.groups whole.from whole.to) ∙ ap (λ l. needed (one_level l) whole.groups whole.from whole.to) (sym c.level.ensures))

pub returns-in_err-inside-in-Some-clause-steps : goal.returns-in_err-inside-in-Some-clause-steps
returns-in_err-inside-in-Some-clause-steps g c = first_steps c.level.result.coarse (groups_and_rest (length c.args.mask.now)) (length c.split_at.result.0.now) (length c.args.fetched.now) c.args.steps.now c.eval.new.steps (omega (arith, c.split_at.ensures.front_len)) c.eval.ensures.steps

pub or_many-requires-in-Some-clause-same : goal.or_many-requires-in-Some-clause-same
or_many-requires-in-Some-clause-same g c = back_long (length c.args.mask.now) c.len-in-Some.result _ c.args.fetched.now c.split_at.result.1.now c.len-in-Some.ensures.length c.split_at.ensures.back c.requires.long

pub returns-in_err-outside-in-Some-clause-steps : goal.returns-in_err-outside-in-Some-clause-steps
returns-in_err-outside-in-Some-clause-steps g c = second_steps c.level.result.coarse (groups_and_rest (length c.args.mask.now)) (groups_and_rest c.len-in-Some.result) (length c.split_at.result.0.now) (length c.split_at.result.1.now) (length c.args.fetched.now) c.args.steps.now c.eval.new.steps c.or_many-in-Some.new.steps (ap groups_and_rest c.len-in-Some.ensures.length) (omega (arith, c.split_at.ensures.front_len, c.split_at.ensures.back_len)) c.eval.ensures.steps c.or_many-in-Some.ensures.steps

pub combined-requires : goal.combined-requires
combined-requires g c =
    let len = length c.args.mask.now in
    c.in_ok-inside-in-Some.ensures.length ∙ sym (union_long len c.len-in-Some.result c.split_at.result.1.now c.in_ok-outside-in-Some.outside c.len-in-Some.ensures.length (back_long len c.len-in-Some.result _ c.args.fetched.now c.split_at.result.1.now c.len-in-Some.ensures.length c.split_at.ensures.back c.requires.long) c.in_ok-outside-in-Some.ensures.values)

pub returns-in-None-clause-union : goal.returns-in-None-clause-union
returns-in-None-clause-union g c =
    let n = c.args.bins in
    let m = c.args.self.now.ncoarse in
    let none : end_group n (div_ceil n m) (groups_of n m) c.args.end ≤ div_ceil c.args.first (div_ceil n m) = let P : ℕ → Type 0 = λ x. end_group n x (div_ceil n x) c.args.end ≤ div_ceil c.args.first x in subst P c.div_ceil-size.ensures c.in-None.ensures in
    IfOk-weaker c.or_many.result (λ v. v ≡ union c.len.result (map (λ x. x) c.args.fetched.now)) _ (λ v e all f. alone c.args.self.now.coarse m n c.args.first c.args.end all c.args.fetched.now c.args.mask.now v c.requires.order none (union_is (length c.args.mask.now) c.len.result c.args.fetched.now v c.len.ensures.length e) f) c.or_many.ensures.values

pub returns-in-None-clause-length : goal.returns-in-None-clause-length
returns-in-None-clause-length g c = IfOk-weaker c.or_many.result (λ v. v ≡ union c.len.result (map (λ x. x) c.args.fetched.now)) _ (λ v e. union_long (length c.args.mask.now) c.len.result c.args.fetched.now v c.len.ensures.length (back_long (length c.args.mask.now) c.len.result 0 c.args.fetched.now c.args.fetched.now c.len.ensures.length refl c.requires.long) e) c.or_many.ensures.values

pub returns-in_ok-outside-in-Some-clause-union : goal.returns-in_ok-outside-in-Some-clause-union
returns-in_ok-outside-in-Some-clause-union g c =
    let n = c.args.bins in
    let m = c.args.self.now.ncoarse in
    let i = c.args.first in
    let j = c.args.end in
    let level = c.args.self.now.coarse in
    let whole = c.in-Some.whole in
    let fetched = c.args.fetched.now in
    let mask = c.args.mask.now in
    let coarse = c.split_at.result.0.now in
    let fine = c.split_at.result.1.now in
    let v = c.in_ok-inside-in-Some.inside in
    let u = c.in_ok-outside-in-Some.outside in
    let w : AreWhole n (div_ceil n m) (groups_of n m) i j whole = let P : ℕ → Type 0 = λ x. AreWhole n x (div_ceil n x) i j whole in subst P c.div_ceil-size.ensures c.in-Some.ensures in
    let split : fetched ≡ coarse ++ fine = split_is (length fetched - ((whole.begin - i) + (j - whole.after))) fetched coarse fine c.split_at.ensures.front c.split_at.ensures.back in
    let long : length coarse ≡ length (coarse_needed level whole.groups whole.from whole.to) = omega (arith, c.split_at.ensures.front_len, number_split level m n i j (length fetched) whole w c.requires.number) in
    let some = some_in_group m n i j c.requires.groups c.requires.order c.requires.within in
    let enough = enough_groups m n some in
    let kept = groups_kept level m n whole.groups whole.from whole.to c.requires.counted (omega (arith, c.requires.order, c.requires.within)) w.groups w.some w.last in
    let u' = union_is (length mask) c.len-in-Some.result fine u c.len-in-Some.ensures.length c.in_ok-outside-in-Some.ensures.values in
    IfOk-weaker c.combined.result (λ x. x ≡ each_place or v u) _ (λ x e all f.
    (let r = fetched_groups level m n i j whole all fetched coarse fine mask some enough w kept split long f in
    e ∙ together level m n i j whole all fetched coarse fine mask v u c.requires.within some enough w split long f
    (c.in_ok-inside-in-Some.ensures.union (group_rows (length mask) (div_ceil n m) all (groups_of n m)) (let P : Coarse → Type 0 = λ l. AreFetched (one_level l) whole.groups whole.from whole.to (group_rows (length mask) (div_ceil n m) all (groups_of n m)) coarse mask in subst P (sym c.level.ensures) r))
    u')) c.combined.ensures.values

pub returns-in_ok-outside-in-Some-clause-steps : goal.returns-in_ok-outside-in-Some-clause-steps
returns-in_ok-outside-in-Some-clause-steps g c = all_steps c.level.result.coarse (groups_and_rest (length c.args.mask.now)) (groups_and_rest c.len-in-Some.result) (groups_and_rest (length c.in_ok-inside-in-Some.inside)) (length c.split_at.result.0.now) (length c.split_at.result.1.now) (length c.args.fetched.now) c.args.steps.now c.eval.new.steps c.or_many-in-Some.new.steps c.combined.new.steps (ap groups_and_rest c.len-in-Some.ensures.length) (ap groups_and_rest c.in_ok-inside-in-Some.ensures.length) (omega (arith, c.split_at.ensures.front_len, c.split_at.ensures.back_len)) c.eval.ensures.steps c.or_many-in-Some.ensures.steps c.combined.ensures.groups
