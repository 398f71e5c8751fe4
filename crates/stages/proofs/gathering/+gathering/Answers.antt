use Rattle.std.proofs.Common.{◌≡◌, ◌+◌, ◌*◌, ◌<◌, ◌++◌, List, ◌∷◌, [], map, drop, ap, sym, subst, ◌∙◌, arith, append-nil, OnOk}
use Rattle.std.proofs.lemmas.List.{map-append}
use Rattle.where_plan.specs.declared.plan.PlanAtom.{PlanAtom}
use Rattle.three_valued.specs.Plans.{atoms_of, parts_in, parts_of}
use Rattle.three_valued.proofs.EvaluationLemmas.{and_group, or_group, part_size, rest_cons, size_from, turned, xor_group}
use Rattle.three_valued.proofs.PlanLemmas.{atoms_of-all, atoms_of-one}
use Rattle.stages.proofs.gathering.+gathering.Goals as goal

pub gather-gather_all-requires : goal.gather-gather_all-requires
gather-gather_all-requires t c =
    let group = or_group c.args.plan.now c.in-Or.parts c.as_slice.result.now c.in-Or.is c.as_slice.ensures in
    let less : 2 * parts_in c.as_slice.result.now < t = omega (arith, group.size) in
    (less, tt)

pub gather-gather_all-requires-in-Xor : goal.gather-gather_all-requires-in-Xor
gather-gather_all-requires-in-Xor t c =
    let group = xor_group c.args.plan.now c.in-Xor.parts c.as_slice-in-Xor.result.now c.in-Xor.is c.as_slice-in-Xor.ensures in
    let less : 2 * parts_in c.as_slice-in-Xor.result.now < t = omega (arith, group.size) in
    (less, tt)

pub gather-gather_all-requires-in-And : goal.gather-gather_all-requires-in-And
gather-gather_all-requires-in-And t c =
    let group = and_group c.args.plan.now c.in-And.parts c.as_slice-in-And.result.now c.in-And.is c.as_slice-in-And.ensures in
    let less : 2 * parts_in c.as_slice-in-And.result.now < t = omega (arith, group.size) in
    (less, tt)

pub gather-gather-requires : goal.gather-gather-requires
gather-gather-requires t c =
    let is = turned c.args.plan.now c.in-Not.part c.get.result.now c.in-Not.is c.get.ensures in
    let less : 2 * parts_of c.get.result.now + 1 < t = omega (arith, is.size) in
    (less, tt)

pub gather-returns-in-All : goal.gather-returns-in-All
gather-returns-in-All t c =
    let items = map (λ item. item.now) c.args.out.now.items in
    sym (append-nil items) ∙ ap (λ (l : List PlanAtom). items ++ l) (sym (ap atoms_of c.in-All.is ∙ atoms_of-all))

pub gather-returns-in-Or : goal.gather-returns-in-Or
gather-returns-in-Or t c =
    let group = or_group c.args.plan.now c.in-Or.parts c.as_slice.result.now c.in-Or.is c.as_slice.ensures in
    subst (λ (l : List PlanAtom). OnOk c.gather_all.result (map (λ item. item.now) c.gather_all.new.out.items ≡ map (λ item. item.now) c.args.out.now.items ++ l)) (sym group.atoms) c.gather_all.ensures

pub gather-returns-in-Xor : goal.gather-returns-in-Xor
gather-returns-in-Xor t c =
    let group = xor_group c.args.plan.now c.in-Xor.parts c.as_slice-in-Xor.result.now c.in-Xor.is c.as_slice-in-Xor.ensures in
    subst (λ (l : List PlanAtom). OnOk c.gather_all-in-Xor.result (map (λ item. item.now) c.gather_all-in-Xor.new.out.items ≡ map (λ item. item.now) c.args.out.now.items ++ l)) (sym group.atoms) c.gather_all-in-Xor.ensures

pub gather-returns-in-And : goal.gather-returns-in-And
gather-returns-in-And t c =
    let group = and_group c.args.plan.now c.in-And.parts c.as_slice-in-And.result.now c.in-And.is c.as_slice-in-And.ensures in
    subst (λ (l : List PlanAtom). OnOk c.gather_all-in-And.result (map (λ item. item.now) c.gather_all-in-And.new.out.items ≡ map (λ item. item.now) c.args.out.now.items ++ l)) (sym group.atoms) c.gather_all-in-And.ensures

pub gather-returns-in-Not : goal.gather-returns-in-Not
gather-returns-in-Not t c =
    let is = turned c.args.plan.now c.in-Not.part c.get.result.now c.in-Not.is c.get.ensures in
    subst (λ (l : List PlanAtom). OnOk c.gather.result (map (λ item. item.now) c.gather.new.out.items ≡ map (λ item. item.now) c.args.out.now.items ++ l)) (sym is.atoms) c.gather.ensures

pub gather-returns-in_ok-push-in-One : goal.gather-returns-in_ok-push-in-One
gather-returns-in_ok-push-in-One t c =
    let items = c.args.out.now.items in
    let one : atoms_of c.args.plan.now ≡ c.in-One.atom ∷ [] = ap atoms_of c.in-One.is ∙ atoms_of-one c.in-One.atom in
    ap (map (λ item. item.now)) c.in_ok-push-in-One.ensures.items ∙ map-append (λ item. item.now) items _ ∙ ap (λ (l : List PlanAtom). map (λ item. item.now) items ++ l) (sym one)

pub gather_all-gather-requires : goal.gather_all-gather-requires
gather_all-gather-requires t c =
    let parts = c.args.parts.now in
    let k = c.loop-part.part-index in
    let part = c.part-item.result in
    let cons = rest_cons parts k part c.loop-part-test.true c.part-item.is in
    let less : 2 * parts_of part + 1 < t = omega (arith, size_from parts k, part_size (drop k parts) part (drop (k + 1) parts) cons) in
    (less, tt)
