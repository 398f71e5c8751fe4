use Rattle.std.proofs.Common.{◌≡◌, ◌+◌, List, ◌∷◌, ◌++◌, [], length, ap, ◌∙◌, arith}
use Rattle.std.specs.List.{flat_map}
use Rattle.std.proofs.lemmas.Grind.{flat_map-append}
use Rattle.std.proofs.lemmas.List.{length-append}
use Rattle.where_plan.specs.declared.plan.Plan.{Plan}
use Rattle.where_plan.specs.declared.plan.Plan.TheVariants as plan
use Rattle.where_plan.specs.declared.plan.PlanAtom.{PlanAtom}
use Rattle.three_valued.specs.Plans.{atoms_of}
use Rattle.three_valued.proofs.PlanLemmas.{atoms_of-and, atoms_of-one, atoms_of-or, atoms_of-xor}
use Rattle.three_valued.proofs.tests.plan_of.Goals as goal
use Rattle.three_valued.proofs.tests.plan_of.Goals.{in-Or, in-Xor, in-And}

one_more : (parts more : List Plan) (atom : PlanAtom) → more ≡ parts ++ plan.One atom ∷ []
    → length (flat_map atoms_of more) ≡ length (flat_map atoms_of parts) + 1
one_more parts more atom e =
    let last : length (flat_map atoms_of (plan.One atom ∷ [])) ≡ 1 = length-append (atoms_of (plan.One atom)) [] ∙ ap (λ k. k + 0) (ap length (atoms_of-one atom)) in
    ap (λ ps. length (flat_map atoms_of ps)) e ∙ ap length (flat_map-append atoms_of parts (plan.One atom ∷ []))
    ∙ length-append (flat_map atoms_of parts) (flat_map atoms_of (plan.One atom ∷ [])) ∙ ap (λ k. length (flat_map atoms_of parts) + k) last

pub loop-preserved : goal.loop-preserved
loop-preserved c = one_more c.loop.parts c.push.new.self _ c.in_ok-push.ensures.ok ∙ ap (λ k. k + 1) c.loop.invariant

pub returns : goal.returns
returns c =
    let all : length (flat_map atoms_of c.loop.parts) ≡ c.args.count = omega (arith, c.loop.invariant, c.loop-test.false) in
    elim c.match-join.branch [
      | in-Or w ↦ ap (λ p. length (atoms_of p)) w.result-is ∙ ap length (atoms_of-or c.loop.parts) ∙ all
      | in-Xor w ↦ ap (λ p. length (atoms_of p)) w.result-is ∙ ap length (atoms_of-xor c.loop.parts) ∙ all
      | in-And w ↦ ap (λ p. length (atoms_of p)) w.result-is ∙ ap length (atoms_of-and c.loop.parts) ∙ all
    ]
