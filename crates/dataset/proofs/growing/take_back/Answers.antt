use Rattle.std.proofs.Common.{◌-◌, List, length, sym, ap, ◌∙◌, arith}
use Rattle.std.proofs.lemmas.List.{take_all}
use Rattle.part_meta.specs.declared.part.PartMeta.{PartMeta}
use Rattle.dataset.specs.declared.content.Dataset.{Dataset}
use Rattle.dataset.proofs.GrowingLemmas.{popped_more}
use Rattle.dataset.proofs.growing.take_back.Goals as goal

pub loop-init : goal.loop-init
loop-init c =
    let d = c.args.dataset.now in
    ap (λ (parts : List PartMeta). record d { parts = parts }) (sym (take_all (length d.parts - 0) d.parts (omega arith)))

pub loop-preserved : goal.loop-preserved
loop-preserved c =
    let d = c.args.dataset.now in
    let more = popped_more d.parts c.loop.dataset.parts c.pop.new.self c.loop.counter c.pop.result (ap (λ e. e.parts) c.loop.invariant) c.pop.ensures in
    ap (λ (e : Dataset). record e { parts = c.pop.new.self }) c.loop.invariant
    ∙ ap (λ (parts : List PartMeta). record d { parts = parts }) more
