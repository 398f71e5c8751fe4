use Rattle.std.proofs.Common.{◌≡◌, ◌++◌, ◌∷◌, [], true, false, List, Result, Ok, Err, OnOk, OnErr, sym, ap, ◌∙◌, append-nil, append_assoc}
use Rattle.std.specs.Result.{is_err}
use Rattle.part_meta.specs.declared.part.PartMeta.{PartMeta}
use Rattle.world.specs.Effects.{new_part}
use Rattle.world.specs.PartFiles.{part_data}
use Rattle.dataset.specs.declared.content.Dataset.{Dataset}
use Rattle.dataset.specs.Growing.{with_parts, without_parts}
use Rattle.dataset.proofs.GrowingLemmas.{added, added_more, length-added, taken_back}
use Rattle.dataset.proofs.growing.add_parts.Goals as goal

pub loop-place-init : goal.loop-place-init
loop-place-init c =
    let d = c.args.dataset.now in
    ap (λ (parts : List PartMeta). record d { parts = parts }) (sym (append-nil d.parts))

if_done : {A E : Type 0} (r : Result A E) (P : Type 0) → is_err r ≡ false → OnOk r P → P
if_done (Ok x) P e h = h
if_done (Err x) P e h = absurd (cc)

if_stopped : {A E : Type 0} (r : Result A E) (P : Type 0) → is_err r ≡ true → OnErr r P → P
if_stopped (Ok x) P e h = absurd (cc)
if_stopped (Err x) P e h = h

pub loop-place-preserved : goal.loop-place-preserved
loop-place-preserved c =
    let d = c.args.dataset.now in
    let table = c.args.columns.now in
    let place = c.loop-place.place in
    let front = added table.schema d.next c.args.per_part table.records place in
    let one = part_data table.schema (new_part d.next c.args.per_part table.records place) ∷ [] in
    if_done c.add_part.result _ (sym c.is_err.ensures.value ∙ c.if-is_err.false) c.add_part.ensures.ok
    ∙ ap (λ (e : Dataset). with_parts e one) c.loop-place.invariant
    ∙ ap (λ (parts : List PartMeta). record d { parts = parts })
    (append_assoc d.parts front one ∙ ap (λ (ps : List PartMeta). d.parts ++ ps) (sym (added_more table.schema d.next c.args.per_part table.records place)))

pub returns-then-is_err-clause-err : goal.returns-then-is_err-clause-err
returns-then-is_err-clause-err c =
    let d = c.args.dataset.now in
    let table = c.args.columns.now in
    let place = c.loop-place.place in
    let front = added table.schema d.next c.args.per_part table.records place in
    let stayed = if_stopped c.add_part.result _ (sym c.is_err.ensures.value ∙ c.if-is_err.true) c.add_part.ensures.err in
    c.take_back.ensures ∙ ap (λ (e : Dataset). without_parts e d.next place) (stayed ∙ c.loop-place.invariant)
    ∙ ap (λ (parts : List PartMeta). record d { parts = parts }) (taken_back d.parts front place (length-added table.schema d.next c.args.per_part table.records place))
