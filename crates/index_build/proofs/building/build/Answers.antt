use Rattle.std.proofs.Common.{inl, List, Bool, Option, subst, sym, ◌∙◌}
use Rattle.std.proofs.lemmas.Result.{err_from_is_err_and}
use Rattle.fb_outside.specs.Files.{Files}
use Rattle.world.specs.Stands.{StandsFor}
use Rattle.index_build.specs.Build.{AnswersOver, bin_count}
use Rattle.index_build.proofs.BuildLemmas.{leaves_opened, opened_numbers}
use Rattle.index_build.proofs.OpeningLemmas.{damage_told, opened_mask, part_looks, stops_opened, stops_unopened, undamaged, unopened_answers}
use Rattle.index_build.proofs.BuiltLemmas.{stands_after}
use Rattle.index_build.proofs.building.build.Goals as goal

-- ---- the column isn't opened

pub returns-in-Err-clause-leaves : goal.returns-in-Err-clause-leaves
returns-in-Err-clause-leaves g c = λ m mask numbers told has. inl c.open_numbers.ensures.files

pub returns-in-Err-clause-answer : goal.returns-in-Err-clause-answer
returns-in-Err-clause-answer g c = λ m mask numbers told has.
    rw c.fault_of_part.ensures
    (unopened_answers (g.S.Store.files c.args.store.now) m c.args.dataset.now c.args.part.now c.args.column.now mask numbers c.args.spec.now.encoding
    (bin_count c.args.spec.now mask numbers) c.in-Err.fault c.requires.rows told c.in-Err.ensures.exact has)

pub returns-in-Err-clause-damaged : goal.returns-in-Err-clause-damaged
returns-in-Err-clause-damaged g c = λ m damage told d.
    rw c.fault_of_part.ensures
    (damage_told (g.S.Store.files c.args.store.now) m c.args.dataset.now c.args.part.now c.args.column.now damage c.in-Err.fault told c.in-Err.ensures.exact d)

pub returns-in-Err-clause-stop : goal.returns-in-Err-clause-stop
returns-in-Err-clause-stop g c =
    rw c.fault_of_part.ensures
    (stops_unopened (g.S.Store.files c.args.store.now) c.args.dataset.now c.args.part.now c.args.column.now c.requires.listed.0 c.requires.in_schema.0 c.in-Err.fault
    c.requires.listed.1 c.requires.in_schema.1 c.requires.width c.in-Err.ensures.exact)

pub returns-in-Err-clause-stands : goal.returns-in-Err-clause-stands
returns-in-Err-clause-stands g c = λ world p col h of is.
    inl (subst (λ (told : Option Files). StandsFor told world) (sym c.open_numbers.ensures.files) h)

-- ---- its index has no name for want of memory

pub returns-in_err-name-clause-leaves : goal.returns-in_err-name-clause-leaves
returns-in_err-name-clause-leaves g c = λ m mask numbers told has.
    let p = err_from_is_err_and c.from_residual.result c.from_residual.ensures.1 in
    rw p.1 (inl c.open_numbers.ensures.files)

pub returns-in_err-name-clause-damaged : goal.returns-in_err-name-clause-damaged
returns-in_err-name-clause-damaged g c = λ m damage told d.
    undamaged (g.S.Store.files c.args.store.now) m c.args.dataset.now c.args.part.now c.args.column.now damage c.in-Ok.found _ told c.in-Ok.ensures.exact d

pub returns-in_err-name-clause-stands : goal.returns-in_err-name-clause-stands
returns-in_err-name-clause-stands g c = λ world p col h of is.
    let p = err_from_is_err_and c.from_residual.result c.from_residual.ensures.1 in
    rw p.1 (inl (subst (λ (told : Option Files). StandsFor told world) (sym c.open_numbers.ensures.files) h))

-- ---- it is built

leaves : goal.returns-clause-leaves
leaves g c = λ m mask numbers told has.
    let mid = g.S.Store.files c.open_numbers.new.store in
    let kept = c.open_numbers.ensures.files in
    leaves_opened c.build_column.result c.args.spec.now c.in-Ok.found.mask mask numbers c.in_ok-name.name _ _ mid _
    (opened_mask _ m c.args.dataset.now c.args.part.now c.args.column.now mask numbers c.in-Ok.found c.requires.rows told c.in-Ok.ensures.exact has)
    c.in_ok-name.ensures kept
    (c.build_column.ensures.leaves numbers
    (opened_numbers mid m c.args.dataset.now c.args.part.now c.args.column.now mask numbers c.in-Ok.found (kept ∙ told) c.in-Ok.ensures.opened has))

pub returns-clause-leaves : goal.returns-clause-leaves
returns-clause-leaves g c = leaves g c

pub returns-clause-answer : goal.returns-clause-answer
returns-clause-answer g c = λ m mask numbers told has.
    let mid = g.S.Store.files c.open_numbers.new.store in
    let kept = c.open_numbers.ensures.files in
    subst (λ (bits : List Bool). AnswersOver c.args.spec.now.encoding (bin_count c.args.spec.now bits numbers) c.build_column.result)
    (opened_mask _ m c.args.dataset.now c.args.part.now c.args.column.now mask numbers c.in-Ok.found c.requires.rows told c.in-Ok.ensures.exact has)
    (c.build_column.ensures.answer numbers
    (opened_numbers mid m c.args.dataset.now c.args.part.now c.args.column.now mask numbers c.in-Ok.found (kept ∙ told) c.in-Ok.ensures.opened has))

pub returns-clause-stands : goal.returns-clause-stands
returns-clause-stands g c = λ world p col h of is.
    stands_after (g.S.Store.files c.args.store.now) (g.S.Store.files c.build_column.new.store) world c.args.dataset.now.dir p col c.args.column.now c.args.spec.now c.requires.given c.requires.width h of c.build_column.result
    c.args.part.now c.args.dataset.now.schema is (λ m mask numbers told has. leaves g c m mask numbers told has)

pub returns-clause-damaged : goal.returns-clause-damaged
returns-clause-damaged g c = λ m damage told d.
    undamaged (g.S.Store.files c.args.store.now) m c.args.dataset.now c.args.part.now c.args.column.now damage c.in-Ok.found c.build_column.result told
    c.in-Ok.ensures.exact d

pub returns-clause-stop : goal.returns-clause-stop
returns-clause-stop g c =
    stops_opened (g.S.Store.files c.args.store.now) (g.S.Store.files c.open_numbers.new.store) c.args.dataset.now c.args.part.now c.args.column.now c.in-Ok.found
    c.args.spec.now c.build_column.result c.open_numbers.ensures.files c.in-Ok.ensures.opened c.in-Ok.ensures.exact c.build_column.ensures.stop

pub returns-clause-reads : goal.returns-clause-reads
returns-clause-reads g c =
    part_looks c.args.dataset.now c.args.part.now c.args.column.now c.in-Ok.found _ _ _ c.requires.number c.in-Ok.ensures.opened
    c.open_numbers.ensures.reads c.build_column.ensures.reads
