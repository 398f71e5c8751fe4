use Rattle.std.proofs.Common.{◌*◌, List, ℕ, Ok, refl, length, ap, subst, sym, ◌∙◌}
use Rattle.std.proofs.lemmas.Result.{err_from_is_err_and}
use Rattle.ibis_build.specs.Causes.{AreAllSound}
use Rattle.ibis_build.proofs.ColumnLemmas.{chosen-can, chosen-few}
use Rattle.ibis_build.proofs.BuildLemmas.{build-cut, build-done, build-gives, build-keeps, build-looks, build-puts, build-stops, names-give, names-leave, opening-gives, opening-leaves, text-gives, text-leaves, text-looks}
use Rattle.ibis_build.proofs.building.build_indexes.Goals as goal

-- ---- the specification

pub returns-in_err-spec-clause-gives : goal.returns-in_err-spec-clause-gives
returns-in_err-spec-clause-gives g c =
    let p = err_from_is_err_and c.from_residual.result c.from_residual.ensures.1 in
    let files = g.S.Store.files c.args.store.now in
    rw (p.1, p.2)
    (text-gives c.args.dir.now c.args.text.now c.args.list.now files files refl c.in_err-spec.field-0.0 c.in_err-spec.ensures.stop)

pub returns-in_err-spec-clause-stands : goal.returns-in_err-spec-clause-stands
returns-in_err-spec-clause-stands g c = λ world h.
    let p = err_from_is_err_and c.from_residual.result c.from_residual.ensures.1 in
    let files = g.S.Store.files c.args.store.now in
    rw (p.1, p.2)
    (text-leaves c.args.dir.now c.args.text.now c.args.list.now files files refl c.in_err-spec.field-0.0 c.in_err-spec.ensures.stop world h)

-- ---- the dataset

pub returns-in_err-dataset-clause-gives : goal.returns-in_err-dataset-clause-gives
returns-in_err-dataset-clause-gives g c =
    let p = err_from_is_err_and c.from_residual-in_err-dataset.result c.from_residual-in_err-dataset.ensures.1 in
    rw (p.1, p.2)
    (opening-gives c.args.dir.now c.args.text.now c.args.list.now (g.S.Store.files c.args.store.now) (g.S.Store.files c.opened.new.store)
    c.opened.ensures.files c.in_ok-spec.spec c.in_ok-spec.ensures.ok c.requires.path c.in_err-dataset.field-0.0 c.in_err-dataset.ensures.finds)

pub returns-in_err-dataset-clause-stands : goal.returns-in_err-dataset-clause-stands
returns-in_err-dataset-clause-stands g c = λ world h.
    let p = err_from_is_err_and c.from_residual-in_err-dataset.result c.from_residual-in_err-dataset.ensures.1 in
    rw (p.1, p.2)
    (opening-leaves c.args.dir.now c.args.text.now c.args.list.now (g.S.Store.files c.args.store.now) (g.S.Store.files c.opened.new.store)
    c.opened.ensures.files c.in_ok-spec.spec c.in_ok-spec.ensures.ok c.requires.path c.in_err-dataset.field-0.0 c.in_err-dataset.ensures.finds world h)

pub returns-in_err-dataset-clause-reads : goal.returns-in_err-dataset-clause-reads
returns-in_err-dataset-clause-reads g c = text-looks c.args.dir.now c.args.list.now _ _ c.opened.ensures.reads

-- ---- the columns

pub returns-in_err-cols-clause-gives : goal.returns-in_err-cols-clause-gives
returns-in_err-cols-clause-gives g c =
    let p = err_from_is_err_and c.from_residual-in_err-cols.result c.from_residual-in_err-cols.ensures.1 in
    rw (p.1, p.2)
    (names-give c.args.dir.now c.args.text.now c.args.list.now (g.S.Store.files c.args.store.now) (g.S.Store.files c.opened.new.store)
    c.opened.ensures.files c.in_ok-spec.spec c.in_ok-spec.ensures.ok c.requires.path c.in_ok-dataset.dataset c.in_ok-dataset.ensures.finds
    c.in_err-cols.field-0.0 c.in_err-cols.ensures.stop)

pub returns-in_err-cols-clause-stands : goal.returns-in_err-cols-clause-stands
returns-in_err-cols-clause-stands g c = λ world h.
    let p = err_from_is_err_and c.from_residual-in_err-cols.result c.from_residual-in_err-cols.ensures.1 in
    rw (p.1, p.2)
    (names-leave c.args.dir.now c.args.text.now c.args.list.now (g.S.Store.files c.args.store.now) (g.S.Store.files c.opened.new.store)
    c.opened.ensures.files c.in_ok-spec.spec c.in_ok-spec.ensures.ok c.requires.path c.in_ok-dataset.dataset c.in_ok-dataset.ensures.finds
    c.in_err-cols.field-0.0 c.in_err-cols.ensures.stop world h)

pub returns-in_err-cols-clause-reads : goal.returns-in_err-cols-clause-reads
returns-in_err-cols-clause-reads g c = text-looks c.args.dir.now c.args.list.now _ _ c.opened.ensures.reads

-- ---- the indexes

pub build_parts-requires-clause-cols : goal.build_parts-requires-clause-cols
build_parts-requires-clause-cols g c =
    chosen-can c.in_ok-dataset.dataset.schema c.args.list.now c.deref.result.now (c.in_ok-cols.ensures.ok ∙ ap Ok (sym c.deref.ensures.value))

pub index_count-requires-clause-few : goal.index_count-requires-clause-few
index_count-requires-clause-few g c =
    chosen-few c.in_ok-dataset.dataset.schema c.args.list.now c.deref-2.result.now c.in_ok-dataset.ensures.valid.catalog.schema
    (c.in_ok-cols.ensures.ok ∙ ap Ok (sym c.deref-2.ensures.value))

pub returns-in_err-build_parts-clause-gives : goal.returns-in_err-build_parts-clause-gives
returns-in_err-build_parts-clause-gives g c =
    let p = err_from_is_err_and c.from_residual-in_err-build_parts.result c.from_residual-in_err-build_parts.ensures.1 in
    rw (p.1, p.2)
    (build-stops c.args.dir.now c.args.text.now c.args.list.now (g.S.Store.files c.args.store.now) c.in_ok-spec.spec c.in_ok-spec.ensures.ok
    c.requires.path c.in_ok-dataset.dataset c.in_ok-dataset.ensures.finds c.in_ok-dataset.ensures.path c.deref.result.now
    (c.in_ok-cols.ensures.ok ∙ ap Ok (sym c.deref.ensures.value)) (g.S.Store.files c.opened.new.store) c.in_err-build_parts.field-0.0
    c.opened.ensures.files c.in_err-build_parts.ensures.stop)

pub returns-in_err-build_parts-clause-kept : goal.returns-in_err-build_parts-clause-kept
returns-in_err-build_parts-clause-kept g c =
    build-keeps c.args.dir.now c.args.text.now c.args.list.now (g.S.Store.files c.args.store.now) c.in_ok-spec.spec c.in_ok-spec.ensures.ok
    c.requires.path c.in_ok-dataset.dataset c.in_ok-dataset.ensures.finds c.in_ok-dataset.ensures.path c.deref.result.now
    (c.in_ok-cols.ensures.ok ∙ ap Ok (sym c.deref.ensures.value)) (g.S.Store.files c.opened.new.store) (g.S.Store.files c.build_parts.new.store)
    c.opened.ensures.files c.build_parts.ensures.kept

pub returns-in_err-build_parts-clause-reads : goal.returns-in_err-build_parts-clause-reads
returns-in_err-build_parts-clause-reads g c =
    build-looks c.args.dir.now c.args.text.now c.args.list.now (g.S.Store.files c.args.store.now) c.in_ok-spec.spec c.in_ok-spec.ensures.ok
    c.requires.path c.in_ok-dataset.dataset c.in_ok-dataset.ensures.finds c.in_ok-dataset.ensures.path c.deref.result.now
    (c.in_ok-cols.ensures.ok ∙ ap Ok (sym c.deref.ensures.value)) (g.S.Store.reads c.args.store.now) (g.S.Store.reads c.opened.new.store)
    (g.S.Store.reads c.build_parts.new.store) c.in_ok-dataset.ensures.valid.catalog.schema c.opened.ensures.reads c.build_parts.ensures.reads

pub returns-in_err-build_parts-clause-stands : goal.returns-in_err-build_parts-clause-stands
returns-in_err-build_parts-clause-stands g c = λ world h.
    let p = err_from_is_err_and c.from_residual-in_err-build_parts.result c.from_residual-in_err-build_parts.ensures.1 in
    rw (p.1, p.2)
    (build-cut c.args.dir.now c.args.text.now c.args.list.now (g.S.Store.files c.args.store.now) c.in_ok-spec.spec c.in_ok-spec.ensures.ok
    c.requires.path c.in_ok-dataset.dataset c.in_ok-dataset.ensures.finds c.in_ok-dataset.ensures.path c.deref.result.now
    (c.in_ok-cols.ensures.ok ∙ ap Ok (sym c.deref.ensures.value)) (g.S.Store.files c.opened.new.store) (g.S.Store.files c.build_parts.new.store)
    c.opened.ensures.files world h c.build_parts.result c.in_err-build_parts.field-0.0 c.in_err-build_parts.was c.build_parts.ensures.stands)

pub returns-clause-gives : goal.returns-clause-gives
returns-clause-gives g c =
    build-gives c.args.dir.now c.args.text.now c.args.list.now (g.S.Store.files c.args.store.now) c.in_ok-spec.spec c.in_ok-spec.ensures.ok
    c.requires.path c.in_ok-dataset.dataset c.in_ok-dataset.ensures.finds c.in_ok-dataset.ensures.path c.deref-2.result.now
    (c.in_ok-cols.ensures.ok ∙ ap Ok (sym c.deref-2.ensures.value)) (g.S.Store.files c.opened.new.store) c.index_count.result
    c.opened.ensures.files c.index_count.ensures
    (subst (λ (cols : List ℕ). AreAllSound (g.S.Store.files c.opened.new.store) c.in_ok-dataset.dataset cols)
    (c.deref.ensures.value ∙ sym c.deref-2.ensures.value) c.in_ok-build_parts.ensures.sound)

pub returns-clause-kept : goal.returns-clause-kept
returns-clause-kept g c =
    build-keeps c.args.dir.now c.args.text.now c.args.list.now (g.S.Store.files c.args.store.now) c.in_ok-spec.spec c.in_ok-spec.ensures.ok
    c.requires.path c.in_ok-dataset.dataset c.in_ok-dataset.ensures.finds c.in_ok-dataset.ensures.path c.deref.result.now
    (c.in_ok-cols.ensures.ok ∙ ap Ok (sym c.deref.ensures.value)) (g.S.Store.files c.opened.new.store) (g.S.Store.files c.build_parts.new.store)
    c.opened.ensures.files c.build_parts.ensures.kept

pub returns-clause-puts : goal.returns-clause-puts
returns-clause-puts g c =
    build-puts c.args.dir.now c.args.text.now c.args.list.now (g.S.Store.files c.args.store.now) c.in_ok-spec.spec c.in_ok-spec.ensures.ok
    c.requires.path c.in_ok-dataset.dataset c.in_ok-dataset.ensures.finds c.in_ok-dataset.ensures.path c.deref.result.now
    (c.in_ok-cols.ensures.ok ∙ ap Ok (sym c.deref.ensures.value)) (g.S.Store.files c.opened.new.store) (g.S.Store.files c.build_parts.new.store)
    c.opened.ensures.files c.in_ok-build_parts.ensures.puts

pub returns-clause-reads : goal.returns-clause-reads
returns-clause-reads g c =
    build-looks c.args.dir.now c.args.text.now c.args.list.now (g.S.Store.files c.args.store.now) c.in_ok-spec.spec c.in_ok-spec.ensures.ok
    c.requires.path c.in_ok-dataset.dataset c.in_ok-dataset.ensures.finds c.in_ok-dataset.ensures.path c.deref.result.now
    (c.in_ok-cols.ensures.ok ∙ ap Ok (sym c.deref.ensures.value)) (g.S.Store.reads c.args.store.now) (g.S.Store.reads c.opened.new.store)
    (g.S.Store.reads c.build_parts.new.store) c.in_ok-dataset.ensures.valid.catalog.schema c.opened.ensures.reads c.build_parts.ensures.reads

pub returns-clause-stands : goal.returns-clause-stands
returns-clause-stands g c = λ world h.
    let parts = length c.in_ok-dataset.dataset.parts in
    build-done c.args.dir.now c.args.text.now c.args.list.now (g.S.Store.files c.args.store.now) c.in_ok-spec.spec c.in_ok-spec.ensures.ok
    c.requires.path c.in_ok-dataset.dataset c.in_ok-dataset.ensures.finds c.in_ok-dataset.ensures.path c.deref.result.now
    (c.in_ok-cols.ensures.ok ∙ ap Ok (sym c.deref.ensures.value)) (g.S.Store.files c.opened.new.store) (g.S.Store.files c.build_parts.new.store)
    c.opened.ensures.files world h c.build_parts.result _ c.index_count.result c.in_ok-build_parts.was
    (c.index_count.ensures ∙ ap (λ (xs : List ℕ). parts * length xs) (c.deref-2.ensures.value ∙ sym c.deref.ensures.value)) c.build_parts.ensures.stands
