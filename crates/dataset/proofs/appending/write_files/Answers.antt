use Rattle.std.proofs.Common.{[], ◌∷◌, ◌++◌, List}
use Rattle.std.specs.List.{flat_map}
use Rattle.fb_outside.specs.Puts.{File}
use Rattle.fb_outside.proofs.PutLemmas.{PutsInOrder-then, PutsInOrder-err, PutsFront-more}
use Rattle.part_meta.specs.CatalogText.{catalog_text}
use Rattle.part_meta.specs.FileNames.{catalog_name}
use Rattle.world.specs.Effects.{new_parts}
use Rattle.world.specs.PartFiles.{part_files}
use Rattle.dataset.specs.Opened.{catalog_in}
use Rattle.dataset.proofs.appending.write_files.Goals as goal

pub returns-in_err-write_parts-clause-files : goal.returns-in_err-write_parts-clause-files
returns-in_err-write_parts-clause-files g c =
    let dataset = c.args.dataset.now in
    let parts = flat_map (part_files dataset.dir c.args.columns.now.schema) (new_parts c.args.next c.args.per_part c.args.columns.now.records) in
    let catalog : List File = record { name = catalog_name dataset.dir; bytes = catalog_text (catalog_in dataset) } ∷ [] in
    PutsInOrder-err (parts ++ catalog) c.from_residual.result _ _ c.from_residual.ensures.0
    (PutsFront-more parts catalog _ _ c.in_err-write_parts.ensures.files)

pub returns-clause-files : goal.returns-clause-files
returns-clause-files g c =
    let dataset = c.args.dataset.now in
    let parts = flat_map (part_files dataset.dir c.args.columns.now.schema) (new_parts c.args.next c.args.per_part c.args.columns.now.records) in
    let catalog : List File = record { name = catalog_name dataset.dir; bytes = catalog_text (catalog_in dataset) } ∷ [] in
    PutsInOrder-then parts catalog c.write_catalog.result _ _ _ c.in_ok-write_parts.ensures.files c.write_catalog.ensures.files
