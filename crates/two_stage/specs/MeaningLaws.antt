-- What the files of a part mean is a meaning of its rows.
use Rattle.std.proofs.Common.{◌≡◌, ℕ, List, length, sym, ap, subst}
use Rattle.fb_outside.specs.Files.{Files}
use Rattle.part_meta.specs.declared.part.PartMeta.{PartMeta}
use Rattle.stages.specs.Meaning.{IsMeaningOf, Meaning}
use Rattle.where_plan.specs.Plans.{FitsColumn}
use Rattle.part_meaning.specs.Meaning.{Means, meaning_of}
use Rattle.part_meaning.proofs.MeaningLemmas.{is_meaning}
use Rattle.std.specs.Prelude.{Option}

pub part_means : (files : Option Files) (dir : List ℕ) (meta : PartMeta) (m : Meaning) → Means files dir meta m
    → IsMeaningOf meta.rows (FitsColumn meta.schema) m
part_means files dir meta m means =
    let rows : meta.rows ≡ length means.part.records = ap (λ (p : PartMeta). p.rows) means.has.is in
    subst (λ (x : Meaning). IsMeaningOf meta.rows (FitsColumn meta.schema) x) (sym means.meant)
    (subst (λ (n : ℕ). IsMeaningOf n (FitsColumn meta.schema) (meaning_of dir meta.schema means.part)) (sym rows)
    (is_meaning dir meta.schema means.part means.has.valid))
