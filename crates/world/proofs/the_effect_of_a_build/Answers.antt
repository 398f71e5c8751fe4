use Rattle.std.proofs.Common.{◌≡◌, ◌≢◌, List, ℕ, Option, Some, None, option_map, refl, ap, ◌∙◌}
use Rattle.std.specs.List.{slice_get}
use Rattle.std.proofs.lemmas.Option.{slice_get-map}
use Rattle.index_spec.specs.declared.spec.Spec.{Spec}
use Rattle.world.specs.World.{Content, Partition, World, content_at}
use Rattle.world.specs.Effects.{after_build, built, indexed}
use Rattle.world.proofs.IndexLemmas.{indexed-other, indexed-there, nothing-built, records-built}
use Rattle.world.proofs.MapLemmas.{at-insert_other, at-insert_same, get-insert_other, get-insert_same}
use Rattle.world.proofs.the_effect_of_a_build.Goals as goal

pub returns-clause-built : goal.returns-clause-built
returns-clause-built g world path number col spec content there =
    ap (λ (w : World). content_at w path) (ap (after_build world path number col spec) there)
    ∙ get-insert_same world.datasets path (built content number col spec)

at-place : (content : Content) (number col place : ℕ) (spec : Spec) (part : Partition) → slice_get content.parts place ≡ Some part
    → slice_get (built content number col spec).parts place ≡ Some (indexed number col spec part)
at-place content number col place spec part listed =
    slice_get-map (indexed number col spec) content.parts place ∙ ap (option_map (indexed number col spec)) listed

pub returns-clause-part : goal.returns-clause-part
returns-clause-part g content number col place spec part listed is =
    at-place content number col place spec part listed ∙ ap Some (indexed-there number col spec part is)

pub returns-clause-other_parts : goal.returns-clause-other_parts
returns-clause-other_parts g content number col place spec part listed apart =
    at-place content number col place spec part listed ∙ ap Some (indexed-other number col spec part apart)

pub returns-clause-indexed : goal.returns-clause-indexed
returns-clause-indexed g col spec part = at-insert_same part.specs col spec

pub returns-clause-other_columns : goal.returns-clause-other_columns
returns-clause-other_columns g col other spec part apart = at-insert_other part.specs col spec other apart

pub returns-clause-records : goal.returns-clause-records
returns-clause-records g = records-built

pub returns-clause-no_dataset : goal.returns-clause-no_dataset
returns-clause-no_dataset g world path number col spec absent = ap (after_build world path number col spec) absent

pub returns-clause-no_part : goal.returns-clause-no_part
returns-clause-no_part g = nothing-built

others : (world : World) (path other : List ℕ) (number col : ℕ) (spec : Spec) → other ≢ path → (found : Option Content)
    → content_at (after_build world path number col spec found) other ≡ content_at world other
others world path other number col spec apart None = refl
others world path other number col spec apart (Some content) =
    get-insert_other world.datasets path (built content number col spec) other apart

pub returns-clause-others : goal.returns-clause-others
returns-clause-others g world path other number col spec apart = others world path other number col spec apart (content_at world path)

inputs : (world : World) (path : List ℕ) (number col : ℕ) (spec : Spec) (found : Option Content)
    → (after_build world path number col spec found).inputs ≡ world.inputs
inputs world path number col spec None = refl
inputs world path number col spec (Some content) = refl

pub returns-clause-inputs : goal.returns-clause-inputs
returns-clause-inputs g world path number col spec = inputs world path number col spec (content_at world path)
