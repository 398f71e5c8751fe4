use Rattle.std.proofs.Common.{[], ◌∷◌, Option, Some, option_map, ap, ◌∙◌}
use Rattle.world.specs.World.{Content, content_at, records_of}
use Rattle.world.specs.Effects.{empty_content, extended, found_or_empty}
use Rattle.world.proofs.MapLemmas.{get-insert_other, get-insert_same}
use Rattle.world.proofs.ContentLemmas.{extended-none, records-extended}
use Rattle.world.proofs.the_effect_of_a_load.Goals as goal

pub returns-clause-grown : goal.returns-clause-grown
returns-clause-grown g world path schema columns parts a b c d e there =
    get-insert_same world.datasets path (extended (found_or_empty schema (content_at world path)) 2 (a ∷ b ∷ c ∷ d ∷ e ∷ []))
    ∙ ap (λ (o : Option Content). Some (extended (found_or_empty schema o) 2 (a ∷ b ∷ c ∷ d ∷ e ∷ []))) there

pub returns-clause-made : goal.returns-clause-made
returns-clause-made g world path schema per_part some absent =
    get-insert_same world.datasets path (extended (found_or_empty schema (content_at world path)) per_part [])
    ∙ ap (λ (o : Option Content). Some (extended (found_or_empty schema o) per_part [])) absent
    ∙ ap Some (extended-none (empty_content schema) per_part some)

pub returns-clause-others : goal.returns-clause-others
returns-clause-others g world path other schema per_part records apart =
    get-insert_other world.datasets path (extended (found_or_empty schema (content_at world path)) per_part records) other apart

pub returns-clause-records : goal.returns-clause-records
returns-clause-records g world path schema per_part records some =
    let found = found_or_empty schema (content_at world path) in
    ap (option_map records_of) (get-insert_same world.datasets path (extended found per_part records))
    ∙ ap Some (records-extended found per_part records some)
