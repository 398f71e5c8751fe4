use Rattle.std.proofs.Common.{rules, ◌∙◌, map, not, string_bytes, bytes_eq, ap}
use Rattle.std.proofs.lemmas.Fn.{filter_same}
use Rattle.fb_outside.specs.Open.{without}
use Rattle.fb_outside.proofs.OpenLemmas.{map-filter}
use Rattle.fb_outside.proofs.open_files.OpenFiles.close.Goals as goal

pub returns : goal.returns
returns g c =
    let name = c.args.name.now in
    let files = c.self.inside.files.items in
    ap (map (λ kept. string_bytes kept.name))
    (filter_same _ (λ kept. not (bytes_eq (string_bytes kept.name) name)) _ (λ x r f' k. search rules) files c.retain.new.self.items c.retain.ensures.filtered)
    ∙ map-filter (λ kept. string_bytes kept.name) (λ n. not (bytes_eq n name)) files
    ∙ ap (without name) c.self.view_is
