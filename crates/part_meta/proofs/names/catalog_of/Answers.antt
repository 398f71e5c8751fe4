use Rattle.std.proofs.Common.{◌≡◌, IfOk, refl, subst, sym}
use Rattle.fb_outside.specs.Names.{IsFileName}
use Rattle.part_meta.specs.FileNames.{catalog_name}
use Rattle.part_meta.proofs.PieceLemmas.{catalog_is}
use Rattle.part_meta.proofs.names.catalog_of.Goals as goal

pub known_name-requires : goal.known_name-requires
unfolding catalog_name
known_name-requires c =
    let text : c.as_slice.result.now ≡ catalog_name c.args.dir.now =
    rw (c.as_slice.ensures.value, c.in_ok-extend_from_slice-2.ensures.items, c.in_ok-extend_from_slice.ensures.items, c.new-text.ensures.items, c.as_bytes.ensures.value, c.as_str.ensures.bytes) refl in
    subst IsFileName (sym text) (catalog_is c.args.dir.now c.requires)

pub returns : goal.returns
unfolding catalog_name
returns c =
    let text : c.as_slice.result.now ≡ catalog_name c.args.dir.now =
    rw (c.as_slice.ensures.value, c.in_ok-extend_from_slice-2.ensures.items, c.in_ok-extend_from_slice.ensures.items, c.new-text.ensures.items, c.as_bytes.ensures.value, c.as_str.ensures.bytes) refl in
    subst (λ t. IfOk c.known_name.result (λ file. file ≡ t)) text c.known_name.ensures
