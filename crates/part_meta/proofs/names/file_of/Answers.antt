use Rattle.std.proofs.Common.{◌≡◌, ◌∙◌, IfOk, option_copied, append_assoc, refl, subst, sym}
use Rattle.fb_outside.specs.Names.{IsFileName}
use Rattle.part_meta.specs.FileNames.{file_name}
use Rattle.part_meta.proofs.PieceLemmas.{file_is, none_is_empty}
use Rattle.part_meta.proofs.names.file_of.Goals as goal

pub push_leaf-requires : goal.push_leaf-requires
push_leaf-requires c = λ e. c.name_bytes.ensures.bytes ∙ none_is_empty c.args.name (c.requires.name.1 e)

pub known_name-requires : goal.known_name-requires
unfolding file_name
known_name-requires c =
    let text : c.as_slice.result.now ≡ file_name c.args.dir.now c.args.part (option_copied c.args.name) c.args.kind =
    rw (c.as_slice.ensures.value, c.in_ok-push_leaf.ensures, c.in_ok-push.ensures.items, c.in_ok-push_folder.ensures, c.new-text.ensures.items, c.name_bytes.ensures.bytes, append_assoc) refl in
    subst IsFileName (sym text) (file_is c.args.dir.now c.args.part c.args.name c.args.kind c.requires.path c.requires.name.0 c.requires.name.1 c.name_bytes.ensures.named)

pub returns : goal.returns
unfolding file_name
returns c =
    let text : c.as_slice.result.now ≡ file_name c.args.dir.now c.args.part (option_copied c.args.name) c.args.kind =
    rw (c.as_slice.ensures.value, c.in_ok-push_leaf.ensures, c.in_ok-push.ensures.items, c.in_ok-push_folder.ensures, c.new-text.ensures.items, c.name_bytes.ensures.bytes, append_assoc) refl in
    subst (λ t. IfOk c.known_name.result (λ file. file ≡ t)) text c.known_name.ensures
