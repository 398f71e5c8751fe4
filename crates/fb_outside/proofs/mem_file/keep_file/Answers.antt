use Rattle.std.proofs.Common.{◌≡◌, ◌++◌, ◌∷◌, [], Some, None, map, get_or, set, sym, ap, ◌∙◌}
use Rattle.std.proofs.Math.ListN.{get_or-map}
use Rattle.std.proofs.lemmas.List.{map-set, map-append}
use Rattle.fb_outside.specs.Memory.{place_of}
use Rattle.fb_outside.specs.MemFiles.{entry_of}
use Rattle.fb_outside.proofs.MemoryLemmas.{put_entry_at, put_entry_new}
use Rattle.fb_outside.proofs.mem_file.keep_file.Goals as goal

-- the entry at the name's place gets the bytes
pub returns-in-Some-clause-ok : goal.returns-in-Some-clause-ok
returns-in-Some-clause-ok c =
    let files = c.args.files.now.items in
    let file = c.in-Some.file in
    let was = c.index_mut-file.result.now in
    let place : place_of (map entry_of files) c.args.name.now ≡ Some file =
    rw (← c.as_slice.ensures.value) (sym c.in-Some.ensures.place) in
    let read : entry_of was ≡ get_or (map entry_of files) file (entry_of was) =
    ap entry_of c.index_mut-file.ensures.value ∙ sym (get_or-map entry_of files file was) in
    map-set entry_of files file (record { name = was.name; bytes = c.in_ok-bytes.bytes })
    ∙ ap (λ b. set (map entry_of files) file (was.name, b)) c.in_ok-bytes.ensures.items
    ∙ sym (put_entry_at (map entry_of files) c.args.name.now c.args.bytes.now file (entry_of was) place read)

-- a new entry comes at the end
pub returns-in_ok-push-in-None-clause-ok : goal.returns-in_ok-push-in-None-clause-ok
returns-in_ok-push-in-None-clause-ok c =
    let files = c.args.files.now.items in
    let place : place_of (map entry_of files) c.args.name.now ≡ None =
    rw (← c.as_slice.ensures.value) (sym c.in-None.ensures.place) in
    ap (map entry_of) c.in_ok-push-in-None.ensures.items
    ∙ map-append entry_of files (record { name = c.in_ok-name-in-None.name; bytes = c.in_ok-bytes.bytes } ∷ [])
    ∙ (λ i. map entry_of files ++ (c.in_ok-name-in-None.ensures i, c.in_ok-bytes.ensures.items i) ∷ [])
    ∙ sym (put_entry_new (map entry_of files) c.args.name.now c.args.bytes.now place)
