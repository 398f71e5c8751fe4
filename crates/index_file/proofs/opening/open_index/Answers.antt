use Rattle.std.proofs.Common.{◌≡◌, Some, IfSome, length, option_map, subst}
use Rattle.fb_outside.specs.Files.{bytes_at, file_at}
use Rattle.index_file.specs.Front.{front_in, rest_size}
use Rattle.index_file.specs.Opening.{IsAnswer, opened_index, some_head, with_front}
use Rattle.index_file.proofs.OpenedLemmas.{opened_by}
use Rattle.index_file.proofs.opening.open_index.Goals as goal

pub returns-in-Some-clause-exact : goal.returns-in-Some-clause-exact
returns-in-Some-clause-exact g c =
    let files = g.S.Store.files c.args.store.now in
    let name = c.args.name.now in
    let size : IfSome files (λ m. Some c.in-Some.size ≡ option_map length (file_at m name)) =
    subst (λ o. IfSome files (λ m. o ≡ option_map length (file_at m name))) c.in-Some.is c.in_ok-size.ensures.size in
    opened_by files name c.args.rows c.in-Some.size (opened_index c.open_sized.result) size
    (subst (λ f. IfSome f (λ m. IsAnswer (opened_index c.open_sized.result)
    (some_head (with_front c.in-Some.size (λ front. bytes_at m name 24 (rest_size front)) (front_in c.args.rows (bytes_at m name 0 24))))))
    c.file_size.ensures.files c.open_sized.ensures.exact)
