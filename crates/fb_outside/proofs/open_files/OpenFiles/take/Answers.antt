use Rattle.std.proofs.Common.{◌≡◌, ◌≢◌, All, Some, None, string_bytes, bytes_eq, true, false, get_or, sym, ap, subst, ◌∙◌}
use Rattle.std.specs.List.{position}
use Rattle.std.proofs.lemmas.Slice.Eq.{bytes_eq-Decides}
use Rattle.std.proofs.lemmas.List.Elements.{All-map}
use Rattle.fb_outside.proofs.OpenLemmas.{at_place, no_place}
use Rattle.fb_outside.proofs.open_files.OpenFiles.take.Goals as goal

-- none of the files has the name, so neither has the list of names
pub returns-in_err-place-clause-missed : goal.returns-in_err-place-clause-missed
returns-in_err-place-clause-missed g c = λ h.
    let name = c.args.name.now in
    let files = c.self.inside.files.items in
    let none : position (λ kept. bytes_eq (string_bytes kept.name) name) files ≡ None = sym (rw (← c.as_slice.ensures.value) c.in_err-place.ensures) in
    subst (All (λ n. n ≢ name)) c.self.view_is (All-map (λ n. n ≢ name) (λ kept. string_bytes kept.name) files
    (λ k d fits same.
    let fails : bytes_eq (string_bytes (get_or files k d).name) name ≡ false = no_place (λ kept. bytes_eq (string_bytes kept.name) name) files none k d fits in
    let passes : bytes_eq (string_bytes (get_or files k d).name) name ≡ true = (bytes_eq-Decides (string_bytes (get_or files k d).name) name).1 same in
    absurd (cc)))

-- the file at the place has the name
pub returns-clause-named : goal.returns-clause-named
returns-clause-named g c =
    let name = c.args.name.now in
    let files = c.self.inside.files.items in
    let out = c.remove.result in
    let some : position (λ kept. bytes_eq (string_bytes kept.name) name) files ≡ Some c.in_ok-place.place = sym (rw (← c.as_slice.ensures.value) c.in_ok-place.ensures) in
    let passes : bytes_eq (string_bytes (get_or files c.in_ok-place.place out).name) name ≡ true = at_place (λ kept. bytes_eq (string_bytes kept.name) name) files c.in_ok-place.place out some in
    ap (λ kept. string_bytes kept.name) c.remove.ensures.value ∙ (bytes_eq-Decides (string_bytes (get_or files c.in_ok-place.place out).name) name).0 passes
