-- The looks of an opening are at texts that are listed.
use Rattle.std.proofs.Common.{◌≡◌, ◌<◌, ℕ, List, get_or, length, Option, Some, None, IfSome, inl, inr, sym, ap, subst, ◌∙◌}
use Rattle.std.proofs.lemmas.Option.{slice_get-get_or}
use Rattle.fb_outside.specs.Files.{Files}
use Rattle.fb_outside.specs.Reads.{AddsOnly, IsWholeLook, Look, whole_look}
use Rattle.fb_outside.proofs.ReadLemmas.{AddsOnly-same, AddsOnly-trans, AddsOnly-weaken}
use Rattle.part_meta.specs.declared.catalog.Catalog.{Catalog}
use Rattle.part_meta.specs.FileNames.{catalog_name, part_name}
use Rattle.dataset.specs.Looks.{IsListedLook}
use Rattle.dataset.specs.Opened.{HasCatalog}

-- where nothing was read
pub told_same : (files : Option Files) (P : Files → Look → Type 0) (old new : Option (List Look)) → new ≡ old → IfSome files (λ m. AddsOnly (P m) old new)
told_same None P old new same = tt
told_same (Some m) P old new same = AddsOnly-same (P m) old new same

pub catalog_listed : (files : Option Files) (dir name : List ℕ) (old new : Option (List Look)) → name ≡ catalog_name dir
    → AddsOnly (IsWholeLook files name) old new → IfSome files (λ m. AddsOnly (IsListedLook m dir) old new)
catalog_listed None dir name old new is h = tt
catalog_listed (Some m) dir name old new is h =
    AddsOnly-weaken (IsWholeLook (Some m) name) (IsListedLook m dir) old new (λ look whole. inl (whole.whole ∙ ap (whole_look m) is)) h

pub part_whole : (files : Option Files) (dir name : List ℕ) (number : ℕ) (old new : Option (List Look)) → name ≡ part_name dir number
    → AddsOnly (IsWholeLook files name) old new → IfSome files (λ m. AddsOnly (λ look. look ≡ whole_look m (part_name dir number)) old new)
part_whole None dir name number old new is h = tt
part_whole (Some m) dir name number old new is h =
    AddsOnly-weaken (IsWholeLook (Some m) name) (λ look. look ≡ whole_look m (part_name dir number)) old new
    (λ look whole. whole.whole ∙ ap (whole_look m) is) h

-- the looks so far, and those at the text of the part that comes next
abbrev pub ListedSoFar : Option Files → List ℕ → Catalog → Option (List Look) → Option (List Look) → Type 0
ListedSoFar files dir catalog old new = IfSome files (λ m. HasCatalog m dir catalog → AddsOnly (IsListedLook m dir) old new)

pub next_listed : (files now : Option Files) (dir : List ℕ) (catalog : Catalog) (i number : ℕ) (old mid new : Option (List Look)) → now ≡ files
    → i < length catalog.parts → number ≡ get_or catalog.parts i 0 → ListedSoFar files dir catalog old mid
    → IfSome now (λ m. AddsOnly (λ look. look ≡ whole_look m (part_name dir number)) mid new) → ListedSoFar files dir catalog old new
next_listed None now dir catalog i number old mid new kept less at before h = tt
next_listed (Some m) now dir catalog i number old mid new kept less at before h = λ has.
    AddsOnly-trans (IsListedLook m dir) old mid new (before has)
    (AddsOnly-weaken (λ look. look ≡ whole_look m (part_name dir number)) (IsListedLook m dir) mid new
    (λ look whole. inr (record {
      catalog = catalog;
      has = has;
      place = i;
      number = number;
      listed = slice_get-get_or catalog.parts i 0 less ∙ ap Some (sym at);
      whole = whole;
    }))
    (subst (λ (o : Option Files). IfSome o (λ m. AddsOnly (λ look. look ≡ whole_look m (part_name dir number)) mid new)) kept h))

-- the looks at the catalog and then at the texts
pub all_listed : (files now : Option Files) (dir : List ℕ) (catalog : Catalog) (old mid new : Option (List Look)) → now ≡ files
    → IfSome files (λ m. HasCatalog m dir catalog) → IfSome files (λ m. AddsOnly (IsListedLook m dir) old mid)
    → ListedSoFar now dir catalog mid new → IfSome files (λ m. AddsOnly (IsListedLook m dir) old new)
all_listed None now dir catalog old mid new kept has before h = tt
all_listed (Some m) now dir catalog old mid new kept has before h =
    AddsOnly-trans (IsListedLook m dir) old mid new before ((subst (λ (o : Option Files). ListedSoFar o dir catalog mid new) kept h) has)
