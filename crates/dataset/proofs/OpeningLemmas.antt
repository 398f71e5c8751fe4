-- What opening meets: texts that are read, and those that are damaged.
use Rattle.std.proofs.Common.{◌≡◌, ◌≢◌, ◌<◌, ℕ, List, Option, Some, None, IfSome, inl, inr, sym, ap, ◌∙◌}
use Rattle.fb_outside.specs.Files.{Files, file_at}
use Rattle.fb_outside.specs.Reads.{AddsOnly, IsWholeLook, Look}
use Rattle.fb_outside.proofs.ReadLemmas.{AddsOnly-weaken}
use Rattle.part_meta.specs.declared.catalog.Catalog.{Catalog}
use Rattle.part_meta.specs.CatalogText.{IsCatalog, catalog_text}
use Rattle.part_meta.specs.FileNames.{catalog_name, part_name}
use Rattle.part_meta.specs.declared.part.PartMeta.{PartMeta}
use Rattle.dataset.specs.declared.fault.DamageKind.TheVariants.{Missing, Text}
use Rattle.dataset.specs.Damage.{IsNext, IsNoText, IsPartText, Unopened, damage, damaged}
use Rattle.dataset.specs.Damage.IsFirstDamaged.{NoCatalogText, NoPart, NoPartText}
use Rattle.dataset.specs.Opened.{HasCatalog, HasPart, IsTextLook}

-- ---- reads of whole texts

pub catalog_reads : (files : Option Files) (dir name : List ℕ) (old new : Option (List Look)) → name ≡ catalog_name dir
    → AddsOnly (IsWholeLook files name) old new → AddsOnly (IsTextLook dir) old new
catalog_reads files dir name old new is h =
    AddsOnly-weaken (IsWholeLook files name) (IsTextLook dir) old new (λ look whole. inl (whole.of_it ∙ is)) h

pub part_reads : (files : Option Files) (dir name : List ℕ) (number : ℕ) (old new : Option (List Look)) → number < 4096
    → name ≡ part_name dir number → AddsOnly (IsWholeLook files name) old new → AddsOnly (IsTextLook dir) old new
part_reads files dir name number old new below is h =
    AddsOnly-weaken (IsWholeLook files name) (IsTextLook dir) old new (λ look whole. inr (number, below, whole.of_it ∙ is)) h

-- ---- damaged texts

-- where the files are told, it has these bytes
abbrev pub Has : Option Files → List ℕ → List ℕ → Type 0
Has files file bytes = IfSome files (λ m. Some bytes ≡ file_at m file)

-- there is no such file
abbrev pub Lacks : Option Files → List ℕ → Type 0
Lacks files file = IfSome files (λ m. None ≡ file_at m file)

-- a text that is read
pub part_there : (files : Option Files) (dir file bytes : List ℕ) (catalog : Catalog) (number : ℕ) (part : PartMeta) → file ≡ part_name dir number
    → Has files file bytes → IsPartText catalog number part bytes → IfSome files (λ m. HasPart m dir part)
part_there None dir file bytes catalog number part named there is = tt
part_there (Some m) dir file bytes catalog number part named there is =
    record {
      valid = is.valid;
      there = ap (λ n. file_at m (part_name dir n)) is.numbered ∙ ap (file_at m) (sym named) ∙ sym there ∙ ap Some is.text;
    }

pub catalog_damaged : (files : Option Files) (dir file bytes : List ℕ) → file ≡ catalog_name dir → Has files file bytes
    → ((catalog : Catalog) → IsCatalog catalog → catalog_text catalog ≢ bytes) → IfSome files (λ m. Unopened m dir (damaged file Text))
catalog_damaged None dir file bytes named there other = tt
catalog_damaged (Some m) dir file bytes named there other =
    NoCatalogText bytes (ap (file_at m) (sym named) ∙ sym there) other (ap (λ f. damage f Text) named)

pub part_missing : (files : Option Files) (dir file : List ℕ) (catalog : Catalog) (number : ℕ) → file ≡ part_name dir number
    → Lacks files file
    → IfSome files (λ m. HasCatalog m dir catalog → IsNext m dir catalog number → Unopened m dir (damaged file Missing))
part_missing None dir file catalog number named gone = tt
part_missing (Some m) dir file catalog number named gone = λ has next.
    NoPart catalog number has next (ap (file_at m) (sym named) ∙ sym gone) (ap (λ f. damage f Missing) named)

pub part_damaged : (files : Option Files) (dir file bytes : List ℕ) (catalog : Catalog) (number : ℕ) → file ≡ part_name dir number
    → Has files file bytes → IsNoText catalog number bytes
    → IfSome files (λ m. HasCatalog m dir catalog → IsNext m dir catalog number → Unopened m dir (damaged file Text))
part_damaged None dir file bytes catalog number named there other = tt
part_damaged (Some m) dir file bytes catalog number named there other = λ has next.
    NoPartText catalog number bytes has next (ap (file_at m) (sym named) ∙ sym there) other (ap (λ f. damage f Text) named)
