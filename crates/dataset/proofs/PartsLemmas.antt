-- The parts of a catalog, read one after another.
use Rattle.std.proofs.Common.{◌≡◌, ◌+◌, ◌<◌, ℕ, List, [], ◌∷◌, ◌++◌, get_or, length, map, take, Option, Some, None, IfSome, sym, ap, subst, ◌∙◌}
use Rattle.std.specs.List.{All}
use Rattle.std.proofs.lemmas.List.{map_push, take_more}
use Rattle.std.proofs.lemmas.List.Elements.{All-map, All-push, All-weaker}
use Rattle.std.proofs.lemmas.Option.{slice_get-get_or}
use Rattle.fb_outside.specs.Files.{Files}
use Rattle.fb_types.specs.declared.schemas.Column.{Column}
use Rattle.part_meta.specs.declared.catalog.Catalog.{Catalog}
use Rattle.part_meta.specs.declared.part.PartMeta.{PartMeta}
use Rattle.dataset.specs.declared.fault.OpenFault.{OpenFault}
use Rattle.dataset.specs.Damage.{IsGood, IsNext, Unopened, part_with}
use Rattle.dataset.specs.Opened.{HasCatalog, HasPart}

-- a part that was read, with these columns
abbrev pub IsRead : Files → List ℕ → List Column → PartMeta → Type 0
IsRead m dir schema part = HasPart m dir part × (part.schema ≡ schema)

pub next_number : (parts more : List PartMeta) (part : PartMeta) (listed : List ℕ) (i number : ℕ) → more ≡ parts ++ part ∷ []
    → map (λ p. p.number) parts ≡ take i listed → i < length listed → part.number ≡ number → number ≡ get_or listed i 0
    → map (λ p. p.number) more ≡ take (i + 1) listed
next_number parts more part listed i number pushed before less numbered at =
    let f : PartMeta → ℕ = λ p. p.number in
    ap (map f) pushed ∙ map_push f parts part ∙ ap (λ ns. ns ++ part.number ∷ []) before
    ∙ ap (λ n. take i listed ++ n ∷ []) (numbered ∙ at) ∙ sym (take_more listed i 0 less)

pub next_valid : (P : PartMeta → Type 0) (parts more : List PartMeta) (part : PartMeta) → more ≡ parts ++ part ∷ [] → All P parts → P part → All P more
next_valid P parts more part pushed before now = subst (All P) (sym pushed) (All-push P parts part before now)

pub next_read : (files now : Option Files) (dir : List ℕ) (schema : List Column) (parts more : List PartMeta) (part : PartMeta) → now ≡ files
    → more ≡ parts ++ part ∷ [] → IfSome files (λ m. All (IsRead m dir schema) parts) → IfSome now (λ m. HasPart m dir part)
    → part.schema ≡ schema → IfSome files (λ m. All (IsRead m dir schema) more)
next_read None now dir schema parts more part kept pushed before read same = tt
next_read (Some m) now dir schema parts more part kept pushed before read same =
    let has : HasPart m dir part = subst (λ (o : Option Files). IfSome o (λ m. HasPart m dir part)) kept read in
    next_valid (IsRead m dir schema) parts more part pushed before (has, same)

-- a part that was read is a good one
is_good : (m : Files) (dir : List ℕ) (catalog : Catalog) (part : PartMeta) → IsRead m dir catalog.schema part → IsGood m dir catalog part.number
is_good m dir catalog part h =
    let same : part ≡ part_with catalog part.number part.rows =
    ap (λ (s : List Column). let p : PartMeta = record { number = part.number; rows = part.rows; schema = s } in p) h.1 in
    (part.rows, subst (HasPart m dir) same h.0)

-- the part that comes behind those that were read
pub comes_next : (m : Files) (dir : List ℕ) (catalog : Catalog) (parts : List PartMeta) (i number : ℕ) → i < length catalog.parts
    → number ≡ get_or catalog.parts i 0 → map (λ p. p.number) parts ≡ take i catalog.parts → All (IsRead m dir catalog.schema) parts
    → IsNext m dir catalog number
comes_next m dir catalog parts i number less at before read =
    record {
      place = i;
      listed = slice_get-get_or catalog.parts i 0 less ∙ ap Some (sym at);
      before = subst (All (IsGood m dir catalog)) before
          (All-map (IsGood m dir catalog) (λ (p : PartMeta). p.number) parts
          (All-weaker (IsRead m dir catalog.schema) (λ p. IsGood m dir catalog p.number) (is_good m dir catalog) parts read));
    }

pub next_unread : (files now : Option Files) (dir : List ℕ) (catalog : Catalog) (parts : List PartMeta) (i number : ℕ) (fault : OpenFault) → now ≡ files
    → i < length catalog.parts → number ≡ get_or catalog.parts i 0 → map (λ p. p.number) parts ≡ take i catalog.parts
    → IfSome files (λ m. All (IsRead m dir catalog.schema) parts)
    → IfSome now (λ m. HasCatalog m dir catalog → IsNext m dir catalog number → Unopened m dir fault)
    → IfSome files (λ m. HasCatalog m dir catalog → Unopened m dir fault)
next_unread None now dir catalog parts i number fault kept less at before read unread = tt
next_unread (Some m) now dir catalog parts i number fault kept less at before read unread = λ has.
    (subst (λ (o : Option Files). IfSome o (λ m. HasCatalog m dir catalog → IsNext m dir catalog number → Unopened m dir fault)) kept unread)
    has (comes_next m dir catalog parts i number less at before read)
