-- How the text of a catalog goes on.
use Rattle.std.proofs.Common.{◌≡◌, ℕ, ◌+◌, ◌<◌, ◌≤◌, ◌^◌, List, [], ◌∷◌, ◌++◌, length, get_or, map, ◌-◌, refl, sym, ap, ◌∙◌, subst, arith, codes, decimal, append_assoc, inl, inr, lit≤}
use Rattle.std.specs.List.{All, AllPairs, AllByRecursion}
use Rattle.std.proofs.lemmas.Bool.{cases_lt}
use Rattle.std.proofs.lemmas.List.{append-nil, append_cancel_left, get_or_append_left, get_or_at, length-append, length-map, length_push, map_push}
use Rattle.std.proofs.lemmas.List.Elements.{All-append, All-cons, All-nil, recursion_from_All}
use Rattle.std.proofs.lemmas.List.Quantifiers.{all_pairs_push}
use Rattle.fb_types.specs.Names.{IsColumnName, keywords}
use Rattle.fb_types.specs.Schemas.{IsSchema}
use Rattle.fb_types.specs.declared.types.ColType.TheVariants.{Int}
use Rattle.fb_types.specs.SchemaText.{schema_text}
use Rattle.fb_types.specs.declared.schemas.Column.{Column}
use Rattle.part_meta.specs.Lines.{IsLine, line, Begins}
use Rattle.part_meta.specs.CatalogText.{IsCatalog, catalog_lines, catalog_text, next_line, part_line, schema_line, title_line}
use Rattle.part_meta.specs.CatalogFront.{IsFront, front_lines, with_part}
use Rattle.part_meta.specs.declared.catalog_reading.CatalogFront.{CatalogFront}
use Rattle.part_meta.specs.declared.catalog_reading.CatalogFront.TheVariants.{Nothing, Title, Columns, Whole}
use Rattle.part_meta.specs.declared.catalog.Catalog.{Catalog}
use Rattle.part_meta.proofs.CutLemmas.{line-injective, one_text}
use Rattle.part_meta.proofs.PlainLemmas.{plain_decimal, plain_labelled, plain_line, plain_schema}
use Rattle.fb_types.proofs.SchemaLaws.{schema_text-injective}
use Rattle.part_meta.proofs.NumberLemmas.{label_told}

abbrev pub BeginsCatalog : List (List ℕ) → Type 0
BeginsCatalog front = Begins IsCatalog catalog_lines front

-- ---- what a line has to be

pub is_title : (text : List ℕ) → BeginsCatalog (line text ∷ []) → text ≡ codes "fastbit catalog 1"
unfolding title_line
is_title text b =
    let same : title_line ≡ line text = cc (b.spelled) in
    line-injective text (codes "fastbit catalog 1") (sym same)

pub is_schema : (text : List ℕ) (b : BeginsCatalog (title_line ∷ line text ∷ [])) → text ≡ codes "schema " ++ schema_text b.value.schema
unfolding schema_line
is_schema text b =
    let same : schema_line b.value.schema ≡ line text = cc (b.spelled) in
    line-injective text (codes "schema " ++ schema_text b.value.schema) (sym same)

pub is_next : (schema : List Column) (text : List ℕ) (b : BeginsCatalog (title_line ∷ schema_line schema ∷ line text ∷ [])) → text ≡ codes "next " ++ decimal b.value.next
unfolding next_line
is_next schema text b =
    let same : next_line b.value.next ≡ line text = cc (b.spelled) in
    line-injective text (codes "next " ++ decimal b.value.next) (sym same)

-- a number is told by its line
number_told : (label : List ℕ) (m n : ℕ) → m < 2 ^ 64 → n < 2 ^ 64 → line (label ++ decimal m) ≡ line (label ++ decimal n) → m ≡ n
number_told label m n a b e = label_told (label ++ decimal m) label m n a b refl (line-injective (label ++ decimal m) (label ++ decimal n) e)

pub next_line-injective : (m n : ℕ) → m < 2 ^ 64 → n < 2 ^ 64 → next_line m ≡ next_line n → m ≡ n
unfolding next_line
next_line-injective m n a b e = number_told (codes "next ") m n a b e

pub part_line-injective : (m n : ℕ) → m < 2 ^ 64 → n < 2 ^ 64 → part_line m ≡ part_line n → m ≡ n
unfolding part_line
part_line-injective m n a b e = number_told (codes "part ") m n a b e

-- a list of parts' lines that goes on behind these parts
pub record GoesOnBehind (parts : List ℕ) (text : List ℕ) (all : List ℕ) : Type 0 where
  pub part : ℕ
  pub more : List ℕ
  pub joined : all ≡ parts ++ part ∷ more
  pub is : line text ≡ part_line part

abbrev Small : List ℕ → Type 0
Small ns = AllByRecursion (λ n. n < 2 ^ 64) ns

goes_on : (all parts : List ℕ) (text : List ℕ) (rest : List (List ℕ)) → Small all → Small parts
    → map part_line all ≡ (map part_line parts ++ line text ∷ []) ++ rest → GoesOnBehind parts text all
goes_on [] [] text rest a p e = absurd (cc)
goes_on [] (q ∷ parts) text rest a p e = absurd (cc)
goes_on (n ∷ all) [] text rest a p e = record { part = n; more = all; joined = refl; is = cc }
goes_on (n ∷ all) (q ∷ parts) text rest a p e =
    let same : part_line n ≡ part_line q = cc in
    let number : n ≡ q = part_line-injective n q a.0 p.0 same in
    let others : map part_line all ≡ (map part_line parts ++ line text ∷ []) ++ rest = cc in
    let found = goes_on all parts text rest a.1 p.1 others in
    record { part = found.part; more = found.more; joined = cc (found.joined); is = found.is }

small_from : (limit : ℕ) (ns : List ℕ) → limit ≤ 4096 → AllByRecursion (λ n. n < limit) ns → Small ns
small_from limit [] h below = tt
small_from limit (n ∷ ns) h below = (omega (arith, below.0), small_from limit ns h below.1)

small_parts : (c : Catalog) → IsCatalog c → Small c.parts
small_parts c valid = small_from c.next c.parts valid.next (recursion_from_All (λ part. part < c.next) c.parts valid.below)

pub record TakesPart (c : Catalog) (text : List ℕ) : Type 0 where
  pub part : ℕ
  pub is : text ≡ codes "part " ++ decimal part
  pub takes : IsCatalog (with_part c part)

-- a list that is the front of another
front_pairs : (R : ℕ → ℕ → Type 0) (xs ys : List ℕ) → AllPairs R (xs ++ ys) → AllPairs R xs
front_pairs R xs ys h = λ i j d low high.
    let long : length (xs ++ ys) ≡ length xs + length ys = length-append xs ys in
    let here : R (get_or (xs ++ ys) i d) (get_or (xs ++ ys) j d) = h i j d low (omega arith) in
    let P : ℕ → Type 0 = λ a. R a (get_or (xs ++ ys) j d) in
    let left : R (get_or xs i d) (get_or (xs ++ ys) j d) = subst P (get_or_append_left xs ys d i (omega arith)) here in
    let Q : ℕ → Type 0 = λ b. R (get_or xs i d) b in
    subst Q (get_or_append_left xs ys d j high) left

front_all : (P : ℕ → Type 0) (xs ys : List ℕ) → All P (xs ++ ys) → All P xs
front_all P xs ys h = λ k d within.
    let long : length (xs ++ ys) ≡ length xs + length ys = length-append xs ys in
    subst P (get_or_append_left xs ys d k within) (h k d (omega arith))

-- a catalog whose parts are the first of another's
front_is_catalog : (c d : Catalog) (parts more : List ℕ) → IsCatalog c → IsCatalog d → c.next ≡ d.next → d.parts ≡ parts ++ more → IsCatalog (record c { parts = parts })
front_is_catalog c d parts more valid whole next cut =
    let long : length d.parts ≡ length parts + length more = ap length cut ∙ length-append parts more in
    let Rises : List ℕ → Type 0 = λ ns. AllPairs (λ a b. a < b) ns in
    let Below : List ℕ → Type 0 = λ ns. All (λ part. part < d.next) ns in
    let IsBelow : ℕ → Type 0 = λ n. All (λ part. part < n) parts in
    record {
      schema = valid.schema;
      next = valid.next;
      few = omega (arith, whole.few);
      rising = front_pairs (λ a b. a < b) parts more (subst Rises cut whole.rising);
      below = subst IsBelow (sym next) (front_all (λ part. part < d.next) parts more (subst Below cut whole.below));
    }

pub takes_part : (c : Catalog) (text : List ℕ) → IsCatalog c → BeginsCatalog (catalog_lines c ++ line text ∷ []) → TakesPart c text
unfolding part_line
takes_part c text valid b =
    let same : next_line b.value.next ≡ next_line c.next = cc (b.spelled) in
    let next : b.value.next ≡ c.next = next_line-injective b.value.next c.next (omega (arith, b.valid.next)) (omega (arith, valid.next)) same in
    let lines : map part_line b.value.parts ≡ (map part_line c.parts ++ line text ∷ []) ++ b.rest = cc (b.spelled) in
    let on = goes_on b.value.parts c.parts text b.rest (small_parts b.value b.valid) (small_parts c valid) lines in
    let cut : b.value.parts ≡ (c.parts ++ on.part ∷ []) ++ on.more = rw (append_assoc c.parts (on.part ∷ []) on.more) on.joined in
    record {
      part = on.part;
      is = line-injective text (codes "part " ++ decimal on.part) on.is;
      takes = front_is_catalog c b.value (c.parts ++ on.part ∷ []) on.more valid b.valid (sym next) cut;
    }

-- ---- whether a part may stand behind the others

pub may_take : (c : Catalog) (part : ℕ) → IsCatalog c → length c.parts < 1024 → part < c.next → All (λ earlier. earlier < part) c.parts → IsCatalog (with_part c part)
may_take c part valid room below above =
    let IsBelow : ℕ → Type 0 = λ n. n < c.next in
    record {
      schema = valid.schema;
      next = valid.next;
      few = omega (arith, length_push c.parts part);
      rising = all_pairs_push (λ a b. a < b) c.parts part valid.rising (λ k d within. above k d within);
      below = All-append IsBelow c.parts (part ∷ []) valid.below (All-cons IsBelow part [] below (All-nil IsBelow));
    }

last_read : (xs : List ℕ) (y : ℕ) → get_or (xs ++ y ∷ []) (length xs) 0 ≡ y
last_read xs y = get_or_at xs y [] 0 (length xs) refl

pub has_room : (c : Catalog) (part : ℕ) → IsCatalog (with_part c part) → length c.parts < 1024
has_room c part h = omega (arith, length_push c.parts part, h.few)

pub is_below_next : (c : Catalog) (part : ℕ) → IsCatalog (with_part c part) → part < c.next
is_below_next c part h =
    let IsBelow : ℕ → Type 0 = λ n. n < c.next in
    subst IsBelow (last_read c.parts part) (h.below (length c.parts) 0 (omega (arith, length_push c.parts part)))

pub is_above_all : (c : Catalog) (part : ℕ) → IsCatalog (with_part c part) → All (λ earlier. earlier < part) c.parts
is_above_all c part h = λ k d within.
    let pair : get_or (c.parts ++ part ∷ []) k d < get_or (c.parts ++ part ∷ []) (length c.parts) d = h.rising k (length c.parts) d within (omega (arith, length_push c.parts part)) in
    let first : get_or (c.parts ++ part ∷ []) k d ≡ get_or c.parts k d = get_or_append_left c.parts (part ∷ []) d k within in
    let last : get_or (c.parts ++ part ∷ []) (length c.parts) d ≡ part = get_or_at c.parts part [] d (length c.parts) refl in
    omega (arith, pair, first, last)

-- a number is above a rising list where it is above its last
pub above_all : (xs : List ℕ) (n : ℕ) → AllPairs (λ a b. a < b) xs → ((d : ℕ) → 0 < length xs → get_or xs (length xs - 1) d < n) → All (λ x. x < n) xs
above_all xs n rising last = λ k d within.
    elim (cases_lt k (length xs - 1)) [
      | inl before ↦ (let pair : get_or xs k d < get_or xs (length xs - 1) d = rising k (length xs - 1) d before (omega arith) in omega (arith, pair, last d (omega arith)))
      | inr at ↦ (let same : k ≡ length xs - 1 = omega arith in omega (arith, ap (λ i. get_or xs i d) same, last d (omega arith)))
    ]

-- ---- catalogs that begin so

pub begins-whole : (c : Catalog) → IsCatalog c → BeginsCatalog (catalog_lines c)
begins-whole c valid = record { value = c; valid = valid; rest = []; spelled = sym (append-nil (catalog_lines c)) }

abbrev empty_catalog : List Column → Catalog
empty_catalog columns = record { schema = columns; next = 0; parts = [] }

is_empty_catalog : (columns : List Column) → IsSchema columns → IsCatalog (empty_catalog columns)
is_empty_catalog columns valid = record {
  schema = valid;
  next = lit≤ tt;
  few = lit≤ tt;
  rising = λ i j d low high. absurd (omega (arith, high));
  below = λ k d within. absurd (omega (arith, within));
}

pub begins-schema : (columns : List Column) → IsSchema columns → BeginsCatalog (title_line ∷ schema_line columns ∷ [])
begins-schema columns valid = record { value = empty_catalog columns; valid = is_empty_catalog columns valid; rest = next_line 0 ∷ []; spelled = refl }

-- ---- a catalog that begins, and one more part of it

pub started : (columns : List Column) (next : ℕ) (parts : List ℕ) (text : List ℕ) → IsSchema columns → next ≤ 4096 → parts ≡ [] → text ≡ codes "next " ++ decimal next
    → IsCatalog (record { schema = columns; next = next; parts = parts }) × (catalog_lines (record { schema = columns; next = next; parts = parts }) ≡ title_line ∷ schema_line columns ∷ line text ∷ [])
unfolding next_line
started columns next parts text valid small none is =
    let P : List ℕ → Type 0 = λ ns. IsCatalog (record { schema = columns; next = next; parts = ns })
    × (catalog_lines (record { schema = columns; next = next; parts = ns }) ≡ title_line ∷ schema_line columns ∷ line text ∷ []) in
    subst P (sym none) (
      record {
        schema = valid;
        next = small;
        few = lit≤ tt;
        rising = λ i j d low high. absurd (omega (arith, high));
        below = λ k d within. absurd (omega (arith, within));
      },
      ap (λ t. title_line ∷ schema_line columns ∷ line t ∷ []) (sym is),
    )

pub pushed : (c : Catalog) (part : ℕ) (parts text : List ℕ) → parts ≡ c.parts ++ part ∷ [] → IsCatalog (with_part c part) → text ≡ codes "part " ++ decimal part
    → IsCatalog (record c { parts = parts }) × (catalog_lines (record c { parts = parts }) ≡ catalog_lines c ++ line text ∷ [])
unfolding part_line
pushed c part parts text e valid is =
    let same : line (codes "part " ++ decimal part) ≡ line text = ap line (sym is) in
    let lines : map part_line parts ≡ map part_line c.parts ++ line text ∷ [] =
    ap (map part_line) e ∙ map_push part_line c.parts part ∙ ap (λ l. map part_line c.parts ++ l ∷ []) same in
    let P : List ℕ → Type 0 = λ ns. IsCatalog (record c { parts = ns }) in
    (subst P (sym e) valid, ap (λ t. title_line ∷ schema_line c.schema ∷ next_line c.next ∷ t) lines)

-- ---- what was read begins a catalog, and is short

letter_a : IsColumnName (codes "a")
unfolding keywords
letter_a = refl

one_column : List Column
one_column = record { name = codes "a"; ty = Int } ∷ []

is_one_column : IsSchema one_column
unfolding one_column
is_one_column = record {
  some = lit≤ tt;
  few = lit≤ tt;
  named = All-cons (λ column. IsColumnName column.name) (record { name = codes "a"; ty = Int }) [] letter_a (All-nil (λ column. IsColumnName column.name));
  distinct = λ i j d low high. absurd (omega (arith, low, high));
}

pub begins_front : (f : CatalogFront) → IsFront f → BeginsCatalog (front_lines f)
begins_front Nothing valid = record { value = empty_catalog one_column; valid = is_empty_catalog one_column is_one_column; rest = catalog_lines (empty_catalog one_column); spelled = refl }
begins_front Title valid = record { value = empty_catalog one_column; valid = is_empty_catalog one_column is_one_column; rest = schema_line one_column ∷ next_line 0 ∷ []; spelled = refl }
begins_front (Columns columns) valid = begins-schema columns valid
begins_front (Whole c) valid = begins-whole c valid

pub front_is_short : (f : CatalogFront) → IsFront f → length (front_lines f) ≤ 1028
front_is_short Nothing valid = lit≤ tt
front_is_short Title valid = lit≤ tt
front_is_short (Columns columns) valid = lit≤ tt
front_is_short (Whole c) valid = omega (arith, length-map c.parts part_line, valid.few)

-- ---- a catalog's lines, and that they are no other's

part_lines_are : (parts : List ℕ) → Small parts → AllByRecursion IsLine (map part_line parts)
unfolding part_line
part_lines_are [] h = tt
part_lines_are (n ∷ ns) h = (plain_labelled (codes "part ") (decimal n) refl (plain_decimal n h.0), part_lines_are ns h.1)

pub catalog_lines_are : (c : Catalog) → IsCatalog c → AllByRecursion IsLine (catalog_lines c)
unfolding title_line schema_line next_line
catalog_lines_are c valid = (
  plain_line (codes "fastbit catalog 1") refl,
  (
    plain_labelled (codes "schema ") (schema_text c.schema) refl (plain_schema c.schema valid.schema),
    (plain_labelled (codes "next ") (decimal c.next) refl (plain_decimal c.next (omega (arith, valid.next))), part_lines_are c.parts (small_parts c valid)),
  ),
)

schema_line-injective : (a b : List Column) → IsSchema a → IsSchema b → schema_line a ≡ schema_line b → a ≡ b
unfolding schema_line
schema_line-injective a b h k e =
    schema_text-injective a b h k (append_cancel_left (codes "schema ") (schema_text a) (schema_text b) (line-injective (codes "schema " ++ schema_text a) (codes "schema " ++ schema_text b) e))

same_parts : (a b : List ℕ) → Small a → Small b → map part_line a ≡ map part_line b → a ≡ b
same_parts [] [] h k e = refl
same_parts [] (n ∷ ns) h k e = absurd (cc)
same_parts (m ∷ ms) [] h k e = absurd (cc)
same_parts (m ∷ ms) (n ∷ ns) h k e =
    let line : part_line m ≡ part_line n = cc in
    let first : m ≡ n = part_line-injective m n h.0 k.0 line in
    let others : map part_line ms ≡ map part_line ns = cc in
    let more : ms ≡ ns = same_parts ms ns h.1 k.1 others in
    cc

pub catalog_lines-injective : (c d : Catalog) → IsCatalog c → IsCatalog d → catalog_lines c ≡ catalog_lines d → c ≡ d
catalog_lines-injective c d h k e =
    let schemas : schema_line c.schema ≡ schema_line d.schema = cc in
    let nexts : next_line c.next ≡ next_line d.next = cc in
    let lines : map part_line c.parts ≡ map part_line d.parts = cc in
    let schema : c.schema ≡ d.schema = schema_line-injective c.schema d.schema h.schema k.schema schemas in
    let next : c.next ≡ d.next = next_line-injective c.next d.next (omega (arith, h.next)) (omega (arith, k.next)) nexts in
    let parts : c.parts ≡ d.parts = same_parts c.parts d.parts (small_parts c h) (small_parts d k) lines in
    ap (λ s. record c { schema = s }) schema ∙ ap (λ n. record c { schema = d.schema; next = n }) next
    ∙ ap (λ ns. record d { parts = ns }) parts

pub catalog_text-injective : (c d : Catalog) → IsCatalog c → IsCatalog d → catalog_text c ≡ catalog_text d → c ≡ d
unfolding catalog_text
catalog_text-injective c d h k e = one_text IsCatalog catalog_lines catalog_lines_are catalog_lines-injective c d h k e
