-- How a part's text goes on.
use Rattle.std.proofs.Common.{◌≡◌, ◌≢◌, ℕ, ◌+◌, ◌<◌, ◌≤◌, ◌^◌, List, [], ◌∷◌, ◌++◌, length, get_or, Option, Some, None, MatchOption, refl, sym, ap, ◌∙◌, subst, arith, codes, decimal, append_assoc}
use Rattle.std.specs.List.{All, AllPairs, AllByRecursion, flat_map}
use Rattle.std.proofs.lemmas.List.{append_cancel_left, append-nil, get_or_append_left, get_or_at, length-append}
use Rattle.std.proofs.lemmas.List.Concat.{flat_map-append}
use Rattle.std.proofs.lemmas.List.Elements.{recursion_from_All}
use Rattle.fb_types.proofs.ItemFacts.{type_named-name, type_named-type_name}
use Rattle.fb_types.specs.Names.{IsColumnName}
use Rattle.fb_types.specs.Schemas.{IsSchema}
use Rattle.fb_types.specs.SchemaText.{type_named}
use Rattle.fb_types.specs.Types.{type_name}
use Rattle.fb_types.specs.declared.schemas.Column.{Column}
use Rattle.fb_types.specs.declared.types.ColType.{ColType}
use Rattle.part_meta.specs.FileNames.{folder_name, four_digits}
use Rattle.part_meta.specs.Lines.{IsLine, line, Begins}
use Rattle.part_meta.specs.PartText.{IsPart, column_begin_line, column_end_line, column_lines, count_line, header_begin_line, header_end_line, name_line, number_line, part_lines, part_text, rows_line, type_line}
use Rattle.part_meta.specs.PartFront.{IsBody, Takes, body_lines, head_lines, open_lines}
use Rattle.part_meta.specs.declared.part_reading.Open.{Open}
use Rattle.part_meta.specs.declared.part_reading.Open.TheVariants as open_
use Rattle.part_meta.specs.declared.part.PartMeta.{PartMeta}
use Rattle.part_meta.specs.declared.part_reading.Head.{Head}
use Rattle.part_meta.specs.declared.part_reading.Body.{Body}
use Rattle.part_meta.proofs.CutLemmas.{line-injective, one_text}
use Rattle.part_meta.proofs.DigitLemmas.{four_digits-injective}
use Rattle.part_meta.proofs.NumberLemmas.{label_told}
use Rattle.part_meta.proofs.PlainLemmas.{plain_decimal, plain_folder, plain_labelled, plain_line, plain_name, plain_type}

abbrev pub BeginsPart : List (List ℕ) → Type 0
BeginsPart front = Begins IsPart part_lines front

-- ---- what a line of the header has to be

pub is_header_begin : (text : List ℕ) → BeginsPart (line text ∷ []) → text ≡ codes "BEGIN HEADER"
unfolding header_begin_line
is_header_begin text b =
    let same : header_begin_line ≡ line text = cc (b.spelled) in
    line-injective text (codes "BEGIN HEADER") (sym same)

pub is_number : (text : List ℕ) (b : BeginsPart (header_begin_line ∷ line text ∷ [])) → text ≡ codes "Name = " ++ folder_name b.value.number
unfolding number_line
is_number text b =
    let same : number_line b.value.number ≡ line text = cc (b.spelled) in
    line-injective text (codes "Name = " ++ folder_name b.value.number) (sym same)

pub is_rows : (number : ℕ) (text : List ℕ) (b : BeginsPart (header_begin_line ∷ number_line number ∷ line text ∷ [])) → text ≡ codes "Number_of_rows = " ++ decimal b.value.rows
unfolding rows_line
is_rows number text b =
    let same : rows_line b.value.rows ≡ line text = cc (b.spelled) in
    line-injective text (codes "Number_of_rows = " ++ decimal b.value.rows) (sym same)

pub is_count : (number rows : ℕ) (text : List ℕ) (b : BeginsPart (header_begin_line ∷ number_line number ∷ rows_line rows ∷ line text ∷ []))
    → text ≡ codes "Number_of_columns = " ++ decimal (length b.value.schema)
unfolding count_line
is_count number rows text b =
    let same : count_line (length b.value.schema) ≡ line text = cc (b.spelled) in
    line-injective text (codes "Number_of_columns = " ++ decimal (length b.value.schema)) (sym same)

pub is_header_end : (head : Head) (text : List ℕ) → BeginsPart (head_lines head ++ line text ∷ []) → text ≡ codes "END HEADER"
unfolding header_end_line
is_header_end head text b =
    let same : header_end_line ≡ line text = cc (b.spelled) in
    line-injective text (codes "END HEADER") (sym same)

-- ---- lines tell what they are of

pub count_line-injective : (m n : ℕ) → m < 2 ^ 64 → n < 2 ^ 64 → count_line m ≡ count_line n → m ≡ n
unfolding count_line
count_line-injective m n a b e =
    label_told (codes "Number_of_columns = " ++ decimal m) (codes "Number_of_columns = ") m n a b refl
    (line-injective (codes "Number_of_columns = " ++ decimal m) (codes "Number_of_columns = " ++ decimal n) e)

pub rows_line-injective : (m n : ℕ) → m < 2 ^ 64 → n < 2 ^ 64 → rows_line m ≡ rows_line n → m ≡ n
unfolding rows_line
rows_line-injective m n a b e =
    label_told (codes "Number_of_rows = " ++ decimal m) (codes "Number_of_rows = ") m n a b refl
    (line-injective (codes "Number_of_rows = " ++ decimal m) (codes "Number_of_rows = " ++ decimal n) e)

pub name_line-injective : (a b : List ℕ) → name_line a ≡ name_line b → a ≡ b
unfolding name_line
name_line-injective a b e = append_cancel_left (codes "name = ") a b (line-injective (codes "name = " ++ a) (codes "name = " ++ b) e)

pub type_name-injective : (a b : ColType) → type_name a ≡ type_name b → a ≡ b
type_name-injective a b e = let same : Some a ≡ Some b = sym (type_named-type_name a) ∙ ap type_named e ∙ type_named-type_name b in cc

pub type_line-injective : (a b : ColType) → type_line a ≡ type_line b → a ≡ b
unfolding type_line
type_line-injective a b e =
    type_name-injective a b (append_cancel_left (codes "data_type = ") (type_name a) (type_name b) (line-injective (codes "data_type = " ++ type_name a) (codes "data_type = " ++ type_name b) e))

same_column : (a b : Column) → name_line a.name ≡ name_line b.name → type_line a.ty ≡ type_line b.ty → a ≡ b
same_column a b n t =
    ap (λ x. record a { name = x }) (name_line-injective a.name b.name n) ∙ ap (λ x. record b { ty = x }) (type_line-injective a.ty b.ty t)

-- ---- the column that comes next

-- the columns of a part that has lines behind those of these columns
record OneMore (columns all : List Column) (rest : List (List ℕ)) : Type 0 where
  column : Column
  more : List Column
  joined : all ≡ columns ++ column ∷ more
  lines : column_lines column ++ flat_map column_lines more ≡ rest

one_more : (all columns : List Column) (l : List ℕ) (ls : List (List ℕ)) → flat_map column_lines all ≡ flat_map column_lines columns ++ l ∷ ls → OneMore columns all (l ∷ ls)
one_more [] [] l ls e = absurd (cc)
one_more [] (c ∷ cs) l ls e = absurd (cc)
one_more (a ∷ as_) [] l ls e = record { column = a; more = as_; joined = refl; lines = e }
one_more (a ∷ as_) (c ∷ cs) l ls e =
    let names : name_line a.name ≡ name_line c.name = cc in
    let types : type_line a.ty ≡ type_line c.ty = cc in
    let first : a ≡ c = same_column a c names types in
    let others : flat_map column_lines as_ ≡ flat_map column_lines cs ++ l ∷ ls = cc in
    let found = one_more as_ cs l ls others in
    record { column = found.column; more = found.more; joined = cc (found.joined); lines = found.lines }

pub record NextColumn (body : Body) (rest : List (List ℕ)) : Type 0 where
  pub column : Column
  pub more : List Column
  pub takes : Takes body column.name
  pub lines : column_lines column ++ flat_map column_lines more ≡ rest

takes_next : (body : Body) (schema : List Column) (column : Column) (more : List Column) → IsSchema schema → schema ≡ body.columns.items ++ column ∷ more → length schema ≡ body.head.count → Takes body column.name
takes_next body schema column more valid joined count =
    let columns = body.columns.items in
    let P : List Column → Type 0 = λ cs. All (λ c. IsColumnName c.name) cs in
    let Q : List Column → Type 0 = λ cs. AllPairs (λ a b. a.name ≢ b.name) cs in
    let long : length schema ≡ length columns + length (column ∷ more) = ap length joined ∙ length-append columns (column ∷ more) in
    let longer : length (columns ++ column ∷ more) ≡ length columns + length (column ∷ more) = length-append columns (column ∷ more) in
    let named : P (columns ++ column ∷ more) = subst P joined valid.named in
    let distinct : Q (columns ++ column ∷ more) = subst Q joined valid.distinct in
    let read : (d : Column) → get_or (columns ++ column ∷ more) (length columns) d ≡ column = λ d. get_or_at columns column more d (length columns) refl in
    let IsNamed : Column → Type 0 = λ c. IsColumnName c.name in
    record {
      room = omega arith;
      named = subst IsNamed (read column) (named (length columns) column (omega arith));
      new = λ k d within.
          let here : get_or (columns ++ column ∷ more) k d ≡ get_or columns k d = get_or_append_left columns (column ∷ more) d k within in
          let A : Column → Type 0 = λ c. c.name ≢ (get_or (columns ++ column ∷ more) (length columns) d).name in
          let B : Column → Type 0 = λ c. (get_or columns k d).name ≢ c.name in
          subst B (read d) (subst A here (distinct k (length columns) d within (omega arith)));
    }

pub next_column : (body : Body) (part : PartMeta) (l : List ℕ) (ls : List (List ℕ)) → IsPart part → body.head.count ≤ 255 → part_lines part ≡ body_lines body ++ l ∷ ls → NextColumn body (l ∷ ls)
next_column body part l ls valid few spelled =
    let counts : count_line (length part.schema) ≡ count_line body.head.count = cc in
    let count : length part.schema ≡ body.head.count = count_line-injective (length part.schema) body.head.count (omega (arith, valid.schema.few)) (omega arith) counts in
    let lines : flat_map column_lines part.schema ≡ flat_map column_lines body.columns.items ++ l ∷ ls = cc in
    let found = one_more part.schema body.columns.items l ls lines in
    record {
      column = found.column;
      more = found.more;
      takes = takes_next body part.schema found.column found.more valid.schema found.joined count;
      lines = found.lines;
    }

-- ---- a part's lines, and that they are no other's

column_lines_are : (columns : List Column) → AllByRecursion (λ c. IsColumnName c.name) columns → AllByRecursion IsLine (flat_map column_lines columns)
unfolding column_begin_line name_line type_line column_end_line
column_lines_are [] named = tt
column_lines_are (c ∷ cs) named = (
  plain_line (codes "Begin Column") refl,
  (
    plain_labelled (codes "name = ") c.name refl (plain_name c.name named.0),
    (plain_labelled (codes "data_type = ") (type_name c.ty) refl (plain_type c.ty), (plain_line (codes "End Column") refl, column_lines_are cs named.1)),
  ),
)

pub part_lines_are : (p : PartMeta) → IsPart p → AllByRecursion IsLine (part_lines p)
unfolding header_begin_line number_line rows_line count_line header_end_line
part_lines_are p valid = (
  plain_line (codes "BEGIN HEADER") refl,
  (
    plain_labelled (codes "Name = ") (folder_name p.number) refl (plain_folder p.number),
    (
      plain_labelled (codes "Number_of_rows = ") (decimal p.rows) refl (plain_decimal p.rows (omega (arith, valid.few))),
      (
        plain_labelled (codes "Number_of_columns = ") (decimal (length p.schema)) refl (plain_decimal (length p.schema) (omega (arith, valid.schema.few))),
        (plain_line (codes "END HEADER") refl, column_lines_are p.schema (recursion_from_All (λ c. IsColumnName c.name) p.schema valid.schema.named)),
      ),
    ),
  ),
)

same_columns : (a b : List Column) → flat_map column_lines a ≡ flat_map column_lines b → a ≡ b
same_columns [] [] e = refl
same_columns [] (c ∷ cs) e = absurd (cc)
same_columns (c ∷ cs) [] e = absurd (cc)
same_columns (a ∷ as_) (b ∷ bs) e =
    let names : name_line a.name ≡ name_line b.name = cc in
    let types : type_line a.ty ≡ type_line b.ty = cc in
    let first : a ≡ b = same_column a b names types in
    let others : flat_map column_lines as_ ≡ flat_map column_lines bs = cc in
    let more : as_ ≡ bs = same_columns as_ bs others in
    cc

pub number_line-injective : (m n : ℕ) → m < 4096 → n < 4096 → number_line m ≡ number_line n → m ≡ n
unfolding number_line
number_line-injective m n a b e =
    let digits : folder_name m ≡ folder_name n = append_cancel_left (codes "Name = ") (folder_name m) (folder_name n) (line-injective (codes "Name = " ++ folder_name m) (codes "Name = " ++ folder_name n) e) in
    four_digits-injective m n (omega arith) (omega arith) (append_cancel_left (112 ∷ []) (four_digits m) (four_digits n) digits)

pub part_lines-injective : (p q : PartMeta) → IsPart p → IsPart q → part_lines p ≡ part_lines q → p ≡ q
part_lines-injective p q h k e =
    let numbers : number_line p.number ≡ number_line q.number = cc in
    let rows : rows_line p.rows ≡ rows_line q.rows = cc in
    let columns : flat_map column_lines p.schema ≡ flat_map column_lines q.schema = cc in
    ap (λ n. record p { number = n }) (number_line-injective p.number q.number h.number k.number numbers)
    ∙ ap (λ n. record p { number = q.number; rows = n }) (rows_line-injective p.rows q.rows (omega (arith, h.few)) (omega (arith, k.few)) rows)
    ∙ ap (λ s. record q { schema = s }) (same_columns p.schema q.schema columns)

pub part_text-injective : (p q : PartMeta) → IsPart p → IsPart q → part_text p ≡ part_text q → p ≡ q
unfolding part_text
part_text-injective p q h k e = one_text IsPart part_lines part_lines_are part_lines-injective p q h k e

-- ---- what a line of a column has to be

regrouped : (lines read : List (List ℕ)) (l : List ℕ) (rest : List (List ℕ)) → ((lines ++ read) ++ l ∷ []) ++ rest ≡ lines ++ (read ++ l ∷ rest)
regrouped lines read l rest = simp append_assoc

next_after : (body : Body) (read : List (List ℕ)) (text : List ℕ) (l : List ℕ) (ls : List (List ℕ)) → IsBody body → (b : BeginsPart ((body_lines body ++ read) ++ line text ∷ [])) → read ++ line text ∷ b.rest ≡ l ∷ ls
    → NextColumn body (l ∷ ls)
next_after body read text l ls valid b here =
    next_column body b.value l ls b.valid valid.head.few (b.spelled ∙ regrouped (body_lines body) read (line text) b.rest ∙ ap (λ t. body_lines body ++ t) here)

-- the column that comes next, and the line of it that is the text
pub record HasNext (body : Body) (is : Column → Type 0) : Type 0 where
  pub column : Column
  pub takes : Takes body column.name
  pub has : is column

pub is_column_begin : (body : Body) (text : List ℕ) → IsBody body → BeginsPart ((body_lines body ++ []) ++ line text ∷ []) → HasNext body (λ c. text ≡ codes "Begin Column")
unfolding column_begin_line
is_column_begin body text valid b =
    let n = next_after body [] text (line text) b.rest valid b refl in
    let same : column_begin_line ≡ line text = cc (n.lines) in
    record { column = n.column; takes = n.takes; has = line-injective text (codes "Begin Column") (sym same) }

pub is_name : (body : Body) (text : List ℕ) → IsBody body → BeginsPart ((body_lines body ++ column_begin_line ∷ []) ++ line text ∷ []) → HasNext body (λ c. text ≡ codes "name = " ++ c.name)
unfolding name_line
is_name body text valid b =
    let n = next_after body (column_begin_line ∷ []) text column_begin_line (line text ∷ b.rest) valid b refl in
    let same : name_line n.column.name ≡ line text = cc (n.lines) in
    record { column = n.column; takes = n.takes; has = line-injective text (codes "name = " ++ n.column.name) (sym same) }

pub is_type : (body : Body) (name text : List ℕ) → IsBody body → BeginsPart ((body_lines body ++ column_begin_line ∷ name_line name ∷ []) ++ line text ∷ []) → HasNext body (λ c. text ≡ codes "data_type = " ++ type_name c.ty)
unfolding type_line
is_type body name text valid b =
    let n = next_after body (column_begin_line ∷ name_line name ∷ []) text column_begin_line (name_line name ∷ line text ∷ b.rest) valid b refl in
    let same : type_line n.column.ty ≡ line text = cc (n.lines) in
    record { column = n.column; takes = n.takes; has = line-injective text (codes "data_type = " ++ type_name n.column.ty) (sym same) }

pub is_column_end : (body : Body) (column : Column) (text : List ℕ) → IsBody body
    → BeginsPart ((body_lines body ++ column_begin_line ∷ name_line column.name ∷ type_line column.ty ∷ []) ++ line text ∷ []) → text ≡ codes "End Column"
unfolding column_end_line
is_column_end body column text valid b =
    let n = next_after body (column_begin_line ∷ name_line column.name ∷ type_line column.ty ∷ []) text column_begin_line (name_line column.name ∷ type_line column.ty ∷ line text ∷ b.rest) valid b refl in
    let same : column_end_line ≡ line text = cc (n.lines) in
    line-injective text (codes "End Column") (sym same)

-- ---- one more line of a column

pub with_more : (lines read : List (List ℕ)) (l : List ℕ) → lines ++ (read ++ l ∷ []) ≡ (lines ++ read) ++ l ∷ []
with_more lines read l = sym (append_assoc lines read (l ∷ []))

pub started_body : (head : Head) (items : List Column) (text : List ℕ) → items ≡ [] → text ≡ codes "END HEADER"
    → header_begin_line ∷ number_line head.number ∷ rows_line head.rows ∷ count_line head.count ∷ header_end_line ∷ (flat_map column_lines items ++ []) ≡ head_lines head ++ line text ∷ []
unfolding header_end_line
started_body head items text none is =
    ap (λ cs. header_begin_line ∷ number_line head.number ∷ rows_line head.rows ∷ count_line head.count ∷ header_end_line ∷ (flat_map column_lines cs ++ [])) none
    ∙ ap (λ t. header_begin_line ∷ number_line head.number ∷ rows_line head.rows ∷ count_line head.count ∷ line t ∷ []) (sym is)

abbrev three_lines : Column → List (List ℕ)
three_lines column = column_begin_line ∷ name_line column.name ∷ type_line column.ty ∷ []

pub ended_body : (body : Body) (column : Column) (items : List Column) (text : List ℕ) → items ≡ body.columns.items ++ column ∷ [] → text ≡ codes "End Column"
    → header_begin_line ∷ number_line body.head.number ∷ rows_line body.head.rows ∷ count_line body.head.count ∷ header_end_line ∷ (flat_map column_lines items ++ [])
    ≡ (body_lines body ++ three_lines column) ++ line text ∷ []
unfolding column_end_line
ended_body body column items text pushed is =
    let columns = flat_map column_lines body.columns.items in
    let ended : column_end_line ≡ line text = ap line (sym is) in
    let one : flat_map column_lines items ≡ columns ++ (three_lines column ++ column_end_line ∷ []) =
    ap (flat_map column_lines) pushed ∙ flat_map-append column_lines body.columns.items (column ∷ []) in
    let lines : flat_map column_lines items ++ [] ≡ (columns ++ three_lines column) ++ line text ∷ [] =
    append-nil (flat_map column_lines items) ∙ one ∙ sym (append_assoc columns (three_lines column) (column_end_line ∷ []))
    ∙ ap (λ l. (columns ++ three_lines column) ++ l ∷ []) ended in
    ap (λ t. header_begin_line ∷ number_line body.head.number ∷ rows_line body.head.rows ∷ count_line body.head.count ∷ header_end_line ∷ t) lines

-- ---- types

pub behind_type : (r : Option ColType) (text label word : List ℕ) → text ≡ label ++ word → r ≡ type_named word
    → MatchOption r ((ty : ColType) → text ≢ label ++ type_name ty) (λ ty. text ≡ label ++ type_name ty)
behind_type None text label word cut found = λ ty is.
    let same : word ≡ type_name ty = append_cancel_left label word (type_name ty) (sym cut ∙ is) in
    let known : None ≡ Some ty = found ∙ ap type_named same ∙ type_named-type_name ty in
    absurd (cc)
behind_type (Some ty) text label word cut found = cut ∙ ap (λ t. label ++ t) (sym (type_named-name word ty (sym found)))

-- ---- where no part ends

pub open_is_no_end : (body : Body) (o : Open) → IsBody body → (o ≡ open_.Nothing → ⊥) → (part : PartMeta) → IsPart part → part_lines part ≢ body_lines body ++ open_lines o
open_is_no_end body open_.Nothing valid some part is e = some refl
open_is_no_end body open_.Begun valid some part is e = let n = next_column body part column_begin_line [] is valid.head.few e in absurd (cc (n.lines))
open_is_no_end body (open_.Named name) valid some part is e =
    let n = next_column body part column_begin_line (name_line name ∷ []) is valid.head.few e in absurd (cc (n.lines))
open_is_no_end body (open_.Typed column) valid some part is e =
    let n = next_column body part column_begin_line (name_line column.name ∷ type_line column.ty ∷ []) is valid.head.few e in absurd (cc (n.lines))

pub all_columns : (body : Body) → IsBody body → (part : PartMeta) → IsPart part → part_lines part ≡ body_lines body ++ [] → length body.columns.items ≡ body.head.count
all_columns body valid part is e =
    let spelled : part_lines part ≡ body_lines body = e ∙ append-nil (body_lines body) in
    let counts : count_line (length part.schema) ≡ count_line body.head.count = cc in
    let count : length part.schema ≡ body.head.count = count_line-injective (length part.schema) body.head.count (omega (arith, is.schema.few)) (omega (arith, valid.head.few)) counts in
    let lines : flat_map column_lines part.schema ≡ flat_map column_lines body.columns.items = cc in
    ap length (sym (same_columns part.schema body.columns.items lines)) ∙ count
