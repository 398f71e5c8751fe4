-- Which file a refused plan names as damaged, and what is wrong with it.
use Rattle.std.specs.Prelude.{◌≡◌, ⊤, ℕ, Option, Some, None, option_map, slice_get, slice_index_or}
use Rattle.fb_outside.specs.Files.{Files}
use Rattle.column_file.specs.declared.fault.ColFault.{ColFault}
use Rattle.column_file.specs.declared.fault.ColFault.TheVariants as column
use Rattle.index_file.specs.declared.fault.IndexFault.{IndexFault}
use Rattle.index_file.specs.declared.fault.IndexFault.TheVariants as index
use Rattle.text_column.specs.declared.fault.DicFault.{DicFault}
use Rattle.text_column.specs.declared.fault.DicFault.TheVariants as words
use Rattle.text_column.specs.declared.fault.TextFault.{TextFault}
use Rattle.text_column.specs.declared.fault.TextFault.TheVariants as text
use Rattle.part_meta.specs.FileNames.{file_name}
use Rattle.part_meta.specs.declared.names.FileKind.{FileKind}
use Rattle.part_meta.specs.declared.names.FileKind.TheVariants as file
use Rattle.part_meta.specs.declared.part.PartMeta.{PartMeta}
use Rattle.where_plan.specs.declared.plan.Plan.{Plan}
use Rattle.where_plan.specs.declared.plan.PlanAtom.{PlanAtom}
use Rattle.three_valued.specs.Plans.{atoms_of}
use Rattle.stages.specs.Faults.{IsOneOf}
use Rattle.dataset.specs.Damage.{Damage}
use Rattle.dataset.specs.declared.content.Dataset.{Dataset}
use Rattle.dataset.specs.declared.fault.DamageKind.{DamageKind}
use Rattle.dataset.specs.declared.fault.DamageKind.TheVariants.{Missing, Length, Mask, Starts, Words, Index}
use Rattle.part_meaning.specs.Columns.{no_column}
use Rattle.two_stage.specs.Faults.{Stops}
use Rattle.two_stage.specs.declared.fault.EvalFault.{EvalFault}
use Rattle.two_stage.specs.declared.fault.EvalFault.TheVariants as eval
use Rattle.query_engine.specs.declared.fault.AskFault.{AskFault}
use Rattle.query_engine.specs.declared.fault.AskFault.TheVariants.{Damaged, Store, OutOfMemory}
use Rattle.query_engine.specs.declared.findings.Finding.{Finding}

-- ---- what a fault says of the files of its column: None where none is damaged

-- a file of that kind is damaged so
abbrev pub without_numbers : FileKind → DamageKind → Finding
without_numbers kind damage = record { file = kind; kind = damage; want = 0; have = 0 }

-- the same with the two numbers of the fault
abbrev pub with_numbers : FileKind → DamageKind → (want have : ℕ) → Finding
with_numbers kind damage want have = record { file = kind; kind = damage; want = want; have = have }

abbrev pub column_finding : ColFault → Option Finding
column_finding column.Missing = Some (without_numbers file.Values Missing)
column_finding (column.WrongLength want have) = Some (with_numbers file.Values Length want have)
column_finding column.MaskMissing = Some (without_numbers file.Mask Missing)
column_finding (column.Mask why) = Some (without_numbers file.Mask Mask)
column_finding column.MaskTrailing = Some (without_numbers file.Mask Mask)
column_finding (column.MaskLength want have) = Some (with_numbers file.Mask Mask want have)
column_finding column.Store = None
column_finding column.OutOfMemory = None

-- of a mask alone
abbrev pub mask_finding : ColFault → Finding
mask_finding column.MaskMissing = without_numbers file.Mask Missing
mask_finding (column.MaskLength want have) = with_numbers file.Mask Mask want have
mask_finding why = without_numbers file.Mask Mask

abbrev pub index_finding : IndexFault → Option Finding
index_finding (index.Rows want have) = Some (with_numbers file.Index Index want have)
index_finding (index.Count want have) = Some (with_numbers file.Index Index want have)
index_finding index.Store = None
index_finding index.OutOfMemory = None
index_finding why = Some (without_numbers file.Index Index)

abbrev pub words_finding : DicFault → Option Finding
words_finding words.Missing = Some (without_numbers file.Words Missing)
words_finding words.Store = None
words_finding words.OutOfMemory = None
words_finding why = Some (without_numbers file.Words Words)

abbrev pub text_finding : TextFault → Option Finding
text_finding text.Missing = Some (without_numbers file.Values Missing)
text_finding text.StartsMissing = Some (without_numbers file.Starts Missing)
text_finding (text.StartsLength want have) = Some (with_numbers file.Starts Starts want have)
text_finding (text.NotRising row) = Some (without_numbers file.Starts Starts)
text_finding (text.LastStart want have) = Some (with_numbers file.Values Length want have)
text_finding text.ShortRead = Some (without_numbers file.Values Length)
text_finding (text.Mask why) = Some (mask_finding why)
text_finding text.Store = None
text_finding text.OutOfMemory = None

-- with the place of that column in the schema
abbrev pub finding_of : EvalFault → Option (ℕ × Finding)
finding_of (eval.Col col why) = option_map (λ found. (col, found)) (column_finding why)
finding_of (eval.Index col why) = option_map (λ found. (col, found)) (index_finding why)
finding_of (eval.Words col why) = option_map (λ found. (col, found)) (words_finding why)
finding_of (eval.Text col why) = option_map (λ found. (col, found)) (text_finding why)
finding_of eval.OutOfMemory = None

-- ---- the file that it says this of

-- that file of the column, in the part
abbrev pub damage_at : Dataset → PartMeta → ℕ × Finding → Damage
damage_at dataset part (col, found) = record {
  file = file_name dataset.dir part.number (Some (slice_index_or dataset.schema col no_column).name) found.file;
  kind = found.kind;
  want = found.want;
  have = found.have;
}

abbrev pub damage_of : Dataset → PartMeta → EvalFault → Option Damage
damage_of dataset part fault = option_map (damage_at dataset part) (finding_of fault)

-- A file of the condition's column in the part is refused so. Where the files aren't told it is one of that column.
pub record IsDamagedFor (files : Option Files) (dataset : Dataset) (part : PartMeta) (condition : PlanAtom) (found : Damage) : Type 0 where
  pub fault : EvalFault
  pub is : Stops files dataset.dir part condition fault
  pub told : damage_of dataset part fault ≡ Some found

-- In a part that the dataset lists, a file of the column of a condition of the plan is refused so.
pub record IsPlanDamaged (files : Option Files) (dataset : Dataset) (plan : Plan) (found : Damage) : Type 0 where
  pub place : ℕ
  pub part : PartMeta
  pub listed : slice_get dataset.parts place ≡ Some part
  pub for_condition : IsOneOf (atoms_of plan) (λ condition. IsDamagedFor files dataset part condition found)

-- ---- answers

abbrev pub as_answer : Damage → AskFault
as_answer found = Damaged found.file found.kind found.want found.have

-- a damage that is answered meets P
abbrev pub IfDamaged : AskFault → (Damage → Type 0) → Type 0
IfDamaged (Damaged file kind want have) P = P (record { file = file; kind = kind; want = want; have = have })
IfDamaged Store P = ⊤
IfDamaged OutOfMemory P = ⊤

-- no file is damaged: the store failed, or memory ran out
abbrev pub NoDamage : AskFault → Type 0
NoDamage (Damaged file kind want have) = ⊥
NoDamage Store = ⊤
NoDamage OutOfMemory = ⊤

-- the fault is of a column whose place meets P
abbrev pub IfColumn : EvalFault → (ℕ → Type 0) → Type 0
IfColumn (eval.Col col why) P = P col
IfColumn (eval.Index col why) P = P col
IfColumn (eval.Words col why) P = P col
IfColumn (eval.Text col why) P = P col
IfColumn eval.OutOfMemory P = ⊤
