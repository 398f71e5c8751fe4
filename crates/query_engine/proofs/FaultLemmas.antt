-- The column of the fault of a plan.
use Rattle.std.proofs.Common.{◌≡◌, ℕ, ◌<◌, List, length, Option, refl, sym, subst, inl, inr}
use Rattle.std.specs.Prelude.{◌⊎◌, option_map, slice_get, slice_index_or}
use Rattle.std.proofs.lemmas.Option.{slice_get_within}
use Rattle.fb_outside.specs.Files.{Files}
use Rattle.fb_types.specs.declared.schemas.Column.{Column}
use Rattle.column_file.specs.declared.fault.ColFault.{ColFault}
use Rattle.column_file.specs.declared.fault.ColFault.TheVariants as column
use Rattle.part_meta.specs.FileNames.{mask_name, values_name}
use Rattle.part_meta.specs.declared.part.PartMeta.{PartMeta}
use Rattle.where_plan.specs.Plans.{FitsColumn, FitsSchema, place_in}
use Rattle.where_plan.specs.declared.plan.Plan.{Plan}
use Rattle.where_plan.specs.declared.plan.PlanAtom.{PlanAtom}
use Rattle.three_valued.specs.Plans.{atoms_of}
use Rattle.stages.specs.Faults.{IsOneOf}
use Rattle.stages.proofs.ListLemmas.{all_at}
use Rattle.dataset.specs.Damage.{column_damage}
use Rattle.dataset.specs.declared.content.Dataset.{Dataset}
use Rattle.part_meaning.specs.Columns.{no_column}
use Rattle.two_stage.specs.Faults.{IsOfMemory, Stops}
use Rattle.two_stage.specs.declared.fault.EvalFault.{EvalFault}
use Rattle.two_stage.specs.declared.fault.EvalFault.TheVariants as eval
use Rattle.query_engine.specs.Damage.{IfColumn, column_finding, damage_at}
use Rattle.query_engine.proofs.NameLemmas.{column_there}

stops_column : (P : ℕ → Type 0) (files : Option Files) (dir : List ℕ) (meta : PartMeta) (condition : PlanAtom) (fault : EvalFault)
    → Stops files dir meta condition fault → P (place_in condition) → IfColumn fault P
stops_column P files dir meta condition (eval.Col col why) h k = subst P (sym h.0) k
stops_column P files dir meta condition (eval.Index col why) h k = subst P (sym h.0) k
stops_column P files dir meta condition (eval.Words col why) h k = subst P (sym h.0) k
stops_column P files dir meta condition (eval.Text col why) h k = subst P (sym h.0) k
stops_column P files dir meta condition eval.OutOfMemory h k = tt

memory_column : (P : ℕ → Type 0) (fault : EvalFault) → IsOfMemory fault → IfColumn fault P
memory_column P (eval.Col col why) h = absurd h
memory_column P (eval.Index col why) h = absurd h
memory_column P (eval.Words col why) h = absurd h
memory_column P (eval.Text col why) h = absurd h
memory_column P eval.OutOfMemory h = tt

-- the column of a fault of a plan is in the schema
pub stopped_column : (files : Option Files) (dir : List ℕ) (schema : List Column) (meta : PartMeta) (plan : Plan) (fault : EvalFault) → FitsSchema schema plan
    → IsOfMemory fault ⊎ IsOneOf (atoms_of plan) (λ condition. Stops files dir meta condition fault) → IfColumn fault (λ col. col < length schema)
unfolding atoms_of
stopped_column files dir schema meta plan fault fits (inl memory) = memory_column (λ col. col < length schema) fault memory
stopped_column files dir schema meta plan fault fits (inr one) =
    let fit = all_at (FitsColumn schema) (atoms_of plan) one.place one.atom fits one.there in
    let column = column_there (slice_get schema (place_in one.atom)) fit.ty fit.there in
    stops_column (λ col. col < length schema) files dir meta one.atom fault one.is (slice_get_within schema (place_in one.atom) column.0 column.1)

-- ---- the damages that `dataset` tells

pub same_damage : (dataset : Dataset) (part : PartMeta) (col : ℕ) (fault : ColFault)
    → option_map (λ found. damage_at dataset part (col, found)) (column_finding fault)
    ≡ column_damage (values_name dataset.dir part.number (slice_index_or dataset.schema col no_column).name)
    (mask_name dataset.dir part.number (slice_index_or dataset.schema col no_column).name) fault
same_damage dataset part col column.Missing = refl
same_damage dataset part col (column.WrongLength want have) = refl
same_damage dataset part col column.MaskMissing = refl
same_damage dataset part col (column.Mask why) = refl
same_damage dataset part col column.MaskTrailing = refl
same_damage dataset part col (column.MaskLength want have) = refl
same_damage dataset part col column.Store = refl
same_damage dataset part col column.OutOfMemory = refl
