-- The first damage of a column's files: it is one, and of these files alone.
use Rattle.std.proofs.Common.{◌≡◌, List, ℕ, Option, Some, None, Ok, Err, IsSome, refl, sym, ap, subst, ◌∙◌}
use Rattle.std.specs.Prelude.{IfSome}
use Rattle.std.specs.List.{slice_get}
use Rattle.answers.specs.Answers.{Tells}
use Rattle.fb_outside.specs.Files.{Files, file_at}
use Rattle.fb_types.specs.declared.schemas.Column.{Column}
use Rattle.fb_types.specs.Types.{width_of}
use Rattle.column_file.specs.Opening.{column_in, told_by_files}
use Rattle.column_file.specs.Values.{width_in}
use Rattle.column_file.specs.declared.fault.ColFault.{ColFault}
use Rattle.column_file.specs.declared.fault.ColFault.TheVariants as column_
use Rattle.part_meta.specs.declared.part.PartMeta.{PartMeta}
use Rattle.part_meta.specs.FileNames.{mask_name, values_name}
use Rattle.text_column.specs.OpenedDictionary.{dictionary_of}
use Rattle.dataset.specs.Damage.{Damage, IsColumnDamaged, IsDamagedAt, column_damage, damage, dictionary_damage, rows_at, words_at, words_name}
use Rattle.dataset.specs.Damage.IsDamagedAt.{NoColumn, NoDictionary}
use Rattle.dataset.specs.PartColumns.{IfDamaged, mask_file, part_fault, values_file}
use Rattle.dataset.specs.declared.content.Dataset.{Dataset}
use Rattle.dataset.specs.declared.fault.DamageKind.TheVariants.{Missing, Length, Mask}
use Rattle.dataset.specs.declared.fault.PartFault.{PartFault}
use Rattle.dataset.specs.declared.fault.PartFault.TheVariants.{Damaged}

same_some : (a b : Damage) (o : Option Damage) → o ≡ Some a → o ≡ Some b → a ≡ b
same_some a b o h k = let both : Some a ≡ Some b = sym h ∙ k in cc

pub same_damage : (files : Files) (dir : List ℕ) (part : PartMeta) (column : Column) (a b : Damage) → IsDamagedAt files dir part column a
    → IsDamagedAt files dir part column b → a ≡ b
same_damage files dir part column a b (NoColumn fault wrong told) (NoColumn other wrong' told') =
    let both : Err fault ≡ Err other = sym wrong ∙ wrong' in
    let same : other ≡ fault = cc in
    let values = values_name dir part.number column.name in
    let mask = mask_name dir part.number column.name in
    same_some a b (column_damage values mask fault) told (ap (column_damage values mask) (sym same) ∙ told')
same_damage files dir part column a b (NoColumn fault wrong told) (NoDictionary mask other opens category wrong' told') =
    let bad : Err fault ≡ Ok mask = sym wrong ∙ opens in absurd (cc)
same_damage files dir part column a b (NoDictionary mask fault opens category wrong told) (NoColumn other wrong' told') =
    let bad : Ok mask ≡ Err other = sym opens ∙ wrong' in absurd (cc)
same_damage files dir part column a b (NoDictionary mask fault opens category wrong told) (NoDictionary bits other opens' category' wrong' told') =
    let both : Err fault ≡ Err other = sym wrong ∙ wrong' in
    let same : other ≡ fault = cc in
    let words = words_name dir part.number column.name in
    same_some a b (dictionary_damage words fault) told (ap (dictionary_damage words) (sym same) ∙ told')

-- where these files stay, a damage that is there was there
module _ (old new : Files) (dir : List ℕ) (part : PartMeta) (column : Column) (found : Damage)
    (values : file_at new (values_name dir part.number column.name) ≡ file_at old (values_name dir part.number column.name))
    (mask : file_at new (mask_name dir part.number column.name) ≡ file_at old (mask_name dir part.number column.name))
    (words : file_at new (words_name dir part.number column.name) ≡ file_at old (words_name dir part.number column.name)) where
  rows_kept : rows_at old dir part column ≡ rows_at new dir part column
  rows_kept =
      ap (λ (o : Option (List ℕ)). column_in (width_in column.ty) part.rows o (file_at old (mask_name dir part.number column.name))) (sym values)
      ∙ ap (λ (o : Option (List ℕ)). column_in (width_in column.ty) part.rows (file_at new (values_name dir part.number column.name)) o) (sym mask)

  words_kept : words_at old dir part column ≡ words_at new dir part column
  words_kept = ap dictionary_of (sym words)

  pub damage_kept : IsDamagedAt new dir part column found → IsDamagedAt old dir part column found
  damage_kept (NoColumn fault is told) = NoColumn fault (rows_kept ∙ is) told
  damage_kept (NoDictionary bits fault opens category is told) = NoDictionary bits fault (rows_kept ∙ opens) category (words_kept ∙ is) told

-- ---- what is answered of a column that isn't opened

module _ (dataset : Dataset) (part : PartMeta) (column : Column) (some : IsSome (width_of column.ty)) where
  -- its files are looked at where it is a column of the dataset
  abbrev pub IsDamageThere : Files → PartFault → Type 0
  IsDamageThere m answer = (place col : ℕ) → slice_get dataset.parts place ≡ Some part → slice_get dataset.schema col ≡ Some column
      → IfDamaged answer (IsColumnDamaged m dataset column.name)

  is_damage : (m : Files) (found : Damage) → IsDamagedAt m dataset.dir part column found
      → IsDamageThere m (Damaged found.file found.kind found.want found.have)
  is_damage m found first place col listed at = record {
    part = part;
    place = place;
    listed = listed;
    column = column;
    col = col;
    in_schema = at;
    named = refl;
    width = some;
    first = first;
  }

  module _ (m : Files) where
    abbrev values : List ℕ
    values = values_file dataset part column

    abbrev mask : List ℕ
    mask = mask_file dataset part column

    by_fault : (fault : ColFault) → Tells told_by_files (λ f. rows_at m dataset.dir part column ≡ Err f) fault
        → IsDamageThere m (part_fault values mask fault)
    by_fault column_.Missing told = is_damage m (damage values Missing) (NoColumn column_.Missing told refl)
    by_fault (column_.WrongLength want have) told =
        is_damage m (record { file = values; kind = Length; want = want; have = have }) (NoColumn (column_.WrongLength want have) told refl)
    by_fault column_.MaskMissing told = is_damage m (damage mask Missing) (NoColumn column_.MaskMissing told refl)
    by_fault (column_.Mask fault) told = is_damage m (damage mask Mask) (NoColumn (column_.Mask fault) told refl)
    by_fault column_.MaskTrailing told = is_damage m (damage mask Mask) (NoColumn column_.MaskTrailing told refl)
    by_fault (column_.MaskLength want have) told =
        is_damage m (record { file = mask; kind = Mask; want = want; have = have }) (NoColumn (column_.MaskLength want have) told refl)
    by_fault column_.Store told = λ place col listed at. tt
    by_fault column_.OutOfMemory told = λ place col listed at. tt

  pub damage_there : (files : Option Files) (values mask : List ℕ) (fault : ColFault) (answer : PartFault) → values ≡ values_file dataset part column
      → mask ≡ mask_file dataset part column → answer ≡ part_fault values mask fault
      → IfSome files (λ m. Tells told_by_files (λ f. column_in (width_in column.ty) part.rows (file_at m values) (file_at m mask) ≡ Err f) fault)
      → IfSome files (λ m. IsDamageThere m answer)
  damage_there None v n fault answer v_is n_is is h = tt
  damage_there (Some m) v n fault answer v_is n_is is h =
      subst (IsDamageThere m) (sym (is ∙ ap (λ x. part_fault x n fault) v_is ∙ ap (λ x. part_fault (values_file dataset part column) x fault) n_is))
      (by_fault m fault
      (subst (λ x. Tells told_by_files (λ f. column_in (width_in column.ty) part.rows (file_at m (values_file dataset part column)) (file_at m x) ≡ Err f) fault) n_is
      (subst (λ x. Tells told_by_files (λ f. column_in (width_in column.ty) part.rows (file_at m x) (file_at m n) ≡ Err f) fault) v_is h)))
