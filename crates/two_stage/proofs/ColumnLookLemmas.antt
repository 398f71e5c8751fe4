-- Each read of the files of a column, by whichever call, is of a file of that column.
use Rattle.std.proofs.Common.{◌≡◌, ◌⊎◌, inl, inr, ℕ, Bool, List, Option, Some, ap, ◌∙◌}
use Rattle.fb_outside.specs.Files.{Files}
use Rattle.fb_outside.specs.Reads.{Look, AddsOnly, IsWholeLook}
use Rattle.fb_outside.proofs.ReadLemmas.{AddsOnly-trans, AddsOnly-weaken}
use Rattle.column_file.specs.declared.column.ColumnRef.{ColumnRef}
use Rattle.text_column.specs.declared.text_ref.TextRef.{TextRef}
use Rattle.index_file.specs.Opening.{IsHeadLook}
use Rattle.part_meta.specs.FileNames.{file_name}
use Rattle.part_meta.specs.declared.names.FileKind.{FileKind}
use Rattle.part_meta.specs.declared.names.FileKind.TheVariants as file
use Rattle.candidates.specs.Numbers.{numbers_look}
use Rattle.candidates.specs.Reads.{IsBlockLook}
use Rattle.candidates.specs.Texts.{texts_look}
use Rattle.two_stage.specs.Placed.{IsColumnLook, Placed, index_file, mask_file, starts_file, values_file, words_file}

-- ---- one read

whole_is : (files : Option Files) (p : Placed) (kind : FileKind) (look : Look) → IsWholeLook files (file_name p.dir p.number (Some p.column.name) kind) look → IsColumnLook p look
whole_is files p kind look is = record { kind = kind; of_it = is.of_it }

either_is : (files : Option Files) (p : Placed) (look : Look) → IsWholeLook files (starts_file p) look ⊎ IsWholeLook files (mask_file p) look → IsColumnLook p look
either_is files p look (inl is) = whole_is files p file.Starts look is
either_is files p look (inr is) = whole_is files p file.Mask look is

numbers_are : (p : Placed) (column : ColumnRef) (rows : List Bool) → column.name ≡ values_file p → (look : Look) → IsBlockLook (numbers_look column) rows look → IsColumnLook p look
numbers_are p column rows e look is = record { kind = file.Values; of_it = ap (λ (l : Look). l.name) is.is ∙ e }

texts_are : (p : Placed) (text : TextRef) (rows : List Bool) → text.name ≡ values_file p → (look : Look) → IsBlockLook (texts_look text) rows look → IsColumnLook p look
texts_are p text rows e look is = record { kind = file.Values; of_it = ap (λ (l : Look). l.name) is.is ∙ e }

-- ---- the reads of a call

pub mask_looks : (files : Option Files) (p : Placed) (old new : Option (List Look)) → AddsOnly (IsWholeLook files (mask_file p)) old new → AddsOnly (IsColumnLook p) old new
mask_looks files p old new h = AddsOnly-weaken (IsWholeLook files (mask_file p)) (IsColumnLook p) old new (whole_is files p file.Mask) h

pub words_looks : (files : Option Files) (p : Placed) (old new : Option (List Look)) → AddsOnly (IsWholeLook files (words_file p)) old new → AddsOnly (IsColumnLook p) old new
words_looks files p old new h = AddsOnly-weaken (IsWholeLook files (words_file p)) (IsColumnLook p) old new (whole_is files p file.Words) h

-- of a column of texts
pub starts_looks : (files : Option Files) (p : Placed) (old new : Option (List Look))
    → AddsOnly (λ look. IsWholeLook files (starts_file p) look ⊎ IsWholeLook files (mask_file p) look) old new → AddsOnly (IsColumnLook p) old new
starts_looks files p old new h =
    AddsOnly-weaken (λ look. IsWholeLook files (starts_file p) look ⊎ IsWholeLook files (mask_file p) look) (IsColumnLook p) old new (either_is files p) h

-- of the head of an index
pub head_looks : (files : Option Files) (p : Placed) (old new : Option (List Look)) → AddsOnly (IsHeadLook files (index_file p)) old new → AddsOnly (IsColumnLook p) old new
head_looks files p old new h =
    AddsOnly-weaken (IsHeadLook files (index_file p)) (IsColumnLook p) old new (λ look is. record { kind = file.Index; of_it = is.of_it }) h

-- of its bitmaps
pub index_looks : (p : Placed) (name : List ℕ) (old new : Option (List Look)) → name ≡ index_file p → AddsOnly (λ look. look.name ≡ name) old new
    → AddsOnly (IsColumnLook p) old new
index_looks p name old new e h =
    AddsOnly-weaken (λ look. look.name ≡ name) (IsColumnLook p) old new (λ look is. record { kind = file.Index; of_it = is ∙ e }) h

-- of blocks of candidates
pub numbers_looks : (p : Placed) (column : ColumnRef) (rows : List Bool) (old new : Option (List Look)) → column.name ≡ values_file p
    → AddsOnly (IsBlockLook (numbers_look column) rows) old new → AddsOnly (IsColumnLook p) old new
numbers_looks p column rows old new e h =
    AddsOnly-weaken (IsBlockLook (numbers_look column) rows) (IsColumnLook p) old new (numbers_are p column rows e) h

pub texts_looks : (p : Placed) (text : TextRef) (rows : List Bool) (old new : Option (List Look)) → text.name ≡ values_file p
    → AddsOnly (IsBlockLook (texts_look text) rows) old new → AddsOnly (IsColumnLook p) old new
texts_looks p text rows old new e h =
    AddsOnly-weaken (IsBlockLook (texts_look text) rows) (IsColumnLook p) old new (texts_are p text rows e) h

-- the reads of two calls, one after the other
pub both_looks : (p : Placed) (old mid new : Option (List Look)) → AddsOnly (IsColumnLook p) old mid → AddsOnly (IsColumnLook p) mid new → AddsOnly (IsColumnLook p) old new
both_looks p old mid new h k = AddsOnly-trans (IsColumnLook p) old mid new h k
