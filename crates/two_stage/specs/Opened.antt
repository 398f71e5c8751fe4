-- What opening a file of a column answers, beside what the layers below define.
use Rattle.std.specs.Prelude.{ℕ, Bool, List, Option, Some, None, Result, Ok, Err}
use Rattle.column_file.specs.Opening.{told_by_files as told_of_column}
use Rattle.column_file.specs.declared.column.ColumnRef.{ColumnRef}
use Rattle.column_file.specs.declared.fault.ColFault.{ColFault}
use Rattle.index_file.specs.Opening.{Head}
use Rattle.index_file.specs.declared.head.IndexHead.{IndexHead}
use Rattle.index_file.specs.declared.fault.IndexFault.{IndexFault}
use Rattle.index_file.specs.declared.fault.IndexFault.TheVariants as index
use Rattle.text_column.specs.OpenedDictionary.{told_by_file as told_of_words}
use Rattle.text_column.specs.OpenedTexts.{told_by_files as told_of_texts}
use Rattle.text_column.specs.declared.fault.DicFault.{DicFault}
use Rattle.text_column.specs.declared.fault.TextFault.{TextFault}
use Rattle.text_column.specs.declared.text_ref.TextRef.{TextRef}
use Rattle.two_stage.specs.declared.fault.EvalFault.{EvalFault}
use Rattle.two_stage.specs.declared.fault.EvalFault.TheVariants.{Col, Index, Words, Text, OutOfMemory}

-- ---- what a fault tells of the files; want of memory and a failing store tell nothing

abbrev pub column_told : EvalFault → Option ColFault
column_told (Col col why) = told_of_column why
column_told why = None

abbrev pub told_of_index : IndexFault → Option IndexFault
told_of_index index.Store = None
told_of_index index.OutOfMemory = None
told_of_index why = Some why

abbrev pub index_told : EvalFault → Option IndexFault
index_told (Index col why) = told_of_index why
index_told why = None

abbrev pub words_told : EvalFault → Option DicFault
words_told (Words col why) = told_of_words why
words_told why = None

abbrev pub texts_told : EvalFault → Option TextFault
texts_told (Text col why) = told_of_texts why
texts_told why = None

-- ---- what was opened

abbrev pub opened_mask : Result ColumnRef EvalFault → Result (List Bool) EvalFault
opened_mask (Ok column) = Ok column.mask
opened_mask (Err fault) = Err fault

-- what an open index says
abbrev pub head_said : IndexHead → Head
head_said head = record { spec = head.spec; bins = head.bins; places = head.offsets }

abbrev pub opened_index : Result (Option IndexHead) EvalFault → Result (Option Head) EvalFault
opened_index (Ok None) = Ok None
opened_index (Ok (Some head)) = Ok (Some (head_said head))
opened_index (Err fault) = Err fault

abbrev pub opened_text : Result TextRef EvalFault → Result (List ℕ × List Bool) EvalFault
opened_text (Ok text) = Ok (text.starts.items, text.mask)
opened_text (Err fault) = Err fault
