-- What opening a dictionary gives over files that are told.
use Rattle.std.specs.Prelude.{◌≡◌, ℕ, List, Option, Some, None, Result, Ok, Err}
use Rattle.text_column.specs.DictionaryFile.{dictionary_in}
use Rattle.text_column.specs.declared.fault.DicFault.{DicFault}
use Rattle.text_column.specs.declared.fault.DicFault.TheVariants.{Missing, Store, OutOfMemory}

-- the words of a dictionary's file, or its first fault
abbrev pub dictionary_of : Option (List ℕ) → Result (List (List ℕ)) DicFault
dictionary_of None = Err Missing
dictionary_of (Some bytes) = dictionary_in bytes

-- what a fault tells of the file; want of memory and a failing store tell nothing
abbrev pub told_by_file : DicFault → Option DicFault
told_by_file Store = None
told_by_file OutOfMemory = None
told_by_file fault = Some fault

-- what reading bytes may answer: nothing that only a store can tell
abbrev pub StopsReadingWords : DicFault → Type 0
StopsReadingWords Missing = ⊥
StopsReadingWords Store = ⊥
StopsReadingWords fault = Unit {0}
