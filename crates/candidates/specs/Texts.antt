-- A column of texts whose candidates are read.
use Rattle.std.specs.Prelude.{◌≡◌, ◌≢◌, ⊤, ℕ, Bool, List, Option, Some, length, map, nat_lt, slice_index}
use Rattle.fb_outside.specs.Files.{Files, told_at}
use Rattle.fb_outside.specs.Reads.{Look}
use Rattle.fb_types.specs.declared.cells.Cell.TheVariants.{Word}
use Rattle.text_column.specs.Texts.{size_between, starts_of, text_file}
use Rattle.text_column.specs.declared.fault.TextFault.TheVariants as why
use Rattle.text_column.specs.declared.text_ref.TextRef.{TextRef}
use Rattle.where_grammar.specs.Holds.{is_met}
use Rattle.where_grammar.specs.declared.clause.Atom.{Atom}
use Rattle.candidates.specs.declared.fault.FindFault.{FindFault}
use Rattle.candidates.specs.declared.fault.FindFault.TheVariants.{Texts, OutOfMemory}

-- the text file of an open column has these texts, one a row
pub record HasTexts (files : Option Files) (opened : TextRef) (texts : List (List ℕ)) : Type 0 where
  pub told : told_at files opened.name ≡ Some (text_file texts)
  pub starts : opened.starts.items ≡ starts_of texts

-- whether the condition is true of a text
abbrev pub meets : Atom → List ℕ → Bool
meets condition text = is_met condition (Word text)

-- whether each row's text meets the condition, over a file that has texts
pub record AreTextTests (files : Option Files) (opened : TextRef) (condition : Atom) (tests : List Bool) : Type 0 where
  pub texts : List (List ℕ)
  pub there : HasTexts files opened texts
  pub are : tests ≡ map (meets condition) texts

-- the bytes of rows from one up to another
abbrev pub texts_look : TextRef → ℕ × ℕ → Look
texts_look opened rows =
    record { name = opened.name; offset = slice_index opened.starts.items rows.0; room = size_between opened.starts.items rows.0 rows.1 }

-- rows whose texts are all empty aren't read
abbrev pub have_bytes : TextRef → ℕ × ℕ → Bool
have_bytes opened rows = nat_lt 0 (size_between opened.starts.items rows.0 rows.1)

-- the store failed, memory ran out, or the text file hasn't the length that the last start says
abbrev pub StopsTexts : Option Files → TextRef → FindFault → Type 0
StopsTexts files opened (Texts why.Store) = ⊤
StopsTexts files opened (Texts why.ShortRead) =
    (bytes : List ℕ) → told_at files opened.name ≡ Some bytes → length bytes ≢ slice_index opened.starts.items opened.rows
StopsTexts files opened OutOfMemory = ⊤
StopsTexts files opened fault = ⊥
