-- What a writer of the two files of a text column holds.
use Rattle.std.specs.Prelude.{◌≡◌, ℕ, List}
use Rattle.text_column.specs.declared.text_files.TextFiles.{TextFiles}
use Rattle.text_column.specs.Texts.{starts_bytes, starts_of, text_file}

-- the bytes of the two files of a column with these texts
pub record AreFilesOf (files : TextFiles) (texts : List (List ℕ)) : Type 0 where
  pub text : files.text.items ≡ text_file texts
  pub starts : files.starts.items ≡ starts_bytes (starts_of texts)
