-- The names of a dataset's files, under its path.
use Rattle.std.specs.Prelude.{◌≡◌, ◌⊎◌, ℕ, ◌<◌, ◌+◌, ◌/◌, ◌%◌, Option, Some, None, List, [], ◌∷◌, ◌++◌, unwrap_or, IsNone, IsSomeAnd}
use lib.Chars.{codes}
use Rattle.fb_types.specs.Names.{IsColumnName}
use Rattle.part_meta.specs.declared.names.FileKind.{FileKind}
use Rattle.part_meta.specs.declared.names.FileKind.TheVariants.{PartText, Values, Mask, Words, Starts, Index}

-- a name in a folder, behind a slash (47)
abbrev pub under : List ℕ → List ℕ → List ℕ
under folder leaf = folder ++ 47 ∷ leaf

-- the text that lists a dataset's parts
unfoldable pub catalog_name : List ℕ → List ℕ
catalog_name dir = under dir (codes "-catalog.txt")

-- a part's number in four decimal digits
abbrev pub four_digits : ℕ → List ℕ
four_digits n = (48 + n / 1000 % 10) ∷ (48 + n / 100 % 10) ∷ (48 + n / 10 % 10) ∷ (48 + n % 10) ∷ []

-- what the folder of a part is called: `p` (112) and its number
abbrev pub folder_name : ℕ → List ℕ
folder_name part = 112 ∷ four_digits part

unfoldable pub part_folder : List ℕ → ℕ → List ℕ
part_folder dir part = under dir (folder_name part)

-- what a file of a part is called in its folder; only the part's own text is of no column
unfoldable pub leaf : FileKind → List ℕ → List ℕ
leaf PartText name = codes "-part.txt"
leaf Values name = name
leaf Mask name = name ++ codes ".msk"
leaf Words name = name ++ codes ".dic"
leaf Starts name = name ++ codes ".sp"
leaf Index name = name ++ codes ".idx"

unfoldable pub file_name : List ℕ → ℕ → Option (List ℕ) → FileKind → List ℕ
file_name dir part name kind = under (part_folder dir part) (leaf kind (unwrap_or name []))

-- a file of that kind is of a column of that name; only the part's own text is of none
abbrev pub IsCalled : FileKind → Option (List ℕ) → Type 0
IsCalled PartText name = IsNone name
IsCalled Values name = IsSomeAnd name IsColumnName
IsCalled Mask name = IsSomeAnd name IsColumnName
IsCalled Words name = IsSomeAnd name IsColumnName
IsCalled Starts name = IsSomeAnd name IsColumnName
IsCalled Index name = IsSomeAnd name IsColumnName

-- the values of a column
abbrev pub values_name : List ℕ → ℕ → List ℕ → List ℕ
values_name dir part name = file_name dir part (Some name) Values

-- which of a column's rows have a value
abbrev pub mask_name : List ℕ → ℕ → List ℕ → List ℕ
mask_name dir part name = file_name dir part (Some name) Mask

-- a column's index
abbrev pub index_name : List ℕ → ℕ → List ℕ → List ℕ
index_name dir part name = file_name dir part (Some name) Index

-- a part's own text
abbrev pub part_name : List ℕ → ℕ → List ℕ
part_name dir part = file_name dir part None PartText

-- a file of a part: its number is below 4,096, and its name is that of its kind and column
pub record IsPartFile (dir file : List ℕ) : Type 0 where
  pub part : ℕ
  pub name : Option (List ℕ)
  pub kind : FileKind
  pub below : part < 4096
  pub called : IsCalled kind name
  pub is : file ≡ file_name dir part name kind

-- a name of the table: the catalog, or a file of a part, under the path
abbrev pub IsFileOf : List ℕ → List ℕ → Type 0
IsFileOf dir file = (file ≡ catalog_name dir) ⊎ IsPartFile dir file
