-- What a load reads: the file that it names, and the texts of its dataset.
use Rattle.std.specs.Prelude.{◌≡◌, ◌⊎◌, ℕ, List, Option, Some, None}
use Rattle.fb_outside.specs.Reads.{Look}
use Rattle.command_words.specs.declared.Load.{Load}
use Rattle.dataset.specs.Opened.{IsTextLook}

abbrev pub IsInputLook : Option (List ℕ) → Look → Type 0
IsInputLook None look = ⊥
IsInputLook (Some name) look = look.name ≡ name

abbrev pub IsLoadLook : Load → Look → Type 0
IsLoadLook load look = IsInputLook load.file look ⊎ IsTextLook load.dir look
