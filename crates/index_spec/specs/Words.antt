-- The words of a specification, and how each is written.
use Rattle.std.specs.Prelude.{ℕ, Bool, List, Option, codes}
use Rattle.std.specs.List.{find}
use Rattle.std.specs.Str.{bytes_eq}
use denote.Enum.Bare.{sameb}
use Rattle.index_spec.specs.contracts.word.Word.{the_type}
use Rattle.index_spec.specs.declared.word.Word.{Word}
use Rattle.index_spec.specs.declared.word.Word.TheVariants.{Binning, Encoding, Each, Bounds, Start, End, Nbins, Precision, Equality, Range, Interval, TwoLevel, Coarse, Ncoarse}
use Rattle.index_spec.specs.declared.word.TheConstants.{WORDS}

unfoldable pub spelling : Word → List ℕ
spelling Binning = codes "binning"
spelling Encoding = codes "encoding"
spelling Each = codes "none"
spelling Bounds = codes "bounds"
spelling Start = codes "start"
spelling End = codes "end"
spelling Nbins = codes "nbins"
spelling Precision = codes "precision"
spelling Equality = codes "equality"
spelling Range = codes "range"
spelling Interval = codes "interval"
spelling TwoLevel = codes "two-level"
spelling Coarse = codes "coarse"
spelling Ncoarse = codes "ncoarse"

abbrev pub same_word : Word → Word → Bool
same_word = sameb the_type

-- the word that is written so
unfoldable pub word_of : List ℕ → Option Word
word_of text = find (λ w. bytes_eq (spelling w) text) WORDS
