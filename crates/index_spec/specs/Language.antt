-- Which specification a text spells, and what is said of a text that spells none.
use Rattle.std.specs.Prelude.{◌≡◌, ℕ, ◌≤◌, ◌<◌, ◌-◌, ◌^◌, true, ◌↔◌, if◌then◌else◌, nat_lt, List, [], ◌∷◌, length, Option, Some, None, Result, Err, ℤ, pos, negsuc, ◌≤ℤ◌, ◌<ℤ◌}
use Rattle.std.specs.Option.{option_and_then}
use Rattle.std.specs.List.{Contains, AllByRecursion}
use Rattle.index_spec.specs.Counts.{HasGroups}
use Rattle.index_spec.specs.Tokens.{tokens_of, Spells}
use Rattle.index_spec.specs.Options.{form_of, plain, IsForm}
use Rattle.index_spec.specs.Meaning.{meaning, times, rises}
use Rattle.index_spec.specs.declared.word.Word.{Word}
use Rattle.index_spec.specs.declared.word.Word.TheVariants as w
use Rattle.index_spec.specs.declared.token.Token.{Token}
use Rattle.index_spec.specs.declared.options.Value.TheVariants as v
use Rattle.index_spec.specs.declared.options.Setting.{Setting}
use Rattle.index_spec.specs.declared.options.Form.{Form}
use Rattle.index_spec.specs.declared.spec.Binning.{Binning}
use Rattle.index_spec.specs.declared.spec.Binning.TheVariants as binning
use Rattle.index_spec.specs.declared.spec.Coarse.{Coarse}
use Rattle.index_spec.specs.declared.spec.Coarse.TheVariants as coarse
use Rattle.index_spec.specs.declared.spec.EncodingSpec.{EncodingSpec}
use Rattle.index_spec.specs.declared.spec.EncodingSpec.TheVariants as encoding
use Rattle.index_spec.specs.declared.spec.Spec.{Spec}
use Rattle.index_spec.specs.declared.spec.SpecKind.{SpecKind}
use Rattle.index_spec.specs.declared.spec.SpecKind.TheVariants as kind
use Rattle.index_spec.specs.declared.spec.SpecFault.{SpecFault}
use Rattle.index_spec.specs.declared.spec.SpecFault.TheVariants as fault

-- ---- what the grammar gives

abbrev pub IsInRange : ℤ → Type 0
IsInRange z = (negsuc (2 ^ 63 - 1) ≤ℤ z) × (z ≤ℤ pos (2 ^ 64 - 1))

abbrev pub IsGivenBinning : Binning → Type 0
IsGivenBinning binning.Each = Unit {0}
IsGivenBinning (binning.Bounds bounds) = (0 < length bounds) × (length bounds ≤ 4096) × (rises bounds ≡ true) × AllByRecursion IsInRange bounds
IsGivenBinning (binning.Width start end count) = IsInRange start × IsInRange end × (start <ℤ end) × (1 ≤ count) × (count ≤ 100000)
IsGivenBinning (binning.Weight count) = (1 ≤ count) × (count ≤ 100000)
IsGivenBinning (binning.Precision digits) = (1 ≤ digits) × (digits ≤ 18)

abbrev pub IsGivenEncoding : EncodingSpec → Type 0
IsGivenEncoding encoding.Equality = Unit {0}
IsGivenEncoding encoding.Range = Unit {0}
IsGivenEncoding encoding.Interval = Unit {0}
IsGivenEncoding (encoding.TwoLevel level ncoarse) = (1 ≤ ncoarse) × (ncoarse ≤ 100000)

-- the grammar gives the specification
abbrev pub IsGiven : Spec → Type 0
IsGiven s = IsGivenBinning s.binning × IsGivenEncoding s.encoding

-- ---- the options of a specification

abbrev pub option : Word → ℤ → Setting
option name n = record { name = name; value = v.Number n }

abbrev pub binning_options : Binning → List Setting
binning_options binning.Each = plain w.Each
binning_options (binning.Bounds bounds) = record { name = w.Bounds; value = v.Numbers bounds } ∷ []
binning_options (binning.Width start end count) = option w.Start start ∷ option w.End end ∷ option w.Nbins (pos count) ∷ []
binning_options (binning.Weight count) = option w.Nbins (pos count) ∷ []
binning_options (binning.Precision digits) = option w.Precision (pos digits) ∷ []

abbrev pub coarse_word : Coarse → Word
coarse_word coarse.Equality = w.Equality
coarse_word coarse.Range = w.Range
coarse_word coarse.Interval = w.Interval

abbrev pub encoding_options : EncodingSpec → List Setting
encoding_options encoding.Equality = plain w.Equality
encoding_options encoding.Range = plain w.Range
encoding_options encoding.Interval = plain w.Interval
encoding_options (encoding.TwoLevel level ncoarse) =
    record { name = w.TwoLevel; value = v.Nothing } ∷ record { name = w.Coarse; value = v.Word (coarse_word level) } ∷ option w.Ncoarse (pos ncoarse) ∷ []

-- these options, in any order, and no option twice
pub record HasOptions (wanted settings : List Setting) : Type 0 where
  pub same : (s : Setting) → Contains settings s ↔ Contains wanted s
  pub once : (name : Word) → times name settings ≤ 1

-- ---- what a text spells

-- The text is the tokens of both elements, with the options of the specification.
pub record IsSpelledBy (s : Spec) (text : List ℕ) : Type 0 where
  pub tokens : List Token
  pub form : Form
  pub spelled : Spells text tokens
  pub formed : IsForm tokens form
  pub binning : HasOptions (binning_options s.binning) form.binning
  pub encoding : HasOptions (encoding_options s.encoding) form.encoding
  pub given : IsGiven s
  pub fits : length text ≤ 131072

-- ---- the answer for a text, as a function

abbrev pub answer_by : Option Form → Result Spec SpecKind
answer_by None = Err kind.Syntax
answer_by (Some f) = meaning f

-- the specification, or the first refusal
unfoldable pub spec_of : List ℕ → Result Spec SpecKind
spec_of text = if nat_lt 131072 (length text) then Err kind.TooLong else answer_by (option_and_then form_of (tokens_of text))

-- the refusal that a fault tells of a text; want of memory tells none
abbrev pub refusal : SpecFault → Option SpecKind
refusal (fault.Bad kind) = Some kind
refusal fault.OutOfMemory = None

-- a refusal that a text can have
abbrev pub IsToldByText : SpecFault → Type 0
IsToldByText (fault.Bad kind.Unknown) = ⊥
IsToldByText (fault.Bad kind.WrongType) = ⊥
IsToldByText _ = Unit {0}

-- what `bitmap_count` asks holds of each encoding that the grammar gives
pub HasGroups-given : (e : EncodingSpec) → IsGivenEncoding e → HasGroups e
HasGroups-given encoding.Equality given = tt
HasGroups-given encoding.Range given = tt
HasGroups-given encoding.Interval given = tt
HasGroups-given (encoding.TwoLevel level ncoarse) given = given.0
