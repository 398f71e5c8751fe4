-- What the options of a form say, or the first thing that is wrong with them.
use Rattle.std.specs.Prelude.{ℕ, ◌-◌, ◌^◌, Bool, true, false, not, ◌&&◌, ◌||◌, if◌then◌else◌, nat_lt, nat_le, int_lt, List, [], ◌∷◌, length, drop, Option, Some, None, Result, Ok, Err, ℤ, pos, negsuc}
use Rattle.std.specs.Option.{option_map, option_and_then}
use Rattle.std.specs.List.{find, list_all, list_any, count_by, zip}
use Rattle.index_spec.specs.Words.{same_word}
use Rattle.index_spec.specs.declared.word.Word.{Word}
use Rattle.index_spec.specs.declared.word.Word.TheVariants as w
use Rattle.index_spec.specs.declared.word.TheConstants.{WORDS}
use Rattle.index_spec.specs.declared.options.Value.{Value}
use Rattle.index_spec.specs.declared.options.Value.TheVariants as v
use Rattle.index_spec.specs.declared.options.Setting.{Setting}
use Rattle.index_spec.specs.declared.options.Form.{Form}
use Rattle.index_spec.specs.declared.spec.Binning.{Binning}
use Rattle.index_spec.specs.declared.spec.Binning.TheVariants as binning
use Rattle.index_spec.specs.declared.spec.Coarse.{Coarse}
use Rattle.index_spec.specs.declared.spec.Coarse.TheVariants as coarse
use Rattle.index_spec.specs.declared.spec.EncodingSpec.{EncodingSpec}
use Rattle.index_spec.specs.declared.spec.EncodingSpec.TheVariants as encoding
use Rattle.index_spec.specs.declared.spec.Spec.{Spec}
use Rattle.index_spec.specs.declared.spec.SpecKind.{SpecKind}
use Rattle.index_spec.specs.declared.spec.SpecKind.TheVariants as kind

-- ---- the sets of options

-- whether the option's word takes such a value
abbrev pub fits : Word → Value → Bool
fits w.Each v.Nothing = true
fits w.Equality v.Nothing = true
fits w.Range v.Nothing = true
fits w.Interval v.Nothing = true
fits w.TwoLevel v.Nothing = true
fits w.Start (v.Number n) = true
fits w.End (v.Number n) = true
fits w.Nbins (v.Number n) = true
fits w.Precision (v.Number n) = true
fits w.Ncoarse (v.Number n) = true
fits w.Coarse (v.Word w.Equality) = true
fits w.Coarse (v.Word w.Range) = true
fits w.Coarse (v.Word w.Interval) = true
fits w.Bounds (v.Numbers (n ∷ ns)) = true
fits _ _ = false

abbrev pub all_fit : List Setting → Bool
all_fit = list_all (λ s. fits s.name s.value)

abbrev pub has : Word → List Setting → Bool
has name = list_any (λ s. same_word s.name name)

abbrev pub is_among : Word → List Word → Bool
is_among name = list_any (λ n. same_word name n)

abbrev pub are_among : List Word → List Setting → Bool
are_among names = list_all (λ s. is_among s.name names)

abbrev pub has_all : List Word → List Setting → Bool
has_all names settings = list_all (λ n. has n settings) names

-- the options are these, in any order, repeats left aside
abbrev pub is_set : List Word → List Setting → Bool
is_set names settings = are_among names settings && has_all names settings

-- how often an option stands
abbrev pub times : Word → List Setting → ℕ
times name = count_by (λ s. same_word s.name name)

abbrev pub repeats : List Setting → Bool
repeats settings = list_any (λ name. nat_lt 1 (times name settings)) WORDS

-- ---- values

-- the value of the first option of this name
abbrev pub lookup : Word → List Setting → Option Value
lookup name settings = option_map (λ s. s.value) (find (λ s. same_word s.name name) settings)

abbrev pub number_in : Option Value → ℤ
number_in (Some (v.Number n)) = n
number_in _ = pos 0

abbrev pub number_named : Word → List Setting → ℤ
number_named name settings = number_in (lookup name settings)

abbrev pub numbers_in : Option Value → List ℤ
numbers_in (Some (v.Numbers ns)) = ns
numbers_in _ = []

abbrev pub numbers_named : Word → List Setting → List ℤ
numbers_named name settings = numbers_in (lookup name settings)

abbrev pub coarse_in : Option Value → Coarse
coarse_in (Some (v.Word w.Range)) = coarse.Range
coarse_in (Some (v.Word w.Interval)) = coarse.Interval
coarse_in _ = coarse.Equality

abbrev pub coarse_named : Word → List Setting → Coarse
coarse_named name settings = coarse_in (lookup name settings)

-- a count that is out of range stands as 0, which no specification has
abbrev pub within : ℕ → ℤ → ℕ
within limit (pos n) = if nat_le n limit then n else 0
within limit (negsuc n) = 0

-- ---- the specification

unfoldable pub draft_binning : List Setting → Option Binning
draft_binning ss =
    if is_set (w.Each ∷ []) ss then Some binning.Each
    else (if is_set (w.Bounds ∷ []) ss then Some (binning.Bounds (numbers_named w.Bounds ss))
    else (if is_set (w.Start ∷ w.End ∷ w.Nbins ∷ []) ss then Some (binning.Width (number_named w.Start ss) (number_named w.End ss) (within 100000 (number_named w.Nbins ss)))
    else (if is_set (w.Nbins ∷ []) ss then Some (binning.Weight (within 100000 (number_named w.Nbins ss)))
    else (if is_set (w.Precision ∷ []) ss then Some (binning.Precision (within 18 (number_named w.Precision ss)))
    else None))))

unfoldable pub draft_encoding : List Setting → Option EncodingSpec
draft_encoding ss =
    if is_set (w.Equality ∷ []) ss then Some encoding.Equality
    else (if is_set (w.Range ∷ []) ss then Some encoding.Range
    else (if is_set (w.Interval ∷ []) ss then Some encoding.Interval
    else (if is_set (w.TwoLevel ∷ w.Coarse ∷ w.Ncoarse ∷ []) ss then Some (encoding.TwoLevel (coarse_named w.Coarse ss) (within 100000 (number_named w.Ncoarse ss)))
    else None)))

-- None where the options aren't one of the sets
unfoldable pub draft : Form → Option Spec
draft f =
    if all_fit f.binning && all_fit f.encoding
    then option_and_then (λ e. option_map (λ b. record { binning = b; encoding = e }) (draft_binning f.binning)) (draft_encoding f.encoding)
    else None

-- ---- what is wrong, in order

abbrev pub outside : ℤ → Bool
outside z = int_lt z (negsuc (2 ^ 63 - 1)) || int_lt (pos (2 ^ 64 - 1)) z

abbrev pub has_outside : Value → Bool
has_outside (v.Number n) = outside n
has_outside (v.Numbers ns) = list_any outside ns
has_outside _ = false

abbrev pub any_outside : List Setting → Bool
any_outside = list_any (λ s. has_outside s.value)

abbrev pub is_binning_counted : Binning → Bool
is_binning_counted (binning.Width start end count) = nat_lt 0 count && int_lt start end
is_binning_counted (binning.Weight count) = nat_lt 0 count
is_binning_counted (binning.Precision digits) = nat_lt 0 digits
is_binning_counted _ = true

abbrev pub is_encoding_counted : EncodingSpec → Bool
is_encoding_counted (encoding.TwoLevel level ncoarse) = nat_lt 0 ncoarse
is_encoding_counted _ = true

abbrev pub is_counted : Spec → Bool
is_counted s = is_binning_counted s.binning && is_encoding_counted s.encoding

-- each number is below the next
abbrev pub rises : List ℤ → Bool
rises ns = list_all (λ p. int_lt p.0 p.1) (zip ns (drop 1 ns))

abbrev pub is_bounded : Binning → Bool
is_bounded (binning.Bounds bounds) = nat_le (length bounds) 4096 && rises bounds
is_bounded _ = true

abbrev pub checked : Form → Spec → Result Spec SpecKind
checked f s =
    if repeats f.binning || repeats f.encoding then Err kind.Repeated
    else (if any_outside f.binning || any_outside f.encoding then Err kind.Number
    else (if not (is_counted s) then Err kind.Count
    else (if not (is_bounded s.binning) then Err kind.Bounds
    else Ok s)))

abbrev pub verdict : Form → Option Spec → Result Spec SpecKind
verdict f None = Err kind.Syntax
verdict f (Some s) = checked f s

unfoldable pub meaning : Form → Result Spec SpecKind
meaning f = verdict f (draft f)
