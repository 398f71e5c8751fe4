-- The one printed form of a specification.
use Rattle.std.specs.Prelude.{ℕ, List, [], ◌∷◌, ◌++◌, ℤ, codes}
use Rattle.std.specs.Fmt.{decimal, signed_decimal}
use Rattle.index_spec.specs.declared.spec.Binning.{Binning}
use Rattle.index_spec.specs.declared.spec.Binning.TheVariants as binning
use Rattle.index_spec.specs.declared.spec.Coarse.{Coarse}
use Rattle.index_spec.specs.declared.spec.Coarse.TheVariants as coarse
use Rattle.index_spec.specs.declared.spec.EncodingSpec.{EncodingSpec}
use Rattle.index_spec.specs.declared.spec.EncodingSpec.TheVariants as encoding
use Rattle.index_spec.specs.declared.spec.Spec.{Spec}

-- a comma before each
abbrev pub comma_each : List ℤ → List ℕ
comma_each [] = []
comma_each (n ∷ more) = codes "," ++ (signed_decimal n ++ comma_each more)

-- with commas between
abbrev pub joined : List ℤ → List ℕ
joined [] = []
joined (n ∷ more) = signed_decimal n ++ comma_each more

unfoldable pub printed_binning : Binning → List ℕ
printed_binning binning.Each = codes "none"
printed_binning (binning.Bounds bounds) = codes "bounds=(" ++ (joined bounds ++ codes ")")
printed_binning (binning.Width start end count) = codes "start=" ++ (signed_decimal start ++ (codes " end=" ++ (signed_decimal end ++ (codes " nbins=" ++ decimal count))))
printed_binning (binning.Weight count) = codes "nbins=" ++ decimal count
printed_binning (binning.Precision digits) = codes "precision=" ++ decimal digits

unfoldable pub coarse_text : Coarse → List ℕ
coarse_text coarse.Equality = codes "equality"
coarse_text coarse.Range = codes "range"
coarse_text coarse.Interval = codes "interval"

unfoldable pub printed_encoding : EncodingSpec → List ℕ
printed_encoding encoding.Equality = codes "equality"
printed_encoding encoding.Range = codes "range"
printed_encoding encoding.Interval = codes "interval"
printed_encoding (encoding.TwoLevel level ncoarse) = codes "two-level coarse=" ++ (coarse_text level ++ (codes " ncoarse=" ++ decimal ncoarse))

unfoldable pub printed : Spec → List ℕ
printed s = codes "<binning " ++ (printed_binning s.binning ++ (codes "/><encoding " ++ (printed_encoding s.encoding ++ codes "/>")))
