-- Encodings of one level and of two.
use Rattle.index_spec.specs.declared.spec.Coarse.{Coarse}
use Rattle.index_spec.specs.declared.spec.Coarse.TheVariants as coarse
use Rattle.index_spec.specs.declared.spec.EncodingSpec.{EncodingSpec}
use Rattle.index_spec.specs.declared.spec.EncodingSpec.TheVariants.{Equality, Range, Interval}

-- the encoding of one level
abbrev pub one_level : Coarse → EncodingSpec
one_level coarse.Equality = Equality
one_level coarse.Range = Range
one_level coarse.Interval = Interval
