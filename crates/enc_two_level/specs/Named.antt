-- The specification that an encoding is of.
use Rattle.index_spec.specs.declared.spec.EncodingSpec.{EncodingSpec}
use Rattle.index_spec.specs.declared.spec.EncodingSpec.TheVariants as specs
use Rattle.enc_two_level.specs.declared.any.AnyEncoding.{AnyEncoding}
use Rattle.enc_two_level.specs.declared.any.AnyEncoding.TheVariants.{Equality, Range, Interval, TwoLevel}

abbrev pub named : AnyEncoding → EncodingSpec
named Equality = specs.Equality
named Range = specs.Range
named Interval = specs.Interval
named (TwoLevel levels) = specs.TwoLevel levels.coarse levels.ncoarse
