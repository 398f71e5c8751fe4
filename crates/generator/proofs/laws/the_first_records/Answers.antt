use Rattle.std.proofs.Common.{ap, arith, codes, pos, [], ◌∷◌, ◌++◌}
use Rattle.std.proofs.lemmas.Fmt.{decimal_digit}
use Rattle.fb_types.specs.declared.cells.Cell.TheVariants.{Null, Whole, Word}
use Rattle.generator.specs.Generated.{generated, record_of}
use Rattle.generator.proofs.laws.the_first_records.Goals as goal

pub returns : goal.returns
unfolding generated record_of
returns c = record {
  zero = ap (λ digit. (Whole (pos 807) ∷ Word (codes "w" ++ digit) ∷ Null ∷ []) ∷ []) (decimal_digit 5 (omega arith));
}
