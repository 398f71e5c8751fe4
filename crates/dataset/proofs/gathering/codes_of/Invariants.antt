use Rattle.std.proofs.Common.{◌≡◌, ◌≤◌, All, length, map, take}
use Rattle.fb_types.specs.declared.types.ColType.TheVariants.{Category}
use Rattle.column_file.specs.Values.{ValueFits}
use Rattle.world.specs.Cells.{code_of, dictionary_of}
use Rattle.dataset.proofs.CodeLemmas.{AllCoded}
use Rattle.dataset.proofs.gathering.codes_of.Given as goal

abbrev pub invariant-loop-row : goal.invariant-loop-row
invariant-loop-row l = record {
  words : l.words ≡ dictionary_of (take l.row l.part.cells);
  codes : l.codes.items ≡ map (code_of l.words) (take l.row l.part.cells);
  coded : AllCoded l.words (take l.row l.part.cells);
  few : length l.words ≤ l.row;
  fit : All (λ code. ValueFits code Category) l.codes.items;
}
