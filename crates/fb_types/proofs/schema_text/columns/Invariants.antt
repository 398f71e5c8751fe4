use Rattle.std.proofs.Common.{◌≡◌, [], length, map, take, Ok}
use Rattle.fb_types.specs.SchemaText.{each_column}
use Rattle.fb_types.proofs.schema_text.columns.Given as goal

abbrev pub invariant-loop-at : goal.invariant-loop-at
invariant-loop-at l = record {
  count : length l.columns.items ≡ l.at;
  read : each_column [] (take l.at (map (λ item. item.now) l.items)) ≡ map Ok l.columns.items;
}
