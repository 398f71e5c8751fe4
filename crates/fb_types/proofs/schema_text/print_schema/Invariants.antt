use Rattle.std.proofs.Common.{◌≡◌, take, map}
use Rattle.std.specs.List.{join_with_byte}
use Rattle.fb_types.specs.SchemaText.{column_text}
use Rattle.fb_types.proofs.schema_text.print_schema.Given as goal

abbrev pub invariant-loop-at : goal.invariant-loop-at
invariant-loop-at l = l.text.items ≡ join_with_byte 44 (map column_text (take l.at l.column-items))
