use Rattle.std.proofs.Common.{◌≡◌, ◌++◌, drop, map}
use Rattle.where_grammar.specs.Printed.{more_joined, piece_of}
use Rattle.where_grammar.proofs.printing.+printing.Given as goal

abbrev pub invariant-push_parts-loop-part : goal.invariant-push_parts-loop-part
invariant-push_parts-loop-part l = l.out ++ more_joined l.word (map piece_of (drop l.part-index l.rest)) ≡ l.initial.out ++ more_joined l.word (map piece_of l.rest)
