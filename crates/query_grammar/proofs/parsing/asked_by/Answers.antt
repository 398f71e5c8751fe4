use Rattle.std.proofs.Common.{sym}
use Rattle.where_grammar.specs.Parsing.{bare}
use Rattle.query_grammar.specs.Reading.{seen_parts}
use Rattle.query_grammar.proofs.QueryLaws.{parts_room_if}
use Rattle.query_grammar.proofs.parsing.asked_by.Goals as goal

pub asked_of-requires : goal.asked_of-requires
asked_of-requires c = parts_room_if (bare c.args.tokens.now) (seen_parts c.in-Some.parts) (sym (rw c.in-Some.is at c.in_ok-parts.ensures)) c.requires
