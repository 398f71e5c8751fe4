use Rattle.std.proofs.Common.{subst}
use Rattle.std.specs.Str.{IsUtf8}
use Rattle.where_grammar.proofs.Boundaries.{behind_blanks, behind_word}
use Rattle.where_grammar.proofs.parsing.behind_where.Goals as goal

pub split_at-requires : goal.split_at-requires
split_at-requires c = rw (c.blanks_len.ensures.value, c.as_bytes.ensures.value) (behind_blanks c.args.text.now c.utf8.text)

pub split_at-requires-2 : goal.split_at-requires-2
split_at-requires-2 c =
    rw (c.word_len.ensures.value, c.as_bytes-2.ensures.value) (behind_word c.split_at.result.1.now (subst IsUtf8 c.as_bytes-2.ensures.value c.as_bytes-2.ensures.utf8))
