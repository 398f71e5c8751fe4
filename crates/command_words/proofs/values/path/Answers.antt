use Rattle.std.proofs.Common.{sym, ◌∙◌}
use Rattle.command_words.proofs.PathLemmas.{a_path, no_name, no_path}
use Rattle.command_words.proofs.values.path.Goals as goal

pub returns-in_default-clause-path : goal.returns-in_default-clause-path
returns-in_default-clause-path c =
    no_name c.args.word.now c.in_ok-name.field-0 c.in_default.is c.in_ok-name.ensures.named.1

pub returns-then-is_path-clause-path : goal.returns-then-is_path-clause-path
returns-then-is_path-clause-path c =
    a_path c.args.word.now c.in-Some.name (rw c.in-Some.is at c.in_ok-name.ensures.bytes) (c.is_path.ensures.0 c.if-is_path.true)

pub returns-else-is_path-clause-path : goal.returns-else-is_path-clause-path
returns-else-is_path-clause-path c =
    no_path c.args.word.now c.in-Some.name (rw c.in-Some.is at c.in_ok-name.ensures.bytes) (λ path. sym c.if-is_path.false ∙ c.is_path.ensures.1 path)
