use Rattle.std.proofs.Common.{◌≡◌, eqb, codes, true, sym, ◌∙◌}
use Rattle.std.specs.List.{ends_with}
use Rattle.command_words.proofs.PathLemmas.{csv_found}
use Rattle.command_words.proofs.values.csv_path.Goals as goal

pub returns-then-ends_with-clause-path : goal.returns-then-ends_with-clause-path
returns-then-ends_with-clause-path c =
    let ends : ends_with eqb c.args.word.now (codes ".csv") ≡ true =
    rw c.as_bytes.ensures.value at (sym c.ends_with.ensures.value ∙ c.if-ends_with.true) in
    csv_found c.args.word.now _ ends c.path.ensures.path c.path.ensures.valid
