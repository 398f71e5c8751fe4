use Rattle.index_file.proofs.SpecTextLemmas.{spec_in-untold}
use Rattle.index_file.proofs.parts.spec_of_text.Goals as goal

pub returns-in_default-clause-exact : goal.returns-in_default-clause-exact
returns-in_default-clause-exact c = spec_in-untold c.args.bytes.now c.in_default.ensures.cases.0
