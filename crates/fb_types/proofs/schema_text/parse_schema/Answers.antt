use Rattle.std.proofs.lemmas.Result.{MatchResult-weaker}
use Rattle.fb_types.proofs.FaultFacts.{first_so}
use Rattle.fb_types.proofs.SchemaLaws.{only_so, spelled_so}
use Rattle.fb_types.proofs.schema_text.parse_schema.Goals as goal

pub returns-clause-spelled : goal.returns-clause-spelled
returns-clause-spelled c = spelled_so c.args.text.now c.read.result (rw c.as_bytes.ensures.value at c.read.ensures.ok)

pub returns-clause-only : goal.returns-clause-only
returns-clause-only c = only_so c.args.text.now c.read.result (rw c.as_bytes.ensures.value at c.read.ensures.ok) (rw c.as_bytes.ensures.value at c.read.ensures.bad)

pub returns-clause-first : goal.returns-clause-first
returns-clause-first c = MatchResult-weaker c.read.result (rw c.as_bytes.ensures.value at c.read.ensures.bad) (λ schema h. h) (λ fault h. first_so c.args.text.now fault h)
