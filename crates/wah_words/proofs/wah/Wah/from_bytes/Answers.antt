use Rattle.std.proofs.Common.{subst, ap, ◌∙◌}
use Rattle.wah_words.specs.Bytes.{vector_at, Reads}
use Rattle.wah_words.proofs.BytesLemmas.{read_takes, read_uses, vector_again}
use Rattle.wah_words.proofs.wah.Wah.from_bytes.Goals as goal

pub returns-clause-found : goal.returns-clause-found
returns-clause-found c = read_takes c.args.bytes.now c.read_vector.result (λ i. (c.type_inv.bytes i).fits) c.read_vector.ensures

pub returns-clause-used : goal.returns-clause-used
returns-clause-used c = read_uses c.args.bytes.now c.read_vector.result (λ i. (c.type_inv.bytes i).fits) c.read_vector.ensures

pub returns-clause-only : goal.returns-clause-only
returns-clause-only c = λ v rest within e. subst (λ r. Reads c.read_vector.result r) (ap vector_at e ∙ vector_again v rest within) c.read_vector.ensures
