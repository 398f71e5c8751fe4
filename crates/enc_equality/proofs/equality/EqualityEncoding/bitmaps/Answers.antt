use Rattle.std.proofs.Common.{◌∙◌}
use Rattle.binning.specs.Encodings.{vectors}
use Rattle.binning.proofs.MembersLemmas.{all_bins}
use Rattle.enc_equality.proofs.equality.EqualityEncoding.bitmaps.Goals as goal

pub returns-clause-bitmaps : goal.returns-clause-bitmaps
returns-clause-bitmaps g c = λ apart. c.in_ok-copies.ensures ∙ all_bins c.args.rows (vectors c.args.bins.now) apart
