use Rattle.std.proofs.Common.{sym, ◌∙◌, arith}
use Rattle.fb_outside.proofs.NameLemmas.{IsName-from_test, test-from_IsName}
use Rattle.fb_outside.proofs.file_name.has_name_form.Goals as goal

pub returns-then-text-longest : goal.returns-then-text-longest
returns-then-text-longest c = (
  λ h. IsName-from_test c.args.longest c.args.most c.args.text.now (sym c.has_pieces.ensures ∙ h) (omega arith),
  λ h. c.has_pieces.ensures ∙ test-from_IsName c.args.longest c.args.most c.args.text.now h,
)
