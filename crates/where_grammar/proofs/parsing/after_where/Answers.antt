use Rattle.std.proofs.Common.{◌≡◌, List, ℕ, sym, ◌∙◌}
use Rattle.std.specs.Prelude.{Option, Some, None, IfSome}
use Rattle.std.specs.Option.{option_map}
use Rattle.where_grammar.specs.Language.{FollowsWhere, after_where}
use Rattle.where_grammar.proofs.WhereLaws.{after_where-again, after_where-told}
use Rattle.where_grammar.proofs.parsing.after_where.Goals as goal

found_follows : {A : Type 0} (now : A → List ℕ) (text : List ℕ) (o : Option A) → option_map now o ≡ after_where text → IfSome o (λ rest. FollowsWhere text (now rest))
found_follows now text None e = tt
found_follows now text (Some rest) e = after_where-told text (now rest) (sym e)

pub returns-clause-found : goal.returns-clause-found
returns-clause-found c = found_follows (λ rest. rest.now) c.args.text.now c.behind_where.result c.behind_where.ensures

pub returns-clause-only : goal.returns-clause-only
returns-clause-only c = λ rest is. c.behind_where.ensures ∙ after_where-again c.args.text.now rest is
