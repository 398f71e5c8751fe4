use Rattle.where_grammar.proofs.TextLaws.{gives_tokens, gives_refused, has_tokens, no_tokens, along}
use Rattle.where_grammar.proofs.token.tokens.Goals as goal

pub returns-clause-found : goal.returns-clause-found
returns-clause-found c = gives_tokens c.args.text.now c.lexed.result c.lexed.ensures

pub returns-clause-only : goal.returns-clause-only
returns-clause-only c = λ ts has. along c.lexed.result _ _ c.lexed.ensures (has_tokens c.args.text.now ts has)

pub returns-clause-refused : goal.returns-clause-refused
returns-clause-refused c = gives_refused c.args.text.now c.lexed.result c.lexed.ensures

pub returns-clause-refuses : goal.returns-clause-refuses
returns-clause-refuses c = λ k no. along c.lexed.result _ _ c.lexed.ensures (no_tokens c.args.text.now k no)
