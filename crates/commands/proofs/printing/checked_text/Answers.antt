use Rattle.std.proofs.Common.{◌≡◌, ◌++◌, ℕ, List, IfOk, append_assoc, sym, ap, subst}
use Rattle.std.specs.Prelude.{codes, decimal, string_bytes}
use Rattle.ibis_answer.specs.Answer.{checked_line, hits_line}
use Rattle.commands.proofs.printing.checked_text.Goals as goal

-- the first line's end belongs to it
pub returns : goal.returns
unfolding hits_line checked_line
returns c =
    subst (λ (bytes : List ℕ). IfOk c.format.result (λ text. string_bytes text ≡ bytes))
    (ap (λ (rest : List ℕ). codes "hits " ++ rest) (sym (append_assoc (decimal c.args.hits) (codes "\n") (checked_line c.args.checked))))
    c.format.ensures.ok
