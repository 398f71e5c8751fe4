use Rattle.std.proofs.Common.{◌≡◌, ◌<◌, ℕ, List, length, subst}
use Rattle.std.specs.Prelude.{Result, Ok, Err, IfOk, IfErr}
use Rattle.index_spec.specs.declared.spec.Spec.{Spec}
use Rattle.index_spec.specs.declared.spec.SpecFault.{SpecFault}
use Rattle.index_spec.specs.declared.spec.SpecFault.TheVariants as fault
use Rattle.index_spec.specs.declared.spec.SpecKind.TheVariants as kind
use Rattle.answers.specs.Answers.{Answers}
use Rattle.index_spec.specs.Language.{IsSpelledBy, IsGiven, IsToldByText, spec_of, refusal}
use Rattle.index_spec.proofs.Laws.{spec_of-formed, spec_of-unformed, spec_of-spelled, spelled-spec_of, spec_of-too_long, spec_of-told, gives_along}
use Rattle.index_spec.proofs.parsing.parse_spec.Goals as goal

spelled : (text : List ℕ) (r : Result Spec SpecFault) → Answers refusal r (spec_of text) → IfOk r (λ s. IsSpelledBy s text × IsGiven s)
spelled text (Ok s) gives = let is = spelled-spec_of text s gives in (is, is.given)
spelled text (Err e) gives = tt

pub returns-clause-found : goal.returns-clause-found
returns-clause-found c = spelled c.args.text.now c.parsed.result c.parsed.ensures.gives

pub returns-clause-only : goal.returns-clause-only
returns-clause-only c = λ s is. gives_along c.parsed.result _ _ c.parsed.ensures.gives (spec_of-spelled c.args.text.now s is)

pub returns-clause-unformed : goal.returns-clause-unformed
returns-clause-unformed c = λ few none. gives_along c.parsed.result _ _ c.parsed.ensures.gives (spec_of-unformed c.args.text.now few none)

pub returns-clause-formed : goal.returns-clause-formed
returns-clause-formed c = λ few tokens form spelled formed. gives_along c.parsed.result _ _ c.parsed.ensures.gives (spec_of-formed c.args.text.now tokens form few spelled formed)

too_long : (text : List ℕ) (r : Result Spec SpecFault) → Answers refusal r (spec_of text) → r ≡ Err (fault.Bad kind.TooLong) → 131072 < length text
too_long text r gives e = spec_of-too_long text (subst (λ x. Answers refusal x (spec_of text)) e gives)

pub returns-clause-too_long : goal.returns-clause-too_long
returns-clause-too_long c = (c.parsed.ensures.long, too_long c.args.text.now c.parsed.result c.parsed.ensures.gives)

told : (text : List ℕ) (r : Result Spec SpecFault) → Answers refusal r (spec_of text) → IfErr r IsToldByText
told text (Ok s) gives = tt
told text (Err fault.OutOfMemory) gives = tt
told text (Err (fault.Bad k)) gives = spec_of-told text k gives

pub returns-clause-kinds : goal.returns-clause-kinds
returns-clause-kinds c = told c.args.text.now c.parsed.result c.parsed.ensures.gives
