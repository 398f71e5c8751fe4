-- The answer for a text, by what the text spells.
use Rattle.std.proofs.Common.{◌≡◌, ℕ, ◌≤◌, ◌<◌, Bool, true, false, cond, not, ◌||◌, List, length, refl, subst, ◌∙◌, arith}
use Rattle.std.specs.Prelude.{Option, Some, None, Result, Ok, Err, nat_lt}
use Rattle.std.specs.Option.{option_and_then}
use Rattle.std.proofs.lemmas.Bool.Decides.{nat_tests}
use Rattle.index_spec.specs.declared.token.Token.{Token}
use Rattle.index_spec.specs.declared.options.Form.{Form}
use Rattle.index_spec.specs.declared.spec.Spec.{Spec}
use Rattle.index_spec.specs.declared.spec.SpecKind.{SpecKind}
use Rattle.index_spec.specs.declared.spec.SpecKind.TheVariants as kind
use Rattle.index_spec.specs.declared.spec.SpecFault.{SpecFault}
use Rattle.index_spec.specs.declared.spec.SpecFault.TheVariants as fault
use Rattle.index_spec.specs.Tokens.{tokens_of, Spells}
use Rattle.index_spec.specs.Options.{form_of, IsForm}
use Rattle.index_spec.specs.Meaning.{meaning, verdict, checked, draft, repeats, any_outside, is_counted, is_bounded}
use Rattle.answers.specs.Answers.{Answers}
use Rattle.index_spec.specs.Language.{IsSpelledBy, answer_by, spec_of, IsToldByText, refusal}
use Rattle.lexing.proofs.Cases.{chained}
use Rattle.index_spec.proofs.Spelled.{tokens_of-spelled}
use Rattle.index_spec.proofs.Reread.{spelled-tokens_of}
use Rattle.index_spec.proofs.Formed.{form_of-formed}
use Rattle.index_spec.proofs.Reformed.{formed-form_of}
use Rattle.index_spec.proofs.Told.{meaning-told}
use Rattle.index_spec.proofs.Retold.{told-meaning}

short : (text : List ℕ) → length text ≤ 131072 → nat_lt 131072 (length text) ≡ false
short text few = grind (arith, nat_tests)

not_long : (text : List ℕ) → nat_lt 131072 (length text) ≡ false → length text ≤ 131072
not_long text e = grind (arith, nat_tests)

-- the form of a text, where it has one
found_form : (text : List ℕ) (form : Form) → option_and_then form_of (tokens_of text) ≡ Some form → (tokens : List Token) × (Spells text tokens × IsForm tokens form)
found_form text form e =
    let h = chained form_of (tokens_of text) form e in
    (h.0, (tokens_of-spelled text h.0 h.1.0, form_of-formed h.0 form h.1.1))

pub spec_of-formed : (text : List ℕ) (tokens : List Token) (form : Form) → length text ≤ 131072 → Spells text tokens → IsForm tokens form → spec_of text ≡ meaning form
unfolding spec_of
spec_of-formed text tokens form few spelled formed =
    let small : nat_lt 131072 (length text) ≡ false = short text few in
    let first : tokens_of text ≡ Some tokens = spelled-tokens_of text tokens spelled in
    let second : form_of tokens ≡ Some form = formed-form_of tokens form formed in
    rw (small, first, second) refl

formless : (o : Option Form) → ((form : Form) → o ≡ Some form → ⊥) → answer_by o ≡ Err kind.Syntax
formless None none = refl
formless (Some form) none = absurd (none form refl)

pub spec_of-unformed : (text : List ℕ) → length text ≤ 131072 → ((tokens : List Token) (form : Form) → Spells text tokens → IsForm tokens form → ⊥) → spec_of text ≡ Err kind.Syntax
unfolding spec_of
spec_of-unformed text few none =
    let small : nat_lt 131072 (length text) ≡ false = short text few in
    rw small (formless (option_and_then form_of (tokens_of text)) (λ form e. let h = found_form text form e in none h.0 form h.1.0 h.1.1))

pub spec_of-spelled : (text : List ℕ) (s : Spec) → IsSpelledBy s text → spec_of text ≡ Ok s
spec_of-spelled text s is = spec_of-formed text is.tokens is.form is.fits is.spelled is.formed ∙ told-meaning is.form s is.binning is.encoding is.given

by_form : (text : List ℕ) (o : Option Form) (s : Spec) → length text ≤ 131072 → option_and_then form_of (tokens_of text) ≡ o → answer_by o ≡ Ok s → IsSpelledBy s text
by_form text None s few e told = cc
by_form text (Some form) s few e told =
    let h = found_form text form e in
    let m = meaning-told form s told in
    record { tokens = h.0; form = form; spelled = h.1.0; formed = h.1.1; binning = m.binning; encoding = m.encoding; given = m.given; fits = few }

by_length : (text : List ℕ) (test : Bool) (s : Spec) → nat_lt 131072 (length text) ≡ test → cond test (Err kind.TooLong) (answer_by (option_and_then form_of (tokens_of text))) ≡ Ok s → IsSpelledBy s text
by_length text true s e told = cc
by_length text false s e told = by_form text (option_and_then form_of (tokens_of text)) s (not_long text e) refl told

pub spelled-spec_of : (text : List ℕ) (s : Spec) → spec_of text ≡ Ok s → IsSpelledBy s text
unfolding spec_of
spelled-spec_of text s e = by_length text (nat_lt 131072 (length text)) s refl e

-- ---- the clauses of a call that gives the answer

pub gives_along : (r : Result Spec SpecFault) (a b : Result Spec SpecKind) → Answers refusal r a → a ≡ b → Answers refusal r b
gives_along r a b gives e = subst (Answers refusal r) e gives

-- ---- which refusals come

-- a refusal of a form
abbrev IsOfForm : Result Spec SpecKind → Type 0
IsOfForm (Err kind.TooLong) = ⊥
IsOfForm (Err kind.Unknown) = ⊥
IsOfForm (Err kind.WrongType) = ⊥
IsOfForm _ = Unit {0}

either : (test : Bool) (a b : Result Spec SpecKind) → IsOfForm a → IsOfForm b → IsOfForm (cond test a b)
either true a b ha hb = ha
either false a b ha hb = hb

checked_kind : (f : Form) (s : Spec) → IsOfForm (checked f s)
checked_kind f s =
    either (repeats f.binning || repeats f.encoding) (Err kind.Repeated) _ tt
    (either (any_outside f.binning || any_outside f.encoding) (Err kind.Number) _ tt
    (either (not (is_counted s)) (Err kind.Count) _ tt
    (either (not (is_bounded s.binning)) (Err kind.Bounds) (Ok s) tt tt)))

verdict_kind : (f : Form) (o : Option Spec) → IsOfForm (verdict f o)
verdict_kind f None = tt
verdict_kind f (Some s) = checked_kind f s

answer_kind : (o : Option Form) → IsOfForm (answer_by o)
unfolding meaning
answer_kind None = tt
answer_kind (Some f) = verdict_kind f (draft f)

too_long_at : (text : List ℕ) (test : Bool) → nat_lt 131072 (length text) ≡ test → cond test (Err kind.TooLong) (answer_by (option_and_then form_of (tokens_of text))) ≡ Err kind.TooLong → 131072 < length text
too_long_at text true e told = grind (arith, nat_tests)
too_long_at text false e told = absurd (subst IsOfForm told (answer_kind (option_and_then form_of (tokens_of text))))

pub spec_of-too_long : (text : List ℕ) → spec_of text ≡ Err kind.TooLong → 131072 < length text
unfolding spec_of
spec_of-too_long text e = too_long_at text (nat_lt 131072 (length text)) refl e

abbrev IsTold : Result Spec SpecKind → Type 0
IsTold (Err k) = IsToldByText (fault.Bad k)
IsTold (Ok s) = Unit {0}

told_of_form : (r : Result Spec SpecKind) → IsOfForm r → IsTold r
told_of_form (Err kind.TooLong) h = tt
told_of_form (Err kind.Unknown) h = h
told_of_form (Err kind.WrongType) h = h
told_of_form (Err _) h = tt
told_of_form (Ok s) h = tt

told_at : (test : Bool) (o : Option Form) → IsTold (cond test (Err kind.TooLong) (answer_by o))
told_at true o = tt
told_at false o = told_of_form (answer_by o) (answer_kind o)

pub spec_of-told : (text : List ℕ) (k : SpecKind) → spec_of text ≡ Err k → IsToldByText (fault.Bad k)
unfolding spec_of
spec_of-told text k e = subst IsTold e (told_at (nat_lt 131072 (length text)) (option_and_then form_of (tokens_of text)))
