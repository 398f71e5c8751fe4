-- The spans of what a condition asks for.
use Rattle.std.specs.Prelude.{◌≡◌, ℕ, Bool, false, ◌&&◌, List, length, Option, Some, None, ℤ, pos, negsuc}
use Rattle.fb_types.specs.declared.cells.Cell.TheVariants.{Whole, Word}
use Rattle.binning.specs.declared.span_lists.Span.{Span}
use Rattle.binning.specs.Spans.{AreApart, has, in_span}
use Rattle.text_column.specs.Words.{word_in}
use Rattle.where_grammar.specs.declared.clause.Atom.{Atom}
use Rattle.where_grammar.specs.Holds.{is_met}

-- spans that rise and stand apart, whose numbers are exactly the numbers between both ends that pass the test
pub record AreSpansOf (ends : Span) (test : ℤ → Bool) (spans : List Span) : Type 0 where
  pub apart : AreApart spans
  pub numbers : (n : ℤ) → has spans n ≡ (in_span n ends && test n)

-- the numbers of the spans, in whatever form, are exactly those between both ends that pass the test
abbrev pub HaveOnly : Span → (ℤ → Bool) → List Span → Type 0
HaveOnly ends test spans = (n : ℤ) → has spans n ≡ (in_span n ends && test n)

abbrev pub span : ℤ → ℤ → Span
span least greatest = record { least = least; greatest = greatest }

-- the condition is true of the number
abbrev pub number_meets : Atom → ℤ → Bool
number_meets condition n = is_met condition (Whole n)

-- ---- codes of words

-- the codes that words have
abbrev pub code_range : List (List ℕ) → Span
code_range words = span (pos 1) (pos (length words))

-- there is a word, and it passes the test
abbrev pub some_passes : (List ℕ → Bool) → Option (List ℕ) → Bool
some_passes test None = false
some_passes test (Some word) = test word

-- the word of the code passes the test
abbrev pub code_passes : (List ℕ → Bool) → List (List ℕ) → ℤ → Bool
code_passes test words (pos code) = some_passes test (word_in words code)
code_passes test words (negsuc n) = false

-- the condition is true of the word of the code
abbrev pub code_meets : Atom → List (List ℕ) → ℤ → Bool
code_meets condition words code = code_passes (λ word. is_met condition (Word word)) words code

-- the codes whose words pass the test, as spans in whatever form and as spans that stand apart
abbrev pub HaveCodes : List (List ℕ) → (List ℕ → Bool) → List Span → Type 0
HaveCodes words test spans = HaveOnly (code_range words) (code_passes test words) spans

abbrev pub AreCodes : List (List ℕ) → (List ℕ → Bool) → List Span → Type 0
AreCodes words test spans = AreSpansOf (code_range words) (code_passes test words) spans
