-- Which options a list of tokens spells.
use Rattle.std.specs.Prelude.{◌≡◌, ℕ, zero, suc, if◌then◌else◌, List, [], ◌∷◌, ◌++◌, ◌⊎◌, length, Option, Some, None, ℤ}
use Rattle.std.specs.Option.{option_map, option_and_then}
use Rattle.std.specs.List.{flat_map}
use Rattle.index_spec.specs.Words.{same_word}
use Rattle.index_spec.specs.declared.word.Word.{Word}
use Rattle.index_spec.specs.declared.word.Word.TheVariants as w
use Rattle.index_spec.specs.declared.token.Token.{Token}
use Rattle.index_spec.specs.declared.token.Token.TheVariants as t
use Rattle.index_spec.specs.declared.options.Value.{Value}
use Rattle.index_spec.specs.declared.options.Value.TheVariants as v
use Rattle.index_spec.specs.declared.options.Setting.{Setting}
use Rattle.index_spec.specs.declared.options.Form.{Form}

-- ---- how options are written

-- numbers with commas between
abbrev pub separated : List ℤ → List Token
separated [] = []
separated (n ∷ []) = t.Number n ∷ []
separated (n ∷ m ∷ more) = t.Number n ∷ t.Comma ∷ separated (m ∷ more)

abbrev pub value_tokens : Value → List Token
value_tokens v.Nothing = []
value_tokens (v.Number n) = t.Equals ∷ t.Number n ∷ []
value_tokens (v.Word word) = t.Equals ∷ t.Word word ∷ []
value_tokens (v.Numbers ns) = t.Equals ∷ t.Open ∷ (separated ns ++ t.Close ∷ [])

abbrev pub setting_tokens : Setting → List Token
setting_tokens s = t.Word s.name ∷ value_tokens s.value

-- <NAME OPTIONS/>
abbrev pub element_tokens : Word → List Setting → List Token
element_tokens name settings = t.Less ∷ t.Word name ∷ (flat_map setting_tokens settings ++ t.Slash ∷ t.Greater ∷ [])

-- an option that is its word alone
abbrev pub plain : Word → List Setting
plain name = record { name = name; value = v.Nothing } ∷ []

-- an element, or nothing in place of the one whose only option is the default
abbrev pub IsElement : Word → Word → List Token → List Setting → Type 0
IsElement name default tokens settings = (tokens ≡ element_tokens name settings) ⊎ ((tokens ≡ []) × (settings ≡ plain default))

-- A binning element, and then an encoding element.
pub record IsForm (tokens : List Token) (form : Form) : Type 0 where
  pub front : List Token
  pub back : List Token
  pub joined : tokens ≡ front ++ back
  pub binning : IsElement w.Binning w.Each front form.binning
  pub encoding : IsElement w.Encoding w.Equality back form.encoding

-- ---- the same, as a function

abbrev pub numbers_before : List ℤ → Option (List ℤ × List Token) → Option (List ℤ × List Token)
numbers_before front = option_map (λ f. (front ++ f.0, f.1))

-- numbers with commas between, up to a closing parenthesis, and the tokens after it
abbrev pub numbers_at : List Token → Option (List ℤ × List Token)
numbers_at (t.Number n ∷ t.Close ∷ ts) = Some (n ∷ [], ts)
numbers_at (t.Number n ∷ t.Comma ∷ ts) = numbers_before (n ∷ []) (numbers_at ts)
numbers_at _ = None

unfoldable pub value_at : List Token → Option (Value × List Token)
value_at (t.Equals ∷ t.Number n ∷ ts) = Some (v.Number n, ts)
value_at (t.Equals ∷ t.Word word ∷ ts) = Some (v.Word word, ts)
value_at (t.Equals ∷ t.Open ∷ t.Close ∷ ts) = Some (v.Numbers [], ts)
value_at (t.Equals ∷ t.Open ∷ ts) = option_map (λ f. (v.Numbers f.0, f.1)) (numbers_at ts)
value_at ts = Some (v.Nothing, ts)

unfoldable pub setting_at : List Token → Option (Setting × List Token)
setting_at (t.Word name ∷ ts) = option_map (λ f. (record { name = name; value = f.0 }, f.1)) (value_at ts)
setting_at _ = None

abbrev pub settings_before : List Setting → Option (List Setting × List Token) → Option (List Setting × List Token)
settings_before front = option_map (λ f. (front ++ f.0, f.1))

-- what follows the end of an element
abbrev pub after_end : List Token → Option (List Token)
after_end (t.Slash ∷ t.Greater ∷ ts) = Some ts
after_end _ = None

abbrev pub ended_or : Option (List Token) → Option (List Setting × List Token) → Option (List Setting × List Token)
ended_or (Some rest) more = Some ([], rest)
ended_or None more = more

-- options up to the end of the element, at most n of them, and the tokens after it
abbrev pub settings_within : ℕ → List Token → Option (List Setting × List Token)
settings_within zero ts = ended_or (after_end ts) None
settings_within (suc n) ts = ended_or (after_end ts) (option_and_then (λ f. settings_before (f.0 ∷ []) (settings_within n f.1)) (setting_at ts))

unfoldable pub settings_of : List Token → Option (List Setting × List Token)
settings_of ts = settings_within (length ts) ts

-- the options of the element at the front, and the tokens after it
unfoldable pub element_at : Word → Word → List Token → Option (List Setting × List Token)
element_at name default (t.Less ∷ t.Word word ∷ ts) = if same_word word name then settings_of ts else Some (plain default, t.Less ∷ t.Word word ∷ ts)
element_at name default ts = Some (plain default, ts)

abbrev pub whole : List Setting → Option (List Setting × List Token) → Option Form
whole binning (Some (encoding, [])) = Some (record { binning = binning; encoding = encoding })
whole binning _ = None

unfoldable pub form_of : List Token → Option Form
form_of ts = option_and_then (λ b. whole b.0 (element_at w.Encoding w.Equality b.1)) (element_at w.Binning w.Each ts)
