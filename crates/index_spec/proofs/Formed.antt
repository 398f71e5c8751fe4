-- The form that the function gives is the one that the tokens have.
use Rattle.std.proofs.Common.{◌≡◌, ℕ, zero, suc, ◌<◌, true, List, [], ◌∷◌, ◌++◌, ◌⊎◌, length, refl, sym, ap, subst, ◌∙◌, inl, inr, append_assoc, append-nil, arith, ℤ}
use Rattle.std.specs.Prelude.{Option, Some, None}
use Rattle.std.specs.Option.{option_and_then}
use Rattle.std.specs.List.{flat_map}
use denote.Enum.Bare.{same_true}
use Rattle.index_spec.specs.contracts.word.Word.{the_type}
use Rattle.index_spec.specs.declared.word.Word.{Word}
use Rattle.index_spec.specs.declared.word.Word.TheVariants as w
use Rattle.index_spec.specs.declared.token.Token.{Token}
use Rattle.index_spec.specs.declared.token.Token.TheVariants as t
use Rattle.index_spec.specs.declared.options.Value.{Value}
use Rattle.index_spec.specs.declared.options.Value.TheVariants as v
use Rattle.index_spec.specs.declared.options.Setting.{Setting}
use Rattle.index_spec.specs.declared.options.Form.{Form}
use Rattle.index_spec.specs.Words.{same_word}
use Rattle.index_spec.specs.Options.{separated, value_tokens, setting_tokens, element_tokens, plain, IsElement, IsForm, numbers_at, value_at, setting_at, settings_before, after_end, ended_or, settings_within, settings_of, element_at, whole, form_of}
use Rattle.lexing.proofs.Cases.{chosen, mapped, chained}

-- ---- what is read is written so

record NumbersAre (ts : List Token) (found : List ℤ × List Token) : Type 0 where
  is : ts ≡ separated found.0 ++ (t.Close ∷ found.1)
  some : 0 < length found.0

numbers_go_on : (n : ℤ) (ns : List ℤ) (ts rest : List Token) → 0 < length ns → ts ≡ separated ns ++ (t.Close ∷ rest) → t.Number n ∷ (t.Comma ∷ ts) ≡ separated (n ∷ ns) ++ (t.Close ∷ rest)
numbers_go_on n [] ts rest some e = absurd (omega arith)
numbers_go_on n (m ∷ ms) ts rest some e = ap (λ x. t.Number n ∷ (t.Comma ∷ x)) e

numbers_are : (ts : List Token) (found : List ℤ × List Token) → numbers_at ts ≡ Some found → NumbersAre ts found
numbers_are (t.Number n ∷ t.Close ∷ ts) found e =
    let same : (n ∷ [], ts) ≡ found = cc in
    subst (NumbersAre (t.Number n ∷ (t.Close ∷ ts))) same (record { is = refl; some = omega arith })
numbers_are (t.Number n ∷ t.Comma ∷ ts) found e =
    let h = mapped (λ f. ((n ∷ []) ++ f.0, f.1)) (numbers_at ts) found e in
    let more = numbers_are ts h.0 h.1.0 in
    subst (NumbersAre (t.Number n ∷ (t.Comma ∷ ts))) h.1.1 (record { is = numbers_go_on n h.0.0 ts h.0.1 more.some more.is; some = omega arith })
numbers_are _ found e = cc

abbrev ValueIs : List Token → Value × List Token → Type 0
ValueIs ts found = ts ≡ value_tokens found.0 ++ found.1

value_is : (ts : List Token) (found : Value × List Token) → value_at ts ≡ Some found → ValueIs ts found
unfolding value_at
value_is (t.Equals ∷ t.Number n ∷ ts) found e = let same : (v.Number n, ts) ≡ found = cc in subst (ValueIs (t.Equals ∷ (t.Number n ∷ ts))) same refl
value_is (t.Equals ∷ t.Word word ∷ ts) found e = let same : (v.Word word, ts) ≡ found = cc in subst (ValueIs (t.Equals ∷ (t.Word word ∷ ts))) same refl
value_is (t.Equals ∷ t.Open ∷ t.Close ∷ ts) found e = let same : (v.Numbers [], ts) ≡ found = cc in subst (ValueIs (t.Equals ∷ (t.Open ∷ (t.Close ∷ ts)))) same refl
value_is (t.Equals ∷ t.Open ∷ ts) found e =
    let h = mapped (λ f. (v.Numbers f.0, f.1)) (numbers_at ts) found e in
    let is = numbers_are ts h.0 h.1.0 in
    subst (ValueIs (t.Equals ∷ (t.Open ∷ ts))) h.1.1 (ap (λ x. t.Equals ∷ (t.Open ∷ x)) (is.is ∙ sym (append_assoc (separated h.0.0) (t.Close ∷ []) h.0.1)))
value_is ts found e = let same : (v.Nothing, ts) ≡ found = cc in subst (ValueIs ts) same refl

abbrev SettingIs : List Token → Setting × List Token → Type 0
SettingIs ts found = ts ≡ setting_tokens found.0 ++ found.1

setting_is : (ts : List Token) (found : Setting × List Token) → setting_at ts ≡ Some found → SettingIs ts found
unfolding setting_at
setting_is (t.Word name ∷ ts) found e =
    let h = mapped (λ f. (record { name = name; value = f.0 }, f.1)) (value_at ts) found e in
    subst (SettingIs (t.Word name ∷ ts)) h.1.1 (ap (λ x. t.Word name ∷ x) (value_is ts h.0 h.1.0))
setting_is _ found e = cc

after_end_is : (ts rest : List Token) → after_end ts ≡ Some rest → ts ≡ t.Slash ∷ (t.Greater ∷ rest)
after_end_is (t.Slash ∷ t.Greater ∷ ts) rest e = let same : ts ≡ rest = cc in ap (λ x. t.Slash ∷ (t.Greater ∷ x)) same
after_end_is _ rest e = cc

abbrev SettingsAre : List Token → List Setting × List Token → Type 0
SettingsAre ts found = ts ≡ flat_map setting_tokens found.0 ++ (t.Slash ∷ (t.Greater ∷ found.1))

ended_is : (end : Option (List Token)) (more : Option (List Setting × List Token)) (found : List Setting × List Token) → ended_or end more ≡ Some found
    → ((rest : List Token) × ((end ≡ Some rest) × (([], rest) ≡ found))) ⊎ (more ≡ Some found)
ended_is None more found e = inr e
ended_is (Some rest) more found e = inl (rest, (refl, cc))

settings_at_end : (ts rest : List Token) (found : List Setting × List Token) → after_end ts ≡ Some rest → ([], rest) ≡ found → SettingsAre ts found
settings_at_end ts rest found e same = subst (SettingsAre ts) same (after_end_is ts rest e)

settings_are : (n : ℕ) (ts : List Token) (found : List Setting × List Token) → settings_within n ts ≡ Some found → SettingsAre ts found
settings_are zero ts found e =
    elim (ended_is (after_end ts) None found e) [ inl h ↦ settings_at_end ts h.0 found h.1.0 h.1.1 | inr h ↦ cc ]
settings_are (suc n) ts found e =
    let after : Setting × List Token → Option (List Setting × List Token) = λ f. settings_before (f.0 ∷ []) (settings_within n f.1) in
    elim (ended_is (after_end ts) (option_and_then after (setting_at ts)) found e) [
      | inl h ↦ settings_at_end ts h.0 found h.1.0 h.1.1
      | inr h ↦ (
          let first = chained after (setting_at ts) found h in
          let more = mapped (λ f. ((first.0.0 ∷ []) ++ f.0, f.1)) (settings_within n first.0.1) found first.1.1 in
          let others = settings_are n first.0.1 more.0 more.1.0 in
          let here = setting_is ts first.0 first.1.0 in
          subst (SettingsAre ts) more.1.1 (here ∙ (ap (λ x. setting_tokens first.0.0 ++ x) others ∙ sym (append_assoc (setting_tokens first.0.0) (flat_map setting_tokens more.0.0) (t.Slash ∷ (t.Greater ∷ more.0.1))))))
    ]

-- the element at the front
record ElementIs (name default : Word) (ts : List Token) (found : List Setting × List Token) : Type 0 where
  front : List Token
  joined : ts ≡ front ++ found.1
  is : IsElement name default front found.0

same_word_is : (a b : Word) → same_word a b ≡ true → a ≡ b
same_word_is a b e = same_true the_type tt a b e

present : (name default : Word) (ts : List Token) (found : List Setting × List Token) → settings_of ts ≡ Some found → ElementIs name default (t.Less ∷ (t.Word name ∷ ts)) found
unfolding settings_of
present name default ts found e =
    let is = settings_are (length ts) ts found e in
    let tokens = flat_map setting_tokens found.0 in
    record {
      front = element_tokens name found.0;
      joined = ap (λ x. t.Less ∷ (t.Word name ∷ x)) (is ∙ sym (append_assoc tokens (t.Slash ∷ (t.Greater ∷ [])) found.1));
      is = inl refl;
    }

absent : (name default : Word) (ts : List Token) (found : List Setting × List Token) → Some (plain default, ts) ≡ Some found → ElementIs name default ts found
absent name default ts found e =
    let same : (plain default, ts) ≡ found = cc in
    subst (ElementIs name default ts) same (record { front = []; joined = refl; is = inr (refl, refl) })

element_is : (name default : Word) (ts : List Token) (found : List Setting × List Token) → element_at name default ts ≡ Some found → ElementIs name default ts found
unfolding element_at
element_is name default (t.Less ∷ t.Word word ∷ ts) found e =
    elim (chosen (same_word word name) (settings_of ts) (Some (plain default, t.Less ∷ (t.Word word ∷ ts))) (Some found) e) [
      | inl h ↦ (let same : name ≡ word = sym (same_word_is word name h.0) in
          subst (λ x. ElementIs name default (t.Less ∷ (t.Word x ∷ ts)) found) same (present name default ts found h.1))
      | inr h ↦ absent name default (t.Less ∷ (t.Word word ∷ ts)) found h.1
    ]
element_is name default ts found e = absent name default ts found e

whole_is : (binning : List Setting) (o : Option (List Setting × List Token)) (form : Form) → whole binning o ≡ Some form → (encoding : List Setting) × ((o ≡ Some (encoding, [])) × (record { binning = binning; encoding = encoding } ≡ form))
whole_is binning (Some (encoding, [])) form e = (encoding, (refl, cc))
whole_is binning _ form e = cc

pub form_of-formed : (ts : List Token) (form : Form) → form_of ts ≡ Some form → IsForm ts form
unfolding form_of
form_of-formed ts form e =
    let h = chained (λ b. whole b.0 (element_at w.Encoding w.Equality b.1)) (element_at w.Binning w.Each ts) form e in
    let g = whole_is h.0.0 (element_at w.Encoding w.Equality h.0.1) form h.1.1 in
    let first = element_is w.Binning w.Each ts h.0 h.1.0 in
    let second = element_is w.Encoding w.Equality h.0.1 (g.0, []) g.1.0 in
    subst (IsForm ts) g.1.1 (record {
      front = first.front;
      back = second.front;
      joined = first.joined ∙ ap (λ x. first.front ++ x) (second.joined ∙ append-nil second.front);
      binning = first.is;
      encoding = second.is;
    })
