-- The form that tokens have is the one that the function gives.
use Rattle.std.proofs.Common.{◌≡◌, true, List, [], ◌∷◌, ◌++◌, refl, sym, ap, subst, ◌∙◌, inl, inr, append_assoc, append-nil, ℤ}
use Rattle.std.specs.Prelude.{Some}
use Rattle.std.specs.Option.{option_map}
use Rattle.std.specs.List.{flat_map}
use denote.Enum.Bare.{true_same}
use Rattle.index_spec.specs.contracts.word.Word.{the_type}
use Rattle.index_spec.specs.declared.word.Word.{Word}
use Rattle.index_spec.specs.declared.word.Word.TheVariants as w
use Rattle.index_spec.specs.declared.token.Token.{Token}
use Rattle.index_spec.specs.declared.token.Token.TheVariants as t
use Rattle.index_spec.specs.declared.options.Value.{Value}
use Rattle.index_spec.specs.declared.options.Value.TheVariants as v
use Rattle.index_spec.specs.declared.options.Setting.{Setting}
use Rattle.index_spec.specs.declared.options.Form.{Form}
use Rattle.index_spec.specs.Words.{same_word}
use Rattle.index_spec.specs.Options.{separated, value_tokens, setting_tokens, element_tokens, plain, IsElement, IsForm, numbers_at, numbers_before, value_at, setting_at, settings_before, settings_of, element_at, form_of}
use Rattle.index_spec.proofs.Elements.{settings_of-ended, settings_of-more}

numbers_again : (n : ℤ) (ns : List ℤ) (rest : List Token) → numbers_at (separated (n ∷ ns) ++ (t.Close ∷ rest)) ≡ Some (n ∷ ns, rest)
numbers_again n [] rest = refl
numbers_again n (m ∷ ms) rest = ap (numbers_before (n ∷ [])) (numbers_again m ms rest)

-- no value goes on here
abbrev GoesOn : List Token → Type 0
GoesOn (t.Equals ∷ ts) = ⊥
GoesOn _ = Unit {0}

nothing_again : (rest : List Token) → GoesOn rest → value_at rest ≡ Some (v.Nothing, rest)
unfolding value_at
nothing_again (t.Equals ∷ ts) h = absurd h
nothing_again _ h = refl

list_again : (ns : List ℤ) (rest : List Token) → value_at (t.Equals ∷ (t.Open ∷ (separated ns ++ (t.Close ∷ rest)))) ≡ Some (v.Numbers ns, rest)
unfolding value_at
list_again [] rest = refl
list_again (n ∷ []) rest = ap (option_map (λ f. (v.Numbers f.0, f.1))) (numbers_again n [] rest)
list_again (n ∷ m ∷ ms) rest = ap (option_map (λ f. (v.Numbers f.0, f.1))) (numbers_again n (m ∷ ms) rest)

value_again : (value : Value) (rest : List Token) → GoesOn rest → value_at (value_tokens value ++ rest) ≡ Some (value, rest)
unfolding value_at
value_again v.Nothing rest h = nothing_again rest h
value_again (v.Number n) rest h = refl
value_again (v.Word word) rest h = refl
value_again (v.Numbers ns) rest h = ap (λ x. value_at (t.Equals ∷ (t.Open ∷ x))) (append_assoc (separated ns) (t.Close ∷ []) rest) ∙ list_again ns rest

setting_again : (s : Setting) (rest : List Token) → GoesOn rest → setting_at (setting_tokens s ++ rest) ≡ Some (s, rest)
unfolding setting_at
setting_again s rest h = ap (option_map (λ f. (record { name = s.name; value = f.0 }, f.1))) (value_again s.value rest h)

options_go_on : (ss : List Setting) (rest : List Token) → GoesOn (flat_map setting_tokens ss ++ (t.Slash ∷ (t.Greater ∷ rest)))
options_go_on [] rest = tt
options_go_on (s ∷ ss) rest = tt

settings_again : (ss : List Setting) (rest : List Token) → settings_of (flat_map setting_tokens ss ++ (t.Slash ∷ (t.Greater ∷ rest))) ≡ Some (ss, rest)
settings_again [] rest = settings_of-ended (t.Slash ∷ (t.Greater ∷ rest)) rest refl
settings_again (s ∷ ss) rest =
    let others = flat_map setting_tokens ss ++ (t.Slash ∷ (t.Greater ∷ rest)) in
    let cut : flat_map setting_tokens (s ∷ ss) ++ (t.Slash ∷ (t.Greater ∷ rest)) ≡ setting_tokens s ++ others = append_assoc (setting_tokens s) (flat_map setting_tokens ss) (t.Slash ∷ (t.Greater ∷ rest)) in
    let here = setting_again s others (options_go_on ss rest) in
    ap settings_of cut ∙ (settings_of-more (setting_tokens s ++ others) others s refl here ∙ ap (settings_before (s ∷ [])) (settings_again ss rest))

same_word_refl : (a : Word) → same_word a a ≡ true
same_word_refl a = true_same the_type a a refl

present_again : (name default : Word) (ss : List Setting) (rest : List Token) → element_at name default (element_tokens name ss ++ rest) ≡ Some (ss, rest)
unfolding element_at
present_again name default ss rest =
    let same : same_word name name ≡ true = same_word_refl name in
    let cut : (flat_map setting_tokens ss ++ (t.Slash ∷ (t.Greater ∷ []))) ++ rest ≡ flat_map setting_tokens ss ++ (t.Slash ∷ (t.Greater ∷ rest)) = append_assoc (flat_map setting_tokens ss) (t.Slash ∷ (t.Greater ∷ [])) rest in
    rw same (ap settings_of cut ∙ settings_again ss rest)

abbrev ElementAt : Word → Word → List Token → List Token → List Setting → Type 0
ElementAt name default rest front ss = element_at name default (front ++ rest) ≡ Some (ss, rest)

-- an encoding element is no binning element
binning_again : (front back : List Token) (binning encoding : List Setting) → IsElement w.Binning w.Each front binning → IsElement w.Encoding w.Equality back encoding → ElementAt w.Binning w.Each back front binning
unfolding element_at
binning_again front back binning encoding (inl is) _ = subst (λ x. ElementAt w.Binning w.Each back x binning) (sym is) (present_again w.Binning w.Each binning back)
binning_again front back binning encoding (inr (none, plain_one)) (inl is) =
    subst (λ x. ElementAt w.Binning w.Each back x binning) (sym none) (subst (λ x. element_at w.Binning w.Each back ≡ Some (x, back)) (sym plain_one) (subst (λ x. element_at w.Binning w.Each x ≡ Some (plain w.Each, x)) (sym is) refl))
binning_again front back binning encoding (inr (none, plain_one)) (inr (empty, _)) =
    subst (λ x. ElementAt w.Binning w.Each back x binning) (sym none) (subst (λ x. element_at w.Binning w.Each back ≡ Some (x, back)) (sym plain_one) (subst (λ x. element_at w.Binning w.Each x ≡ Some (plain w.Each, x)) (sym empty) refl))

encoding_again : (back : List Token) (encoding : List Setting) → IsElement w.Encoding w.Equality back encoding → element_at w.Encoding w.Equality back ≡ Some (encoding, [])
unfolding element_at
encoding_again back encoding (inl is) =
    ap (element_at w.Encoding w.Equality) (is ∙ sym (append-nil (element_tokens w.Encoding encoding))) ∙ present_again w.Encoding w.Equality encoding []
encoding_again back encoding (inr (empty, plain_one)) =
    ap (element_at w.Encoding w.Equality) empty ∙ ap (λ x. Some (x, [])) (sym plain_one)

pub formed-form_of : (ts : List Token) (form : Form) → IsForm ts form → form_of ts ≡ Some form
unfolding form_of
formed-form_of ts form is =
    let first : element_at w.Binning w.Each ts ≡ Some (form.binning, is.back) = ap (element_at w.Binning w.Each) is.joined ∙ binning_again is.front is.back form.binning form.encoding is.binning is.encoding in
    let second : element_at w.Encoding w.Equality is.back ≡ Some (form.encoding, []) = encoding_again is.back form.encoding is.encoding in
    rw first (rw second refl)
