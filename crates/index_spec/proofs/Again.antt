-- The printed form of a specification that the grammar gives is spelled as it.
use Rattle.std.proofs.Common.{◌≡◌, ℕ, ◌+◌, ◌*◌, ◌≤◌, ◌<◌, Bool, true, false, cond, List, [], ◌∷◌, ◌++◌, length, refl, sym, ap, subst, ◌∙◌, inl, append_assoc, append-nil, length-append, arith, ℤ, pos}
use Rattle.std.specs.Prelude.{codes}
use Rattle.std.specs.List.{AllByRecursion, flat_map}
use Rattle.std.specs.Fmt.{decimal, signed_decimal}
use Rattle.index_spec.specs.declared.word.Word.{Word}
use Rattle.index_spec.specs.declared.word.Word.TheVariants as w
use Rattle.index_spec.specs.declared.token.Token.{Token}
use Rattle.index_spec.specs.declared.token.Token.TheVariants as t
use Rattle.index_spec.specs.declared.options.Setting.{Setting}
use Rattle.index_spec.specs.declared.options.Form.{Form}
use Rattle.index_spec.specs.declared.spec.Binning.{Binning}
use Rattle.index_spec.specs.declared.spec.Binning.TheVariants as binning
use Rattle.index_spec.specs.declared.spec.Coarse.{Coarse}
use Rattle.index_spec.specs.declared.spec.Coarse.TheVariants as coarse
use Rattle.index_spec.specs.declared.spec.EncodingSpec.{EncodingSpec}
use Rattle.index_spec.specs.declared.spec.EncodingSpec.TheVariants as encoding
use Rattle.index_spec.specs.declared.spec.Spec.{Spec}
use Rattle.index_spec.specs.Words.{spelling, same_word}
use Rattle.index_spec.specs.Tokens.{Spells}
use Rattle.index_spec.specs.Options.{separated, setting_tokens, element_tokens}
use Rattle.index_spec.specs.Meaning.{times}
use Rattle.index_spec.specs.Printed.{comma_each, joined, printed_binning, coarse_text, printed_encoding, printed}
use Rattle.index_spec.specs.Language.{IsInRange, IsGivenBinning, IsGivenEncoding, IsGiven, binning_options, coarse_word, encoding_options, IsSpelledBy}
use Rattle.index_spec.proofs.Put.{put, put_blank, put_number, put_number_in, count_in_range, length-number}

-- ---- lists of bounds

list_spelled : (n : ℤ) (more : List ℤ) (rest : List ℕ) (ts : List Token) → AllByRecursion IsInRange (n ∷ more) → Spells (41 ∷ rest) (t.Close ∷ ts) → Spells ((signed_decimal n ++ comma_each more) ++ (41 ∷ rest)) (separated (n ∷ more) ++ (t.Close ∷ ts))
list_spelled n [] rest ts range spells = put_number_in n [] (41 ∷ rest) (t.Close ∷ ts) range.0 refl spells
list_spelled n (m ∷ ms) rest ts range spells =
    let others = list_spelled m ms rest ts range.1 spells in
    put_number_in n (comma_each (m ∷ ms)) (41 ∷ rest) (t.Comma ∷ (separated (m ∷ ms) ++ (t.Close ∷ ts))) range.0 refl
    (put t.Comma (44 ∷ []) ((signed_decimal m ++ comma_each ms) ++ (41 ∷ rest)) (separated (m ∷ ms) ++ (t.Close ∷ ts)) refl tt others)

joined_spelled : (bounds : List ℤ) (rest : List ℕ) (ts : List Token) → 0 < length bounds → AllByRecursion IsInRange bounds → Spells (41 ∷ rest) (t.Close ∷ ts) → Spells (joined bounds ++ (41 ∷ rest)) (separated bounds ++ (t.Close ∷ ts))
joined_spelled [] rest ts some range spells = absurd (omega arith)
joined_spelled (n ∷ more) rest ts some range spells = list_spelled n more rest ts range spells

-- ---- options

-- a word, =, and what follows
assigned : (word : Word) (rest : List ℕ) (ts : List Token) → Spells rest ts → Spells (spelling word ++ (61 ∷ rest)) (t.Word word ∷ (t.Equals ∷ ts))
assigned word rest ts spells = put (t.Word word) (spelling word) (61 ∷ rest) (t.Equals ∷ ts) refl refl (put t.Equals (61 ∷ []) rest ts refl tt spells)

word_alone : (word : Word) (rest : List ℕ) (ts : List Token) → Spells (47 ∷ rest) ts → Spells (spelling word ++ (47 ∷ rest)) (t.Word word ∷ ts)
word_alone word rest ts spells = put (t.Word word) (spelling word) (47 ∷ rest) ts refl refl spells

-- the options of an element, before its end
abbrev Before : List ℕ → List Setting → Type 0
Before text settings = (rest : List ℕ) (ts : List Token) → Spells (47 ∷ rest) ts → Spells (text ++ (47 ∷ rest)) (flat_map setting_tokens settings ++ ts)

bounds_spelled : (bounds : List ℤ) (rest : List ℕ) (ts : List Token) → 0 < length bounds → AllByRecursion IsInRange bounds → Spells (47 ∷ rest) ts
    → Spells (printed_binning (binning.Bounds bounds) ++ (47 ∷ rest)) (flat_map setting_tokens (binning_options (binning.Bounds bounds)) ++ ts)
unfolding printed_binning spelling
bounds_spelled bounds rest ts some range spells =
    let closed : Spells (41 ∷ (47 ∷ rest)) (t.Close ∷ ts) = put t.Close (41 ∷ []) (47 ∷ rest) ts refl tt spells in
    let list = joined_spelled bounds (47 ∷ rest) ts some range closed in
    let opened = put t.Open (40 ∷ []) (joined bounds ++ (41 ∷ (47 ∷ rest))) (separated bounds ++ (t.Close ∷ ts)) refl tt list in
    let all = assigned w.Bounds (40 ∷ (joined bounds ++ (41 ∷ (47 ∷ rest)))) (t.Open ∷ (separated bounds ++ (t.Close ∷ ts))) opened in
    let tokens : (separated bounds ++ (t.Close ∷ [])) ++ ts ≡ separated bounds ++ (t.Close ∷ ts) = append_assoc (separated bounds) (t.Close ∷ []) ts in
    let flat : ((separated bounds ++ (t.Close ∷ [])) ++ []) ++ ts ≡ separated bounds ++ (t.Close ∷ ts) = ap (λ x. x ++ ts) (append-nil (separated bounds ++ (t.Close ∷ []))) ∙ tokens in
    let text : (joined bounds ++ (41 ∷ [])) ++ (47 ∷ rest) ≡ joined bounds ++ (41 ∷ (47 ∷ rest)) = append_assoc (joined bounds) (41 ∷ []) (47 ∷ rest) in
    subst (λ x. Spells (spelling w.Bounds ++ (61 ∷ (40 ∷ x))) (flat_map setting_tokens (binning_options (binning.Bounds bounds)) ++ ts)) (sym text)
    (subst (λ x. Spells (spelling w.Bounds ++ (61 ∷ (40 ∷ (joined bounds ++ (41 ∷ (47 ∷ rest)))))) (t.Word w.Bounds ∷ (t.Equals ∷ (t.Open ∷ x)))) (sym flat) all)

width_spelled : (start end : ℤ) (count : ℕ) (rest : List ℕ) (ts : List Token) → IsInRange start → IsInRange end → count ≤ 100000 → Spells (47 ∷ rest) ts
    → Spells (printed_binning (binning.Width start end count) ++ (47 ∷ rest)) (flat_map setting_tokens (binning_options (binning.Width start end count)) ++ ts)
unfolding printed_binning spelling
width_spelled start end count rest ts a b c spells =
    let r : List ℕ = 47 ∷ rest in
    let third : List ℕ = codes " nbins=" ++ decimal count in
    let second : List ℕ = codes " end=" ++ (signed_decimal end ++ third) in
    let third_tokens : List Token = t.Word w.Nbins ∷ (t.Equals ∷ (t.Number (pos count) ∷ ts)) in
    let second_tokens : List Token = t.Word w.End ∷ (t.Equals ∷ (t.Number end ∷ third_tokens)) in
    let last = put_blank (spelling w.Nbins ++ (61 ∷ (decimal count ++ r))) third_tokens (assigned w.Nbins (decimal count ++ r) (t.Number (pos count) ∷ ts) (put_number (pos count) r ts (count_in_range count c) refl spells)) in
    let middle = put_blank (spelling w.End ++ (61 ∷ ((signed_decimal end ++ third) ++ r))) second_tokens (assigned w.End ((signed_decimal end ++ third) ++ r) (t.Number end ∷ third_tokens) (put_number_in end third r third_tokens b refl last)) in
    assigned w.Start ((signed_decimal start ++ second) ++ r) (t.Number start ∷ second_tokens) (put_number_in start second r second_tokens a refl middle)

binning_spelled : (b : Binning) → IsGivenBinning b → Before (printed_binning b) (binning_options b)
unfolding printed_binning spelling
binning_spelled binning.Each given rest ts spells = word_alone w.Each rest ts spells
binning_spelled (binning.Bounds bounds) given rest ts spells = bounds_spelled bounds rest ts given.0 given.3 spells
binning_spelled (binning.Width start end count) given rest ts spells = width_spelled start end count rest ts given.0 given.1 given.4 spells
binning_spelled (binning.Weight count) given rest ts spells =
    assigned w.Nbins (decimal count ++ (47 ∷ rest)) (t.Number (pos count) ∷ ts) (put_number (pos count) (47 ∷ rest) ts (count_in_range count given.1) refl spells)
binning_spelled (binning.Precision digits) given rest ts spells =
    let small = given.1 in
    assigned w.Precision (decimal digits ++ (47 ∷ rest)) (t.Number (pos digits) ∷ ts) (put_number (pos digits) (47 ∷ rest) ts (count_in_range digits (omega arith)) refl spells)

-- a level's word before a blank
level_spelled : (level : Coarse) (rest : List ℕ) (ts : List Token) → Spells (32 ∷ rest) ts → Spells (coarse_text level ++ (32 ∷ rest)) (t.Word (coarse_word level) ∷ ts)
unfolding coarse_text spelling
level_spelled coarse.Equality rest ts spells = put (t.Word w.Equality) (spelling w.Equality) (32 ∷ rest) ts refl refl spells
level_spelled coarse.Range rest ts spells = put (t.Word w.Range) (spelling w.Range) (32 ∷ rest) ts refl refl spells
level_spelled coarse.Interval rest ts spells = put (t.Word w.Interval) (spelling w.Interval) (32 ∷ rest) ts refl refl spells

two_level_spelled : (level : Coarse) (count : ℕ) → count ≤ 100000 → Before (printed_encoding (encoding.TwoLevel level count)) (encoding_options (encoding.TwoLevel level count))
unfolding printed_encoding spelling
two_level_spelled level count small rest ts spells =
    let r : List ℕ = 47 ∷ rest in
    let third_tokens : List Token = t.Word w.Ncoarse ∷ (t.Equals ∷ (t.Number (pos count) ∷ ts)) in
    let second_tokens : List Token = t.Word w.Coarse ∷ (t.Equals ∷ (t.Word (coarse_word level) ∷ third_tokens)) in
    let third : List ℕ = codes " ncoarse=" ++ (decimal count ++ r) in
    let last = put_blank (spelling w.Ncoarse ++ (61 ∷ (decimal count ++ r))) third_tokens (assigned w.Ncoarse (decimal count ++ r) (t.Number (pos count) ∷ ts) (put_number (pos count) r ts (count_in_range count small) refl spells)) in
    let middle = level_spelled level (codes "ncoarse=" ++ (decimal count ++ r)) third_tokens last in
    let text : (coarse_text level ++ (codes " ncoarse=" ++ decimal count)) ++ r ≡ coarse_text level ++ third = append_assoc (coarse_text level) (codes " ncoarse=" ++ decimal count) r in
    let second : List ℕ = spelling w.Coarse ++ (61 ∷ (coarse_text level ++ third)) in
    let named = put_blank second second_tokens (assigned w.Coarse (coarse_text level ++ third) (t.Word (coarse_word level) ∷ third_tokens) middle) in
    let all = put (t.Word w.TwoLevel) (spelling w.TwoLevel) (32 ∷ second) second_tokens refl refl named in
    subst (λ x. Spells (spelling w.TwoLevel ++ (32 ∷ (spelling w.Coarse ++ (61 ∷ x)))) (flat_map setting_tokens (encoding_options (encoding.TwoLevel level count)) ++ ts)) (sym text) all

encoding_spelled : (e : EncodingSpec) → IsGivenEncoding e → Before (printed_encoding e) (encoding_options e)
unfolding printed_encoding spelling
encoding_spelled encoding.Equality given rest ts spells = word_alone w.Equality rest ts spells
encoding_spelled encoding.Range given rest ts spells = word_alone w.Range rest ts spells
encoding_spelled encoding.Interval given rest ts spells = word_alone w.Interval rest ts spells
encoding_spelled (encoding.TwoLevel level count) given rest ts spells = two_level_spelled level count given.1 rest ts spells

-- ---- each option stands once

one_at_most : (test : Bool) → 0 + cond test 1 0 ≤ 1
one_at_most true = omega arith
one_at_most false = omega arith

binning_once : (b : Binning) (name : Word) → times name (binning_options b) ≤ 1
binning_once binning.Each name = one_at_most (same_word w.Each name)
binning_once (binning.Bounds bounds) name = one_at_most (same_word w.Bounds name)
binning_once (binning.Width start end count) w.Start = omega arith
binning_once (binning.Width start end count) w.End = omega arith
binning_once (binning.Width start end count) w.Nbins = omega arith
binning_once (binning.Width start end count) _ = omega arith
binning_once (binning.Weight count) name = one_at_most (same_word w.Nbins name)
binning_once (binning.Precision digits) name = one_at_most (same_word w.Precision name)

encoding_once : (e : EncodingSpec) (name : Word) → times name (encoding_options e) ≤ 1
encoding_once encoding.Equality name = one_at_most (same_word w.Equality name)
encoding_once encoding.Range name = one_at_most (same_word w.Range name)
encoding_once encoding.Interval name = one_at_most (same_word w.Interval name)
encoding_once (encoding.TwoLevel level count) w.TwoLevel = omega arith
encoding_once (encoding.TwoLevel level count) w.Coarse = omega arith
encoding_once (encoding.TwoLevel level count) w.Ncoarse = omega arith
encoding_once (encoding.TwoLevel level count) _ = omega arith

-- ---- the whole form

abbrev form_of_spec : Spec → Form
form_of_spec s = record { binning = binning_options s.binning; encoding = encoding_options s.encoding }

abbrev tokens_of_spec : Spec → List Token
tokens_of_spec s = element_tokens w.Binning (binning_options s.binning) ++ element_tokens w.Encoding (encoding_options s.encoding)

ended : (rest : List ℕ) (ts : List Token) → Spells rest ts → Spells (47 ∷ (62 ∷ rest)) (t.Slash ∷ (t.Greater ∷ ts))
ended rest ts spells = put t.Slash (47 ∷ []) (62 ∷ rest) (t.Greater ∷ ts) refl tt (put t.Greater (62 ∷ []) rest ts refl tt spells)

-- <NAME and a blank
begun : (name : Word) (rest : List ℕ) (ts : List Token) → Spells rest ts → Spells (60 ∷ (spelling name ++ (32 ∷ rest))) (t.Less ∷ (t.Word name ∷ ts))
begun name rest ts spells = put t.Less (60 ∷ []) (spelling name ++ (32 ∷ rest)) (t.Word name ∷ ts) refl tt (put (t.Word name) (spelling name) (32 ∷ rest) ts refl refl (put_blank rest ts spells))

printed_spelled : (s : Spec) → IsGiven s → Spells (printed s) (tokens_of_spec s)
unfolding printed spelling
printed_spelled s given =
    let encoding_tokens = flat_map setting_tokens (encoding_options s.encoding) in
    let binning_tokens = flat_map setting_tokens (binning_options s.binning) in
    let close = ended [] [] refl in
    let second = begun w.Encoding (printed_encoding s.encoding ++ codes "/>") (encoding_tokens ++ (t.Slash ∷ (t.Greater ∷ []))) (encoding_spelled s.encoding given.1 (62 ∷ []) (t.Slash ∷ (t.Greater ∷ [])) close) in
    let back = element_tokens w.Encoding (encoding_options s.encoding) in
    let after = codes "<encoding " ++ (printed_encoding s.encoding ++ codes "/>") in
    let middle = ended after back second in
    let first = binning_spelled s.binning given.0 (62 ∷ after) (t.Slash ∷ (t.Greater ∷ back)) middle in
    let all = begun w.Binning (printed_binning s.binning ++ (codes "/>" ++ after)) (binning_tokens ++ (t.Slash ∷ (t.Greater ∷ back))) first in
    subst (λ x. Spells (printed s) (t.Less ∷ (t.Word w.Binning ∷ x))) (sym (append_assoc binning_tokens (t.Slash ∷ (t.Greater ∷ [])) back)) all

-- ---- its length

length-comma_each : (zs : List ℤ) → AllByRecursion IsInRange zs → length (comma_each zs) ≤ 21 * length zs
length-comma_each [] range = omega arith
length-comma_each (z ∷ zs) range =
    let head = length-number z range.0 in
    let more = length-comma_each zs range.1 in
    let cut = length-append (signed_decimal z) (comma_each zs) in
    omega arith

length-joined : (zs : List ℤ) → AllByRecursion IsInRange zs → length (joined zs) ≤ 21 * length zs
length-joined [] range = omega arith
length-joined (z ∷ zs) range =
    let head = length-number z range.0 in
    let more = length-comma_each zs range.1 in
    let cut = length-append (signed_decimal z) (comma_each zs) in
    omega arith

length-count : (n : ℕ) → n ≤ 100000 → length (decimal n) ≤ 20
length-count n small = length-number (pos n) (count_in_range n small)

length-binning : (b : Binning) → IsGivenBinning b → length (printed_binning b) ≤ 90000
unfolding printed_binning
length-binning binning.Each given = omega arith
length-binning (binning.Bounds bounds) given =
    let l = length-joined bounds given.3 in
    let few = given.1 in
    let cut = length-append (joined bounds) (codes ")") in
    omega arith
length-binning (binning.Width start end count) given =
    let a = length-number start given.0 in
    let b = length-number end given.1 in
    let c = length-count count given.4 in
    let third = codes " nbins=" ++ decimal count in
    let second = codes " end=" ++ (signed_decimal end ++ third) in
    let cut_b = length-append (signed_decimal end) third in
    let cut_a = length-append (signed_decimal start) second in
    omega arith
length-binning (binning.Weight count) given = let c = length-count count given.1 in omega arith
length-binning (binning.Precision digits) given = let small = given.1 in let c = length-count digits (omega arith) in omega arith

length-level : (level : Coarse) → length (coarse_text level) ≤ 8
unfolding coarse_text
length-level coarse.Equality = omega arith
length-level coarse.Range = omega arith
length-level coarse.Interval = omega arith

length-encoding : (e : EncodingSpec) → IsGivenEncoding e → length (printed_encoding e) ≤ 100
unfolding printed_encoding
length-encoding encoding.Equality given = omega arith
length-encoding encoding.Range given = omega arith
length-encoding encoding.Interval given = omega arith
length-encoding (encoding.TwoLevel level count) given =
    let c = length-count count given.1 in
    let l = length-level level in
    let cut = length-append (coarse_text level) (codes " ncoarse=" ++ decimal count) in
    omega arith

pub length-printed : (s : Spec) → IsGiven s → length (printed s) ≤ 131072
unfolding printed
length-printed s given =
    let b = length-binning s.binning given.0 in
    let e = length-encoding s.encoding given.1 in
    let tail = printed_encoding s.encoding ++ codes "/>" in
    let cut_e = length-append (printed_encoding s.encoding) (codes "/>") in
    let cut_b = length-append (printed_binning s.binning) (codes "/><encoding " ++ tail) in
    omega arith

pub printed-spelled : (s : Spec) → IsGiven s → IsSpelledBy s (printed s)
printed-spelled s given = record {
  tokens = tokens_of_spec s;
  form = form_of_spec s;
  spelled = printed_spelled s given;
  formed = record { front = element_tokens w.Binning (binning_options s.binning); back = element_tokens w.Encoding (encoding_options s.encoding); joined = refl; binning = inl refl; encoding = inl refl };
  binning = record { same = λ x. (λ h. h, λ h. h); once = binning_once s.binning };
  encoding = record { same = λ x. (λ h. h, λ h. h); once = encoding_once s.encoding };
  given = given;
  fits = length-printed s given;
}
