-- What is read has the options of the specification, which is one that the grammar gives.
use Rattle.std.proofs.Common.{◌≡◌, ℕ, ◌-◌, ◌^◌, ◌≤◌, ◌<◌, Bool, true, false, cond, not, ◌&&◌, ◌||◌, List, [], ◌∷◌, length, refl, sym, ap, subst, ◌∙◌, inl, inr, arith, ℤ, pos, negsuc}
use Rattle.std.specs.Prelude.{Option, Some, None, Result, Ok, Err, nat_lt, nat_le, int_lt, ◌<ℤ◌}
use Rattle.std.specs.Option.{option_map, option_and_then}
use Rattle.std.specs.List.{Contains, AllByRecursion, list_any}
use Rattle.std.proofs.lemmas.Bool.Decides.{nat_tests}
use Rattle.std.proofs.lemmas.Int.{ints}
use Rattle.index_spec.specs.declared.word.Word.{Word}
use Rattle.index_spec.specs.declared.word.Word.TheVariants as w
use Rattle.index_spec.specs.declared.options.Value.{Value}
use Rattle.index_spec.specs.declared.options.Value.TheVariants as v
use Rattle.index_spec.specs.declared.options.Setting.{Setting}
use Rattle.index_spec.specs.declared.options.Form.{Form}
use Rattle.index_spec.specs.declared.spec.Binning.{Binning}
use Rattle.index_spec.specs.declared.spec.Binning.TheVariants as binning
use Rattle.index_spec.specs.declared.spec.Coarse.{Coarse}
use Rattle.index_spec.specs.declared.spec.Coarse.TheVariants as coarse
use Rattle.index_spec.specs.declared.spec.EncodingSpec.{EncodingSpec}
use Rattle.index_spec.specs.declared.spec.EncodingSpec.TheVariants as encoding
use Rattle.index_spec.specs.declared.spec.Spec.{Spec}
use Rattle.index_spec.specs.declared.spec.SpecKind.{SpecKind}
use Rattle.index_spec.specs.declared.spec.SpecKind.TheVariants as kind
use Rattle.index_spec.specs.Words.{same_word}
use Rattle.index_spec.specs.Options.{plain}
use Rattle.index_spec.specs.Meaning.{fits, all_fit, has, are_among, has_all, is_set, repeats, number_named, numbers_in, numbers_named, coarse_in, coarse_named, within, draft_binning, draft_encoding, draft, outside, has_outside, any_outside, is_binning_counted, is_encoding_counted, is_counted, rises, is_bounded, checked, verdict, meaning}
use Rattle.index_spec.specs.Language.{option, IsInRange, IsGivenBinning, IsGivenEncoding, IsGiven, binning_options, coarse_word, encoding_options, HasOptions}
use Rattle.lexing.proofs.Cases.{chosen, mapped, chained}
use Rattle.std.proofs.lemmas.Bool.{and_parts}
use Rattle.index_spec.proofs.Members.{nowhere, here, later, in_cases, all_of, none_of, or_parts, SameMembers}
use Rattle.index_spec.proofs.Sets.{once, Only, only_one, number_option, in_set}

-- ---- numbers

within_is : (limit : ℕ) (z : ℤ) → nat_lt 0 (within limit z) ≡ true → (z ≡ pos (within limit z)) × (1 ≤ within limit z) × (within limit z ≤ limit)
within_is limit (pos n) some = small (nat_le n limit) refl some
  where
    small : (test : Bool) → nat_le n limit ≡ test → nat_lt 0 (cond test n 0) ≡ true → (pos n ≡ pos (cond test n 0)) × (1 ≤ cond test n 0) × (cond test n 0 ≤ limit)
    small true e h = (refl, grind (arith, nat_tests), grind (arith, nat_tests))
    small false e h = cc
within_is limit (negsuc n) some = cc

in_range : (z : ℤ) → outside z ≡ false → IsInRange z
in_range z e =
    let parts = or_parts (int_lt z (negsuc (2 ^ 63 - 1))) (int_lt (pos (2 ^ 64 - 1)) z) e in
    let low = parts.0 in
    let high = parts.1 in
    (grind (arith, ints), grind (arith, ints))

all_in_range : (zs : List ℤ) → list_any outside zs ≡ false → AllByRecursion IsInRange zs
all_in_range [] e = tt
all_in_range (z ∷ zs) e = let parts = or_parts (outside z) (list_any outside zs) e in (in_range z parts.0, all_in_range zs parts.1)

below : (a b : ℤ) → int_lt a b ≡ true → a <ℤ b
below a b e = grind (arith, ints)

-- ---- values, by their option's word

is_nothing : (value : Value) → fits w.Each value ≡ true → value ≡ v.Nothing
is_nothing v.Nothing e = refl
is_nothing (v.Number n) e = cc
is_nothing (v.Word word) e = cc
is_nothing (v.Numbers ns) e = cc

is_nothing_equality : (value : Value) → fits w.Equality value ≡ true → value ≡ v.Nothing
is_nothing_equality v.Nothing e = refl
is_nothing_equality (v.Number n) e = cc
is_nothing_equality (v.Word word) e = cc
is_nothing_equality (v.Numbers ns) e = cc

is_nothing_range : (value : Value) → fits w.Range value ≡ true → value ≡ v.Nothing
is_nothing_range v.Nothing e = refl
is_nothing_range (v.Number n) e = cc
is_nothing_range (v.Word word) e = cc
is_nothing_range (v.Numbers ns) e = cc

is_nothing_interval : (value : Value) → fits w.Interval value ≡ true → value ≡ v.Nothing
is_nothing_interval v.Nothing e = refl
is_nothing_interval (v.Number n) e = cc
is_nothing_interval (v.Word word) e = cc
is_nothing_interval (v.Numbers ns) e = cc

is_nothing_two_level : (value : Value) → fits w.TwoLevel value ≡ true → value ≡ v.Nothing
is_nothing_two_level v.Nothing e = refl
is_nothing_two_level (v.Number n) e = cc
is_nothing_two_level (v.Word word) e = cc
is_nothing_two_level (v.Numbers ns) e = cc

is_number_start : (value : Value) → fits w.Start value ≡ true → (z : ℤ) × (value ≡ v.Number z)
is_number_start (v.Number n) e = (n, refl)
is_number_start v.Nothing e = cc
is_number_start (v.Word word) e = cc
is_number_start (v.Numbers ns) e = cc

is_number_end : (value : Value) → fits w.End value ≡ true → (z : ℤ) × (value ≡ v.Number z)
is_number_end (v.Number n) e = (n, refl)
is_number_end v.Nothing e = cc
is_number_end (v.Word word) e = cc
is_number_end (v.Numbers ns) e = cc

is_number_nbins : (value : Value) → fits w.Nbins value ≡ true → (z : ℤ) × (value ≡ v.Number z)
is_number_nbins (v.Number n) e = (n, refl)
is_number_nbins v.Nothing e = cc
is_number_nbins (v.Word word) e = cc
is_number_nbins (v.Numbers ns) e = cc

is_number_precision : (value : Value) → fits w.Precision value ≡ true → (z : ℤ) × (value ≡ v.Number z)
is_number_precision (v.Number n) e = (n, refl)
is_number_precision v.Nothing e = cc
is_number_precision (v.Word word) e = cc
is_number_precision (v.Numbers ns) e = cc

is_number_ncoarse : (value : Value) → fits w.Ncoarse value ≡ true → (z : ℤ) × (value ≡ v.Number z)
is_number_ncoarse (v.Number n) e = (n, refl)
is_number_ncoarse v.Nothing e = cc
is_number_ncoarse (v.Word word) e = cc
is_number_ncoarse (v.Numbers ns) e = cc

is_list : (value : Value) → fits w.Bounds value ≡ true → (ns : List ℤ) × ((value ≡ v.Numbers ns) × (0 < length ns))
is_list (v.Numbers []) e = cc
is_list (v.Numbers (n ∷ ns)) e = (n ∷ ns, (refl, omega arith))
is_list v.Nothing e = cc
is_list (v.Number n) e = cc
is_list (v.Word word) e = cc

is_level : (value : Value) → fits w.Coarse value ≡ true → (level : Coarse) × ((value ≡ v.Word (coarse_word level)) × (coarse_in (Some value) ≡ level))
is_level (v.Word w.Equality) e = (coarse.Equality, (refl, refl))
is_level (v.Word w.Range) e = (coarse.Range, (refl, refl))
is_level (v.Word w.Interval) e = (coarse.Interval, (refl, refl))
is_level _ e = cc

-- ---- sets

-- the one option of a set of one
one_option : (name : Word) (ss : List Setting) (s wanted : Setting) → are_among (name ∷ []) ss ≡ true → Only name ss s → s ≡ wanted → SameMembers ss (wanted ∷ [])
one_option name ss s wanted among only e =
    subst (λ x. SameMembers ss (x ∷ [])) e
    (in_set (name ∷ []) (λ _. s) ss among (λ m h.
    elim (in_cases name [] m h) [ inl same ↦ subst (λ z. Only z ss s) same only | inr g ↦ absurd (nowhere m g) ]))

-- a choice of three, by name
pick : Word → Word → Setting → Setting → Setting → Word → Setting
pick a b x y z name = cond (same_word name a) x (cond (same_word name b) y z)

three_options : (a b c : Word) (ss : List Setting) (x y z : Setting) (at : Word → Setting) → at a ≡ x → at b ≡ y → at c ≡ z → are_among (a ∷ b ∷ c ∷ []) ss ≡ true → Only a ss x → Only b ss y → Only c ss z → SameMembers ss (x ∷ y ∷ z ∷ [])
three_options a b c ss x y z at ea eb ec among oa ob oc =
    let each : (n : Word) → Contains (a ∷ b ∷ c ∷ []) n → Only n ss (at n) = λ n h.
    elim (in_cases a (b ∷ c ∷ []) n h) [
      | inl e ↦ subst (λ m. Only m ss (at m)) e (subst (Only a ss) (sym ea) oa)
      | inr h2 ↦ elim (in_cases b (c ∷ []) n h2) [
        | inl e ↦ subst (λ m. Only m ss (at m)) e (subst (Only b ss) (sym eb) ob)
        | inr h3 ↦ elim (in_cases c [] n h3) [
          | inl e ↦ subst (λ m. Only m ss (at m)) e (subst (Only c ss) (sym ec) oc)
          | inr h4 ↦ absurd (nowhere n h4)
        ]
      ]
    ] in
    let same = in_set (a ∷ b ∷ c ∷ []) at ss among each in
    subst (λ p. SameMembers ss (p ∷ y ∷ z ∷ [])) ea (subst (λ q. SameMembers ss (at a ∷ q ∷ z ∷ [])) eb (subst (λ r. SameMembers ss (at a ∷ at b ∷ r ∷ [])) ec same))

-- what is known of the options of an element
pub record Clean (ss : List Setting) : Type 0 where
  pub fit : all_fit ss ≡ true
  pub single : repeats ss ≡ false
  pub small : any_outside ss ≡ false

abbrev pub BinningTold : Binning → List Setting → Type 0
BinningTold b ss = HasOptions (binning_options b) ss × IsGivenBinning b

abbrev pub EncodingTold : EncodingSpec → List Setting → Type 0
EncodingTold e ss = HasOptions (encoding_options e) ss × IsGivenEncoding e

options_are : (wanted ss : List Setting) → Clean ss → SameMembers ss wanted → HasOptions wanted ss
options_are wanted ss clean same = record { same = same; once = once ss clean.single }

-- the option of a name in a set
member : (names : List Word) (name : Word) (ss : List Setting) → Clean ss → is_set names ss ≡ true → Contains names name → (s : Setting) × Only name ss s
member names name ss clean set inside =
    let parts = and_parts (are_among names ss) (has_all names ss) set in
    only_one name ss clean.fit clean.single (all_of (λ n. has n ss) names name parts.1 inside)

among : (names : List Word) (ss : List Setting) → is_set names ss ≡ true → are_among names ss ≡ true
among names ss set = (and_parts (are_among names ss) (has_all names ss) set).0

-- an option with a number in range
record Numbered (name : Word) (ss : List Setting) (s : Setting) : Type 0 where
  same : s ≡ option name (number_named name ss)
  small : IsInRange (number_named name ss)

numbered : (name : Word) (ss : List Setting) (s : Setting) → Clean ss → Only name ss s → (z : ℤ) × (s.value ≡ v.Number z) → Numbered name ss s
numbered name ss s clean only number =
    let h = number_option name ss s number.0 only number.1 in
    let not_out : has_outside s.value ≡ false = none_of (λ x. has_outside x.value) ss s clean.small only.inside in
    let small : outside number.0 ≡ false = rw number.1 at not_out in
    record { same = subst (λ z. s ≡ option name z) (sym h.1) h.0; small = subst IsInRange (sym h.1) (in_range number.0 small) }

-- a count in its range
counted_option : (name : Word) (ss : List Setting) (s : Setting) (limit : ℕ) → Numbered name ss s → nat_lt 0 (within limit (number_named name ss)) ≡ true → s ≡ option name (pos (within limit (number_named name ss)))
counted_option name ss s limit n some = n.same ∙ ap (option name) (within_is limit (number_named name ss) some).0

-- ---- binning

each_told : (ss : List Setting) → Clean ss → is_set (w.Each ∷ []) ss ≡ true → BinningTold binning.Each ss
each_told ss clean set =
    let s = member (w.Each ∷ []) w.Each ss clean set (here w.Each []) in
    let is : s.0 ≡ record { name = w.Each; value = v.Nothing } = ap (λ n. record { name = n; value = s.0.value }) s.1.named ∙ ap (λ x. record { name = w.Each; value = x }) (is_nothing s.0.value s.1.fitting) in
    (options_are (plain w.Each) ss clean (one_option w.Each ss s.0 (record { name = w.Each; value = v.Nothing }) (among (w.Each ∷ []) ss set) s.1 is), tt)

bounds_told : (ss : List Setting) → Clean ss → is_set (w.Bounds ∷ []) ss ≡ true → is_bounded (binning.Bounds (numbers_named w.Bounds ss)) ≡ true → BinningTold (binning.Bounds (numbers_named w.Bounds ss)) ss
bounds_told ss clean set bounded =
    let s = member (w.Bounds ∷ []) w.Bounds ss clean set (here w.Bounds []) in
    let list = is_list s.0.value s.1.fitting in
    let ns = numbers_named w.Bounds ss in
    let named : ns ≡ list.0 = ap numbers_in (s.1.looked_up ∙ ap Some list.1.0) in
    let value : s.0.value ≡ v.Numbers ns = list.1.0 ∙ ap v.Numbers (sym named) in
    let is : s.0 ≡ record { name = w.Bounds; value = v.Numbers ns } = ap (λ n. record { name = n; value = s.0.value }) s.1.named ∙ ap (λ x. record { name = w.Bounds; value = x }) value in
    let parts = and_parts (nat_le (length ns) 4096) (rises ns) bounded in
    let few = parts.0 in
    let some : 0 < length ns = subst (λ x. 0 < length x) (sym named) list.1.1 in
    let not_out : has_outside s.0.value ≡ false = none_of (λ x. has_outside x.value) ss s.0 clean.small s.1.inside in
    let small : list_any outside ns ≡ false = rw value at not_out in (
      options_are (record { name = w.Bounds; value = v.Numbers ns } ∷ []) ss clean (one_option w.Bounds ss s.0 (record { name = w.Bounds; value = v.Numbers ns }) (among (w.Bounds ∷ []) ss set) s.1 is),
      (some, grind (arith, nat_tests), parts.1, all_in_range ns small),
    )

width_told : (ss : List Setting) → Clean ss → is_set (w.Start ∷ w.End ∷ w.Nbins ∷ []) ss ≡ true
    → is_binning_counted (binning.Width (number_named w.Start ss) (number_named w.End ss) (within 100000 (number_named w.Nbins ss))) ≡ true
    → BinningTold (binning.Width (number_named w.Start ss) (number_named w.End ss) (within 100000 (number_named w.Nbins ss))) ss
unfolding pick
width_told ss clean set counted =
    let names : List Word = w.Start ∷ w.End ∷ w.Nbins ∷ [] in
    let start = number_named w.Start ss in
    let end = number_named w.End ss in
    let count = within 100000 (number_named w.Nbins ss) in
    let a = member names w.Start ss clean set (here w.Start (w.End ∷ w.Nbins ∷ [])) in
    let b = member names w.End ss clean set (later w.Start (w.End ∷ w.Nbins ∷ []) w.End (here w.End (w.Nbins ∷ []))) in
    let c = member names w.Nbins ss clean set (later w.Start (w.End ∷ w.Nbins ∷ []) w.Nbins (later w.End (w.Nbins ∷ []) w.Nbins (here w.Nbins []))) in
    let na = numbered w.Start ss a.0 clean a.1 (is_number_start a.0.value a.1.fitting) in
    let nb = numbered w.End ss b.0 clean b.1 (is_number_end b.0.value b.1.fitting) in
    let nc = numbered w.Nbins ss c.0 clean c.1 (is_number_nbins c.0.value c.1.fitting) in
    let parts = and_parts (nat_lt 0 count) (int_lt start end) counted in
    let range = within_is 100000 (number_named w.Nbins ss) parts.0 in
    let same = three_options w.Start w.End w.Nbins ss a.0 b.0 c.0 (pick w.Start w.End a.0 b.0 c.0) refl refl refl (among names ss set) a.1 b.1 c.1 in
    let wanted : SameMembers ss (option w.Start start ∷ option w.End end ∷ option w.Nbins (pos count) ∷ []) =
    subst (λ p. SameMembers ss (p ∷ option w.End end ∷ option w.Nbins (pos count) ∷ [])) na.same (subst (λ q. SameMembers ss (a.0 ∷ q ∷ option w.Nbins (pos count) ∷ [])) nb.same (subst (λ r. SameMembers ss (a.0 ∷ b.0 ∷ r ∷ [])) (counted_option w.Nbins ss c.0 100000 nc parts.0) same)) in
    (options_are (option w.Start start ∷ option w.End end ∷ option w.Nbins (pos count) ∷ []) ss clean wanted, (na.small, nb.small, below start end parts.1, range.1, range.2))

weight_told : (ss : List Setting) → Clean ss → is_set (w.Nbins ∷ []) ss ≡ true → nat_lt 0 (within 100000 (number_named w.Nbins ss)) ≡ true → BinningTold (binning.Weight (within 100000 (number_named w.Nbins ss))) ss
weight_told ss clean set counted =
    let s = member (w.Nbins ∷ []) w.Nbins ss clean set (here w.Nbins []) in
    let n = numbered w.Nbins ss s.0 clean s.1 (is_number_nbins s.0.value s.1.fitting) in
    let range = within_is 100000 (number_named w.Nbins ss) counted in
    let wanted = option w.Nbins (pos (within 100000 (number_named w.Nbins ss))) in
    (options_are (wanted ∷ []) ss clean (one_option w.Nbins ss s.0 wanted (among (w.Nbins ∷ []) ss set) s.1 (counted_option w.Nbins ss s.0 100000 n counted)), (range.1, range.2))

precision_told : (ss : List Setting) → Clean ss → is_set (w.Precision ∷ []) ss ≡ true → nat_lt 0 (within 18 (number_named w.Precision ss)) ≡ true → BinningTold (binning.Precision (within 18 (number_named w.Precision ss))) ss
precision_told ss clean set counted =
    let s = member (w.Precision ∷ []) w.Precision ss clean set (here w.Precision []) in
    let n = numbered w.Precision ss s.0 clean s.1 (is_number_precision s.0.value s.1.fitting) in
    let range = within_is 18 (number_named w.Precision ss) counted in
    let wanted = option w.Precision (pos (within 18 (number_named w.Precision ss))) in
    (options_are (wanted ∷ []) ss clean (one_option w.Precision ss s.0 wanted (among (w.Precision ∷ []) ss set) s.1 (counted_option w.Precision ss s.0 18 n counted)), (range.1, range.2))

-- a step of a chain of sets
set_step : {A : Type 0} (P : A → Type 0) (test : Bool) (here_is : A) (others : Option A) (a : A) → cond test (Some here_is) others ≡ Some a → (test ≡ true → here_is ≡ a → P a) → (others ≡ Some a → P a) → P a
set_step P test here_is others a e taken left =
    elim (chosen test (Some here_is) others (Some a) e) [ inl h ↦ (let same : here_is ≡ a = cc in taken h.0 same) | inr h ↦ left h.1 ]

no_set : {A : Type 0} (P : A → Type 0) (a : A) → ◌≡◌ {A = Option A} None (Some a) → P a
no_set P a e = cc

pub binning_told : (ss : List Setting) (b : Binning) → Clean ss → draft_binning ss ≡ Some b → is_binning_counted b ≡ true → is_bounded b ≡ true → BinningTold b ss
unfolding draft_binning
binning_told ss b clean e counted bounded =
    let P : Binning → Type 0 = λ x. BinningTold x ss in
    let C : Binning → Type 0 = λ x. is_binning_counted x ≡ true in
    let B : Binning → Type 0 = λ x. is_bounded x ≡ true in
    set_step P (is_set (w.Each ∷ []) ss) binning.Each _ b e (λ t s. subst P s (each_told ss clean t)) (λ e1.
    set_step P (is_set (w.Bounds ∷ []) ss) (binning.Bounds (numbers_named w.Bounds ss)) _ b e1 (λ t s. subst P s (bounds_told ss clean t (subst B (sym s) bounded))) (λ e2.
    set_step P (is_set (w.Start ∷ w.End ∷ w.Nbins ∷ []) ss) (binning.Width (number_named w.Start ss) (number_named w.End ss) (within 100000 (number_named w.Nbins ss))) _ b e2 (λ t s. subst P s (width_told ss clean t (subst C (sym s) counted))) (λ e3.
    set_step P (is_set (w.Nbins ∷ []) ss) (binning.Weight (within 100000 (number_named w.Nbins ss))) _ b e3 (λ t s. subst P s (weight_told ss clean t (subst C (sym s) counted))) (λ e4.
    set_step P (is_set (w.Precision ∷ []) ss) (binning.Precision (within 18 (number_named w.Precision ss))) _ b e4 (λ t s. subst P s (precision_told ss clean t (subst C (sym s) counted))) (no_set P b)))))

-- ---- encoding

plain_told : (name : Word) (ss : List Setting) → Clean ss → ((value : Value) → fits name value ≡ true → value ≡ v.Nothing) → is_set (name ∷ []) ss ≡ true → HasOptions (plain name) ss
plain_told name ss clean nothing set =
    let s = member (name ∷ []) name ss clean set (here name []) in
    let is : s.0 ≡ record { name = name; value = v.Nothing } = ap (λ n. record { name = n; value = s.0.value }) s.1.named ∙ ap (λ x. record { name = name; value = x }) (nothing s.0.value s.1.fitting) in
    options_are (plain name) ss clean (one_option name ss s.0 (record { name = name; value = v.Nothing }) (among (name ∷ []) ss set) s.1 is)

two_level_told : (ss : List Setting) → Clean ss → is_set (w.TwoLevel ∷ w.Coarse ∷ w.Ncoarse ∷ []) ss ≡ true
    → nat_lt 0 (within 100000 (number_named w.Ncoarse ss)) ≡ true
    → EncodingTold (encoding.TwoLevel (coarse_named w.Coarse ss) (within 100000 (number_named w.Ncoarse ss))) ss
unfolding pick
two_level_told ss clean set counted =
    let names : List Word = w.TwoLevel ∷ w.Coarse ∷ w.Ncoarse ∷ [] in
    let level = coarse_named w.Coarse ss in
    let count = within 100000 (number_named w.Ncoarse ss) in
    let a = member names w.TwoLevel ss clean set (here w.TwoLevel (w.Coarse ∷ w.Ncoarse ∷ [])) in
    let b = member names w.Coarse ss clean set (later w.TwoLevel (w.Coarse ∷ w.Ncoarse ∷ []) w.Coarse (here w.Coarse (w.Ncoarse ∷ []))) in
    let c = member names w.Ncoarse ss clean set (later w.TwoLevel (w.Coarse ∷ w.Ncoarse ∷ []) w.Ncoarse (later w.Coarse (w.Ncoarse ∷ []) w.Ncoarse (here w.Ncoarse []))) in
    let ia : a.0 ≡ record { name = w.TwoLevel; value = v.Nothing } = ap (λ n. record { name = n; value = a.0.value }) a.1.named ∙ ap (λ x. record { name = w.TwoLevel; value = x }) (is_nothing_two_level a.0.value a.1.fitting) in
    let told = is_level b.0.value b.1.fitting in
    let named : level ≡ told.0 = ap coarse_in b.1.looked_up ∙ told.1.1 in
    let value : b.0.value ≡ v.Word (coarse_word level) = told.1.0 ∙ ap (λ l. v.Word (coarse_word l)) (sym named) in
    let ib : b.0 ≡ record { name = w.Coarse; value = v.Word (coarse_word level) } = ap (λ n. record { name = n; value = b.0.value }) b.1.named ∙ ap (λ x. record { name = w.Coarse; value = x }) value in
    let nc = numbered w.Ncoarse ss c.0 clean c.1 (is_number_ncoarse c.0.value c.1.fitting) in
    let ic = counted_option w.Ncoarse ss c.0 100000 nc counted in
    let range = within_is 100000 (number_named w.Ncoarse ss) counted in
    let same = three_options w.TwoLevel w.Coarse w.Ncoarse ss a.0 b.0 c.0 (pick w.TwoLevel w.Coarse a.0 b.0 c.0) refl refl refl (among names ss set) a.1 b.1 c.1 in
    let x : Setting = record { name = w.TwoLevel; value = v.Nothing } in
    let y : Setting = record { name = w.Coarse; value = v.Word (coarse_word level) } in
    let z : Setting = option w.Ncoarse (pos count) in
    let wanted : SameMembers ss (x ∷ y ∷ z ∷ []) =
    subst (λ p. SameMembers ss (p ∷ y ∷ z ∷ [])) ia (subst (λ q. SameMembers ss (a.0 ∷ q ∷ z ∷ [])) ib (subst (λ r. SameMembers ss (a.0 ∷ b.0 ∷ r ∷ [])) ic same)) in
    (options_are (x ∷ y ∷ z ∷ []) ss clean wanted, (range.1, range.2))

pub encoding_told : (ss : List Setting) (e : EncodingSpec) → Clean ss → draft_encoding ss ≡ Some e → is_encoding_counted e ≡ true → EncodingTold e ss
unfolding draft_encoding
encoding_told ss e clean is counted =
    let P : EncodingSpec → Type 0 = λ x. EncodingTold x ss in
    let C : EncodingSpec → Type 0 = λ x. is_encoding_counted x ≡ true in
    set_step P (is_set (w.Equality ∷ []) ss) encoding.Equality _ e is (λ t s. subst P s (plain_told w.Equality ss clean is_nothing_equality t, tt)) (λ e1.
    set_step P (is_set (w.Range ∷ []) ss) encoding.Range _ e e1 (λ t s. subst P s (plain_told w.Range ss clean is_nothing_range t, tt)) (λ e2.
    set_step P (is_set (w.Interval ∷ []) ss) encoding.Interval _ e e2 (λ t s. subst P s (plain_told w.Interval ss clean is_nothing_interval t, tt)) (λ e3.
    set_step P (is_set (w.TwoLevel ∷ w.Coarse ∷ w.Ncoarse ∷ []) ss) (encoding.TwoLevel (coarse_named w.Coarse ss) (within 100000 (number_named w.Ncoarse ss))) _ e e3 (λ t s. subst P s (two_level_told ss clean t (subst C (sym s) counted))) (no_set P e))))

-- ---- the form

-- a refusal is no answer
not_refused : (test : Bool) (k : SpecKind) (others : Result Spec SpecKind) (s : Spec) → cond test (Err k) others ≡ Ok s → (test ≡ false) × (others ≡ Ok s)
not_refused true k others s e = cc
not_refused false k others s e = (refl, e)

not_false : (b : Bool) → not b ≡ false → b ≡ true
not_false true e = refl
not_false false e = cc

pub record FormTold (f : Form) (s : Spec) : Type 0 where
  pub binning : HasOptions (binning_options s.binning) f.binning
  pub encoding : HasOptions (encoding_options s.encoding) f.encoding
  pub given : IsGiven s

drafted : (f : Form) (s : Spec) → draft f ≡ Some s → (all_fit f.binning ≡ true) × (all_fit f.encoding ≡ true) × (draft_encoding f.encoding ≡ Some s.encoding) × (draft_binning f.binning ≡ Some s.binning)
unfolding draft
drafted f s e =
    let join : EncodingSpec → Option Spec = λ e. option_map (λ b. record { binning = b; encoding = e }) (draft_binning f.binning) in
    elim (chosen (all_fit f.binning && all_fit f.encoding) (option_and_then join (draft_encoding f.encoding)) None (Some s) e) [
      | inl h ↦ (
          let fit = and_parts (all_fit f.binning) (all_fit f.encoding) h.0 in
          let first = chained join (draft_encoding f.encoding) s h.1 in
          let second = mapped (λ b. record { binning = b; encoding = first.0 }) (draft_binning f.binning) s first.1.1 in
          (fit.0, fit.1, first.1.0 ∙ ap (λ x. Some x.encoding) second.1.1, second.1.0 ∙ ap (λ x. Some x.binning) second.1.1))
      | inr h ↦ cc
    ]

form_told : (f : Form) (s t : Spec) → draft f ≡ Some s → checked f s ≡ Ok t → FormTold f t
form_told f s t e told =
    let d = drafted f s e in
    let one = not_refused (repeats f.binning || repeats f.encoding) kind.Repeated _ t told in
    let two = not_refused (any_outside f.binning || any_outside f.encoding) kind.Number _ t one.1 in
    let three = not_refused (not (is_counted s)) kind.Count _ t two.1 in
    let four = not_refused (not (is_bounded s.binning)) kind.Bounds _ t three.1 in
    let same : s ≡ t = cc in
    let single = or_parts (repeats f.binning) (repeats f.encoding) one.0 in
    let small = or_parts (any_outside f.binning) (any_outside f.encoding) two.0 in
    let counted = and_parts (is_binning_counted s.binning) (is_encoding_counted s.encoding) (not_false (is_counted s) three.0) in
    let bounded = not_false (is_bounded s.binning) four.0 in
    let b = binning_told f.binning s.binning (record { fit = d.0; single = single.0; small = small.0 }) d.3 counted.0 bounded in
    let c = encoding_told f.encoding s.encoding (record { fit = d.1; single = single.1; small = small.1 }) d.2 counted.1 in
    subst (FormTold f) same (record { binning = b.0; encoding = c.0; given = (b.1, c.1) })

by_draft : (f : Form) (o : Option Spec) (t : Spec) → draft f ≡ o → verdict f o ≡ Ok t → FormTold f t
by_draft f None t e told = cc
by_draft f (Some s) t e told = form_told f s t e told

pub meaning-told : (f : Form) (s : Spec) → meaning f ≡ Ok s → FormTold f s
unfolding meaning
meaning-told f s e = by_draft f (draft f) s refl e
