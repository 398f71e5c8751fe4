-- The options of one of the sets, each once.
use Rattle.std.proofs.Common.{◌≡◌, ◌≤◌, Bool, true, false, List, [], ◌∷◌, map, refl, sym, ap, subst, ◌∙◌, inl, inr, arith, ℤ}
use Rattle.std.specs.Prelude.{Some, nat_lt}
use Rattle.std.specs.Option.{option_map}
use Rattle.std.specs.List.{Contains, find}
use Rattle.std.proofs.lemmas.Bool.Decides.{nat_tests}
use denote.Enum.Bare.{same_true, true_same}
use Rattle.index_spec.specs.contracts.word.Word.{the_type}
use Rattle.index_spec.specs.declared.word.Word.{Word}
use Rattle.index_spec.specs.declared.word.Word.TheVariants as w
use Rattle.index_spec.specs.declared.word.TheConstants.{WORDS}
use Rattle.index_spec.specs.declared.options.Value.TheVariants as v
use Rattle.index_spec.specs.declared.options.Setting.{Setting}
use Rattle.index_spec.specs.Words.{same_word}
use Rattle.index_spec.specs.Meaning.{fits, all_fit, has, is_among, are_among, times, repeats, lookup, number_in, number_named}
use Rattle.index_spec.specs.Language.{option}
use Rattle.index_spec.proofs.Members.{nowhere, here, later, in_cases, all_of, any_of, none_of, none_if, found_once, SameMembers}

pub word_is : (a b : Word) → same_word a b ≡ true → a ≡ b
word_is a b e = same_true the_type tt a b e

pub word_refl : (a : Word) → same_word a a ≡ true
word_refl a = true_same the_type a a refl

pub word_is_listed : (word : Word) → Contains WORDS word
word_is_listed w.Binning = (0, omega arith, refl)
word_is_listed w.Encoding = (1, omega arith, refl)
word_is_listed w.Each = (2, omega arith, refl)
word_is_listed w.Bounds = (3, omega arith, refl)
word_is_listed w.Start = (4, omega arith, refl)
word_is_listed w.End = (5, omega arith, refl)
word_is_listed w.Nbins = (6, omega arith, refl)
word_is_listed w.Precision = (7, omega arith, refl)
word_is_listed w.Equality = (8, omega arith, refl)
word_is_listed w.Range = (9, omega arith, refl)
word_is_listed w.Interval = (10, omega arith, refl)
word_is_listed w.TwoLevel = (11, omega arith, refl)
word_is_listed w.Coarse = (12, omega arith, refl)
word_is_listed w.Ncoarse = (13, omega arith, refl)

pub once : (ss : List Setting) → repeats ss ≡ false → (name : Word) → times name ss ≤ 1
once ss none name =
    let few : nat_lt 1 (times name ss) ≡ false = none_of (λ n. nat_lt 1 (times n ss)) WORDS name none (word_is_listed name) in
    grind (arith, nat_tests)

pub no_repeats : (ss : List Setting) → ((name : Word) → times name ss ≤ 1) → repeats ss ≡ false
no_repeats ss few = none_if (λ n. nat_lt 1 (times n ss)) WORDS (λ name _. (let h = few name in grind (arith, nat_tests)))

-- the one option of a name
pub record Only (name : Word) (ss : List Setting) (s : Setting) : Type 0 where
  pub named : s.name ≡ name
  pub inside : Contains ss s
  pub fitting : fits name s.value ≡ true
  pub looked_up : lookup name ss ≡ Some s.value
  pub alone : (x : Setting) → Contains ss x → x.name ≡ name → x ≡ s

pub only_one : (name : Word) (ss : List Setting) → all_fit ss ≡ true → repeats ss ≡ false → has name ss ≡ true → (s : Setting) × Only name ss s
only_one name ss fit none some =
    let test : Setting → Bool = λ s. same_word s.name name in
    let any = any_of test ss some in
    let s = any.0 in
    let named : s.name ≡ name = word_is s.name name any.1.1 in
    let few = once ss none name in
    let found : find test ss ≡ Some s = found_once test ss s few any.1.0 any.1.1 in
    let fitting : fits s.name s.value ≡ true = all_of (λ x. fits x.name x.value) ss s fit any.1.0 in (
      s,
      record {
        named = named;
        inside = any.1.0;
        fitting = subst (λ n. fits n s.value ≡ true) named fitting;
        looked_up = ap (option_map (λ x. x.value)) found;
        alone = λ x h e. (let also : find test ss ≡ Some x = found_once test ss x few h (subst (λ n. same_word n name ≡ true) (sym e) (word_refl name)) in
            let same : Some s ≡ Some x = sym found ∙ also in cc);
      },
    )

-- an option whose value is a number
pub number_option : (name : Word) (ss : List Setting) (s : Setting) (z : ℤ) → Only name ss s → s.value ≡ v.Number z → (s ≡ option name z) × (number_named name ss ≡ z)
number_option name ss s z only e =
    (ap (λ n. record { name = n; value = s.value }) only.named ∙ ap (λ x. record { name = name; value = x }) e, ap number_in (only.looked_up ∙ ap Some e))

-- what the members of a set are, from its names
pub in_set : (names : List Word) (at : Word → Setting) (ss : List Setting) → are_among names ss ≡ true → ((n : Word) → Contains names n → Only n ss (at n)) → SameMembers ss (map at names)
in_set names at ss among each x = (
  λ h. (
      let named = all_of (λ s. is_among s.name names) ss x among h in
      let found = any_of (λ n. same_word x.name n) names named in
      let n = found.0 in
      let e : x.name ≡ n = word_is x.name n found.1.1 in
      let same : x ≡ at n = (each n found.1.0).alone x h e in
      subst (Contains (map at names)) (sym same) (mapped_in names n found.1.0)),
  λ h. (let found = from_mapped names h in subst (Contains ss) found.1.1 (each found.0 found.1.0).inside),
)
  where
    mapped_in : (ns : List Word) (n : Word) → Contains ns n → Contains (map at ns) (at n)
    mapped_in [] n h = absurd (nowhere n h)
    mapped_in (m ∷ ms) n h =
        elim (in_cases m ms n h) [
          | inl e ↦ subst (λ z. Contains (at m ∷ map at ms) (at z)) e (here (at m) (map at ms))
          | inr g ↦ later (at m) (map at ms) (at n) (mapped_in ms n g)
        ]

    from_mapped : (ns : List Word) → Contains (map at ns) x → (n : Word) × (Contains ns n × (at n ≡ x))
    from_mapped [] h = absurd (nowhere x h)
    from_mapped (m ∷ ms) h =
        elim (in_cases (at m) (map at ms) x h) [
          | inl e ↦ (m, (here m ms, e))
          | inr g ↦ (let more = from_mapped ms g in (more.0, (later m ms more.0 more.1.0, more.1.1)))
        ]
