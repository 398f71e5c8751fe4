-- Options of a specification that the grammar gives are read as it.
use Rattle.std.proofs.Common.{◌≡◌, ℕ, ◌-◌, ◌^◌, ◌≤◌, ◌<◌, true, false, ◌&&◌, List, [], ◌∷◌, length, refl, ap, ◌∙◌, arith, ℤ, pos, negsuc}
use Rattle.std.specs.Prelude.{Some, Ok, nat_lt, nat_le, int_lt}
use Rattle.std.specs.Option.{option_map}
use Rattle.std.specs.List.{Contains, AllByRecursion, list_all, list_any}
use Rattle.std.proofs.lemmas.Bool.Decides.{nat_tests}
use Rattle.std.proofs.lemmas.Int.{ints}
use Rattle.index_spec.specs.declared.word.Word.{Word}
use Rattle.index_spec.specs.declared.word.Word.TheVariants as w
use Rattle.index_spec.specs.declared.options.Value.TheVariants as v
use Rattle.index_spec.specs.declared.options.Setting.{Setting}
use Rattle.index_spec.specs.declared.options.Form.{Form}
use Rattle.index_spec.specs.declared.spec.Binning.{Binning}
use Rattle.index_spec.specs.declared.spec.Binning.TheVariants as binning
use Rattle.index_spec.specs.declared.spec.Coarse.{Coarse}
use Rattle.index_spec.specs.declared.spec.Coarse.TheVariants as coarse
use Rattle.index_spec.specs.declared.spec.EncodingSpec.{EncodingSpec}
use Rattle.index_spec.specs.declared.spec.EncodingSpec.TheVariants as encoding
use Rattle.index_spec.specs.declared.spec.Spec.{Spec}
use Rattle.index_spec.specs.Words.{same_word}
use Rattle.index_spec.specs.Options.{plain}
use Rattle.index_spec.specs.Meaning.{fits, all_fit, has, is_among, are_among, has_all, is_set, repeats, lookup, number_in, number_named, numbers_in, numbers_named, coarse_in, coarse_named, within, draft_binning, draft_encoding, draft, outside, has_outside, any_outside, is_binning_counted, is_encoding_counted, rises, is_bounded, verdict, meaning}
use Rattle.index_spec.specs.Language.{option, IsInRange, IsGivenBinning, IsGivenEncoding, IsGiven, binning_options, coarse_word, encoding_options, HasOptions}
use Rattle.std.proofs.lemmas.Bool.{and_from}
use Rattle.index_spec.proofs.Members.{here, later, all_same, any_same, found_once, SameMembers}
use Rattle.index_spec.proofs.Sets.{no_repeats, word_refl}

-- ---- numbers

not_outside : (z : ℤ) → IsInRange z → outside z ≡ false
not_outside z range =
    let low = range.0 in
    let high = range.1 in
    let l : int_lt z (negsuc (2 ^ 63 - 1)) ≡ false = grind (arith, ints) in
    let h : int_lt (pos (2 ^ 64 - 1)) z ≡ false = grind (arith, ints) in
    rw (l, h) refl

none_outside : (zs : List ℤ) → AllByRecursion IsInRange zs → list_any outside zs ≡ false
none_outside [] range = refl
none_outside (z ∷ zs) range =
    let head : outside z ≡ false = not_outside z range.0 in
    rw head (none_outside zs range.1)

small_number : (n : ℕ) → n ≤ 100000 → outside (pos n) ≡ false
small_number n small = not_outside (pos n) (omega (arith, ints), omega (arith, ints))

within-small : (limit n : ℕ) → n ≤ limit → within limit (pos n) ≡ n
within-small limit n small = let test : nat_le n limit ≡ true = grind (arith, nat_tests) in rw test refl

positive : (n : ℕ) → 1 ≤ n → nat_lt 0 n ≡ true
positive n h = grind (arith, nat_tests)

-- ---- the tests see the members alone

same_set : (names : List Word) (ss wanted : List Setting) → SameMembers ss wanted → is_set names ss ≡ is_set names wanted
same_set names ss wanted same =
    let first : are_among names ss ≡ are_among names wanted = all_same (λ s. is_among s.name names) ss wanted same in
    let second : has_all names ss ≡ has_all names wanted = each names in
    ap (λ t. t && has_all names ss) first ∙ ap (λ t. are_among names wanted && t) second
  where
    each : (ns : List Word) → list_all (λ n. has n ss) ns ≡ list_all (λ n. has n wanted) ns
    each [] = refl
    each (n ∷ ns) = ap (λ t. t && list_all (λ m. has m ss) ns) (any_same (λ s. same_word s.name n) ss wanted same) ∙ ap (λ t. has n wanted && t) (each ns)

looked_up : (ss wanted : List Setting) (s : Setting) → HasOptions wanted ss → Contains wanted s → lookup s.name ss ≡ Some s.value
looked_up ss wanted s options inside =
    ap (option_map (λ x. x.value)) (found_once (λ x. same_word x.name s.name) ss s (options.once s.name) ((options.same s).1 inside) (word_refl s.name))

-- what makes an element clean
pub record Tidy (ss : List Setting) : Type 0 where
  pub fit : all_fit ss ≡ true
  pub single : repeats ss ≡ false
  pub small : any_outside ss ≡ false

tidy : (ss wanted : List Setting) → HasOptions wanted ss → all_fit wanted ≡ true → any_outside wanted ≡ false → Tidy ss
tidy ss wanted options fit small = record {
  fit = all_same (λ s. fits s.name s.value) ss wanted options.same ∙ fit;
  single = no_repeats ss options.once;
  small = any_same (λ s. has_outside s.value) ss wanted options.same ∙ small;
}

-- ---- binning

pub record BinningRead (ss : List Setting) (b : Binning) : Type 0 where
  pub tidy : Tidy ss
  pub draft : draft_binning ss ≡ Some b
  pub counted : is_binning_counted b ≡ true
  pub bounded : is_bounded b ≡ true

pub binning_read : (b : Binning) (ss : List Setting) → HasOptions (binning_options b) ss → IsGivenBinning b → BinningRead ss b
unfolding draft_binning
binning_read binning.Each ss options given =
    let one : is_set (w.Each ∷ []) ss ≡ true = same_set (w.Each ∷ []) ss (plain w.Each) options.same in
    record { tidy = tidy ss (plain w.Each) options refl refl; draft = rw one refl; counted = refl; bounded = refl }
binning_read (binning.Bounds bounds) ss options given =
    let s : Setting = record { name = w.Bounds; value = v.Numbers bounds } in
    let wanted : List Setting = s ∷ [] in
    let one : is_set (w.Each ∷ []) ss ≡ false = same_set (w.Each ∷ []) ss wanted options.same in
    let two : is_set (w.Bounds ∷ []) ss ≡ true = same_set (w.Bounds ∷ []) ss wanted options.same in
    let value : numbers_named w.Bounds ss ≡ bounds = ap numbers_in (looked_up ss wanted s options (here s [])) in
    let small : list_any outside bounds ≡ false = none_outside bounds given.3 in
    let few : nat_le (length bounds) 4096 ≡ true = (let h = given.1 in grind (arith, nat_tests)) in
    let fit : all_fit wanted ≡ true = bounds_fit bounds given.0 in
    let outside_none : any_outside wanted ≡ false = rw small refl in
    record { tidy = tidy ss wanted options fit outside_none; draft = rw (one, two) (ap (λ x. Some (binning.Bounds x)) value); counted = refl; bounded = and_from (nat_le (length bounds) 4096) (rises bounds) few given.2 }
  where
    bounds_fit : (bs : List ℤ) → 0 < length bs → all_fit (record { name = w.Bounds; value = v.Numbers bs } ∷ []) ≡ true
    bounds_fit [] some = absurd (omega arith)
    bounds_fit (x ∷ xs) some = refl
binning_read (binning.Width start end count) ss options given =
    let a : Setting = option w.Start start in
    let b : Setting = option w.End end in
    let c : Setting = option w.Nbins (pos count) in
    let wanted : List Setting = a ∷ b ∷ c ∷ [] in
    let one : is_set (w.Each ∷ []) ss ≡ false = same_set (w.Each ∷ []) ss wanted options.same in
    let two : is_set (w.Bounds ∷ []) ss ≡ false = same_set (w.Bounds ∷ []) ss wanted options.same in
    let three : is_set (w.Start ∷ w.End ∷ w.Nbins ∷ []) ss ≡ true = same_set (w.Start ∷ w.End ∷ w.Nbins ∷ []) ss wanted options.same in
    let va : number_named w.Start ss ≡ start = ap number_in (looked_up ss wanted a options (here a (b ∷ c ∷ []))) in
    let vb : number_named w.End ss ≡ end = ap number_in (looked_up ss wanted b options (later a (b ∷ c ∷ []) b (here b (c ∷ [])))) in
    let vc : number_named w.Nbins ss ≡ pos count = ap number_in (looked_up ss wanted c options (later a (b ∷ c ∷ []) c (later b (c ∷ []) c (here c [])))) in
    let oa : outside start ≡ false = not_outside start given.0 in
    let ob : outside end ≡ false = not_outside end given.1 in
    let oc : outside (pos count) ≡ false = small_number count given.4 in
    let outside_none : any_outside wanted ≡ false = rw (oa, ob, oc) refl in
    let low : nat_lt 0 count ≡ true = positive count given.3 in
    let order : int_lt start end ≡ true = (let h = given.2 in grind (arith, ints)) in
    let counts : within 100000 (number_named w.Nbins ss) ≡ count = ap (within 100000) vc ∙ within-small 100000 count given.4 in
    record {
      tidy = tidy ss wanted options refl outside_none;
      draft = rw (one, two, three) (ap (λ x. Some (binning.Width x (number_named w.End ss) (within 100000 (number_named w.Nbins ss)))) va ∙ (ap (λ x. Some (binning.Width start x (within 100000 (number_named w.Nbins ss)))) vb ∙ ap (λ x. Some (binning.Width start end x)) counts));
      counted = and_from (nat_lt 0 count) (int_lt start end) low order;
      bounded = refl;
    }
binning_read (binning.Weight count) ss options given =
    let c : Setting = option w.Nbins (pos count) in
    let wanted : List Setting = c ∷ [] in
    let one : is_set (w.Each ∷ []) ss ≡ false = same_set (w.Each ∷ []) ss wanted options.same in
    let two : is_set (w.Bounds ∷ []) ss ≡ false = same_set (w.Bounds ∷ []) ss wanted options.same in
    let three : is_set (w.Start ∷ w.End ∷ w.Nbins ∷ []) ss ≡ false = same_set (w.Start ∷ w.End ∷ w.Nbins ∷ []) ss wanted options.same in
    let four : is_set (w.Nbins ∷ []) ss ≡ true = same_set (w.Nbins ∷ []) ss wanted options.same in
    let vc : number_named w.Nbins ss ≡ pos count = ap number_in (looked_up ss wanted c options (here c [])) in
    let oc : outside (pos count) ≡ false = small_number count given.1 in
    let outside_none : any_outside wanted ≡ false = rw oc refl in
    let counts : within 100000 (number_named w.Nbins ss) ≡ count = ap (within 100000) vc ∙ within-small 100000 count given.1 in
    record { tidy = tidy ss wanted options refl outside_none; draft = rw (one, two, three, four) (ap (λ x. Some (binning.Weight x)) counts); counted = positive count given.0; bounded = refl }
binning_read (binning.Precision digits) ss options given =
    let c : Setting = option w.Precision (pos digits) in
    let wanted : List Setting = c ∷ [] in
    let one : is_set (w.Each ∷ []) ss ≡ false = same_set (w.Each ∷ []) ss wanted options.same in
    let two : is_set (w.Bounds ∷ []) ss ≡ false = same_set (w.Bounds ∷ []) ss wanted options.same in
    let three : is_set (w.Start ∷ w.End ∷ w.Nbins ∷ []) ss ≡ false = same_set (w.Start ∷ w.End ∷ w.Nbins ∷ []) ss wanted options.same in
    let four : is_set (w.Nbins ∷ []) ss ≡ false = same_set (w.Nbins ∷ []) ss wanted options.same in
    let five : is_set (w.Precision ∷ []) ss ≡ true = same_set (w.Precision ∷ []) ss wanted options.same in
    let vc : number_named w.Precision ss ≡ pos digits = ap number_in (looked_up ss wanted c options (here c [])) in
    let oc : outside (pos digits) ≡ false = (let h = given.1 in small_number digits (omega arith)) in
    let outside_none : any_outside wanted ≡ false = rw oc refl in
    let counts : within 18 (number_named w.Precision ss) ≡ digits = ap (within 18) vc ∙ within-small 18 digits given.1 in
    record { tidy = tidy ss wanted options refl outside_none; draft = rw (one, two, three, four, five) (ap (λ x. Some (binning.Precision x)) counts); counted = positive digits given.0; bounded = refl }

-- ---- encoding

pub record EncodingRead (ss : List Setting) (e : EncodingSpec) : Type 0 where
  pub tidy : Tidy ss
  pub draft : draft_encoding ss ≡ Some e
  pub counted : is_encoding_counted e ≡ true

level_again : (level : Coarse) → coarse_in (Some (v.Word (coarse_word level))) ≡ level
level_again coarse.Equality = refl
level_again coarse.Range = refl
level_again coarse.Interval = refl

level_fits : (level : Coarse) → fits w.Coarse (v.Word (coarse_word level)) ≡ true
level_fits coarse.Equality = refl
level_fits coarse.Range = refl
level_fits coarse.Interval = refl

pub encoding_read : (e : EncodingSpec) (ss : List Setting) → HasOptions (encoding_options e) ss → IsGivenEncoding e → EncodingRead ss e
unfolding draft_encoding
encoding_read encoding.Equality ss options given =
    let one : is_set (w.Equality ∷ []) ss ≡ true = same_set (w.Equality ∷ []) ss (plain w.Equality) options.same in
    record { tidy = tidy ss (plain w.Equality) options refl refl; draft = rw one refl; counted = refl }
encoding_read encoding.Range ss options given =
    let one : is_set (w.Equality ∷ []) ss ≡ false = same_set (w.Equality ∷ []) ss (plain w.Range) options.same in
    let two : is_set (w.Range ∷ []) ss ≡ true = same_set (w.Range ∷ []) ss (plain w.Range) options.same in
    record { tidy = tidy ss (plain w.Range) options refl refl; draft = rw (one, two) refl; counted = refl }
encoding_read encoding.Interval ss options given =
    let one : is_set (w.Equality ∷ []) ss ≡ false = same_set (w.Equality ∷ []) ss (plain w.Interval) options.same in
    let two : is_set (w.Range ∷ []) ss ≡ false = same_set (w.Range ∷ []) ss (plain w.Interval) options.same in
    let three : is_set (w.Interval ∷ []) ss ≡ true = same_set (w.Interval ∷ []) ss (plain w.Interval) options.same in
    record { tidy = tidy ss (plain w.Interval) options refl refl; draft = rw (one, two, three) refl; counted = refl }
encoding_read (encoding.TwoLevel level count) ss options given =
    let a : Setting = record { name = w.TwoLevel; value = v.Nothing } in
    let b : Setting = record { name = w.Coarse; value = v.Word (coarse_word level) } in
    let c : Setting = option w.Ncoarse (pos count) in
    let wanted : List Setting = a ∷ b ∷ c ∷ [] in
    let one : is_set (w.Equality ∷ []) ss ≡ false = same_set (w.Equality ∷ []) ss wanted options.same in
    let two : is_set (w.Range ∷ []) ss ≡ false = same_set (w.Range ∷ []) ss wanted options.same in
    let three : is_set (w.Interval ∷ []) ss ≡ false = same_set (w.Interval ∷ []) ss wanted options.same in
    let four : is_set (w.TwoLevel ∷ w.Coarse ∷ w.Ncoarse ∷ []) ss ≡ true = same_set (w.TwoLevel ∷ w.Coarse ∷ w.Ncoarse ∷ []) ss wanted options.same in
    let vb : coarse_named w.Coarse ss ≡ level = ap coarse_in (looked_up ss wanted b options (later a (b ∷ c ∷ []) b (here b (c ∷ [])))) ∙ level_again level in
    let vc : number_named w.Ncoarse ss ≡ pos count = ap number_in (looked_up ss wanted c options (later a (b ∷ c ∷ []) c (later b (c ∷ []) c (here c [])))) in
    let oc : outside (pos count) ≡ false = small_number count given.1 in
    let outside_none : any_outside wanted ≡ false = rw oc refl in
    let fit : all_fit wanted ≡ true = (let fb : fits w.Coarse (v.Word (coarse_word level)) ≡ true = level_fits level in rw fb refl) in
    let counts : within 100000 (number_named w.Ncoarse ss) ≡ count = ap (within 100000) vc ∙ within-small 100000 count given.1 in
    record {
      tidy = tidy ss wanted options fit outside_none;
      draft = rw (one, two, three, four) (ap (λ x. Some (encoding.TwoLevel x (within 100000 (number_named w.Ncoarse ss)))) vb ∙ ap (λ x. Some (encoding.TwoLevel level x)) counts);
      counted = positive count given.0;
    }

-- ---- the form

pub told-meaning : (f : Form) (s : Spec) → HasOptions (binning_options s.binning) f.binning → HasOptions (encoding_options s.encoding) f.encoding → IsGiven s → meaning f ≡ Ok s
unfolding meaning draft
told-meaning f s binning_has encoding_has given =
    let b = binning_read s.binning f.binning binning_has given.0 in
    let e = encoding_read s.encoding f.encoding encoding_has given.1 in
    let fb : all_fit f.binning ≡ true = b.tidy.fit in
    let fe : all_fit f.encoding ≡ true = e.tidy.fit in
    let db : draft_binning f.binning ≡ Some s.binning = b.draft in
    let de : draft_encoding f.encoding ≡ Some s.encoding = e.draft in
    let rb : repeats f.binning ≡ false = b.tidy.single in
    let re : repeats f.encoding ≡ false = e.tidy.single in
    let ob : any_outside f.binning ≡ false = b.tidy.small in
    let oe : any_outside f.encoding ≡ false = e.tidy.small in
    let cb : is_binning_counted s.binning ≡ true = b.counted in
    let ce : is_encoding_counted s.encoding ≡ true = e.counted in
    let bb : is_bounded s.binning ≡ true = b.bounded in
    let drafted : draft f ≡ Some s = rw (fb, fe, db, de) refl in
    ap (verdict f) drafted ∙ rw (rb, re, ob, oe, cb, ce, bb) refl
