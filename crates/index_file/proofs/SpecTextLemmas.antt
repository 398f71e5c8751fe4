-- The printed form of a specification is text, so bytes that are none aren't such a form.
use Rattle.std.proofs.Common.{◌≡◌, ◌^◌, ◌<◌, ℕ, suc, ℤ, pos, Bool, true, false, cond, List, [], ◌∷◌, ◌++◌, Result, Ok, Err, bytes_eq, nat_lt, codes, refl, ap, subst, ◌∙◌, arith}
use lib.IntN.{negsuc}
use Rattle.std.specs.Fmt.{decimal, signed_decimal}
use Rattle.std.specs.Str.{IsAscii, IsUtf8}
use Rattle.std.specs.List.{AllByRecursion}
use Rattle.std.proofs.lemmas.Bool.{ltb-true}
use Rattle.std.proofs.lemmas.Fmt.{IsAscii-decimal_wide}
use Rattle.std.proofs.lemmas.Int.{ints}
use Rattle.std.proofs.lemmas.Str.Ascii.{IsAscii-nil, IsAscii-cons}
use Rattle.std.proofs.lemmas.Str.{IsUtf8-append, IsUtf8-from_ascii, IsUtf8-nil}
use Rattle.std.proofs.lemmas.Slice.Eq.{bytes_eq-Decides}
use Rattle.index_spec.specs.Language.{IsGiven, IsGivenBinning, IsGivenEncoding, IsInRange, spec_of}
use Rattle.index_spec.specs.Printed.{comma_each, joined, printed, printed_binning, coarse_text, printed_encoding}
use Rattle.index_spec.specs.declared.spec.Binning.{Binning}
use Rattle.index_spec.specs.declared.spec.Binning.TheVariants as binning
use Rattle.index_spec.specs.declared.spec.Coarse.{Coarse}
use Rattle.index_spec.specs.declared.spec.Coarse.TheVariants as coarse
use Rattle.index_spec.specs.declared.spec.EncodingSpec.{EncodingSpec}
use Rattle.index_spec.specs.declared.spec.EncodingSpec.TheVariants as encoding
use Rattle.index_spec.specs.declared.spec.Spec.{Spec}
use Rattle.index_spec.specs.declared.spec.SpecKind.{SpecKind}
use Rattle.index_spec.proofs.Laws.{spelled-spec_of}
use Rattle.index_file.specs.Opening.{reprinted, spec_in}
use Rattle.index_file.specs.declared.fault.IndexFault.{IndexFault}
use Rattle.index_file.specs.declared.fault.IndexFault.TheVariants as fault

-- ---- text

abbrev is_low : List ℕ → Bool
is_low [] = true
is_low (b ∷ bs) = cond (nat_lt b 128) (is_low bs) false

low_first : (b : ℕ) (bs : List ℕ) (t : Bool) → nat_lt b 128 ≡ t → (is_low bs ≡ true → IsAscii bs) → cond t (is_low bs) false ≡ true → IsAscii (b ∷ bs)
low_first b bs true e more h = IsAscii-cons b bs (ltb-true b 128 e) (more h)
low_first b bs false e more h = absurd (cc)

low_ascii : (bs : List ℕ) → is_low bs ≡ true → IsAscii bs
low_ascii [] h = IsAscii-nil
low_ascii (b ∷ bs) h = low_first b bs (nat_lt b 128) refl (low_ascii bs) h

low_text : (bs : List ℕ) → is_low bs ≡ true → IsUtf8 bs
low_text bs h = IsUtf8-from_ascii bs (low_ascii bs h)

both : (xs ys : List ℕ) → IsUtf8 xs → IsUtf8 ys → IsUtf8 (xs ++ ys)
both xs ys h k = IsUtf8-append xs ys h k

-- ---- numbers

decimal_text : (n : ℕ) → n < 10 ^ 64 → IsUtf8 (decimal n)
decimal_text n h = IsUtf8-from_ascii (decimal n) (IsAscii-decimal_wide n h)

signed_text : (z : ℤ) → IsInRange z → IsUtf8 (signed_decimal z)
signed_text (pos n) h = decimal_text n (omega (arith, ints, h.1))
signed_text (negsuc n) h = both (45 ∷ []) (decimal (suc n)) (low_text (45 ∷ []) refl) (decimal_text (suc n) (omega (arith, ints, h.0)))

each_text : (numbers : List ℤ) → AllByRecursion IsInRange numbers → IsUtf8 (comma_each numbers)
each_text [] h = IsUtf8-nil
each_text (z ∷ zs) h =
    both (codes ",") (signed_decimal z ++ comma_each zs) (low_text (codes ",") refl) (both (signed_decimal z) (comma_each zs) (signed_text z h.0) (each_text zs h.1))

joined_text : (numbers : List ℤ) → AllByRecursion IsInRange numbers → IsUtf8 (joined numbers)
joined_text [] h = IsUtf8-nil
joined_text (z ∷ zs) h = both (signed_decimal z) (comma_each zs) (signed_text z h.0) (each_text zs h.1)

-- ---- specifications

binning_text : (b : Binning) → IsGivenBinning b → IsUtf8 (printed_binning b)
unfolding printed_binning
binning_text binning.Each h = low_text (codes "none") refl
binning_text (binning.Bounds bounds) h =
    both (codes "bounds=(") (joined bounds ++ codes ")") (low_text (codes "bounds=(") refl) (both (joined bounds) (codes ")") (joined_text bounds h.3) (low_text (codes ")") refl))
binning_text (binning.Width start end count) h =
    let nbins = both (codes " nbins=") (decimal count) (low_text (codes " nbins=") refl) (decimal_text count (omega (arith, h.4))) in
    let ends = both (codes " end=") (signed_decimal end ++ (codes " nbins=" ++ decimal count)) (low_text (codes " end=") refl)
    (both (signed_decimal end) (codes " nbins=" ++ decimal count) (signed_text end h.1) nbins) in
    both (codes "start=") (signed_decimal start ++ (codes " end=" ++ (signed_decimal end ++ (codes " nbins=" ++ decimal count)))) (low_text (codes "start=") refl)
    (both (signed_decimal start) (codes " end=" ++ (signed_decimal end ++ (codes " nbins=" ++ decimal count))) (signed_text start h.0) ends)
binning_text (binning.Weight count) h = both (codes "nbins=") (decimal count) (low_text (codes "nbins=") refl) (decimal_text count (omega (arith, h.1)))
binning_text (binning.Precision digits) h =
    both (codes "precision=") (decimal digits) (low_text (codes "precision=") refl) (decimal_text digits (omega (arith, h.1)))

level_text : (level : Coarse) → IsUtf8 (coarse_text level)
unfolding coarse_text
level_text coarse.Equality = low_text (codes "equality") refl
level_text coarse.Range = low_text (codes "range") refl
level_text coarse.Interval = low_text (codes "interval") refl

encoding_text : (e : EncodingSpec) → IsGivenEncoding e → IsUtf8 (printed_encoding e)
unfolding printed_encoding
encoding_text encoding.Equality h = low_text (codes "equality") refl
encoding_text encoding.Range h = low_text (codes "range") refl
encoding_text encoding.Interval h = low_text (codes "interval") refl
encoding_text (encoding.TwoLevel level ncoarse) h =
    both (codes "two-level coarse=") (coarse_text level ++ (codes " ncoarse=" ++ decimal ncoarse)) (low_text (codes "two-level coarse=") refl)
    (both (coarse_text level) (codes " ncoarse=" ++ decimal ncoarse) (level_text level)
    (both (codes " ncoarse=") (decimal ncoarse) (low_text (codes " ncoarse=") refl) (decimal_text ncoarse (omega (arith, h.1)))))

-- the printed form of each specification is text
pub printed_text : (s : Spec) → IsGiven s → IsUtf8 (printed s)
unfolding printed
printed_text s h =
    both (codes "<binning ") (printed_binning s.binning ++ (codes "/><encoding " ++ (printed_encoding s.encoding ++ codes "/>"))) (low_text (codes "<binning ") refl)
    (both (printed_binning s.binning) (codes "/><encoding " ++ (printed_encoding s.encoding ++ codes "/>")) (binning_text s.binning h.0)
    (both (codes "/><encoding ") (printed_encoding s.encoding ++ codes "/>") (low_text (codes "/><encoding ") refl)
    (both (printed_encoding s.encoding) (codes "/>") (encoding_text s.encoding h.1) (low_text (codes "/>") refl))))

-- ---- bytes that are no printed form

not_same : (xs ys : List ℕ) → (xs ≡ ys → ⊥) → bytes_eq xs ys ≡ false
not_same xs ys h = by (bytes_eq xs ys) refl
  where
    by : (b : Bool) → bytes_eq xs ys ≡ b → b ≡ false
    by false e = refl
    by true e = absurd (h ((bytes_eq-Decides xs ys).0 e))

abbrev chosen : Bool → Spec → Result Spec IndexFault
chosen b s = cond b (Ok s) (Err fault.Spec)

-- bytes that are no text aren't the printed form of a specification
pub spec_in-untold : (text : List ℕ) → (IsUtf8 text → ⊥) → spec_in text ≡ Err fault.Spec
unfolding spec_in
spec_in-untold text h = by (spec_of text) refl
  where
    by : (r : Result Spec SpecKind) → spec_of text ≡ r → reprinted text r ≡ Err fault.Spec
    by (Err kind) e = refl
    by (Ok s) e =
        let other = not_same (printed s) text (λ same. h (subst IsUtf8 same (printed_text s (spelled-spec_of text s e).given))) in
        ap (λ b. chosen b s) other

-- the printed form of a specification is read as that specification
pub spec_in-printed : (s : Spec) → spec_of (printed s) ≡ Ok s → spec_in (printed s) ≡ Ok s
unfolding spec_in
spec_in-printed s h =
    ap (reprinted (printed s)) h ∙ ap (λ b. chosen b s) ((bytes_eq-Decides (printed s) (printed s)).1 refl)
