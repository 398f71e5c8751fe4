-- Which codes have words that pass a test.
use Rattle.std.proofs.Common.{◌≡◌, ◌≢◌, ℕ, zero, suc, ◌+◌, ◌<◌, ◌≤◌, Bool, true, false, not, cond, ◌&&◌, ◌||◌, List, [], ◌∷◌, ◌++◌, length, take, get_or, ℤ, pos, negsuc, ◌≤ℤ◌, ◌<ℤ◌, refl, sym, ap, subst, ◌∙◌, arith}
use Rattle.std.specs.Prelude.{Option, Some, None, slice_get, Result, Ok, Err, IfOk}
use Rattle.std.specs.List.{list_any, AllByRecursion}
use Rattle.std.specs.Ordering.{int_eq}
use Rattle.std.specs.Str.{bytes_eq}
use Rattle.std.proofs.lemmas.Int.{ints}
use Rattle.std.proofs.lemmas.Grind.{common_steps}
use Rattle.std.proofs.lemmas.Option.{slice_get_within, slice_get-get_or}
use Rattle.std.proofs.lemmas.List.Folds.{list_any-append}
use Rattle.std.proofs.lemmas.Slice.Eq.{bytes_eq-Decides}
use Rattle.std.proofs.lemmas.Bool.Decides.{Decides-int_eq}
use Rattle.binning.specs.declared.span_lists.Span.{Span}
use Rattle.binning.specs.Spans.{AreApart, has, in_span}
use Rattle.binning.proofs.TestLemmas.{either, not_both}
use Rattle.text_column.specs.Words.{IsDictionary, code_in, word_in}
use Rattle.text_column.proofs.DictionaryLemmas.{code_of_word, word_next, word_of_code}
use Rattle.where_plan.specs.SpansOf.{AreSpansOf, code_passes, code_range, some_passes, span}

and_false : (b : Bool) → (b && false) ≡ false
and_false true = refl
and_false false = refl

and_true : (a b : Bool) → a ≡ true → (a && b) ≡ b
and_true a b e = rw e refl

inside : (n least greatest : ℤ) → least ≤ℤ n → n ≤ℤ greatest → in_span n (span least greatest) ≡ true
inside n least greatest h k = grind (arith, ints)

-- ---- codes and words

word_behind : (words : List (List ℕ)) (k : ℕ) → word_in words (suc k) ≡ slice_get words k
word_behind words k = let one : suc k ≡ k + 1 = omega arith in ap (word_in words) one ∙ word_next words k

in_range : (words : List (List ℕ)) (k : ℕ) (word : List ℕ) → word_in words k ≡ Some word → in_span (pos k) (code_range words) ≡ true
in_range words zero word e = absurd cc
in_range words (suc k) word e =
    let within : k < length words = slice_get_within words k word (sym (word_behind words k) ∙ e) in
    inside (pos (suc k)) (pos 1) (pos (length words)) (omega (arith, ints)) (omega (arith, ints))

word_there : (words : List (List ℕ)) (k : ℕ) → in_span (pos k) (code_range words) ≡ true → (word : List ℕ) × (word_in words k ≡ Some word)
word_there words zero e = absurd (no_zero (length words) e)
  where
    no_zero : (n : ℕ) → in_span (pos 0) (span (pos 1) (pos n)) ≡ true → ⊥
    no_zero n e = grind (arith, ints)
word_there words (suc k) e =
    let within : k < length words = below k (length words) e in
    let got = by (slice_get words k) refl within in
    (got.0, word_behind words k ∙ got.1)
  where
    below : (k n : ℕ) → in_span (pos (suc k)) (span (pos 1) (pos n)) ≡ true → k < n
    below k n e = grind (arith, ints)

    by : (o : Option (List ℕ)) → slice_get words k ≡ o → k < length words → (word : List ℕ) × (slice_get words k ≡ Some word)
    by (Some word) e h = (word, e)
    by None e h = let some = slice_get-get_or words k [] h in absurd cc

within_by : (test : List ℕ → Bool) (words : List (List ℕ)) (k : ℕ) (o : Option (List ℕ)) → word_in words k ≡ o → (in_span (pos k) (code_range words) && some_passes test o) ≡ some_passes test o
within_by test words k None e = and_false (in_span (pos k) (code_range words))
within_by test words k (Some word) e = and_true (in_span (pos k) (code_range words)) (test word) (in_range words k word e)

-- a code whose word passes is one of those that words have
pub passes_within : (test : List ℕ → Bool) (words : List (List ℕ)) (n : ℤ) → (in_span n (code_range words) && code_passes test words n) ≡ code_passes test words n
passes_within test words (pos k) = within_by test words k (word_in words k) refl
passes_within test words (negsuc k) = and_false (in_span (negsuc k) (code_range words))

-- ---- the code of a word

equal_test : (b : Bool) (n c : ℤ) → (b ≡ true → n ≡ c) → (n ≡ c → b ≡ true) → b ≡ int_eq n c
equal_test true n c f g = sym ((Decides-int_eq n c).1 (f refl))
equal_test false n c f g = either (int_eq n c) (λ e. absurd (not_both (g ((Decides-int_eq n c).0 e)) refl)) (λ e. sym e)

pos_same : (j k : ℕ) → j ≡ k → pos j ≡ pos k
pos_same j k e = ap pos e

same_by : (words : List (List ℕ)) (text : List ℕ) (code k : ℕ) → IsDictionary words → code_in words text ≡ Some code → (o : Option (List ℕ)) → word_in words k ≡ o → some_passes (λ word. bytes_eq word text) o ≡ int_eq (pos k) (pos code)
same_by words text code k dictionary found None e =
    equal_test false (pos k) (pos code) (λ f. absurd cc)
    (λ f. let same : k ≡ code = cc in let some = word_of_code words text code found in absurd (no_word text (sym e ∙ (ap (word_in words) same ∙ some))))
  where
    no_word : (w : List ℕ) → ◌≡◌ {A = Option (List ℕ)} None (Some w) → ⊥
    no_word w e = cc
same_by words text code k dictionary found (Some word) e =
    equal_test (bytes_eq word text) (pos k) (pos code)
    (λ f. let same : word ≡ text = (bytes_eq-Decides word text).0 f in
    let code_k = code_of_word words text k dictionary (e ∙ ap Some same) in
    let both : Some k ≡ Some code = sym code_k ∙ found in
    let one : k ≡ code = cc in pos_same k code one)
    (λ f. let same : k ≡ code = cc in
    let some = word_of_code words text code found in
    let both : Some word ≡ Some text = sym e ∙ (ap (word_in words) same ∙ some) in
    let one : word ≡ text = cc in (bytes_eq-Decides word text).1 one)

-- the word of a code is the text where the code is that of the text
pub same_code : (words : List (List ℕ)) (text : List ℕ) (code : ℕ) → IsDictionary words → code_in words text ≡ Some code → (n : ℤ) → code_passes (λ word. bytes_eq word text) words n ≡ int_eq n (pos code)
same_code words text code dictionary found (pos k) = same_by words text code k dictionary found (word_in words k) refl
same_code words text code dictionary found (negsuc k) = equal_test false (negsuc k) (pos code) (λ f. absurd cc) (λ f. absurd cc)

other_by : (words : List (List ℕ)) (text : List ℕ) (k : ℕ) → IsDictionary words → code_in words text ≡ None → (o : Option (List ℕ)) → word_in words k ≡ o → some_passes (λ word. bytes_eq word text) o ≡ false
other_by words text k dictionary none None e = refl
other_by words text k dictionary none (Some word) e =
    either (bytes_eq word text)
    (λ f. let same : word ≡ text = (bytes_eq-Decides word text).0 f in
    let code_k = code_of_word words text k dictionary (e ∙ ap Some same) in
    absurd (no_code k (sym none ∙ code_k)))
    (λ f. f)
  where
    no_code : (w : ℕ) → ◌≡◌ {A = Option ℕ} None (Some w) → ⊥
    no_code w e = cc

-- no word is the text where it has no code
pub no_code : (words : List (List ℕ)) (text : List ℕ) → IsDictionary words → code_in words text ≡ None → (n : ℤ) → code_passes (λ word. bytes_eq word text) words n ≡ false
no_code words text dictionary none (pos k) = other_by words text k dictionary none (word_in words k) refl
no_code words text dictionary none (negsuc k) = refl

not_by : (test : List ℕ → Bool) (o : Option (List ℕ)) (word : List ℕ) → o ≡ Some word → some_passes (λ w. not (test w)) o ≡ not (some_passes test o)
not_by test None word e = absurd cc
not_by test (Some w) word e = refl

not_in : (test : List ℕ → Bool) (words : List (List ℕ)) (n : ℤ) → in_span n (code_range words) ≡ true → code_passes (λ w. not (test w)) words n ≡ not (code_passes test words n)
not_in test words (pos k) e = let there = word_there words k e in not_by test (word_in words k) there.0 there.1
not_in test words (negsuc k) e = absurd (no_negative k (length words) e)
  where
    no_negative : (k n : ℕ) → in_span (negsuc k) (span (pos 1) (pos n)) ≡ true → ⊥
    no_negative k n e = grind (arith, ints)

and_same : (a x y : Bool) → (a ≡ true → x ≡ y) → (a && x) ≡ (a && y)
and_same true x y h = h refl
and_same false x y h = refl

-- the other codes
pub passes_not : (test : List ℕ → Bool) (words : List (List ℕ)) (n : ℤ) → (in_span n (code_range words) && code_passes (λ w. not (test w)) words n) ≡ (in_span n (code_range words) && not (code_passes test words n))
passes_not test words n = and_same (in_span n (code_range words)) (code_passes (λ w. not (test w)) words n) (not (code_passes test words n)) (not_in test words n)

-- ---- codes of several words

any_by : (list : List (List ℕ)) (text : List ℕ) (o : Option (List ℕ)) → some_passes (λ w. list_any (bytes_eq w) (list ++ text ∷ [])) o ≡ (some_passes (λ w. list_any (bytes_eq w) list) o || some_passes (λ w. bytes_eq w text) o)
any_by list text None = refl
any_by list text (Some w) = list_any-append (bytes_eq w) list (text ∷ []) ∙ ap (λ b. list_any (bytes_eq w) list || b) (or_false (bytes_eq w text))
  where
    or_false : (b : Bool) → (b || false) ≡ b
    or_false true = refl
    or_false false = refl

pub passes_one_more : (words list : List (List ℕ)) (text : List ℕ) (n : ℤ) → code_passes (λ w. list_any (bytes_eq w) (list ++ text ∷ [])) words n ≡ (code_passes (λ w. list_any (bytes_eq w) list) words n || code_passes (λ w. bytes_eq w text) words n)
passes_one_more words list text (pos k) = any_by list text (word_in words k)
passes_one_more words list text (negsuc k) = refl

none_by : (o : Option (List ℕ)) → some_passes (λ w. list_any (bytes_eq w) []) o ≡ false
none_by None = refl
none_by (Some w) = refl

pub passes_none : (words : List (List ℕ)) (n : ℤ) → code_passes (λ w. list_any (bytes_eq w) []) words n ≡ false
passes_none words (pos k) = none_by (word_in words k)
passes_none words (negsuc k) = refl

-- one text more of a list
pub text_step : (words list : List (List ℕ)) (s : Span) (spans more : List Span) (i : ℕ) (text : List ℕ) (n : ℤ) → i < length list → text ≡ get_or list i text → more ≡ spans ++ s ∷ []
    → has spans n ≡ (in_span n (code_range words) && code_passes (λ w. list_any (bytes_eq w) (take i list)) words n) → in_span n s ≡ (in_span n (code_range words) && code_passes (λ w. bytes_eq w text) words n)
    → has more n ≡ (in_span n (code_range words) && code_passes (λ w. list_any (bytes_eq w) (take (i + 1) list)) words n)
text_step words list s spans more i text n h same e so_far one =
    ap (λ xs. has xs n) e ∙ list_any-append (in_span n) spans (s ∷ []) ∙ ap (λ b. has spans n || b) (or_none (in_span n s))
    ∙ ap (λ b. b || in_span n s) so_far ∙ ap (λ b. (in_span n (code_range words) && code_passes (λ w. list_any (bytes_eq w) (take i list)) words n) || b) one
    ∙ joined_tests (in_span n (code_range words)) (code_passes (λ w. list_any (bytes_eq w) (take i list)) words n) (code_passes (λ w. bytes_eq w text) words n)
    ∙ ap (λ b. in_span n (code_range words) && b) (sym (passes_one_more words (take i list) text n))
    ∙ ap (λ xs. in_span n (code_range words) && code_passes (λ w. list_any (bytes_eq w) xs) words n) (sym (taken_more list i text h same))
  where
    or_none : (a : Bool) → (a || false) ≡ a
    or_none true = refl
    or_none false = refl

    joined_tests : (a b c : Bool) → ((a && b) || (a && c)) ≡ (a && (b || c))
    joined_tests true b c = refl
    joined_tests false b c = refl

    taken_more : (xs : List (List ℕ)) (i : ℕ) (x : List ℕ) → i < length xs → x ≡ get_or xs i x → take (i + 1) xs ≡ take i xs ++ x ∷ []
    taken_more xs i x h e = grind (arith, common_steps)

-- ---- runs of codes

pub word_missing : (words : List (List ℕ)) (k : ℕ) → word_in words (k + 1) ≡ None → k < length words → ⊥
word_missing words k e h = let some = slice_get-get_or words k [] h in no_word (get_or words k []) (sym e ∙ (word_next words k ∙ some))
  where
    no_word : (w : List ℕ) → ◌≡◌ {A = Option (List ℕ)} None (Some w) → ⊥
    no_word w e = cc

pub passes_next : (test : List ℕ → Bool) (words : List (List ℕ)) (k : ℕ) (word : List ℕ) (b : Bool) → word_in words (k + 1) ≡ Some word → test word ≡ b → code_passes test words (pos (k + 1)) ≡ b
passes_next test words k word b e f = ap (some_passes test) e ∙ f

abbrev run : ℕ → ℕ → Span
run first last = span (pos first) (pos last)

wider : (first last : ℕ) (n : ℤ) → int_eq n (pos (last + 1)) ≡ false → in_span n (run first (last + 1)) ≡ in_span n (run first last)
wider first last n e = grind (arith, ints)

past : (last : ℕ) (n : ℤ) → in_span n (run (last + 2) (last + 1)) ≡ false
past last n = grind (arith, ints)

at_end : (first last : ℕ) → first ≤ last → in_span (pos last) (run first last) ≡ true
at_end first last h = inside (pos last) (pos first) (pos last) (omega (arith, ints)) (omega (arith, ints))

-- a run ends before a code that doesn't pass
pub run_ends : (P : ℤ → Bool) (runs more : List Span) (first last : ℕ) (n : ℤ) → P (pos (last + 1)) ≡ false → has more n ≡ (has runs n || in_span n (run first last)) → (has runs n || in_span n (run first last)) ≡ (in_span n (run 1 last) && P n)
    → (has more n || in_span n (run (last + 2) (last + 1))) ≡ (in_span n (run 1 (last + 1)) && P n)
run_ends P runs more first last n bad pushed so_far =
    ap (λ b. has more n || b) (past last n) ∙ or_none (has more n) ∙ pushed ∙ so_far
    ∙ either (int_eq n (pos (last + 1)))
    (λ e. let same : n ≡ pos (last + 1) = (Decides-int_eq n (pos (last + 1))).0 e in
    let no : P n ≡ false = ap P same ∙ bad in
    ap (λ b. in_span n (run 1 last) && b) no ∙ and_false (in_span n (run 1 last)) ∙ sym (ap (λ b. in_span n (run 1 (last + 1)) && b) no ∙ and_false (in_span n (run 1 (last + 1)))))
    (λ e. ap (λ b. b && P n) (sym (wider 1 last n e)))
  where
    or_none : (a : Bool) → (a || false) ≡ a
    or_none true = refl
    or_none false = refl

or_true : (a b : Bool) → b ≡ true → (a || b) ≡ true
or_true true b e = refl
or_true false b e = e

-- a run goes on with a code that passes
pub run_goes_on : (P : ℤ → Bool) (runs : List Span) (first last : ℕ) (n : ℤ) → first ≤ last + 1 → P (pos (last + 1)) ≡ true → (has runs n || in_span n (run first last)) ≡ (in_span n (run 1 last) && P n)
    → (has runs n || in_span n (run first (last + 1))) ≡ (in_span n (run 1 (last + 1)) && P n)
run_goes_on P runs first last n low good so_far =
    either (int_eq n (pos (last + 1)))
    (λ e. let same : n ≡ pos (last + 1) = (Decides-int_eq n (pos (last + 1))).0 e in
    let here : in_span n (run first (last + 1)) ≡ true = ap (λ x. in_span x (run first (last + 1))) same ∙ at_end first (last + 1) low in
    let there : in_span n (run 1 (last + 1)) ≡ true = ap (λ x. in_span x (run 1 (last + 1))) same ∙ at_end 1 (last + 1) (omega arith) in
    let yes : P n ≡ true = ap P same ∙ good in
    or_true (has runs n) (in_span n (run first (last + 1))) here ∙ sym (and_true (in_span n (run 1 (last + 1))) (P n) there ∙ yes))
    (λ e. ap (λ b. has runs n || b) (wider first last n e) ∙ (so_far ∙ ap (λ b. b && P n) (sym (wider 1 last n e))))

pub no_run : (P : ℤ → Bool) (n : ℤ) → (has [] n || in_span n (run 1 0)) ≡ (in_span n (run 1 0) && P n)
no_run P n = let none : in_span n (run 1 0) ≡ false = empty n in none ∙ sym (ap (λ b. b && P n) none)
  where
    empty : (n : ℤ) → in_span n (run 1 0) ≡ false
    empty n = grind (arith, ints)

-- ---- spans of codes

-- the other codes, given those that differ from one
pub other_given : {E : Type 0} (words : List (List ℕ)) (text : List ℕ) (code : ℕ) (ends : Span) (limit : ℤ) (r : Result (List Span) E) → IsDictionary words → code_in words text ≡ Some code → ends ≡ code_range words → limit ≡ pos code
    → IfOk r (AreSpansOf ends (λ n. not (int_eq n limit))) → IfOk r (AreSpansOf (code_range words) (code_passes (λ w. not (bytes_eq w text)) words))
other_given words text code ends limit (Ok spans) dictionary found e f are = record {
  apart = are.apart;
  numbers = λ n. are.numbers n ∙ ap (λ s. in_span n s && not (int_eq n limit)) e ∙ ap (λ z. in_span n (code_range words) && not (int_eq n z)) f
      ∙ ap (λ b. in_span n (code_range words) && not b) (sym (same_code words text code dictionary found n)) ∙ sym (passes_not (λ w. bytes_eq w text) words n);
}
other_given words text code ends limit (Err e) dictionary found f g are = tt

-- all codes, where no word is the text
pub all_given : {E : Type 0} (words : List (List ℕ)) (text : List ℕ) (ends : Span) (r : Result (List Span) E) → IsDictionary words → code_in words text ≡ None → ends ≡ code_range words
    → IfOk r (λ spans. (n : ℤ) → has spans n ≡ has (ends ∷ []) n) → IfOk r AreApart → IfOk r (AreSpansOf (code_range words) (code_passes (λ w. not (bytes_eq w text)) words))
all_given words text ends (Ok spans) dictionary none e same apart = record {
  apart = apart;
  numbers = λ n. same n ∙ ap (λ s. has (s ∷ []) n) e ∙ alone (in_span n (code_range words)) ∙ ap (λ b. in_span n (code_range words) && not b) (sym (no_code words text dictionary none n)) ∙ sym (passes_not (λ w. bytes_eq w text) words n);
}
  where
    alone : (a : Bool) → (a || false) ≡ (a && true)
    alone true = refl
    alone false = refl
all_given words text ends (Err e) dictionary none f same apart = tt

-- the code of a word, given the number where it is a code
pub code_given : (words : List (List ℕ)) (text : List ℕ) (code : ℕ) (ends s : Span) (limit n : ℤ) → IsDictionary words → code_in words text ≡ Some code → ends ≡ code_range words → limit ≡ pos code → in_span n s ≡ (in_span n ends && int_eq n limit)
    → in_span n s ≡ (in_span n (code_range words) && code_passes (λ w. bytes_eq w text) words n)
code_given words text code ends s limit n dictionary found e f h =
    h ∙ ap (λ x. in_span n x && int_eq n limit) e ∙ ap (λ z. in_span n (code_range words) && int_eq n z) f ∙ ap (λ b. in_span n (code_range words) && b) (sym (same_code words text code dictionary found n))

pub no_code_given : (words : List (List ℕ)) (text : List ℕ) (s : Span) (n : ℤ) → IsDictionary words → code_in words text ≡ None → in_span n s ≡ false → in_span n s ≡ (in_span n (code_range words) && code_passes (λ w. bytes_eq w text) words n)
no_code_given words text s n dictionary none h = h ∙ sym (passes_within (λ w. bytes_eq w text) words n ∙ no_code words text dictionary none n)
