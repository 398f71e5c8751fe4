-- The tokens that a text spells are those that the function gives.
use Rattle.std.proofs.Common.{◌≡◌, append_assoc, ℕ, Bool, true, false, cond, List, [], ◌∷◌, ◌++◌, length, take, drop, refl, sym, ap, subst, ◌∙◌, eqb, eqb-true, inl, inr, arith, ℤ}
use Rattle.std.specs.Prelude.{Option, Some, None, is_some}
use Rattle.std.specs.Option.{option_map}
use Rattle.std.specs.List.{prefix_len, list_all}
use Rattle.std.specs.Char.{is_ascii_digit}
use Rattle.std.specs.Str.{str_to_ascii_lowercase}
use Rattle.std.proofs.lemmas.List.{take_at, drop_at}
use Rattle.std.proofs.lemmas.Bool.Decides.{nat_tests}
use Rattle.fb_types.specs.Field.{whole_of}
use Rattle.where_grammar.specs.declared.token.Sign.{Sign}
use Rattle.where_grammar.specs.declared.token.Token.{Token}
use Rattle.where_grammar.specs.declared.token.Token.TheVariants as t
use Rattle.where_grammar.specs.Tokens.{is_quote, doubled, IsQuoted, is_first, text_at, begins_word, in_word, double_sign, single_sign, is_word, sign_of, IsWritten, goes_on, word_at, number_at, sign_at, token_at}
use Rattle.lexing.specs.Blanks.{is_blank, StopsAt}
use Rattle.lexing.specs.Digits.{natural_of, signed}
use Rattle.lexing.proofs.DigitLemmas.{natural_at-again, natural_of-some}
use Rattle.lexing.proofs.Cases.{chosen, mapped}
use Rattle.std.proofs.lemmas.Bool.{and_parts}
use Rattle.lexing.proofs.Runs.{prefix_len-cut}
use Rattle.where_grammar.proofs.Quotes.{unquoted_again}
use Rattle.where_grammar.proofs.Cuts.{begins_in_word, no_minus, no_plus}
use Rattle.where_grammar.proofs.Signs.{BeginsSign, single_begins, double_begins}

-- the token is read at the front, where no blank stands
pub record Reads (text : List ℕ) (token : Token) (rest : List ℕ) : Type 0 where
  pub first : ℕ
  pub others : List ℕ
  pub cons : text ≡ first ∷ others
  pub visible : is_blank first ≡ false
  pub found : token_at (first ∷ others) ≡ Some (token, rest)

-- ---- words

record BeginFacts (b : ℕ) : Type 0 where
  visible : is_blank b ≡ false
  no_minus : eqb b 45 ≡ false
  no_plus : eqb b 43 ≡ false
  no_digit : is_ascii_digit b ≡ false

begin_facts : (b : ℕ) → begins_word b ≡ true → BeginFacts b
begin_facts b e = record { visible = grind (arith, nat_tests); no_minus = grind (arith, nat_tests); no_plus = grind (arith, nat_tests); no_digit = grind (arith, nat_tests) }

word_again : (word rest : List ℕ) → list_all in_word word ≡ true → StopsAt in_word rest → word_at (word ++ rest) ≡ (t.Word (str_to_ascii_lowercase word), rest)
unfolding word_at
word_again word rest all stops =
    let n : prefix_len in_word (word ++ rest) ≡ length word = prefix_len-cut in_word word rest all stops in
    let front : take (length word) (word ++ rest) ≡ word = take_at word rest (length word) refl in
    let back : drop (length word) (word ++ rest) ≡ rest = drop_at word rest (length word) refl in
    rw (n, front, back) refl

word_reads : (b : ℕ) (bs rest : List ℕ) → begins_word b ≡ true → list_all in_word bs ≡ true → StopsAt in_word rest → Reads ((b ∷ bs) ++ rest) (t.Word (str_to_ascii_lowercase (b ∷ bs))) rest
unfolding token_at
word_reads b bs rest begins all stops =
    let f = begin_facts b begins in
    let no_minus : eqb b 45 ≡ false = f.no_minus in
    let no_plus : eqb b 43 ≡ false = f.no_plus in
    let no_digit : is_ascii_digit b ≡ false = f.no_digit in
    let whole : list_all in_word (b ∷ bs) ≡ true = rw (begins_in_word b begins, all) refl in
    let found : token_at (b ∷ (bs ++ rest)) ≡ Some (t.Word (str_to_ascii_lowercase (b ∷ bs)), rest) = rw (no_minus, no_plus, no_digit, begins) (ap Some (word_again (b ∷ bs) rest whole stops)) in
    record { first = b; others = bs ++ rest; cons = refl; visible = f.visible; found = found }

-- ---- numbers

digits_again : (is_negative : Bool) (digits rest : List ℕ) (n : ℕ) → natural_of digits ≡ Some n → StopsAt is_ascii_digit rest → number_at is_negative (digits ++ rest) ≡ Some (t.Number (signed is_negative n), rest)
unfolding number_at
digits_again is_negative digits rest n is stops = rw (natural_at-again digits rest n is stops) refl

digit_visible : (b : ℕ) → is_ascii_digit b ≡ true → is_blank b ≡ false
digit_visible b e = grind (arith, nat_tests)

plain_reads : (digits rest : List ℕ) (n : ℕ) → natural_of digits ≡ Some n → StopsAt is_ascii_digit rest → Reads (digits ++ rest) (t.Number (signed false n)) rest
unfolding token_at
plain_reads [] rest n is stops = absurd cc
plain_reads (b ∷ bs) rest n is stops =
    let digit : is_ascii_digit b ≡ true = (and_parts (is_ascii_digit b) (list_all is_ascii_digit bs) (natural_of-some (b ∷ bs) n is).all).0 in
    let found : token_at (b ∷ (bs ++ rest)) ≡ Some (t.Number (signed false n), rest) = rw (no_minus b digit, no_plus b digit, digit) (digits_again false (b ∷ bs) rest n is stops) in
    record { first = b; others = bs ++ rest; cons = refl; visible = digit_visible b digit; found = found }

minus_reads : (digits rest : List ℕ) (n : ℕ) → natural_of digits ≡ Some n → StopsAt is_ascii_digit rest → Reads (45 ∷ (digits ++ rest)) (t.Number (signed true n)) rest
unfolding token_at
minus_reads digits rest n is stops =
    record { first = 45; others = digits ++ rest; cons = refl; visible = refl; found = digits_again true digits rest n is stops }

plus_reads : (digits rest : List ℕ) (n : ℕ) → natural_of digits ≡ Some n → StopsAt is_ascii_digit rest → Reads (43 ∷ (digits ++ rest)) (t.Number (signed false n)) rest
unfolding token_at
plus_reads digits rest n is stops =
    record { first = 43; others = digits ++ rest; cons = refl; visible = refl; found = digits_again false digits rest n is stops }

after_minus : (b : ℕ) (bs rest : List ℕ) (v : ℤ) → eqb b 45 ≡ true → option_map (signed true) (natural_of bs) ≡ Some v → StopsAt is_ascii_digit rest → Reads ((b ∷ bs) ++ rest) (t.Number v) rest
after_minus b bs rest v byte e stops =
    let h = mapped (signed true) (natural_of bs) v e in
    let first : 45 ≡ b = sym (eqb-true b 45 byte) in
    subst (λ m. Reads ((m ∷ bs) ++ rest) (t.Number v) rest) first (subst (λ z. Reads (45 ∷ (bs ++ rest)) (t.Number z) rest) h.1.1 (minus_reads bs rest h.0 h.1.0 stops))

after_plus : (b : ℕ) (bs rest : List ℕ) (v : ℤ) → eqb b 43 ≡ true → option_map (signed false) (natural_of bs) ≡ Some v → StopsAt is_ascii_digit rest → Reads ((b ∷ bs) ++ rest) (t.Number v) rest
after_plus b bs rest v byte e stops =
    let h = mapped (signed false) (natural_of bs) v e in
    let first : 43 ≡ b = sym (eqb-true b 43 byte) in
    subst (λ m. Reads ((m ∷ bs) ++ rest) (t.Number v) rest) first (subst (λ z. Reads (43 ∷ (bs ++ rest)) (t.Number z) rest) h.1.1 (plus_reads bs rest h.0 h.1.0 stops))

unsigned : (ds rest : List ℕ) (v : ℤ) → option_map (signed false) (natural_of ds) ≡ Some v → StopsAt is_ascii_digit rest → Reads (ds ++ rest) (t.Number v) rest
unsigned ds rest v e stops =
    let h = mapped (signed false) (natural_of ds) v e in
    subst (λ z. Reads (ds ++ rest) (t.Number z) rest) h.1.1 (plain_reads ds rest h.0 h.1.0 stops)

behind_plus : (b : ℕ) (bs rest : List ℕ) (v : ℤ) (plus : Bool) → eqb b 43 ≡ plus → option_map (signed false) (natural_of (cond plus bs (b ∷ bs))) ≡ Some v → StopsAt is_ascii_digit rest → Reads ((b ∷ bs) ++ rest) (t.Number v) rest
behind_plus b bs rest v true byte e stops = after_plus b bs rest v byte e stops
behind_plus b bs rest v false byte e stops = unsigned (b ∷ bs) rest v e stops

number_reads : (numeral rest : List ℕ) (v : ℤ) → whole_of numeral ≡ Some v → StopsAt is_ascii_digit rest → Reads (numeral ++ rest) (t.Number v) rest
number_reads [] rest v e stops = absurd cc
number_reads (b ∷ bs) rest v e stops =
    elim (chosen (eqb b 45) (option_map (signed true) (natural_of bs)) (option_map (signed false) (natural_of (cond (eqb b 43) bs (b ∷ bs)))) (Some v) e) [
      | inl h ↦ after_minus b bs rest v h.0 h.1 stops
      | inr h ↦ behind_plus b bs rest v (eqb b 43) refl h.1 stops
    ]

-- ---- signs

none_from : {A : Type 0} (o : Option A) → is_some o ≡ false → o ≡ None
none_from None e = refl
none_from (Some x) e = absurd cc

single_found : (a : ℕ) (s : Sign) (rest : List ℕ) → single_sign a ≡ Some s → StopsAt (goes_on (a ∷ []) (t.Sign s)) rest → sign_at (a ∷ rest) ≡ Some (t.Sign s, rest)
unfolding sign_at
single_found a s [] e stops = rw e refl
single_found a s (c ∷ cs) e stops = let none : double_sign a c ≡ None = none_from (double_sign a c) stops in rw (none, e) refl

double_found : (a b : ℕ) (s : Sign) (rest : List ℕ) → double_sign a b ≡ Some s → sign_at (a ∷ b ∷ rest) ≡ Some (t.Sign s, rest)
unfolding sign_at
double_found a b s rest e = rw e refl

sign_reads : (a : ℕ) (others : List ℕ) (s : Sign) (rest : List ℕ) → BeginsSign a → sign_at (a ∷ others) ≡ Some (t.Sign s, rest) → Reads (a ∷ others) (t.Sign s) rest
unfolding token_at
sign_reads a others s rest f e =
    let no_minus : eqb a 45 ≡ false = f.no_minus in
    let no_plus : eqb a 43 ≡ false = f.no_plus in
    let no_digit : is_ascii_digit a ≡ false = f.no_digit in
    let no_word : begins_word a ≡ false = f.no_word in
    let no_quote : is_quote a ≡ false = f.no_quote in
    record { first = a; others = others; cons = refl; visible = f.visible; found = rw (no_minus, no_plus, no_digit, no_word, no_quote) e }

signs_read : (form rest : List ℕ) (s : Sign) → sign_of form ≡ Some s → StopsAt (goes_on form (t.Sign s)) rest → Reads (form ++ rest) (t.Sign s) rest
signs_read [] rest s e stops = absurd cc
signs_read (a ∷ []) rest s e stops = sign_reads a rest s rest (single_begins a s e) (single_found a s rest e stops)
signs_read (a ∷ b ∷ []) rest s e stops = sign_reads a (b ∷ rest) s rest (double_begins a b s e) (double_found a b s rest e)
signs_read (a ∷ b ∷ c ∷ bs) rest s e stops = absurd cc

-- ---- texts

record QuoteFacts (b : ℕ) : Type 0 where
  visible : is_blank b ≡ false
  no_minus : eqb b 45 ≡ false
  no_plus : eqb b 43 ≡ false
  no_digit : is_ascii_digit b ≡ false
  no_word : begins_word b ≡ false

quote_facts : (b : ℕ) → is_quote b ≡ true → QuoteFacts b
quote_facts b e = record { visible = grind (arith, nat_tests); no_minus = grind (arith, nat_tests); no_plus = grind (arith, nat_tests); no_digit = grind (arith, nat_tests); no_word = grind (arith, nat_tests) }

text_again : (quote : ℕ) (word rest : List ℕ) → StopsAt (λ b. eqb b quote) rest → text_at quote (doubled quote word ++ (quote ∷ rest)) ≡ Some (t.Text word, rest)
unfolding text_at
text_again quote word rest stops = ap (option_map (λ f. (t.Text f.0, f.1))) (unquoted_again quote word rest stops)

quoted_reads : (quote : ℕ) (word rest : List ℕ) → is_quote quote ≡ true → StopsAt (λ b. eqb b quote) rest → Reads (quote ∷ (doubled quote word ++ (quote ∷ rest))) (t.Text word) rest
unfolding token_at
quoted_reads quote word rest is stops =
    let f = quote_facts quote is in
    let no_minus : eqb quote 45 ≡ false = f.no_minus in
    let no_plus : eqb quote 43 ≡ false = f.no_plus in
    let no_digit : is_ascii_digit quote ≡ false = f.no_digit in
    let no_word : begins_word quote ≡ false = f.no_word in
    record { first = quote; others = doubled quote word ++ (quote ∷ rest); cons = refl; visible = f.visible; found = rw (no_minus, no_plus, no_digit, no_word, is) (text_again quote word rest stops) }

texts_read : (form rest word : List ℕ) → IsQuoted form word → StopsAt (is_first form) rest → Reads (form ++ rest) (t.Text word) rest
texts_read form rest word is stops =
    let stops_at : StopsAt (λ b. eqb b is.quote) rest = subst (λ xs. StopsAt (is_first xs) rest) is.cut stops in
    let joined : is.quote ∷ (doubled is.quote word ++ (is.quote ∷ rest)) ≡ form ++ rest =
    ap (λ xs. is.quote ∷ xs) (sym (append_assoc (doubled is.quote word) (is.quote ∷ []) rest)) ∙ ap (λ xs. xs ++ rest) (sym is.cut) in
    subst (λ xs. Reads xs (t.Text word) rest) joined (quoted_reads is.quote word rest is.is_one stops_at)

-- ---- every token

words_read : (form rest : List ℕ) → is_word form ≡ true → StopsAt in_word rest → Reads (form ++ rest) (t.Word (str_to_ascii_lowercase form)) rest
words_read [] rest e stops = absurd cc
words_read (b ∷ bs) rest e stops = let parts = and_parts (begins_word b) (list_all in_word bs) e in word_reads b bs rest parts.0 parts.1 stops

pub token_reads : (token : Token) (form rest : List ℕ) → IsWritten form token → StopsAt (goes_on form token) rest → Reads (form ++ rest) token rest
token_reads (t.Word word) form rest written stops = subst (λ w. Reads (form ++ rest) (t.Word w) rest) (sym written.1) (words_read form rest written.0 stops)
token_reads (t.Number z) form rest written stops = number_reads form rest z written stops
token_reads (t.Text word) form rest written stops = texts_read form rest word written stops
token_reads (t.Sign s) form rest written stops = signs_read form rest s written stops
