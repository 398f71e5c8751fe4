-- The tokens that a text spells are those that the function gives.
use Rattle.std.proofs.Common.{◌≡◌, ℕ, Bool, true, false, List, [], ◌∷◌, ◌++◌, length, get_or, take, drop, refl, sym, ap, subst, ◌∙◌, eqb, arith}
use Rattle.std.specs.Prelude.{Some}
use Rattle.std.specs.List.{prefix_len, list_all}
use Rattle.std.specs.Char.{is_ascii_digit}
use Rattle.std.proofs.lemmas.List.{take_at, drop_at}
use Rattle.std.proofs.lemmas.Bool.Decides.{nat_tests}
use Rattle.index_spec.specs.declared.word.Word.{Word}
use Rattle.index_spec.specs.declared.word.Word.TheVariants as w
use Rattle.index_spec.specs.declared.token.Token.{Token}
use Rattle.index_spec.specs.declared.token.Token.TheVariants as t
use Rattle.index_spec.specs.Words.{spelling, word_of}
use Rattle.lexing.specs.Blanks.{is_blank, StopsAt}
use Rattle.lexing.specs.Digits.{natural_of, signed}
use Rattle.lexing.proofs.DigitLemmas.{natural_at-again, natural_of-some}
use Rattle.lexing.proofs.Laws as lexing
use Rattle.lexing.proofs.Laws.{IsComplete, spelled-tokens_from}
use Rattle.index_spec.specs.Tokens.{is_letter, in_word, minus, magnitude, word_at, number_at, token_at, told, reader, all_or_none, tokens_of, IsWritten, EndsAt, IsToken, Spells}
use Rattle.index_spec.specs.Shorter.{reader-shorter}
use Rattle.std.proofs.lemmas.Bool.{and_parts}
use Rattle.lexing.proofs.Runs.{prefix_len-cut}

-- the token is read at the front, where no blank stands
abbrev pub Reads : List ℕ → Token → List ℕ → Type 0
Reads text token rest = lexing.Reads reader 0 text token rest

-- ---- words

record WordFacts (word : Word) : Type 0 where
  cons : spelling word ≡ get_or (spelling word) 0 0 ∷ drop 1 (spelling word)
  visible : is_blank (get_or (spelling word) 0 0) ≡ false
  no_dash : eqb (get_or (spelling word) 0 0) 45 ≡ false
  letter : is_letter (get_or (spelling word) 0 0) ≡ true
  all : list_all in_word (spelling word) ≡ true
  known : word_of (spelling word) ≡ Some word

facts : (word : Word) → WordFacts word
unfolding spelling word_of
facts w.Binning = record { cons = refl; visible = refl; no_dash = refl; letter = refl; all = refl; known = refl }
facts w.Encoding = record { cons = refl; visible = refl; no_dash = refl; letter = refl; all = refl; known = refl }
facts w.Each = record { cons = refl; visible = refl; no_dash = refl; letter = refl; all = refl; known = refl }
facts w.Bounds = record { cons = refl; visible = refl; no_dash = refl; letter = refl; all = refl; known = refl }
facts w.Start = record { cons = refl; visible = refl; no_dash = refl; letter = refl; all = refl; known = refl }
facts w.End = record { cons = refl; visible = refl; no_dash = refl; letter = refl; all = refl; known = refl }
facts w.Nbins = record { cons = refl; visible = refl; no_dash = refl; letter = refl; all = refl; known = refl }
facts w.Precision = record { cons = refl; visible = refl; no_dash = refl; letter = refl; all = refl; known = refl }
facts w.Equality = record { cons = refl; visible = refl; no_dash = refl; letter = refl; all = refl; known = refl }
facts w.Range = record { cons = refl; visible = refl; no_dash = refl; letter = refl; all = refl; known = refl }
facts w.Interval = record { cons = refl; visible = refl; no_dash = refl; letter = refl; all = refl; known = refl }
facts w.TwoLevel = record { cons = refl; visible = refl; no_dash = refl; letter = refl; all = refl; known = refl }
facts w.Coarse = record { cons = refl; visible = refl; no_dash = refl; letter = refl; all = refl; known = refl }
facts w.Ncoarse = record { cons = refl; visible = refl; no_dash = refl; letter = refl; all = refl; known = refl }

word_again : (word : Word) (rest : List ℕ) → StopsAt in_word rest → word_at (spelling word ++ rest) ≡ Some (t.Word word, rest)
unfolding word_at
word_again word rest stops =
    let f = facts word in
    let n : prefix_len in_word (spelling word ++ rest) ≡ length (spelling word) = prefix_len-cut in_word (spelling word) rest f.all stops in
    let front : take (length (spelling word)) (spelling word ++ rest) ≡ spelling word = take_at (spelling word) rest (length (spelling word)) refl in
    let back : drop (length (spelling word)) (spelling word ++ rest) ≡ rest = drop_at (spelling word) rest (length (spelling word)) refl in
    let known : word_of (spelling word) ≡ Some word = f.known in
    rw (n, front, back, known) refl

word_reads : (word : Word) (rest : List ℕ) → StopsAt in_word rest → Reads (spelling word ++ rest) (t.Word word) rest
unfolding token_at
word_reads word rest stops =
    let f = facts word in
    let b = get_or (spelling word) 0 0 in
    let bs = drop 1 (spelling word) ++ rest in
    let joined : spelling word ++ rest ≡ b ∷ bs = ap (λ x. x ++ rest) f.cons in
    let no_dash : eqb b 45 ≡ false = f.no_dash in
    let letter : is_letter b ≡ true = f.letter in
    let found : token_at (b ∷ bs) ≡ Some (t.Word word, rest) = rw (no_dash, letter) (ap word_at (sym joined) ∙ word_again word rest stops) in
    record { first = b; others = bs; cons = joined; visible = f.visible; found = ap told found }

-- ---- numbers

digits_again : (is_negative : Bool) (digits rest : List ℕ) (n : ℕ) → natural_of digits ≡ Some n → StopsAt is_ascii_digit rest → number_at is_negative (digits ++ rest) ≡ Some (t.Number (signed is_negative (magnitude n)), rest)
unfolding number_at
digits_again is_negative digits rest n is stops = rw (natural_at-again digits rest n is stops) refl

record DigitFacts (b : ℕ) : Type 0 where
  visible : is_blank b ≡ false
  no_dash : eqb b 45 ≡ false
  no_letter : is_letter b ≡ false

digit_facts : (b : ℕ) → is_ascii_digit b ≡ true → DigitFacts b
digit_facts b e = record { visible = grind (arith, nat_tests); no_dash = grind (arith, nat_tests); no_letter = grind (arith, nat_tests) }

positive_reads : (digits rest : List ℕ) (n : ℕ) → natural_of digits ≡ Some n → StopsAt is_ascii_digit rest → Reads (digits ++ rest) (t.Number (signed false (magnitude n))) rest
unfolding token_at
positive_reads [] rest n is stops = absurd cc
positive_reads (b ∷ bs) rest n is stops =
    let digit : is_ascii_digit b ≡ true = (and_parts (is_ascii_digit b) (list_all is_ascii_digit bs) (natural_of-some (b ∷ bs) n is).all).0 in
    let f = digit_facts b digit in
    let no_dash : eqb b 45 ≡ false = f.no_dash in
    let no_letter : is_letter b ≡ false = f.no_letter in
    let found : token_at (b ∷ (bs ++ rest)) ≡ Some (t.Number (signed false (magnitude n)), rest) = rw (no_dash, no_letter, digit) (digits_again false (b ∷ bs) rest n is stops) in
    record { first = b; others = bs ++ rest; cons = refl; visible = f.visible; found = ap told found }

negative_reads : (digits rest : List ℕ) (n : ℕ) → natural_of digits ≡ Some n → StopsAt is_ascii_digit rest → Reads (45 ∷ (digits ++ rest)) (t.Number (signed true (magnitude n))) rest
unfolding token_at
negative_reads digits rest n is stops =
    record { first = 45; others = digits ++ rest; cons = refl; visible = refl; found = ap told (digits_again true digits rest n is stops) }

number_reads : (is_negative : Bool) (digits rest : List ℕ) (n : ℕ) → natural_of digits ≡ Some n → StopsAt is_ascii_digit rest → Reads ((minus is_negative ++ digits) ++ rest) (t.Number (signed is_negative (magnitude n))) rest
number_reads true digits rest n is stops = negative_reads digits rest n is stops
number_reads false digits rest n is stops = positive_reads digits rest n is stops

-- ---- every token

abbrev pub ReadsForm : List ℕ → List ℕ → Token → Type 0
ReadsForm rest form token = Reads (form ++ rest) token rest

sign_reads : (b : ℕ) (token : Token) (form rest : List ℕ) → is_blank b ≡ false → token_at (b ∷ rest) ≡ Some (token, rest) → form ≡ b ∷ [] → ReadsForm rest form token
sign_reads b token form rest visible found e = subst (λ f. ReadsForm rest f token) (sym e) (record { first = b; others = rest; cons = refl; visible = visible; found = ap told found })

pub token_reads : (token : Token) (form rest : List ℕ) → IsWritten form token → EndsAt token rest → Reads (form ++ rest) token rest
unfolding token_at
token_reads t.Less form rest e ends = sign_reads 60 t.Less form rest refl refl e
token_reads t.Slash form rest e ends = sign_reads 47 t.Slash form rest refl refl e
token_reads t.Greater form rest e ends = sign_reads 62 t.Greater form rest refl refl e
token_reads t.Equals form rest e ends = sign_reads 61 t.Equals form rest refl refl e
token_reads t.Open form rest e ends = sign_reads 40 t.Open form rest refl refl e
token_reads t.Close form rest e ends = sign_reads 41 t.Close form rest refl refl e
token_reads t.Comma form rest e ends = sign_reads 44 t.Comma form rest refl refl e
token_reads (t.Word word) form rest e ends = subst (λ f. ReadsForm rest f (t.Word word)) (sym e) (word_reads word rest ends)
token_reads (t.Number z) form rest is ends =
    let reads = number_reads is.is_negative is.digits rest is.number is.natural ends in
    subst (λ f. ReadsForm rest f (t.Number z)) (sym is.written) (subst (λ n. Reads ((minus is.is_negative ++ is.digits) ++ rest) (t.Number n) rest) (sym is.value) reads)

-- ---- the whole text

pub reader_complete : IsComplete reader IsToken
reader_complete at text token rest is =
    let reads = token_reads token is.form rest is.written is.ends in
    record { first = reads.first; others = reads.others; cons = is.cut ∙ reads.cons; visible = reads.visible; found = reads.found }

pub spelled-tokens_of : (text : List ℕ) (ts : List Token) → Spells text ts → tokens_of text ≡ Some ts
unfolding tokens_of
spelled-tokens_of text ts spells = ap all_or_none (spelled-tokens_from reader IsToken reader-shorter reader_complete (length text) text ts spells)
