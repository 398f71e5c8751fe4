-- A text may be cut behind a front of ASCII bytes.
use Rattle.std.proofs.Common.{◌≡◌, ℕ, ◌+◌, ◌-◌, ◌<◌, ◌≤◌, Bool, true, List, length, get_or, subst, inl, inr, arith}
use Rattle.std.specs.List.{prefix_len}
use Rattle.std.specs.Str.{IsUtf8, IsCharBoundary}
use Rattle.std.proofs.lemmas.Bool.{cases_lt}
use Rattle.std.proofs.lemmas.Bool.Decides.{nat_tests}
use Rattle.std.proofs.lemmas.List.Sums.{prefix_len-le-length, prefix_len_passes}
use Rattle.std.proofs.lemmas.Str.{IsCharBoundary-start, IsCharBoundary-after_ascii}
use Rattle.lexing.specs.Blanks.{is_blank}
use Rattle.where_grammar.specs.Tokens.{in_word}

behind_ascii : (text : List ℕ) (n : ℕ) → IsUtf8 text → n ≤ length text → ((k : ℕ) → k < n → get_or text k 0 < 128) → IsCharBoundary text n
behind_ascii text n utf8 within low =
    elim (cases_lt 0 n) [
      | inl some ↦ (
          let last : (n - 1) + 1 ≡ n = omega arith in
          subst (IsCharBoundary text) last (IsCharBoundary-after_ascii text (n - 1) utf8 (omega arith) (low (n - 1) (omega arith))))
      | inr none ↦ (let first : 0 ≡ n = omega arith in subst (IsCharBoundary text) first (IsCharBoundary-start text utf8))
    ]

behind_front : (p : ℕ → Bool) (text : List ℕ) → ((b : ℕ) → p b ≡ true → b < 128) → IsUtf8 text → IsCharBoundary text (prefix_len p text)
behind_front p text low utf8 =
    behind_ascii text (prefix_len p text) utf8 (prefix_len-le-length p text) (λ k before. low (get_or text k 0) (prefix_len_passes p text k 0 before))

blank_low : (b : ℕ) → is_blank b ≡ true → b < 128
blank_low b e = grind (arith, nat_tests)

word_low : (b : ℕ) → in_word b ≡ true → b < 128
word_low b e = grind (arith, nat_tests)

pub behind_blanks : (text : List ℕ) → IsUtf8 text → IsCharBoundary text (prefix_len is_blank text)
behind_blanks text utf8 = behind_front is_blank text blank_low utf8

pub behind_word : (text : List ℕ) → IsUtf8 text → IsCharBoundary text (prefix_len in_word text)
behind_word text utf8 = behind_front in_word text word_low utf8
