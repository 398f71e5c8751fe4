-- What a reader of a line has still to give behind one character more.
use Rattle.std.proofs.Common.{◌≡◌, ◌≢◌, ◌⊎◌, ◌∙◌, inl, inr, Global, Option, Some, None, String, map, option_map, string_bytes, ◌<◌, ◌≤◌, ℕ, suc, Bool, true, false, List, [], ◌∷◌, ◌++◌, append-nil, append_assoc, arith, eqb, get_or, length, ltb, refl, subst, sym}
use Rattle.std.specs.List.{AllByRecursion}
use Rattle.std.proofs.lemmas.List.{map-append}
use Rattle.std.proofs.lemmas.Bool.{eqb-true, ltb-false, ltb-true, ne_eqb}
use Rattle.std.proofs.lemmas.Str.{encodes-append, inside_one, length-encode, len_utf8_bounds}
use lib.Utf8.{encode, encodes}
use Rattle.fb_types.specs.Field.{is_blank}
use Rattle.command_words.specs.Ahead.{ahead, all_words, between, in_quotes, in_word}
use Rattle.command_words.specs.declared.lines.Place.{Place}
use Rattle.command_words.specs.declared.lines.Place.TheVariants.{Between, InWord, InQuotes}

-- neither a quote nor a blank
pub record IsPlain (b : ℕ) : Type 0 where
  pub no_quote : eqb b 39 ≡ false
  pub no_blank : is_blank b ≡ false

pub IsPlain-from : (b : ℕ) → b ≢ 39 → is_blank b ≡ false → IsPlain b
IsPlain-from b quote blank = record { no_quote = ne_eqb b 39 quote; no_blank = blank }

-- each byte of a character is itself, or 128 at least
each_byte : (P : ℕ → Type 0) (c : ℕ) → P c → ((b : ℕ) → 128 ≤ b → P b) → (k : ℕ) → k < length (encode c) → P (get_or (encode c) k 0)
each_byte P c one more k h = by (ltb (get_or (encode c) k 0) 128) refl
  where
    by : (t : Bool) → ltb (get_or (encode c) k 0) 128 ≡ t → P (get_or (encode c) k 0)
    by true e = subst P (inside_one c [] (encode c) k (sym (append-nil (encode c))) h (ltb-true _ _ e)) one
    by false e = more _ (ltb-false _ _ e)

by_places : (P : ℕ → Type 0) (xs : List ℕ) → ((k : ℕ) → k < length xs → P (get_or xs k 0)) → AllByRecursion P xs
by_places P [] h = tt
by_places P (x ∷ xs) h = (h 0 (omega arith), by_places P xs (λ k l. h (suc k) (omega arith)))

all_bytes : (P : ℕ → Type 0) (c : ℕ) → P c → ((b : ℕ) → 128 ≤ b → P b) → AllByRecursion P (encode c)
all_bytes P c one more = by_places P (encode c) (each_byte P c one more)

-- plain bytes
plain_word : (xs word rest : List ℕ) → AllByRecursion IsPlain xs → ahead (in_word word) (xs ++ rest) ≡ ahead (in_word (word ++ xs)) rest
unfolding ahead
plain_word [] word rest h = rw append-nil refl
plain_word (b ∷ xs) word rest h =
    rw (h.0.no_quote, h.0.no_blank) (plain_word xs (word ++ b ∷ []) rest h.1 ∙ rw (append_assoc word (b ∷ []) xs) refl)

plain_between : (xs rest : List ℕ) → 0 < length xs → AllByRecursion IsPlain xs → ahead between (xs ++ rest) ≡ ahead (in_word xs) rest
unfolding ahead
plain_between [] rest some h = absurd (omega arith)
plain_between (b ∷ xs) rest some h = rw (h.0.no_quote, h.0.no_blank) (plain_word xs (b ∷ []) rest h.1)

plain_quotes : (xs word rest : List ℕ) → AllByRecursion (λ b. eqb b 39 ≡ false) xs → ahead (in_quotes word) (xs ++ rest) ≡ ahead (in_quotes (word ++ xs)) rest
unfolding ahead
plain_quotes [] word rest h = rw append-nil refl
plain_quotes (b ∷ xs) word rest h = rw h.0 (plain_quotes xs (word ++ b ∷ []) rest h.1 ∙ rw (append_assoc word (b ∷ []) xs) refl)

high : (b : ℕ) → 128 ≤ b → IsPlain b
high b h = IsPlain-from b (λ e. omega (arith, e)) (rw (ne_eqb b 32 (λ e. omega (arith, e))) (ne_eqb b 9 (λ e. omega (arith, e))))

-- a character that is no quote and no blank
pub char_word : (c : ℕ) (word rest : List ℕ) → IsPlain c → ahead (in_word word) (encode c ++ rest) ≡ ahead (in_word (word ++ encode c)) rest
char_word c word rest h = plain_word (encode c) word rest (all_bytes IsPlain c h high)

pub char_between : (c : ℕ) (rest : List ℕ) → IsPlain c → ahead between (encode c ++ rest) ≡ ahead (in_word (encode c)) rest
char_between c rest h =
    plain_between (encode c) rest (omega (arith, length-encode c, len_utf8_bounds c)) (all_bytes IsPlain c h high)

pub char_quotes : (c : ℕ) (word rest : List ℕ) → c ≢ 39 → ahead (in_quotes word) (encode c ++ rest) ≡ ahead (in_quotes (word ++ encode c)) rest
char_quotes c word rest other =
    plain_quotes (encode c) word rest (all_bytes (λ b. eqb b 39 ≡ false) c (ne_eqb c 39 other) (λ b h. (high b h).no_quote))

-- a blank is a space or a tab
blank-is : (c : ℕ) → is_blank c ≡ true → (c ≡ 32) ⊎ (c ≡ 9)
blank-is c h = by (eqb c 32) refl
  where
    by : (b : Bool) → eqb c 32 ≡ b → (c ≡ 32) ⊎ (c ≡ 9)
    by true e = inl (eqb-true c 32 e)
    by false e = inr (eqb-true c 9 (rw e at h))

blank_word : (c : ℕ) (word rest : List ℕ) → (c ≡ 32) ⊎ (c ≡ 9)
    → ahead (in_word word) (encode c ++ rest) ≡ option_map (λ words. word ∷ words) (ahead between rest)
unfolding ahead encode
blank_word c word rest (inl e) = rw e refl
blank_word c word rest (inr e) = rw e refl

blank_between : (c : ℕ) (rest : List ℕ) → (c ≡ 32) ⊎ (c ≡ 9) → ahead between (encode c ++ rest) ≡ ahead between rest
unfolding ahead encode
blank_between c rest (inl e) = rw e refl
blank_between c rest (inr e) = rw e refl

one_more : (words : List (String Global)) (word : String Global) (o : Option (List (List ℕ)))
    → option_map (λ more. map string_bytes words ++ more) (option_map (λ more. string_bytes word ∷ more) o)
    ≡ option_map (λ more. map string_bytes (words ++ word ∷ []) ++ more) o
one_more words word None = refl
one_more words word (Some more) = rw (map-append, append_assoc) refl

-- the words that were read and those ahead, behind one character more
abbrev Same : {A : Type 0} → List (String A) → Place → ℕ → List (String A) → Place → Type 0
Same words place c more after = (rest : List ℕ) → all_words words place (encode c ++ rest) ≡ all_words more after rest

-- from between words
pub quote_begins : (words : List (String Global)) (place : Place) (c : ℕ) (word : String Global) → place ≡ Between → c ≡ 39
    → string_bytes word ≡ [] → Same words place c words (InQuotes word)
unfolding ahead encode
quote_begins words place c word p e w rest = rw (p, e, w) refl

pub blank_stays : (words : List (String Global)) (place : Place) (c : ℕ) → place ≡ Between → is_blank c ≡ true
    → Same words place c words Between
blank_stays words place c p h rest = rw (p, blank_between c rest (blank-is c h)) refl

pub char_begins : (words : List (String Global)) (place : Place) (c : ℕ) (word : String Global) → place ≡ Between → IsPlain c
    → string_bytes word ≡ encode c → Same words place c words (InWord word)
char_begins words place c word p h w rest = rw (p, w, char_between c rest h) refl

-- from within a word
pub quote_touches : (words : List (String Global)) (place : Place) (c : ℕ) (word : String Global) → place ≡ InWord word → c ≡ 39
    → Same words place c words (InQuotes word)
unfolding ahead encode
quote_touches words place c word p e rest = rw (p, e) refl

pub blank_ends : (words more : List (String Global)) (place : Place) (c : ℕ) (word : String Global) → place ≡ InWord word
    → is_blank c ≡ true → more ≡ words ++ word ∷ [] → Same words place c more Between
blank_ends words more place c word p e m rest =
    rw (p, blank_word c (string_bytes word) rest (blank-is c e), m) (one_more words word (ahead between rest))

pub char_touches : (words : List (String Global)) (place : Place) (c : ℕ) (word longer : String Global) → place ≡ InWord word → IsPlain c
    → string_bytes longer ≡ string_bytes word ++ encode c → Same words place c words (InWord longer)
char_touches words place c word longer p h w rest = rw (p, w, char_word c (string_bytes word) rest h) refl

-- from within quotes
pub quote_ends : (words : List (String Global)) (place : Place) (c : ℕ) (word : String Global) → place ≡ InQuotes word → c ≡ 39
    → Same words place c words (InWord word)
unfolding ahead encode
quote_ends words place c word p e rest = rw (p, e) refl

pub char_quoted : (words : List (String Global)) (place : Place) (c : ℕ) (word longer : String Global) → place ≡ InQuotes word → c ≢ 39
    → string_bytes longer ≡ string_bytes word ++ encode c → Same words place c words (InQuotes longer)
char_quoted words place c word longer p h w rest = rw (p, w, char_quotes c (string_bytes word) rest h) refl

-- at the beginning no word was read
pub none_read : (words : List (String Global)) (rest : List ℕ) → words ≡ [] → all_words words Between rest ≡ ahead between rest
none_read words rest e = rw e (by (ahead between rest))
  where
    by : (o : Option (List (List ℕ))) → option_map (λ more. [] ++ more) o ≡ o
    by None = refl
    by (Some more) = refl

-- a text with one character more
pub one_char : (cs : List ℕ) (c : ℕ) (rest : List ℕ) → encodes cs ++ (encode c ++ rest) ≡ encodes (cs ++ c ∷ []) ++ rest
one_char cs c rest = simp (encodes-append, append_assoc, append-nil)
