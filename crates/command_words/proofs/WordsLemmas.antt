-- The words ahead at a text's beginning are the words of its pieces.
use Rattle.std.proofs.Common.{◌≡◌, ◌∙◌, ℕ, Bool, true, false, cond, List, [], ◌∷◌, ◌++◌, Option, Some, None, append-nil, append_assoc, ap, eqb, filter, is_none, map, not, option_map, refl, sym}
use Rattle.std.specs.List.{onto_first, slice_split}
use Rattle.fb_types.specs.Field.{is_blank}
use Rattle.command_words.specs.Ahead.{ahead, between, in_quotes, in_word}
use Rattle.command_words.specs.Lines.{is_empty, is_skipped, joined, pieces_of, plain_pieces, text_words, without_return, words_from, words_of}
use Rattle.std.specs.Str.{IsUtf8, is_utf8}
use Rattle.std.proofs.lemmas.Str.{IsUtf8-from_is_utf8}

abbrev Piece : Type 0
Piece = Option (List ℕ)

-- a list cut anywhere has a first part
split-first : {X : Type 0} (p : X → Bool) (xs : List X) → (run : List X) × (runs : List (List X)) × (slice_split p xs ≡ run ∷ runs)
split-first p [] = ([], [], refl)
split-first p (x ∷ xs) = by (p x) (split-first p xs)
  where
    by : (b : Bool) → (run : List _) × (runs : List (List _)) × (slice_split p xs ≡ run ∷ runs)
        → (run : List _) × (runs : List (List _)) × (cond b ([] ∷ slice_split p xs) (onto_first x (slice_split p xs)) ≡ run ∷ runs)
    by true more = ([], slice_split p xs, refl)
    by false more = (x ∷ more.0, more.1, rw more.2 refl)

-- the words of pieces
blank-first : (ps : List Piece) → words_from (None ∷ ps) ≡ words_from ps
blank-first ps = refl

part-alone : (word : List ℕ) → words_from (Some word ∷ []) ≡ word ∷ []
part-alone word = ap (λ w. w ∷ []) (append-nil word)

part-ends : (word : List ℕ) (ps : List Piece) → words_from (Some word ∷ None ∷ ps) ≡ word ∷ words_from ps
part-ends word ps = ap (λ w. w ∷ words_from ps) (append-nil word)

parts-touch : (a b : List ℕ) (ps : List Piece) → words_from (Some a ∷ Some b ∷ ps) ≡ words_from (Some (a ++ b) ∷ ps)
parts-touch a b ps =
    let s = split-first is_none ps in
    rw s.2 (ap (λ w. w ∷ map joined (filter (λ run. not (is_empty run)) s.1)) (sym (append_assoc a b (joined s.0))))

-- the pieces from a quote on
abbrev quoted_pieces : List (List ℕ) → Option (List Piece)
quoted_pieces [] = None
quoted_pieces (quoted ∷ rest) = option_map (λ more. Some quoted ∷ more) (pieces_of rest)

-- the parts of the rest of a text
abbrev parts : List ℕ → List (List ℕ)
parts rest = slice_split (λ b. eqb b 39) rest

after_quote : (rest : List ℕ) → pieces_of ([] ∷ parts rest) ≡ quoted_pieces (parts rest)
after_quote rest = rw (split-first (λ b. eqb b 39) rest).2 refl

abbrev piece_of : ℕ → Piece
piece_of b = cond (is_blank b) None (Some (b ∷ []))

one_byte : (b : ℕ) (plain : List ℕ) (rest : List (List ℕ)) → pieces_of ((b ∷ plain) ∷ rest) ≡ option_map (λ more. piece_of b ∷ more) (pieces_of (plain ∷ rest))
one_byte b plain [] = refl
one_byte b plain (quoted ∷ rest) = by (pieces_of rest)
  where
    by : (o : Option (List Piece))
        → option_map (λ more. plain_pieces (b ∷ plain) ++ Some quoted ∷ more) o
        ≡ option_map (λ more. piece_of b ∷ more) (option_map (λ more. plain_pieces plain ++ Some quoted ∷ more) o)
    by None = refl
    by (Some more) = refl

-- a byte that is no quote, outside of quotes
byte_first : (b : ℕ) (rest : List ℕ) → eqb b 39 ≡ false
    → pieces_of (parts (b ∷ rest)) ≡ option_map (λ more. piece_of b ∷ more) (pieces_of (parts rest))
byte_first b rest e =
    let s = split-first (λ b. eqb b 39) rest in
    rw (e, s.2) (one_byte b s.0 s.1)

-- the words of pieces behind a part of a word
abbrev behind : List ℕ → Option (List Piece) → Option (List (List ℕ))
behind word pieces = option_map (λ ps. words_from (Some word ∷ ps)) pieces

-- the same within quotes
byte_quoted : (b : ℕ) (word rest : List ℕ) → eqb b 39 ≡ false
    → behind (word ++ b ∷ []) (quoted_pieces (parts rest)) ≡ behind word (quoted_pieces (parts (b ∷ rest)))
byte_quoted b word rest e =
    let s = split-first (λ b. eqb b 39) rest in
    rw (e, s.2) (by s.0 (pieces_of s.1))
  where
    by : (p : List ℕ) (o : Option (List Piece))
        → behind (word ++ b ∷ []) (option_map (λ more. Some p ∷ more) o) ≡ behind word (option_map (λ more. Some (b ∷ p) ∷ more) o)
    by p None = refl
    by p (Some more) =
        ap Some (parts-touch (word ++ b ∷ []) p more ∙ ap (λ w. words_from (Some w ∷ more)) (append_assoc word (b ∷ []) p)
        ∙ sym (parts-touch word (b ∷ p) more))

quote_opens : (rest : List ℕ) → behind [] (quoted_pieces (parts rest)) ≡ option_map words_from (quoted_pieces (parts rest))
quote_opens rest =
    let s = split-first (λ b. eqb b 39) rest in
    rw s.2 (by s.0 (pieces_of s.1))
  where
    by : (p : List ℕ) (o : Option (List Piece))
        → behind [] (option_map (λ more. Some p ∷ more) o) ≡ option_map words_from (option_map (λ more. Some p ∷ more) o)
    by p None = refl
    by p (Some more) = ap Some (parts-touch [] p more)

quote_closes : (word : List ℕ) (o : Option (List Piece)) → behind word o ≡ behind word (option_map (λ more. Some [] ∷ more) o)
quote_closes word None = refl
quote_closes word (Some more) =
    ap Some (ap (λ w. words_from (Some w ∷ more)) (sym (append-nil word)) ∙ sym (parts-touch word [] more))

blank_between : (o : Option (List Piece)) → option_map words_from o ≡ option_map words_from (option_map (λ more. None ∷ more) o)
blank_between None = refl
blank_between (Some more) = refl

blank_behind : (word : List ℕ) (o : Option (List Piece))
    → option_map (λ words. word ∷ words) (option_map words_from o) ≡ behind word (option_map (λ more. None ∷ more) o)
blank_behind word None = refl
blank_behind word (Some more) = ap Some (sym (part-ends word more))

byte_begins : (b : ℕ) (o : Option (List Piece)) → behind (b ∷ []) o ≡ option_map words_from (option_map (λ more. Some (b ∷ []) ∷ more) o)
byte_begins b None = refl
byte_begins b (Some more) = refl

byte_touches : (b : ℕ) (word : List ℕ) (o : Option (List Piece)) → behind (word ++ b ∷ []) o ≡ behind word (option_map (λ more. Some (b ∷ []) ∷ more) o)
byte_touches b word None = refl
byte_touches b word (Some more) = ap Some (sym (parts-touch word (b ∷ []) more))

-- what is ahead, wherever a reader stands
record Agrees (rest : List ℕ) : Type 0 where
  from_between : ahead between rest ≡ option_map words_from (pieces_of (parts rest))
  from_word : (word : List ℕ) → ahead (in_word word) rest ≡ behind word (pieces_of (parts rest))
  from_quotes : (word : List ℕ) → ahead (in_quotes word) rest ≡ behind word (quoted_pieces (parts rest))

at_end : Agrees []
unfolding ahead
at_end = record { from_between = refl; from_word = λ word. ap Some (sym (part-alone word)); from_quotes = λ word. refl }

at_quote : (b : ℕ) (rest : List ℕ) → eqb b 39 ≡ true → Agrees rest → Agrees (b ∷ rest)
unfolding ahead
at_quote b rest e h = record {
  from_between = rw e (h.from_quotes [] ∙ quote_opens rest ∙ ap (option_map words_from) (sym (after_quote rest)));
  from_word = λ word. rw e (h.from_quotes word ∙ ap (behind word) (sym (after_quote rest)));
  from_quotes = λ word. rw e (h.from_word word ∙ quote_closes word (pieces_of (parts rest)));
}

at_blank : (b : ℕ) (rest : List ℕ) → eqb b 39 ≡ false → is_blank b ≡ true → Agrees rest → Agrees (b ∷ rest)
unfolding ahead
at_blank b rest e f h = record {
  from_between = rw (byte_first b rest e, e, f) (h.from_between ∙ blank_between (pieces_of (parts rest)));
  from_word = λ word. rw (byte_first b rest e, e, f, h.from_between) (blank_behind word (pieces_of (parts rest)));
  from_quotes = λ word. rw e (h.from_quotes (word ++ b ∷ [])) ∙ byte_quoted b word rest e;
}

at_plain : (b : ℕ) (rest : List ℕ) → eqb b 39 ≡ false → is_blank b ≡ false → Agrees rest → Agrees (b ∷ rest)
unfolding ahead
at_plain b rest e f h = record {
  from_between = rw (byte_first b rest e, e, f) (h.from_word (b ∷ []) ∙ byte_begins b (pieces_of (parts rest)));
  from_word = λ word. rw (byte_first b rest e, e, f) (h.from_word (word ++ b ∷ []) ∙ byte_touches b word (pieces_of (parts rest)));
  from_quotes = λ word. rw e (h.from_quotes (word ++ b ∷ [])) ∙ byte_quoted b word rest e;
}

agrees : (rest : List ℕ) → Agrees rest
agrees [] = at_end
agrees (b ∷ rest) = by (eqb b 39) (is_blank b) refl refl (agrees rest)
  where
    by : (q s : Bool) → eqb b 39 ≡ q → is_blank b ≡ s → Agrees rest → Agrees (b ∷ rest)
    by true s e f more = at_quote b rest e more
    by false true e f more = at_blank b rest e f more
    by false false e f more = at_plain b rest e f more

pub ahead-text_words : (text : List ℕ) → ahead between text ≡ text_words text
unfolding text_words
ahead-text_words text = (agrees text).from_between

-- the words of a line that isn't skipped
pub words_of-text : (line text : List ℕ) → text ≡ without_return line → is_skipped text ≡ false → is_utf8 text ≡ true → text_words text ≡ words_of line
words_of-text line text e s u = rw (← e, s, u) refl

no_utf8 : (text : List ℕ) (b : Bool) → is_utf8 text ≡ b → (IsUtf8 text → ⊥) → is_utf8 text ≡ false
no_utf8 text true e other = absurd (other (IsUtf8-from_is_utf8 text e))
no_utf8 text false e other = e

pub words_of-other : (line text : List ℕ) → text ≡ without_return line → is_skipped text ≡ false → (IsUtf8 text → ⊥) → None ≡ words_of line
words_of-other line text e s other = rw (← e, s, no_utf8 text (is_utf8 text) refl other) refl
