-- The words that a line of a session spells.
use Rattle.std.specs.Prelude.{ℕ, Bool, true, false, not, ◌-◌, ◌==◌, List, [], ◌∷◌, ◌++◌, Option, Some, None, filter, filter_map, find, is_none, length, map, option_map, take, unwrap_or, if◌then◌else◌}
use Rattle.std.specs.List.{concat, ends_with, slice_split}
use Rattle.std.specs.Str.{is_utf8}
use Rattle.fb_types.specs.Field.{is_blank}

-- a line without a carriage return (13) at its end
abbrev pub without_return : List ℕ → List ℕ
without_return line = if ends_with ◌==◌ line (13 ∷ []) then take (length line - 1) line else line

-- a line with nothing but blanks, or with `#` (35) first after blanks
abbrev pub is_skipped : List ℕ → Bool
is_skipped line = unwrap_or (option_map (λ b. b == 35) (find (λ b. not (is_blank b)) line)) true

-- A piece is a part of a word, or None where a blank parts words. Outside of quotes each byte is a piece.
abbrev pub plain_pieces : List ℕ → List (Option (List ℕ))
plain_pieces bytes = map (λ b. if is_blank b then None else Some (b ∷ [])) bytes

-- The pieces of a line that was cut at its quotes (39): the second of its parts is quoted, and the fourth, and so on, and
-- a quoted part is one piece as it stands. There are none where a quoted part is the last: its quote isn't closed.
abbrev pub pieces_of : List (List ℕ) → Option (List (Option (List ℕ)))
pieces_of [] = None
pieces_of (plain ∷ []) = Some (plain_pieces plain)
pieces_of (plain ∷ quoted ∷ rest) = option_map (λ more. plain_pieces plain ++ Some quoted ∷ more) (pieces_of rest)

-- the word that pieces that touch make
abbrev pub joined : List (Option (List ℕ)) → List ℕ
joined run = concat (filter_map (λ piece. piece) run)

abbrev pub is_empty : {A : Type 0} → List A → Bool
is_empty [] = true
is_empty (x ∷ xs) = false

-- the words that pieces make: one of each run of parts between blanks
abbrev pub words_from : List (Option (List ℕ)) → List (List ℕ)
words_from pieces = map joined (filter (λ run. not (is_empty run)) (slice_split is_none pieces))

-- the words of a text, or None where a quote isn't closed
unfoldable pub text_words : List ℕ → Option (List (List ℕ))
text_words text = option_map words_from (pieces_of (slice_split (λ b. b == 39) text))

-- the words of a line, cut at its line feed: none of them where the line is skipped
abbrev pub words_of : List ℕ → Option (List (List ℕ))
words_of line =
    let text = without_return line in
    if is_skipped text then Some [] else (if is_utf8 text then text_words text else None)
