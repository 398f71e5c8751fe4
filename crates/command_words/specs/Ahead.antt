-- The same words, by what a reader that goes from byte to byte has still to give.
use Rattle.std.specs.Prelude.{ℕ, ◌==◌, List, [], ◌∷◌, ◌++◌, Option, Some, None, String, map, option_map, string_bytes, if◌then◌else◌}
use Rattle.fb_types.specs.Field.{is_blank}
use Rattle.command_words.specs.declared.lines.Place.{Place}
use Rattle.command_words.specs.declared.lines.Place.TheVariants.{Between, InWord, InQuotes}

-- where a reader stands: between words, in a word of which it has these bytes, or in a quoted piece of such a word
pub data Standing : Type 0 where
  between : Standing
  in_word : List ℕ → Standing
  in_quotes : List ℕ → Standing

-- the words that the rest of a text gives there
unfoldable pub ahead : Standing → List ℕ → Option (List (List ℕ))
ahead between [] = Some []
ahead (in_word word) [] = Some (word ∷ [])
ahead (in_quotes word) [] = None
ahead between (b ∷ rest) =
    if b == 39 then ahead (in_quotes []) rest else (if is_blank b then ahead between rest else ahead (in_word (b ∷ [])) rest)
ahead (in_word word) (b ∷ rest) =
    if b == 39 then ahead (in_quotes word) rest
    else (if is_blank b then option_map (λ words. word ∷ words) (ahead between rest) else ahead (in_word (word ++ b ∷ [])) rest)
ahead (in_quotes word) (b ∷ rest) = if b == 39 then ahead (in_word word) rest else ahead (in_quotes (word ++ b ∷ [])) rest

abbrev pub standing_of : Place → Standing
standing_of Between = between
standing_of (InWord word) = in_word (string_bytes word)
standing_of (InQuotes word) = in_quotes (string_bytes word)

-- the words that were read and those ahead
abbrev pub all_words : {A : Type 0} → List (String A) → Place → List ℕ → Option (List (List ℕ))
all_words words place rest = option_map (λ more. map string_bytes words ++ more) (ahead (standing_of place) rest)
