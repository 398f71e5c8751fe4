-- The tokens of a text, whatever a token is of the language.
use Rattle.std.specs.Prelude.{◌≡◌, ℕ, zero, suc, ◌-◌, true, false, if◌then◌else◌, List, [], ◌∷◌, ◌++◌, length, Result, Ok, Err}
use Rattle.std.specs.List.{list_all}
use Rattle.lexing.specs.Blanks.{is_blank}

-- ---- what a text spells
-- A language says what a token is: `IsToken at text token rest`, the token stands at the front of the text, which is
-- at this place of the whole, and the rest follows it.

-- blanks, the token, and the rest
pub record BeginsWith {T : Type 0} (IsToken : ℕ → List ℕ → T → List ℕ → Type 0) (size : ℕ) (text : List ℕ) (token : T) (rest : List ℕ) : Type 0 where
  pub blanks : List ℕ
  pub behind : List ℕ
  pub cut : text ≡ blanks ++ behind
  pub all_blank : list_all is_blank blanks ≡ true
  pub here : IsToken (size - length behind) behind token rest

-- The tokens, one after the other, with blanks between, before and after; the text is the end of one of this size.
abbrev pub Spells : {T : Type 0} → (ℕ → List ℕ → T → List ℕ → Type 0) → ℕ → List ℕ → List T → Type 0
Spells IsToken size text [] = list_all is_blank text ≡ true
Spells IsToken size text (token ∷ tokens) = (rest : List ℕ) × (BeginsWith IsToken size text token rest × Spells IsToken size rest tokens)

-- the tokens, and what follows them
abbrev pub Front : {T : Type 0} → (ℕ → List ℕ → T → List ℕ → Type 0) → ℕ → List ℕ → List T → List ℕ → Type 0
Front IsToken size text [] rest = text ≡ rest
Front IsToken size text (token ∷ tokens) rest = (more : List ℕ) × (BeginsWith IsToken size text token more × Front IsToken size more tokens rest)

-- Behind some tokens and blanks comes a byte at which this is wrong: `IsWrong text fault`.
pub record StopsWith {T F : Type 0} (IsToken : ℕ → List ℕ → T → List ℕ → Type 0) (IsWrong : List ℕ → F → Type 0) (size : ℕ) (text : List ℕ) (fault : F) : Type 0 where
  pub tokens : List T
  pub more : List ℕ
  pub front : Front IsToken size text tokens more
  pub blanks : List ℕ
  pub first : ℕ
  pub others : List ℕ
  pub cut : more ≡ blanks ++ (first ∷ others)
  pub all_blank : list_all is_blank blanks ≡ true
  pub visible : is_blank first ≡ false
  pub wrong : IsWrong (first ∷ others) fault

-- ---- the same, as a function
-- A language gives a reader: the token at the front of a text that begins with no blank, and what follows it, or
-- what is wrong there.

abbrev pub put_first : {T F : Type 0} → T → Result (List T) F → Result (List T) F
put_first token (Ok tokens) = Ok (token ∷ tokens)
put_first token (Err fault) = Err fault

abbrev pub followed : {T F : Type 0} → (List ℕ → Result (List T) F) → Result (T × List ℕ) F → Result (List T) F
followed more (Ok found) = put_first found.0 (more found.1)
followed more (Err fault) = Err fault

-- a token at each step, at most n of them with the blanks
abbrev pub tokens_within : {T F : Type 0} → (ℕ → List ℕ → Result (T × List ℕ) F) → ℕ → ℕ → List ℕ → Result (List T) F
tokens_within read size n [] = Ok []
tokens_within read size zero (b ∷ bs) = Ok []
tokens_within read size (suc n) (b ∷ bs) =
    if is_blank b then tokens_within read size n bs
    else followed (tokens_within read size n) (read (size - length (b ∷ bs)) (b ∷ bs))

-- the tokens of the end of a text of this size, or what is wrong first
unfoldable pub tokens_from : {T F : Type 0} → (ℕ → List ℕ → Result (T × List ℕ) F) → ℕ → List ℕ → Result (List T) F
tokens_from read size text = tokens_within read size (length text) text

abbrev pub tokens_of : {T F : Type 0} → (ℕ → List ℕ → Result (T × List ℕ) F) → List ℕ → Result (List T) F
tokens_of read text = tokens_from read (length text) text
