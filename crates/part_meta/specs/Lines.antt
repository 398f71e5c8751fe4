-- Texts of lines, and the first line that no text of a grammar has there.
use Rattle.std.specs.Prelude.{◌≡◌, ◌≢◌, ℕ, ◌+◌, ◌-◌, ◌≤◌, ◌<◌, ◌==◌, Option, Some, None, List, [], ◌∷◌, ◌++◌, length, take, if◌then◌else◌}
use Rattle.std.specs.List.{All, flat_map}

-- ended by a line feed (10)
abbrev pub line : List ℕ → List ℕ
line text = text ++ 10 ∷ []

-- the text that has these lines
abbrev pub joined : List (List ℕ) → List ℕ
joined lines = flat_map (λ l. l) lines

abbrev pub begun_by : ℕ → List (List ℕ) → List (List ℕ)
begun_by b [] = (b ∷ []) ∷ []
begun_by b (l ∷ ls) = (b ∷ l) ∷ ls

-- the lines of a text, cut behind each line feed; the last one may lack it
abbrev pub lines_in : List ℕ → List (List ℕ)
lines_in [] = []
lines_in (b ∷ bs) = if b == 10 then (10 ∷ []) ∷ lines_in bs else begun_by b (lines_in bs)

-- without a line feed
abbrev pub IsUnbroken : List ℕ → Type 0
IsUnbroken bytes = All (λ b. b ≢ 10) bytes

-- one line with its line feed, and no other line feed in it
pub record IsLine (l : List ℕ) : Type 0 where
  pub text : List ℕ
  pub is : l ≡ line text
  pub unbroken : IsUnbroken text

-- A grammar is a set of values and the lines that spell each. Some text of it begins with these lines.
pub record Begins {A : Type 0} (IsOf : A → Type 0) (lines : A → List (List ℕ)) (front : List (List ℕ)) : Type 0 where
  pub value : A
  pub valid : IsOf value
  pub rest : List (List ℕ)
  pub spelled : lines value ≡ front ++ rest

-- Line k, from 1, of these bytes is the first that no text of the grammar has behind the lines before it.
-- Where each of their lines may stand there, but no text ends behind the last, it is the line after that.
pub record IsFirstWrong {A : Type 0} (IsOf : A → Type 0) (lines : A → List (List ℕ)) (bytes : List ℕ) (k : ℕ) : Type 0 where
  pub counted : (1 ≤ k) × (k ≤ length (lines_in bytes) + 1)
  pub before : Begins IsOf lines (take (k - 1) (lines_in bytes))
  pub wrong : k ≤ length (lines_in bytes) → Begins IsOf lines (take k (lines_in bytes)) → ⊥
  pub ended : length (lines_in bytes) < k → (x : A) → IsOf x → lines x ≢ lines_in bytes

-- What a reader is after one more line, where what it read before are the lines that `read` gives of it: the state with
-- that line, or nothing, where no text of the grammar goes on so.
abbrev pub GoesOn : {A S : Type 0} → (A → Type 0) → (A → List (List ℕ)) → (S → Type 0) → (S → List (List ℕ)) → S → List ℕ → Option S → Type 0
GoesOn IsOf lines IsState read state text (Some after) = IsState after × (read after ≡ read state ++ line text ∷ [])
GoesOn IsOf lines IsState read state text None = Begins IsOf lines (read state ++ line text ∷ []) → ⊥

-- What a reader has at the end of a text of whole lines: the value that they spell, or nothing, where they spell none.
abbrev pub Ends : {A S : Type 0} → (A → Type 0) → (A → List (List ℕ)) → (S → List (List ℕ)) → S → Option A → Type 0
Ends IsOf lines read state (Some x) = IsOf x × (read state ≡ lines x)
Ends {A} IsOf lines read state None = (x : A) → IsOf x → lines x ≢ read state
