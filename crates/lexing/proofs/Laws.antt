-- What a text spells, by the relation and by the function.
use Rattle.std.proofs.Common.{◌≡◌, ℕ, zero, suc, ◌-◌, ◌≤◌, true, false, List, [], ◌∷◌, ◌++◌, length, refl, ap, subst, ◌∙◌, inl, inr, arith}
use Rattle.std.specs.Prelude.{Result, Ok, Err}
use Rattle.std.specs.List.{list_all}
use Rattle.lexing.specs.Blanks.{is_blank}
use Rattle.lexing.specs.Tokens.{BeginsWith, Spells, Front, StopsWith, put_first, followed, tokens_within, tokens_from}
use Rattle.lexing.proofs.Cases.{chosen}
use Rattle.std.proofs.lemmas.Bool.{and_from, and_parts}
use Rattle.lexing.proofs.Steps.{Reader, Shortens, tokens_from-blank, tokens_from-empty, tokens_from-found, tokens_from-wrong}

-- what the reader finds is a token, and each token is what it finds
abbrev pub IsSound : {T F : Type 0} → Reader T F → (ℕ → List ℕ → T → List ℕ → Type 0) → Type 0
IsSound {T} {F} read IsToken = (at : ℕ) (text : List ℕ) (found : T × List ℕ) → read at text ≡ Ok found → IsToken at text found.0 found.1

-- the token is read at the front, where no blank stands
pub record Reads {T F : Type 0} (read : Reader T F) (at : ℕ) (text : List ℕ) (token : T) (rest : List ℕ) : Type 0 where
  pub first : ℕ
  pub others : List ℕ
  pub cons : text ≡ first ∷ others
  pub visible : is_blank first ≡ false
  pub found : read at (first ∷ others) ≡ Ok (token, rest)

abbrev pub IsComplete : {T F : Type 0} → Reader T F → (ℕ → List ℕ → T → List ℕ → Type 0) → Type 0
IsComplete {T} {F} read IsToken = (at : ℕ) (text : List ℕ) (token : T) (rest : List ℕ) → IsToken at text token rest → Reads read at text token rest

-- ---- what the function gives is spelled

-- a blank before a text leaves its tokens
pub blank_before : {T : Type 0} (IsToken : ℕ → List ℕ → T → List ℕ → Type 0) (size b : ℕ) (bs : List ℕ) (ts : List T) → is_blank b ≡ true → Spells IsToken size bs ts → Spells IsToken size (b ∷ bs) ts
blank_before IsToken size b bs [] blank spells = and_from (is_blank b) (list_all is_blank bs) blank spells
blank_before IsToken size b bs (token ∷ ts) blank spells =
    let at = spells.1.0 in
    (spells.0, (record { blanks = b ∷ at.blanks; behind = at.behind; cut = ap (λ x. b ∷ x) at.cut; all_blank = and_from (is_blank b) (list_all is_blank at.blanks) blank at.all_blank; here = at.here }, spells.1.1))

pub token_before : {T : Type 0} (IsToken : ℕ → List ℕ → T → List ℕ → Type 0) (size : ℕ) (text : List ℕ) (token : T) (rest : List ℕ) (ts : List T) → IsToken (size - length text) text token rest → Spells IsToken size rest ts → Spells IsToken size text (token ∷ ts)
token_before IsToken size text token rest ts here spells =
    (rest, (record { blanks = []; behind = text; cut = refl; all_blank = refl; here = here }, spells))

empty_spells : {T F : Type 0} (IsToken : ℕ → List ℕ → T → List ℕ → Type 0) (size : ℕ) (ts : List T) → ◌≡◌ {A = Result (List T) F} (Ok []) (Ok ts) → Spells IsToken size [] ts
empty_spells IsToken size [] e = refl
empty_spells IsToken size (token ∷ ts) e = absurd cc

more_spells : {T F : Type 0} (IsToken : ℕ → List ℕ → T → List ℕ → Type 0) (size : ℕ) (text : List ℕ) (found : T × List ℕ) (more : Result (List T) F) (ts : List T) → IsToken (size - length text) text found.0 found.1
    → ((rest : List T) → more ≡ Ok rest → Spells IsToken size found.1 rest) → put_first found.0 more ≡ Ok ts → Spells IsToken size text ts
more_spells IsToken size text found (Ok rest) ts here spells e =
    let same : found.0 ∷ rest ≡ ts = cc in
    subst (Spells IsToken size text) same (token_before IsToken size text found.0 found.1 rest here (spells rest refl))
more_spells IsToken size text found (Err fault) ts here spells e = absurd cc

found_spells : {T F : Type 0} (read : Reader T F) (IsToken : ℕ → List ℕ → T → List ℕ → Type 0) → IsSound read IsToken → (size n : ℕ) (text : List ℕ) (r : Result (T × List ℕ) F) (ts : List T) → read (size - length text) text ≡ r
    → ((f : T × List ℕ) → r ≡ Ok f → (more : List T) → tokens_within read size n f.1 ≡ Ok more → Spells IsToken size f.1 more) → followed (tokens_within read size n) r ≡ Ok ts → Spells IsToken size text ts
found_spells read IsToken sound size n text (Ok found) ts is spells e = more_spells IsToken size text found (tokens_within read size n found.1) ts (sound (size - length text) text found is) (spells found refl) e
found_spells read IsToken sound size n text (Err fault) ts is spells e = absurd cc

spelled_within : {T F : Type 0} (read : Reader T F) (IsToken : ℕ → List ℕ → T → List ℕ → Type 0) → Shortens read → IsSound read IsToken → (size n : ℕ) (text : List ℕ) (ts : List T) → length text ≤ n → tokens_within read size n text ≡ Ok ts → Spells IsToken size text ts
spelled_within read IsToken shorter sound size n [] ts few e = empty_spells IsToken size ts e
spelled_within read IsToken shorter sound size zero (b ∷ bs) ts few e = absurd (omega arith)
spelled_within read IsToken shorter sound size (suc n) (b ∷ bs) ts few e =
    let text = b ∷ bs in
    let at = size - length text in
    let found = read at text in
    elim (chosen (is_blank b) (tokens_within read size n bs) (followed (tokens_within read size n) found) (Ok ts) e) [
      | inl h ↦ blank_before IsToken size b bs ts h.0 (spelled_within read IsToken shorter sound size n bs ts (omega arith) h.1)
      | inr h ↦ found_spells read IsToken sound size n text found ts refl
          (λ f is more so. let less = shorter at text f is in spelled_within read IsToken shorter sound size n f.1 more (omega arith) so) h.1
    ]

pub tokens_from-spelled : {T F : Type 0} (read : Reader T F) (IsToken : ℕ → List ℕ → T → List ℕ → Type 0) → Shortens read → IsSound read IsToken → (size : ℕ) (text : List ℕ) (ts : List T) → tokens_from read size text ≡ Ok ts → Spells IsToken size text ts
unfolding tokens_from
tokens_from-spelled read IsToken shorter sound size text ts e = spelled_within read IsToken shorter sound size (length text) text ts (omega arith) e

-- ---- what is spelled, the function gives

pub skipped : {T F : Type 0} (read : Reader T F) (size : ℕ) (blanks text : List ℕ) → list_all is_blank blanks ≡ true → tokens_from read size (blanks ++ text) ≡ tokens_from read size text
skipped read size [] text all = refl
skipped read size (b ∷ bs) text all =
    let parts = and_parts (is_blank b) (list_all is_blank bs) all in
    tokens_from-blank read size b (bs ++ text) parts.0 ∙ skipped read size bs text parts.1

all_blank : {T F : Type 0} (read : Reader T F) (size : ℕ) (text : List ℕ) → list_all is_blank text ≡ true → tokens_from read size text ≡ Ok []
all_blank read size [] all = tokens_from-empty read size [] refl
all_blank read size (b ∷ bs) all =
    let parts = and_parts (is_blank b) (list_all is_blank bs) all in
    tokens_from-blank read size b bs parts.0 ∙ all_blank read size bs parts.1

read_here : {T F : Type 0} (read : Reader T F) → Shortens read → (size : ℕ) (text : List ℕ) (token : T) (rest : List ℕ) → Reads read (size - length text) text token rest → tokens_from read size text ≡ put_first token (tokens_from read size rest)
read_here read shorter size text token rest reads =
    let found : read (size - length (reads.first ∷ reads.others)) (reads.first ∷ reads.others) ≡ Ok (token, rest) = subst (λ xs. read (size - length xs) (reads.first ∷ reads.others) ≡ Ok (token, rest)) reads.cons reads.found in
    ap (tokens_from read size) reads.cons ∙ tokens_from-found read shorter size reads.first reads.others (token, rest) reads.visible found

begins_read : {T F : Type 0} (read : Reader T F) (IsToken : ℕ → List ℕ → T → List ℕ → Type 0) → Shortens read → IsComplete read IsToken → (size : ℕ) (text : List ℕ) (token : T) (rest : List ℕ) → BeginsWith IsToken size text token rest
    → tokens_from read size text ≡ put_first token (tokens_from read size rest)
begins_read read IsToken shorter complete size text token rest at =
    ap (tokens_from read size) at.cut ∙ (skipped read size at.blanks at.behind at.all_blank ∙ read_here read shorter size at.behind token rest (complete (size - length at.behind) at.behind token rest at.here))

pub spelled-tokens_from : {T F : Type 0} (read : Reader T F) (IsToken : ℕ → List ℕ → T → List ℕ → Type 0) → Shortens read → IsComplete read IsToken → (size : ℕ) (text : List ℕ) (ts : List T) → Spells IsToken size text ts → tokens_from read size text ≡ Ok ts
spelled-tokens_from read IsToken shorter complete size text [] spells = all_blank read size text spells
spelled-tokens_from read IsToken shorter complete size text (token ∷ ts) spells =
    begins_read read IsToken shorter complete size text token spells.0 spells.1.0 ∙ ap (put_first token) (spelled-tokens_from read IsToken shorter complete size spells.0 ts spells.1.1)

-- ---- what is wrong first

-- what the reader refuses is wrong, and what is wrong it refuses
abbrev pub Refuses : {T F : Type 0} → Reader T F → (List ℕ → F → Type 0) → Type 0
Refuses {T} {F} read IsWrong = (at b : ℕ) (bs : List ℕ) (fault : F) → is_blank b ≡ false → read at (b ∷ bs) ≡ Err fault → IsWrong (b ∷ bs) fault

abbrev pub IsRefused : {T F : Type 0} → Reader T F → (List ℕ → F → Type 0) → Type 0
IsRefused {T} {F} read IsWrong = (at b : ℕ) (bs : List ℕ) (fault : F) → is_blank b ≡ false → IsWrong (b ∷ bs) fault → read at (b ∷ bs) ≡ Err fault

blank_stops : {T F : Type 0} (IsToken : ℕ → List ℕ → T → List ℕ → Type 0) (IsWrong : List ℕ → F → Type 0) (size b : ℕ) (bs : List ℕ) (ts : List T) (more : List ℕ) (fault : F) → is_blank b ≡ true → Front IsToken size bs ts more
    → (blanks : List ℕ) (first : ℕ) (others : List ℕ) → more ≡ blanks ++ (first ∷ others) → list_all is_blank blanks ≡ true → is_blank first ≡ false → IsWrong (first ∷ others) fault → StopsWith IsToken IsWrong size (b ∷ bs) fault
blank_stops IsToken IsWrong size b bs [] more fault blank front blanks first others cut all visible wrong =
    record { tokens = []; more = b ∷ bs; front = refl; blanks = b ∷ blanks; first = first; others = others; cut = ap (λ x. b ∷ x) (front ∙ cut); all_blank = and_from (is_blank b) (list_all is_blank blanks) blank all; visible = visible; wrong = wrong }
blank_stops IsToken IsWrong size b bs (token ∷ ts) more fault blank front blanks first others cut all visible wrong =
    let at = front.1.0 in
    let begins : BeginsWith IsToken size (b ∷ bs) token front.0 = record { blanks = b ∷ at.blanks; behind = at.behind; cut = ap (λ x. b ∷ x) at.cut; all_blank = and_from (is_blank b) (list_all is_blank at.blanks) blank at.all_blank; here = at.here } in
    record { tokens = token ∷ ts; more = more; front = (front.0, (begins, front.1.1)); blanks = blanks; first = first; others = others; cut = cut; all_blank = all; visible = visible; wrong = wrong }

wrong_spells : {T F : Type 0} (IsToken : ℕ → List ℕ → T → List ℕ → Type 0) (IsWrong : List ℕ → F → Type 0) (size b : ℕ) (bs : List ℕ) (fault : F) → is_blank b ≡ true → StopsWith IsToken IsWrong size bs fault → StopsWith IsToken IsWrong size (b ∷ bs) fault
wrong_spells IsToken IsWrong size b bs fault blank stops =
    blank_stops IsToken IsWrong size b bs stops.tokens stops.more fault blank stops.front stops.blanks stops.first stops.others stops.cut stops.all_blank stops.visible stops.wrong

token_stops : {T F : Type 0} (IsToken : ℕ → List ℕ → T → List ℕ → Type 0) (IsWrong : List ℕ → F → Type 0) (size : ℕ) (text : List ℕ) (token : T) (rest : List ℕ) (fault : F) → IsToken (size - length text) text token rest → StopsWith IsToken IsWrong size rest fault → StopsWith IsToken IsWrong size text fault
token_stops IsToken IsWrong size text token rest fault here stops =
    let begins : BeginsWith IsToken size text token rest = record { blanks = []; behind = text; cut = refl; all_blank = refl; here = here } in
    record { tokens = token ∷ stops.tokens; more = stops.more; front = (rest, (begins, stops.front)); blanks = stops.blanks; first = stops.first; others = stops.others; cut = stops.cut; all_blank = stops.all_blank; visible = stops.visible; wrong = stops.wrong }

put_fault : {T F : Type 0} (token : T) (r : Result (List T) F) (fault : F) → put_first token r ≡ Err fault → r ≡ Err fault
put_fault token (Ok ts) fault e = absurd cc
put_fault token (Err other) fault e = e

same_fault : {F A B : Type 0} (other fault : F) → ◌≡◌ {A = Result A F} (Err other) (Err fault) → ◌≡◌ {A = Result B F} (Err other) (Err fault)
same_fault other fault e = let same : other ≡ fault = cc in ap Err same

found_stops : {T F : Type 0} (read : Reader T F) (IsToken : ℕ → List ℕ → T → List ℕ → Type 0) (IsWrong : List ℕ → F → Type 0) → IsSound read IsToken → Refuses read IsWrong → (size n b : ℕ) (bs : List ℕ) (r : Result (T × List ℕ) F) (fault : F) → is_blank b ≡ false → read (size - length (b ∷ bs)) (b ∷ bs) ≡ r
    → ((f : T × List ℕ) → r ≡ Ok f → tokens_within read size n f.1 ≡ Err fault → StopsWith IsToken IsWrong size f.1 fault) → followed (tokens_within read size n) r ≡ Err fault → StopsWith IsToken IsWrong size (b ∷ bs) fault
found_stops read IsToken IsWrong sound refuses size n b bs (Ok found) fault visible is stops e =
    token_stops IsToken IsWrong size (b ∷ bs) found.0 found.1 fault (sound (size - length (b ∷ bs)) (b ∷ bs) found is) (stops found refl (put_fault found.0 (tokens_within read size n found.1) fault e))
found_stops read IsToken IsWrong sound refuses size n b bs (Err other) fault visible is stops e =
    record { tokens = []; more = b ∷ bs; front = refl; blanks = []; first = b; others = bs; cut = refl; all_blank = refl; visible = visible; wrong = refuses (size - length (b ∷ bs)) b bs fault visible (is ∙ same_fault other fault e) }

stopped_within : {T F : Type 0} (read : Reader T F) (IsToken : ℕ → List ℕ → T → List ℕ → Type 0) (IsWrong : List ℕ → F → Type 0) → IsSound read IsToken → Refuses read IsWrong → (size n : ℕ) (text : List ℕ) (fault : F) → tokens_within read size n text ≡ Err fault → StopsWith IsToken IsWrong size text fault
stopped_within read IsToken IsWrong sound refuses size n [] fault e = absurd cc
stopped_within read IsToken IsWrong sound refuses size zero (b ∷ bs) fault e = absurd cc
stopped_within read IsToken IsWrong sound refuses size (suc n) (b ∷ bs) fault e =
    let found = read (size - length (b ∷ bs)) (b ∷ bs) in
    elim (chosen (is_blank b) (tokens_within read size n bs) (followed (tokens_within read size n) found) (Err fault) e) [
      | inl h ↦ wrong_spells IsToken IsWrong size b bs fault h.0 (stopped_within read IsToken IsWrong sound refuses size n bs fault h.1)
      | inr h ↦ found_stops read IsToken IsWrong sound refuses size n b bs found fault h.0 refl (λ f is so. stopped_within read IsToken IsWrong sound refuses size n f.1 fault so) h.1
    ]

pub tokens_from-stopped : {T F : Type 0} (read : Reader T F) (IsToken : ℕ → List ℕ → T → List ℕ → Type 0) (IsWrong : List ℕ → F → Type 0) → IsSound read IsToken → Refuses read IsWrong → (size : ℕ) (text : List ℕ) (fault : F) → tokens_from read size text ≡ Err fault → StopsWith IsToken IsWrong size text fault
unfolding tokens_from
tokens_from-stopped read IsToken IsWrong sound refuses size text fault e = stopped_within read IsToken IsWrong sound refuses size (length text) text fault e

front_stopped : {T F : Type 0} (read : Reader T F) (IsToken : ℕ → List ℕ → T → List ℕ → Type 0) → Shortens read → IsComplete read IsToken → (size : ℕ) (text : List ℕ) (ts : List T) (rest : List ℕ) (fault : F) → Front IsToken size text ts rest → tokens_from read size rest ≡ Err fault → tokens_from read size text ≡ Err fault
front_stopped read IsToken shorter complete size text [] rest fault front e = ap (tokens_from read size) front ∙ e
front_stopped read IsToken shorter complete size text (token ∷ ts) rest fault front e =
    begins_read read IsToken shorter complete size text token front.0 front.1.0 ∙ ap (put_first token) (front_stopped read IsToken shorter complete size front.0 ts rest fault front.1.1 e)

pub stopped-tokens_from : {T F : Type 0} (read : Reader T F) (IsToken : ℕ → List ℕ → T → List ℕ → Type 0) (IsWrong : List ℕ → F → Type 0) → Shortens read → IsComplete read IsToken → IsRefused read IsWrong → (size : ℕ) (text : List ℕ) (fault : F) → StopsWith IsToken IsWrong size text fault → tokens_from read size text ≡ Err fault
stopped-tokens_from read IsToken IsWrong shorter complete refused size text fault stops =
    let here : tokens_from read size (stops.first ∷ stops.others) ≡ Err fault = tokens_from-wrong read size stops.first stops.others fault stops.visible (refused (size - length (stops.first ∷ stops.others)) stops.first stops.others fault stops.visible stops.wrong) in
    front_stopped read IsToken shorter complete size text stops.tokens stops.more fault stops.front (ap (tokens_from read size) stops.cut ∙ (skipped read size stops.blanks (stops.first ∷ stops.others) stops.all_blank ∙ here))
