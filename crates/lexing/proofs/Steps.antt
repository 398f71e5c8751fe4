-- Tokens, one step at a time.
use Rattle.std.proofs.Common.{◌≡◌, ℕ, zero, suc, ◌-◌, ◌≤◌, ◌<◌, true, false, cond, List, [], ◌∷◌, ◌++◌, length, get_or, drop, refl, sym, ap, ◌∙◌, append_assoc, append-nil, arith}
use Rattle.std.specs.Prelude.{Result, Ok, Err}
use Rattle.lexing.specs.Blanks.{is_blank}
use Rattle.lexing.specs.Tokens.{put_first, followed, tokens_within, tokens_from}

-- how a reader reads, and that a token has at least one byte
abbrev pub Reader : Type 0 → Type 0 → Type 0
Reader T F = ℕ → List ℕ → Result (T × List ℕ) F

abbrev pub Shortens : {T F : Type 0} → Reader T F → Type 0
Shortens {T} {F} read = (at : ℕ) (text : List ℕ) (found : T × List ℕ) → read at text ≡ Ok found → length found.1 < length text

-- tokens put before those of the rest
abbrev pub before : {T F : Type 0} → List T → Result (List T) F → Result (List T) F
before front (Ok more) = Ok (front ++ more)
before front (Err fault) = Err fault

first : {T F : Type 0} (read : Reader T F) (size m n : ℕ) (found : Result (T × List ℕ) F) → ((f : T × List ℕ) → found ≡ Ok f → tokens_within read size m f.1 ≡ tokens_within read size n f.1)
    → followed (tokens_within read size m) found ≡ followed (tokens_within read size n) found
first read size m n (Err fault) same = refl
first read size m n (Ok f) same = ap (put_first f.0) (same f refl)

-- more steps than bytes change nothing
pub tokens_within-enough : {T F : Type 0} (read : Reader T F) → Shortens read → (size m n : ℕ) (text : List ℕ) → length text ≤ m → length text ≤ n → tokens_within read size m text ≡ tokens_within read size n text
tokens_within-enough read shorter size m n [] _ _ = refl
tokens_within-enough read shorter size zero n (b ∷ bs) lm ln = absurd (omega arith)
tokens_within-enough read shorter size (suc m) zero (b ∷ bs) lm ln = absurd (omega arith)
tokens_within-enough read shorter size (suc m) (suc n) (b ∷ bs) lm ln =
    let at = size - length (b ∷ bs) in
    let found = read at (b ∷ bs) in
    let rest = tokens_within-enough read shorter size m n bs (omega arith) (omega arith) in
    let others = first read size m n found (λ f e. let s = shorter at (b ∷ bs) f e in tokens_within-enough read shorter size m n f.1 (omega arith) (omega arith)) in
    ap (λ r. cond (is_blank b) r (followed (tokens_within read size m) found)) rest ∙ ap (cond (is_blank b) (tokens_within read size n bs)) others

pub tokens_from-blank : {T F : Type 0} (read : Reader T F) (size b : ℕ) (bs : List ℕ) → is_blank b ≡ true → tokens_from read size (b ∷ bs) ≡ tokens_from read size bs
unfolding tokens_from
tokens_from-blank read size b bs e = rw e refl

pub tokens_from-wrong : {T F : Type 0} (read : Reader T F) (size b : ℕ) (bs : List ℕ) (fault : F) → is_blank b ≡ false → read (size - length (b ∷ bs)) (b ∷ bs) ≡ Err fault → tokens_from read size (b ∷ bs) ≡ Err fault
unfolding tokens_from
tokens_from-wrong read size b bs fault e wrong = rw (e, wrong) refl

pub tokens_from-found : {T F : Type 0} (read : Reader T F) → Shortens read → (size b : ℕ) (bs : List ℕ) (found : T × List ℕ) → is_blank b ≡ false → read (size - length (b ∷ bs)) (b ∷ bs) ≡ Ok found
    → tokens_from read size (b ∷ bs) ≡ put_first found.0 (tokens_from read size found.1)
unfolding tokens_from
tokens_from-found read shorter size b bs found e some =
    let less = shorter (size - length (b ∷ bs)) (b ∷ bs) found some in
    let enough : tokens_within read size (length bs) found.1 ≡ tokens_within read size (length found.1) found.1 = tokens_within-enough read shorter size (length bs) (length found.1) found.1 (omega arith) (omega arith) in
    rw (e, some) (ap (put_first found.0) enough)

pub tokens_from-empty : {T F : Type 0} (read : Reader T F) (size : ℕ) (text : List ℕ) → length text ≡ 0 → tokens_from read size text ≡ Ok []
unfolding tokens_from
tokens_from-empty read size [] e = refl
tokens_from-empty read size (b ∷ bs) e = absurd (omega arith)

-- ---- the same for a text that isn't empty, as the loop asks

pub blank-step : {T F : Type 0} (read : Reader T F) (size : ℕ) (text : List ℕ) → 0 < length text → is_blank (get_or text 0 0) ≡ true → tokens_from read size text ≡ tokens_from read size (drop 1 text)
blank-step read size [] some e = absurd (omega arith)
blank-step read size (b ∷ bs) some e = tokens_from-blank read size b bs e

pub wrong-step : {T F : Type 0} (read : Reader T F) (size : ℕ) (text : List ℕ) (fault : F) → 0 < length text → is_blank (get_or text 0 0) ≡ false → read (size - length text) text ≡ Err fault → tokens_from read size text ≡ Err fault
wrong-step read size [] fault some e wrong = absurd (omega arith)
wrong-step read size (b ∷ bs) fault some e wrong = tokens_from-wrong read size b bs fault e wrong

pub found-step : {T F : Type 0} (read : Reader T F) → Shortens read → (size : ℕ) (text rest : List ℕ) (token : T) → 0 < length text → is_blank (get_or text 0 0) ≡ false → read (size - length text) text ≡ Ok (token, rest)
    → tokens_from read size text ≡ before (token ∷ []) (tokens_from read size rest)
found-step read shorter size [] rest token some e found = absurd (omega arith)
found-step read shorter size (b ∷ bs) rest token some e found = tokens_from-found read shorter size b bs (token, rest) e found ∙ one_first token (tokens_from read size rest)
  where
    one_first : {T F : Type 0} (token : T) (r : Result (List T) F) → put_first token r ≡ before (token ∷ []) r
    one_first token (Ok ts) = refl
    one_first token (Err fault) = refl

pub before-before : {T F : Type 0} (front more : List T) (r : Result (List T) F) → before front (before more r) ≡ before (front ++ more) r
before-before front more (Ok ts) = ap Ok (sym (append_assoc front more ts))
before-before front more (Err fault) = refl

pub before-empty : {T F : Type 0} (r : Result (List T) F) → r ≡ before [] r
before-empty (Ok ts) = refl
before-empty (Err fault) = refl

-- the loop, where it ends
pub all-read : {T F : Type 0} (read : Reader T F) (size : ℕ) (text rest : List ℕ) (tokens : List T) → tokens_from read size text ≡ before tokens (tokens_from read size rest) → length rest ≡ 0 → Ok tokens ≡ tokens_from read size text
all-read read size text rest tokens so_far done =
    sym (so_far ∙ (ap (before tokens) (tokens_from-empty read size rest done) ∙ ap Ok (append-nil tokens)))

-- where it finds a token
pub one-more : {T F : Type 0} (read : Reader T F) (size : ℕ) (text rest after : List ℕ) (tokens pushed : List T) (token : T) → tokens_from read size text ≡ before tokens (tokens_from read size rest) → tokens_from read size rest ≡ before (token ∷ []) (tokens_from read size after) → pushed ≡ tokens ++ token ∷ [] → tokens_from read size text ≡ before pushed (tokens_from read size after)
one-more read size text rest after tokens pushed token so_far step e =
    so_far ∙ (ap (before tokens) step ∙ (before-before tokens (token ∷ []) (tokens_from read size after) ∙ ap (λ ts. before ts (tokens_from read size after)) (sym e)))
