-- The places of values, one by one.
use Rattle.std.proofs.Common.{◌≡◌, ◌<◌, ◌+◌, ◌∙◌, Some, ℕ, zero, suc, Bool, true, false, cond, not, ◌&&◌, List, [], ◌∷◌, ◌++◌, String, add-one, add-zero, zero-add, append-nil, ap, drop, filter, find, get_or, length, map, refl, string_bytes, sym, arith}
use Rattle.std.specs.List.{range_with_len}
use Rattle.std.proofs.lemmas.List.{at_drop_more, get_or-map}
use Rattle.command_words.specs.Places.{is_value, spells_one, word_at}

pub is_value-more : (options : List ℕ) (words : List (List ℕ)) (place : ℕ)
    → is_value options words (place + 1) ≡ (not (is_value options words place) && spells_one options (word_at words place))
unfolding is_value
is_value-more options words place = rw add-one refl

pub is_value-none : (options : List ℕ) (words : List (List ℕ)) → is_value options words 0 ≡ false
unfolding is_value
is_value-none options words = refl

-- one number more
filter_from : (p : ℕ → Bool) (a n : ℕ)
    → filter p (range_with_len a (suc n)) ≡ filter p (range_with_len a n) ++ cond (p (a + n)) ((a + n) ∷ []) []
filter_from p a zero = rw add-zero (by (p a))
  where
    by : (b : Bool) → cond b (a ∷ []) [] ≡ [] ++ cond b (a ∷ []) []
    by true = refl
    by false = refl
filter_from p a (suc n) =
    let e : a + 1 + n ≡ a + suc n = omega arith in
    let more : filter p (range_with_len (a + 1) (suc n)) ≡ filter p (range_with_len (a + 1) n) ++ cond (p (a + suc n)) ((a + suc n) ∷ []) [] =
    rw e at (filter_from p (a + 1) n) in
    by (p a) _ _ more
  where
    by : (b : Bool) (xs ys : List ℕ) → xs ≡ filter p (range_with_len (a + 1) n) ++ ys
        → cond b (a ∷ xs) xs ≡ cond b (a ∷ filter p (range_with_len (a + 1) n)) (filter p (range_with_len (a + 1) n)) ++ ys
    by true xs ys h = ap (λ l. a ∷ l) h
    by false xs ys h = h

pub filter-more : (p : ℕ → Bool) (n : ℕ)
    → filter p (range_with_len 0 (n + 1)) ≡ filter p (range_with_len 0 n) ++ cond (p n) (n ∷ []) []
filter-more p n = rw add-one (rw (zero-add n) at (filter_from p 0 n))

-- the places before n that have no value
abbrev pub plain_before : (options : List ℕ) → List (List ℕ) → ℕ → List ℕ
plain_before options words n = filter (λ place. not (is_value options words place)) (range_with_len 0 n)

-- one place more, where no value stands and where one stands
pub plain-here : (options : List ℕ) (words : List (List ℕ)) (n : ℕ) → is_value options words n ≡ false
    → plain_before options words (n + 1) ≡ plain_before options words n ++ n ∷ []
plain-here options words n e = filter-more (λ place. not (is_value options words place)) n ∙ rw e refl

pub plain-value : (options : List ℕ) (words : List (List ℕ)) (n : ℕ) → is_value options words n ≡ true
    → plain_before options words (n + 1) ≡ plain_before options words n
plain-value options words n e = filter-more (λ place. not (is_value options words place)) n ∙ rw e (append-nil _)

-- the word at a place is that of the strings
pub word_at-map : {A : Type 0} (words : List (String A)) (place : ℕ) (word : String A) → place < length words
    → word ≡ get_or words place word → word_at (map string_bytes words) place ≡ string_bytes word
word_at-map words place word h e = get_or-map string_bytes words place word [] h ∙ ap string_bytes (sym e)

-- what is found from a place on
pub find-from : (p : ℕ → Bool) (xs : List ℕ) (i d : ℕ) → i < length xs
    → find p (drop i xs) ≡ cond (p (get_or xs i d)) (Some (get_or xs i d)) (find p (drop (i + 1) xs))
find-from p xs i d h = at_drop_more (find p) xs i d h
