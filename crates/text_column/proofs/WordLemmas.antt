-- Words, their codes, and the set that keeps them.
use Rattle.std.proofs.Common.{◌≡◌, ◌≢◌, ℕ, suc, ◌+◌, ◌<◌, Bool, true, false, not, cond, ◌||◌, List, [], ◌∷◌, ◌++◌, length, map, Some, None, option_map, nat_lt, refl, sym, ap, ◌∙◌, arith, length-append}
use Rattle.std.specs.List.{AllByRecursion, IsDistinct, list_any, prefix_len, position, position_or_len}
use Rattle.std.specs.Str.{bytes_eq}
use Rattle.indexmap.specs.IndexSet.{insert_key}
use Rattle.std.proofs.lemmas.Bool.{lt-ltb, le-ltb}
use Rattle.std.proofs.lemmas.Slice.Eq.{bytes_eq-Decides}
use Rattle.text_column.specs.Words.{IsWord, IsDictionary, code_in, with_word, most_words}

-- ---- keys as words

module _ {V : Type 0} (f : V → List ℕ) where
  prefix-map : (p : List ℕ → Bool) (ks : List V) → prefix_len (λ k. p (f k)) ks ≡ prefix_len p (map f ks)
  prefix-map p [] = refl
  prefix-map p (k ∷ ks) = ap (λ n. cond (p (f k)) (1 + n) 0) (prefix-map p ks)

  keys-length : (ks : List V) → length (map f ks) ≡ length ks
  keys-length [] = refl
  keys-length (k ∷ ks) = ap suc (keys-length ks)

  pub place-map : (p : List ℕ → Bool) (ks : List V) → position_or_len (λ k. p (f k)) ks ≡ position_or_len p (map f ks)
  place-map p ks = prefix-map (λ x. not (p x)) ks

  pub position-map : (p : List ℕ → Bool) (ks : List V) → position (λ k. p (f k)) ks ≡ position p (map f ks)
  position-map p ks =
      ap (λ n. cond (nat_lt n (length ks)) (Some n) None) (place-map p ks)
      ∙ ap (λ l. cond (nat_lt (position_or_len p (map f ks)) l) (Some (position_or_len p (map f ks))) None) (sym (keys-length ks))

  pub any-map : (p : List ℕ → Bool) (ks : List V) → list_any (λ k. p (f k)) ks ≡ list_any p (map f ks)
  any-map p [] = refl
  any-map p (k ∷ ks) = ap (λ x. p (f k) || x) (any-map p ks)

  map-append : (ks ls : List V) → map f (ks ++ ls) ≡ map f ks ++ map f ls
  map-append [] ls = refl
  map-append (k ∷ ks) ls = ap (λ ws. f k ∷ ws) (map-append ks ls)

  choice-map : (b : Bool) (ks : List V) (k : V) → map f (cond b ks (ks ++ k ∷ [])) ≡ cond b (map f ks) (map f ks ++ f k ∷ [])
  choice-map true ks k = refl
  choice-map false ks k = map-append ks (k ∷ [])

  -- a key that goes into the set is a word that has been seen
  pub insert-map : (ks : List V) (k : V) → map f (insert_key (λ a b. bytes_eq (f a) (f b)) ks k) ≡ with_word (map f ks) (f k)
  insert-map ks k =
      choice-map (list_any (λ b. bytes_eq (f k) (f b)) ks) ks k
      ∙ ap (λ b. cond b (map f ks) (map f ks ++ f k ∷ [])) (any-map (bytes_eq (f k)) ks)

  pub kept_words : (keys keys' : List V) (k : V) (words : List (List ℕ)) (word : List ℕ) → keys' ≡ insert_key (λ a b. bytes_eq (f a) (f b)) keys k
      → map f keys ≡ words → f k ≡ word → map f keys' ≡ with_word words word
  kept_words keys keys' k words word is view same = ap (map f) is ∙ insert-map keys k ∙ ap (λ ws. with_word ws (f k)) view ∙ ap (with_word words) same

  pub kept_place : (keys : List V) (k : V) (words : List (List ℕ)) (word : List ℕ) → map f keys ≡ words → f k ≡ word
      → position_or_len (λ b. bytes_eq (f k) (f b)) keys ≡ position_or_len (bytes_eq word) words
  kept_place keys k words word view same = place-map (bytes_eq (f k)) keys ∙ ap (position_or_len (bytes_eq (f k))) view ∙ ap (λ w. position_or_len (bytes_eq w) words) same

  pub kept_any : (keys : List V) (k : V) (words : List (List ℕ)) (word : List ℕ) → map f keys ≡ words → f k ≡ word
      → list_any (λ b. bytes_eq (f k) (f b)) keys ≡ list_any (bytes_eq word) words
  kept_any keys k words word view same = any-map (bytes_eq (f k)) keys ∙ ap (list_any (bytes_eq (f k))) view ∙ ap (λ w. list_any (bytes_eq w) words) same

  others-map : (k : V) (ks : List V) → AllByRecursion (λ y. bytes_eq (f k) (f y) ≡ false) ks → AllByRecursion (λ y. bytes_eq (f k) y ≡ false) (map f ks)
  others-map k [] h = tt
  others-map k (l ∷ ks) h = (h.0, others-map k ks h.1)

  pub distinct-map : (ks : List V) → IsDistinct (λ a b. bytes_eq (f a) (f b)) ks → IsDistinct bytes_eq (map f ks)
  unfolding IsDistinct
  distinct-map [] h = tt
  distinct-map (k ∷ ks) h = (others-map k ks h.0, distinct-map ks h.1)

-- ---- places

pub bytes_same : (word : List ℕ) → bytes_eq word word ≡ true
bytes_same word = (bytes_eq-Decides word word).1 refl

place_within : (p : List ℕ → Bool) (words : List (List ℕ)) → list_any p words ≡ true → position_or_len p words < length words
place_within p [] h = absurd (cc)
place_within p (w ∷ ws) h =
    elim (p w) as (λ b. (b || list_any p ws) ≡ true → cond (not b) (1 + position_or_len p ws) 0 < suc (length ws)) [
      | true ↦ λ e. omega arith
      | false ↦ λ e. let within = place_within p ws e in omega (arith, within)
    ] h

pub place_past : (p : List ℕ → Bool) (words : List (List ℕ)) → list_any p words ≡ false → position_or_len p words ≡ length words
place_past p [] h = refl
place_past p (w ∷ ws) h =
    elim (p w) as (λ b. (b || list_any p ws) ≡ false → cond (not b) (1 + position_or_len p ws) 0 ≡ suc (length ws)) [
      | true ↦ λ e. absurd (cc)
      | false ↦ λ e. let past = place_past p ws e in omega (arith, past)
    ] h

place-behind : (p : List ℕ → Bool) (words : List (List ℕ)) (word : List ℕ) → list_any p words ≡ false → p word ≡ true
    → position_or_len p (words ++ word ∷ []) ≡ length words
place-behind p [] word h is = ap (λ b. cond (not b) 1 0) is
place-behind p (w ∷ ws) word h is =
    elim (p w) as (λ b. (b || list_any p ws) ≡ false → cond (not b) (1 + position_or_len p (ws ++ word ∷ [])) 0 ≡ suc (length ws)) [
      | true ↦ λ e. absurd (cc)
      | false ↦ λ e. let past = place-behind p ws word e is in omega (arith, past)
    ] h

code_at : (words : List (List ℕ)) (word : List ℕ) (place : ℕ) → position_or_len (bytes_eq word) words ≡ place → place < length words
    → code_in words word ≡ Some (place + 1)
code_at words word place is within =
    ap (λ n. option_map (λ k. k + 1) (cond (nat_lt n (length words)) (Some n) None)) is
    ∙ ap (λ b. option_map (λ k. k + 1) (cond b (Some place) None)) (lt-ltb place (length words) within)

-- the code that a word has once it has been seen
pub code_seen : (words : List (List ℕ)) (word : List ℕ) → code_in (with_word words word) word ≡ Some (position_or_len (bytes_eq word) words + 1)
code_seen words word =
    elim (list_any (bytes_eq word) words) as (λ b. list_any (bytes_eq word) words ≡ b
    → code_in (cond b words (words ++ word ∷ [])) word ≡ Some (position_or_len (bytes_eq word) words + 1)) [
      | true ↦ λ e. code_at words word (position_or_len (bytes_eq word) words) refl (place_within (bytes_eq word) words e)
      | false ↦ λ e.
          let last = place-behind (bytes_eq word) words word e (bytes_same word) in
          let one_more : length words < length (words ++ word ∷ []) = omega (arith, length-append words (word ∷ [])) in
          code_at (words ++ word ∷ []) word (length words) last one_more
          ∙ ap (λ n. Some (n + 1)) (sym (place_past (bytes_eq word) words e))
    ] refl

place-front : (p : List ℕ → Bool) (words : List (List ℕ)) (word : List ℕ) → list_any p words ≡ true
    → position_or_len p (words ++ word ∷ []) ≡ position_or_len p words
place-front p [] word h = absurd (cc)
place-front p (w ∷ ws) word h =
    elim (p w) as (λ b. (b || list_any p ws) ≡ true → cond (not b) (1 + position_or_len p (ws ++ word ∷ [])) 0 ≡ cond (not b) (1 + position_or_len p ws) 0) [
      | true ↦ λ e. refl
      | false ↦ λ e. ap (λ n. 1 + n) (place-front p ws word e)
    ] h

-- a word that isn't there has no code
pub no_code : (words : List (List ℕ)) (word : List ℕ) → list_any (bytes_eq word) words ≡ false → code_in words word ≡ None
no_code words word h =
    let past = place_past (bytes_eq word) words h in
    ap (λ b. option_map (λ k. k + 1) (cond b (Some (position_or_len (bytes_eq word) words)) None))
    (le-ltb (position_or_len (bytes_eq word) words) (length words) (omega arith))

-- a later word doesn't change an earlier one's code
pub code_kept : (words : List (List ℕ)) (word new : List ℕ) (code : ℕ) → code_in words word ≡ Some code → code_in (with_word words new) word ≡ Some code
code_kept words word new code is =
    elim (list_any (bytes_eq new) words) as (λ b. code_in (cond b words (words ++ new ∷ [])) word ≡ Some code) [
      | true ↦ is
      | false ↦ behind (list_any (bytes_eq word) words) refl
    ]
  where
    behind : (b : Bool) → list_any (bytes_eq word) words ≡ b → code_in (words ++ new ∷ []) word ≡ Some code
    behind false e = let none : code_in words word ≡ None = no_code words word e in absurd (cc)
    behind true e =
        let within = place_within (bytes_eq word) words e in
        let one_more : position_or_len (bytes_eq word) words < length (words ++ new ∷ []) = omega (arith, length-append words (new ∷ [])) in
        code_at (words ++ new ∷ []) word (position_or_len (bytes_eq word) words) (place-front (bytes_eq word) words new e) one_more
        ∙ sym (code_at words word (position_or_len (bytes_eq word) words) refl within) ∙ is

-- ---- dictionaries

pub no_words : IsDictionary []
unfolding IsDistinct
no_words = record { each = tt; distinct = tt; few = omega arith }

each-append : (words : List (List ℕ)) (word : List ℕ) → AllByRecursion IsWord words → IsWord word → AllByRecursion IsWord (words ++ word ∷ [])
each-append [] word h is = (is, tt)
each-append (w ∷ ws) word h is = (h.0, each-append ws word h.1 is)

others-append : (x : List ℕ) (words : List (List ℕ)) (word : List ℕ) → AllByRecursion (λ y. bytes_eq x y ≡ false) words → bytes_eq x word ≡ false
    → AllByRecursion (λ y. bytes_eq x y ≡ false) (words ++ word ∷ [])
others-append x [] word h is = (is, tt)
others-append x (w ∷ ws) word h is = (h.0, others-append x ws word h.1 is)

or_false_left : (x y : Bool) → (x || y) ≡ false → x ≡ false
or_false_left true y h = absurd (cc)
or_false_left false y h = refl

or_false_right : (x y : Bool) → (x || y) ≡ false → y ≡ false
or_false_right true y h = absurd (cc)
or_false_right false y h = h

not_true : (b : Bool) → (b ≡ true → ⊥) → b ≡ false
not_true true h = absurd (h refl)
not_true false h = refl

pub other_way : (x y : List ℕ) → bytes_eq x y ≡ false → bytes_eq y x ≡ false
other_way x y h = not_true (bytes_eq y x) (λ e. let same : y ≡ x = (bytes_eq-Decides y x).0 e in let back : bytes_eq x y ≡ true = (bytes_eq-Decides x y).1 (sym same) in absurd (cc))

pub distinct-append : (words : List (List ℕ)) (word : List ℕ) → IsDistinct bytes_eq words → list_any (bytes_eq word) words ≡ false
    → IsDistinct bytes_eq (words ++ word ∷ [])
unfolding IsDistinct
distinct-append [] word h new = (tt, tt)
distinct-append (w ∷ ws) word h new = (
  others-append w ws word h.0 (other_way word w (or_false_left (bytes_eq word w) (list_any (bytes_eq word) ws) new)),
  distinct-append ws word h.1 (or_false_right (bytes_eq word w) (list_any (bytes_eq word) ws) new),
)

-- a new word behind those of a dictionary
pub dictionary-append : (words : List (List ℕ)) (word : List ℕ) → IsDictionary words → IsWord word → length words < most_words
    → list_any (bytes_eq word) words ≡ false → IsDictionary (words ++ word ∷ [])
dictionary-append words word h is room new = record {
  each = each-append words word h.each is;
  distinct = distinct-append words word h.distinct new;
  few = omega (arith, length-append words (word ∷ []), room);
}

pub dictionary_with : (words : List (List ℕ)) (word : List ℕ) → IsDictionary words → IsWord word → length words < most_words → IsDictionary (with_word words word)
dictionary_with words word h is room =
    elim (list_any (bytes_eq word) words) as (λ b. list_any (bytes_eq word) words ≡ b → IsDictionary (cond b words (words ++ word ∷ []))) [
      | true ↦ λ e. h
      | false ↦ λ e. dictionary-append words word h is room e
    ] refl

-- a word whose code isn't that of the next one was there
pub was_there : (words : List (List ℕ)) (word : List ℕ) (given : ℕ) → code_in (with_word words word) word ≡ Some given → given ≢ length words + 1
    → list_any (bytes_eq word) words ≡ true
was_there words word given is other =
    elim (list_any (bytes_eq word) words) as (λ b. list_any (bytes_eq word) words ≡ b → b ≡ true) [
      | true ↦ λ e. refl
      | false ↦ λ e.
          let both : Some (position_or_len (bytes_eq word) words + 1) ≡ Some given = sym (code_seen words word) ∙ is in
          let same : position_or_len (bytes_eq word) words + 1 ≡ given = cc in
          absurd (other (sym same ∙ ap (λ n. n + 1) (place_past (bytes_eq word) words e)))
    ] refl
