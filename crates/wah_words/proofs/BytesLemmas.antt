-- The bytes of a vector, and reading them: what is read is spelled so, and what is spelled so is read.
use Rattle.std.proofs.Common.{◌≡◌, ℕ, zero, suc, ◌+◌, ◌*◌, ◌/◌, ◌%◌, ◌^◌, ◌<◌, ◌≤◌, Bool, true, false, cond, eqb, ltb, leb, List, [], ◌∷◌, ◌++◌, length, take, drop, get_or, Option, Some, None, Result, Ok, Err, refl, sym, ap, ◌∙◌, arith, length-append, append_assoc, lit<, inl, inr}
use Rattle.std.specs.Prelude.{IfOk}
use Rattle.std.proofs.lemmas.List.{length-map, append-nil, take_at, drop_at, take-append-drop, length-drop, length-take-le, get_or-drop, take_more, nil_from_length, drop-drop, get_or-take, get_or_past, length-take}
use Rattle.std.proofs.lemmas.List.Concat.{flat_map-append}
use Rattle.std.proofs.lemmas.Nat.{le_bytes_4, from_le_bytes-to_le_bytes_4}
use Rattle.std.proofs.lemmas.Bool.{cases_lt, cases_eq, eqb-true, lt-ltb, le-ltb, lt-leb, leb-false, ltb-false, ne_eqb, eq-eqb}
use Rattle.std.proofs.Math.Pow.{pow_mono}
use Rattle.wah_words.specs.declared.fault.WordsFault.{WordsFault}
use Rattle.wah_words.specs.declared.fault.WordsFault.TheVariants.{Short, TooLong, Groups, NotCanonical, OutOfMemory}
use Rattle.wah_words.specs.Places.{places, number}
use Rattle.wah_words.specs.Spelling.{Word, literal, fill, regular_words, rest_of, words_of, told, word_groups, groups_told, IsProper, IsCanonical}
use Rattle.wah_words.specs.Bytes.{encoded, decoded, decoded_all, number_bytes, words_bytes, active_bytes, spelling, first_wrong, number_at, numbers_at, active_size, values_of, unless_wrong, vector_of, with_size, body_at, sized_at, vector_at, IsWrongAt, Fails, Reads, IsStored, stored}
use Rattle.wah_words.proofs.PlacesLemmas.{number_below, number-places_below, places-of_number}
use Rattle.wah_words.proofs.SpellingLemmas.{canonical_regular, told_regular, groups_told_regular, length-rest_of, apart_literal, length_le-groups_told}
use Rattle.wah_words.proofs.WordsLemmas.{encoded_decoded, decoded_literal, fill_at, decoded_all-push}
use Rattle.wah_words.proofs.StoredLemmas.{length-stored, regular_words-stored, rest_of-stored}
use Rattle.wah_words.proofs.ReadingLemmas.{canonical_right, right_canonical}

-- ---- one number

abbrev pub IsBytes : List ℕ → Type 0
IsBytes bytes = (i : ℕ) → get_or bytes i 0 < 256

IsBytes-drop : (k : ℕ) (bytes : List ℕ) → IsBytes bytes → IsBytes (drop k bytes)
IsBytes-drop k bytes h i = rw (get_or-drop k bytes i 0) (h (k + i))

pub length-number_bytes : (n : ℕ) → length (number_bytes n) ≡ 4
unfolding number_bytes
length-number_bytes n = refl

number_at_again : (n : ℕ) (rest : List ℕ) → n < 4294967296 → number_at (number_bytes n ++ rest) ≡ n
unfolding number_at number_bytes
number_at_again n rest h = from_le_bytes-to_le_bytes_4 n h

-- ---- the regular words

pub words_bytes-append : (vs ws : List Word) → words_bytes (vs ++ ws) ≡ words_bytes vs ++ words_bytes ws
unfolding words_bytes
words_bytes-append vs ws = flat_map-append (λ w. number_bytes (encoded w)) vs ws

pub length-words_bytes : (ws : List Word) → length (words_bytes ws) ≡ 4 * length ws
unfolding words_bytes
length-words_bytes [] = refl
length-words_bytes (w ∷ ws) = length-append (number_bytes (encoded w)) (words_bytes ws) ∙ omega (arith, length-number_bytes (encoded w), length-words_bytes ws)

words_bytes-one : (w : Word) → words_bytes (w ∷ []) ≡ number_bytes (encoded w)
unfolding words_bytes
words_bytes-one w = append-nil (number_bytes (encoded w))

-- a loop's step
pub words_bytes-more : (xs : List ℕ) (i : ℕ) → i < length xs → get_or xs i 0 < 4294967296 → words_bytes (decoded_all (take (i + 1) xs)) ≡ words_bytes (decoded_all (take i xs)) ++ number_bytes (get_or xs i 0)
words_bytes-more xs i h fits =
    let x = get_or xs i 0 in
    ap (λ l. words_bytes (decoded_all l)) (take_more xs i 0 h) ∙ ap words_bytes (decoded_all-push (take i xs) x) ∙ words_bytes-append (decoded_all (take i xs)) (decoded x ∷ []) ∙ ap (λ l. words_bytes (decoded_all (take i xs)) ++ l) (words_bytes-one (decoded x) ∙ ap number_bytes (encoded_decoded x fits))

pub words_bytes-none : words_bytes [] ≡ []
unfolding words_bytes
words_bytes-none = refl

decoded_encoded : (w : Word) → IsProper w → word_groups w < 1073741824 → decoded (encoded w) ≡ w
decoded_encoded (literal g) h few = decoded_literal g (omega arith)
decoded_encoded (fill true n) h few = fill_at true n few
decoded_encoded (fill false n) h few = fill_at false n few

encoded_fits : (w : Word) → IsProper w → word_groups w < 1073741824 → encoded w < 4294967296
encoded_fits (literal g) h few = omega arith
encoded_fits (fill true n) h few = omega arith
encoded_fits (fill false n) h few = omega arith

read_words_again : (ws : List Word) (rest : List ℕ) → IsCanonical ws → groups_told ws < 1073741824 → decoded_all (numbers_at (length ws) (words_bytes ws ++ rest)) ≡ ws
unfolding numbers_at words_bytes groups_told
read_words_again [] rest h few = refl
read_words_again (w ∷ ws) rest h few =
    let small : word_groups w < 1073741824 = omega arith in
    let fewer : groups_told ws < 1073741824 = omega arith in
    let split : words_bytes (w ∷ ws) ++ rest ≡ number_bytes (encoded w) ++ (words_bytes ws ++ rest) = append_assoc (number_bytes (encoded w)) (words_bytes ws) rest in
    let first : number_at (words_bytes (w ∷ ws) ++ rest) ≡ encoded w = ap number_at split ∙ number_at_again (encoded w) (words_bytes ws ++ rest) (encoded_fits w h.0 small) in
    let next : drop 4 (words_bytes (w ∷ ws) ++ rest) ≡ words_bytes ws ++ rest = ap (drop 4) split ∙ drop_at (number_bytes (encoded w)) (words_bytes ws ++ rest) 4 (length-number_bytes (encoded w)) in
    rw (first, next, decoded_encoded w h.0 small, read_words_again ws rest h.2 fewer) refl

-- ---- the length of a spelling

length-active_bytes : (v : List Bool) → length (active_bytes v) ≡ active_size (length v)
unfolding active_bytes
length-active_bytes v =
    elim (cases_eq (length v % 31) 0) [
      | inl e ↦ rw e refl
      | inr some ↦ rw (ne_eqb (length v % 31) 0 some) (length-number_bytes (number (rest_of v)))
    ]

pub length-spelling_parts : (v : List Bool) → length (spelling v) ≡ 8 + 4 * length (regular_words v) + active_size (length v)
unfolding spelling
length-spelling_parts v =
    let ws = regular_words v in
    let a = number_bytes (length v) in
    let b = number_bytes (length ws) in
    omega (arith, length-append a (b ++ (words_bytes ws ++ active_bytes v)), length-append b (words_bytes ws ++ active_bytes v), length-append (words_bytes ws) (active_bytes v), length-number_bytes (length v), length-number_bytes (length ws), length-words_bytes ws, length-active_bytes v)

active_size_is : (r : ℕ) → cond (eqb r 0) 0 4 ≡ 4 * cond (eqb r 0) 0 1
active_size_is r = elim (cases_eq r 0) [ inl e ↦ rw e refl | inr some ↦ rw (ne_eqb r 0 some) refl ]

pub length-spelling : (v : List Bool) → length (spelling v) ≡ 8 + 4 * words_of v
unfolding words_of
length-spelling v = length-spelling_parts v ∙ omega (arith, active_size_is (length v % 31))

-- ---- what is stored, spelled

pub spelling-stored : (len : ℕ) (items : List ℕ) (active : ℕ) → IsStored len items active → spelling (stored len items active) ≡ number_bytes len ++ (number_bytes (length items) ++ (words_bytes (decoded_all items) ++ cond (eqb (len % 31) 0) [] (number_bytes active)))
unfolding spelling active_bytes
spelling-stored len items active h =
    rw (length-stored len items active h, regular_words-stored len items active h, rest_of-stored len items active, number-places_below (len % 31) active h.active_fits, length-map items decoded) refl

-- ---- what a body gives, by its parts

pub body_wrong : (len m k : ℕ) (bytes : List ℕ) → first_wrong (literal 0) (decoded_all (numbers_at m bytes)) ≡ Some k → body_at len m bytes ≡ Err (NotCanonical k)
unfolding body_at vector_of
body_wrong len m k bytes e = rw e refl

pub body_fails : (len m : ℕ) (bytes : List ℕ) (fault : WordsFault) → IsWrongAt (first_wrong (literal 0) (decoded_all (numbers_at m bytes))) fault → Fails fault (body_at len m bytes)
body_fails len m bytes Short h = absurd h
body_fails len m bytes TooLong h = absurd h
body_fails len m bytes Groups h = absurd h
body_fails len m bytes (NotCanonical k) h = body_wrong len m k bytes h
body_fails len m bytes OutOfMemory h = tt

pub length-numbers_at : (m : ℕ) (bytes : List ℕ) → length (numbers_at m bytes) ≡ m
unfolding numbers_at
length-numbers_at zero bytes = refl
length-numbers_at (suc m) bytes = ap (λ k. suc k) (length-numbers_at m (drop 4 bytes))

-- the active number that a body has
abbrev pub active_at : ℕ → ℕ → List ℕ → ℕ
active_at len m bytes = cond (eqb (len % 31) 0) 0 (number_at (drop (4 * m) bytes))

pub body_right : (len m : ℕ) (bytes : List ℕ) → first_wrong (literal 0) (decoded_all (numbers_at m bytes)) ≡ None → body_at len m bytes ≡ with_size (8 + 4 * m + active_size len) (values_of len (decoded_all (numbers_at m bytes)) (active_at len m bytes))
unfolding body_at vector_of
body_right len m bytes e = rw e refl

pub body_high : (len m : ℕ) (bytes : List ℕ) → first_wrong (literal 0) (decoded_all (numbers_at m bytes)) ≡ None → leb (2 ^ (len % 31)) (active_at len m bytes) ≡ true → body_at len m bytes ≡ Err (NotCanonical m)
body_high len m bytes e high = body_right len m bytes e ∙ rw high (ap (λ k. Err (NotCanonical k)) (length-map (numbers_at m bytes) decoded ∙ length-numbers_at m bytes))

pub body_groups : (len m : ℕ) (bytes : List ℕ) → first_wrong (literal 0) (decoded_all (numbers_at m bytes)) ≡ None → leb (2 ^ (len % 31)) (active_at len m bytes) ≡ false → (groups_told (decoded_all (numbers_at m bytes)) ≡ len / 31 → ⊥) → body_at len m bytes ≡ Err Groups
body_groups len m bytes e low other = body_right len m bytes e ∙ rw (low, ne_eqb (groups_told (decoded_all (numbers_at m bytes))) (len / 31) other) refl

pub body_ok : (len m : ℕ) (bytes : List ℕ) → first_wrong (literal 0) (decoded_all (numbers_at m bytes)) ≡ None → leb (2 ^ (len % 31)) (active_at len m bytes) ≡ false → groups_told (decoded_all (numbers_at m bytes)) ≡ len / 31 → body_at len m bytes ≡ Ok (stored len (numbers_at m bytes) (active_at len m bytes), 8 + 4 * m + active_size len)
body_ok len m bytes e low same = body_right len m bytes e ∙ rw (low, same, eq-eqb (len / 31) (len / 31) refl) refl

pub body_stored : (len m : ℕ) (bytes : List ℕ) → len ≤ 4194304 → first_wrong (literal 0) (decoded_all (numbers_at m bytes)) ≡ None → leb (2 ^ (len % 31)) (active_at len m bytes) ≡ false → groups_told (decoded_all (numbers_at m bytes)) ≡ len / 31 → IsStored len (numbers_at m bytes) (active_at len m bytes)
body_stored len m bytes within e low same = record {
  canonical = canonical_right (literal 0) (numbers_at m bytes) e;
  whole = omega (arith, same);
  active_fits = leb-false (2 ^ (len % 31)) (active_at len m bytes) low;
  within = within;
}

-- ---- what the bytes give, by their length

pub vector_short : (bytes : List ℕ) → length bytes < 8 → vector_at bytes ≡ Err Short
unfolding vector_at
vector_short bytes h = rw (lt-ltb (length bytes) 8 h) refl

pub vector_sized : (bytes : List ℕ) → 8 ≤ length bytes → vector_at bytes ≡ sized_at (number_at bytes) (number_at (drop 4 bytes)) bytes
unfolding vector_at
vector_sized bytes h = rw (le-ltb (length bytes) 8 h) refl

pub sized_long : (len m : ℕ) (bytes : List ℕ) → 4194304 < len → sized_at len m bytes ≡ Err TooLong
unfolding sized_at
sized_long len m bytes h = rw (lt-ltb 4194304 len h) refl

pub sized_groups : (len m : ℕ) (bytes : List ℕ) → len ≤ 4194304 → len / 31 < m → sized_at len m bytes ≡ Err Groups
unfolding sized_at
sized_groups len m bytes h g = rw (le-ltb 4194304 len h, lt-ltb (len / 31) m g) refl

pub sized_short : (len m : ℕ) (bytes : List ℕ) → len ≤ 4194304 → m ≤ len / 31 → length bytes < 8 + 4 * m + active_size len → sized_at len m bytes ≡ Err Short
unfolding sized_at
sized_short len m bytes h g s = rw (le-ltb 4194304 len h, le-ltb (len / 31) m g, lt-ltb (length bytes) (8 + 4 * m + active_size len) s) refl

pub sized_body : (len m : ℕ) (bytes : List ℕ) → len ≤ 4194304 → m ≤ len / 31 → 8 + 4 * m + active_size len ≤ length bytes → sized_at len m bytes ≡ body_at len m (drop 8 bytes)
unfolding sized_at
sized_body len m bytes h g s = rw (le-ltb 4194304 len h, le-ltb (len / 31) m g, le-ltb (length bytes) (8 + 4 * m + active_size len) s) refl

-- ---- what is spelled so is read

active_again : (v : List Bool) (rest bytes : List ℕ) (m : ℕ) → drop (4 * m) bytes ≡ active_bytes v ++ rest → active_at (length v) m bytes ≡ number (rest_of v)
unfolding active_bytes
active_again v rest bytes m e =
    let few = length-rest_of v in
    elim (cases_eq (length v % 31) 0) [
      | inl none ↦
          (let nothing : rest_of v ≡ [] = nil_from_length (rest_of v) (few ∙ none) in
          rw (none, nothing) refl)
      | inr some ↦
          (let is : drop (4 * m) bytes ≡ number_bytes (number (rest_of v)) ++ rest = rw (ne_eqb (length v % 31) 0 some) at e in
          let below : number (rest_of v) < 2 ^ length (rest_of v) = number_below (rest_of v) in
          let short : length (rest_of v) ≤ 31 = omega arith in
          let most : 2 ^ length (rest_of v) ≤ 2 ^ 31 = pow_mono short in
          rw (ne_eqb (length v % 31) 0 some, is) (number_at_again (number (rest_of v)) rest (omega arith)))
    ]

body_again : (v : List Bool) (rest : List ℕ) → length v ≤ 4194304 → body_at (length v) (length (regular_words v)) (words_bytes (regular_words v) ++ (active_bytes v ++ rest)) ≡ Ok (v, length (spelling v))
body_again v rest within =
    let len = length v in
    let ws = regular_words v in
    let m = length ws in
    let bytes = words_bytes ws ++ (active_bytes v ++ rest) in
    let groups : groups_told ws ≡ len / 31 = groups_told_regular v in
    let few : groups_told ws < 1073741824 = omega arith in
    let words : decoded_all (numbers_at m bytes) ≡ ws = read_words_again ws (active_bytes v ++ rest) (canonical_regular v) few in
    let right : first_wrong (literal 0) (decoded_all (numbers_at m bytes)) ≡ None = ap (first_wrong (literal 0)) words ∙ right_canonical (literal 0) ws (canonical_regular v) (apart_literal 0 ws) in
    let after : drop (4 * m) bytes ≡ active_bytes v ++ rest = drop_at (words_bytes ws) (active_bytes v ++ rest) (4 * m) (length-words_bytes ws) in
    let active : active_at len m bytes ≡ number (rest_of v) = active_again v rest bytes m after in
    let below : number (rest_of v) < 2 ^ length (rest_of v) = number_below (rest_of v) in
    let fits : number (rest_of v) < 2 ^ (len % 31) = rw (length-rest_of v) at below in
    let low : leb (2 ^ (len % 31)) (active_at len m bytes) ≡ false = rw active (lt-leb (2 ^ (len % 31)) (number (rest_of v)) fits) in
    let same : groups_told (decoded_all (numbers_at m bytes)) ≡ len / 31 = ap groups_told words ∙ groups in
    let values : stored len (numbers_at m bytes) (active_at len m bytes) ≡ v = ap (λ l. told l ++ places (len % 31) (active_at len m bytes)) words ∙ ap (λ a. told ws ++ places (len % 31) a) active ∙ ap (λ l. told ws ++ l) (places-of_number (len % 31) (number (rest_of v)) (rest_of v) (length-rest_of v) refl) ∙ told_regular v in
    let size : 8 + 4 * m + active_size len ≡ length (spelling v) = sym (length-spelling_parts v) in
    body_ok len m bytes right low same ∙ ap (λ u. Ok (u, 8 + 4 * m + active_size len)) values ∙ ap (λ n. Ok (v, n)) size

spelling_split : (v : List Bool) (rest : List ℕ) → spelling v ++ rest ≡ number_bytes (length v) ++ (number_bytes (length (regular_words v)) ++ (words_bytes (regular_words v) ++ (active_bytes v ++ rest)))
unfolding spelling
spelling_split v rest =
    let a = number_bytes (length v) in
    let b = number_bytes (length (regular_words v)) in
    let w = words_bytes (regular_words v) in
    let t = active_bytes v in
    append_assoc a (b ++ (w ++ t)) rest ∙ ap (λ l. a ++ l) (append_assoc b (w ++ t) rest ∙ ap (λ l. b ++ l) (append_assoc w t rest))

pub vector_again : (v : List Bool) (rest : List ℕ) → length v ≤ 4194304 → vector_at (spelling v ++ rest) ≡ Ok (v, length (spelling v))
vector_again v rest within =
    let len = length v in
    let ws = regular_words v in
    let m = length ws in
    let bytes = spelling v ++ rest in
    let tail = words_bytes ws ++ (active_bytes v ++ rest) in
    let split : bytes ≡ number_bytes len ++ (number_bytes m ++ tail) = spelling_split v rest in
    let groups : groups_told ws ≡ len / 31 = groups_told_regular v in
    let most : m ≤ groups_told ws = length_le-groups_told ws (canonical_regular v) in
    let parts = length-spelling_parts v in
    let total = length-append (spelling v) rest in
    let first : number_at bytes ≡ len = ap number_at split ∙ number_at_again len (number_bytes m ++ tail) (omega arith) in
    let next : drop 4 bytes ≡ number_bytes m ++ tail = ap (drop 4) split ∙ drop_at (number_bytes len) (number_bytes m ++ tail) 4 (length-number_bytes len) in
    let second : number_at (drop 4 bytes) ≡ m = ap number_at next ∙ number_at_again m tail (omega arith) in
    let body : drop 8 bytes ≡ tail = sym (drop-drop 4 4 bytes) ∙ ap (drop 4) next ∙ drop_at (number_bytes m) tail 4 (length-number_bytes m) in
    vector_sized bytes (omega arith) ∙ ap (λ n. sized_at n (number_at (drop 4 bytes)) bytes) first ∙ ap (λ n. sized_at len n bytes) second ∙ sized_body len m bytes within (omega arith) (omega arith) ∙ ap (body_at len m) body ∙ body_again v rest within

-- ---- what is read is spelled so

IsBytes-take : (n : ℕ) (bytes : List ℕ) → IsBytes bytes → IsBytes (take n bytes)
IsBytes-take n bytes h i =
    elim (cases_lt i n) [
      | inl in_front ↦ rw (get_or-take n bytes i 0 in_front) (h i)
      | inr past ↦ rw (get_or_past (take n bytes) i 0 (rw (length-take n bytes) (omega arith))) (lit< tt)
    ]

number_at_fits : (bytes : List ℕ) → IsBytes bytes → number_at bytes < 4294967296
unfolding number_at
number_at_fits bytes h =
    let f = IsBytes-take 4 bytes h in
    omega (arith, f 0, f 1, f 2, f 3)

number_taken : (bytes : List ℕ) → IsBytes bytes → 4 ≤ length bytes → bytes ≡ number_bytes (number_at bytes) ++ drop 4 bytes
unfolding number_at number_bytes
number_taken bytes h long =
    let front : number_bytes (number_at bytes) ≡ take 4 bytes = le_bytes_4 (take 4 bytes) (number_at bytes) (length-take-le 4 bytes long) (IsBytes-take 4 bytes h) refl in
    sym (ap (λ l. l ++ drop 4 bytes) front ∙ take-append-drop 4 bytes)

words_taken : (m : ℕ) (bytes : List ℕ) → IsBytes bytes → 4 * m ≤ length bytes → bytes ≡ words_bytes (decoded_all (numbers_at m bytes)) ++ drop (4 * m) bytes
unfolding numbers_at words_bytes
words_taken zero bytes h long = refl
words_taken (suc m) bytes h long =
    let n = number_at bytes in
    let first : bytes ≡ number_bytes n ++ drop 4 bytes = number_taken bytes h (omega arith) in
    let count : 4 + 4 * m ≡ 4 * suc m = omega arith in
    let after : drop (4 * m) (drop 4 bytes) ≡ drop (4 * suc m) bytes = drop-drop (4 * m) 4 bytes ∙ ap (λ k. drop k bytes) count in
    let enough : 4 * m ≤ length (drop 4 bytes) = rw (length-drop 4 bytes) (omega arith) in
    let others = words_taken m (drop 4 bytes) (IsBytes-drop 4 bytes h) enough in
    let w = words_bytes (decoded_all (numbers_at m (drop 4 bytes))) in
    let whole : bytes ≡ number_bytes (encoded (decoded n)) ++ (w ++ drop (4 * suc m) bytes) = first ∙ ap (λ k. number_bytes k ++ drop 4 bytes) (sym (encoded_decoded n (number_at_fits bytes h))) ∙ ap (λ l. number_bytes (encoded (decoded n)) ++ l) (others ∙ ap (λ l. w ++ l) after) in
    whole ∙ sym (append_assoc (number_bytes (encoded (decoded n))) w (drop (4 * suc m) bytes))

active_taken : (len : ℕ) (bytes : List ℕ) → IsBytes bytes → active_size len ≤ length bytes → bytes ≡ cond (eqb (len % 31) 0) [] (number_bytes (cond (eqb (len % 31) 0) 0 (number_at bytes))) ++ drop (active_size len) bytes
active_taken len bytes h long =
    elim (cases_eq (len % 31) 0) [
      | inl none ↦ rw none refl
      | inr some ↦
          (let enough : 4 ≤ length bytes = rw (ne_eqb (len % 31) 0 some) at long in
          rw (ne_eqb (len % 31) 0 some) (number_taken bytes h enough))
    ]

guard_ok : {A : Type 0} (b : Bool) (fault : WordsFault) (read : Result A WordsFault) (x : A) → cond b (Err fault) read ≡ Ok x → (b ≡ false) × (read ≡ Ok x)
guard_ok true fault read x e = absurd cc
guard_ok false fault read x e = (refl, e)

guard_ended : {A : Type 0} (b : Bool) (fault : WordsFault) (x y : A) → cond b (Ok x) (Err fault) ≡ Ok y → (b ≡ true) × (x ≡ y)
guard_ended true fault x y e = (refl, cc)
guard_ended false fault x y e = absurd cc

unless_ok : (o : Option ℕ) (read : Result (List Bool) WordsFault) (v : List Bool) → unless_wrong o read ≡ Ok v → (o ≡ None) × (read ≡ Ok v)
unless_ok None read v e = (refl, e)
unless_ok (Some k) read v e = absurd cc

ok_same : {A : Type 0} (x y : A) → ◌≡◌ {A = Result A WordsFault} (Ok x) (Ok y) → x ≡ y
ok_same x y e = cc

size_ok : (n : ℕ) (read : Result (List Bool) WordsFault) (x : List Bool × ℕ) → with_size n read ≡ Ok x → (read ≡ Ok x.0) × (n ≡ x.1)
size_ok n (Ok v) x e = let p : (v, n) ≡ x = ok_same (v, n) x e in (ap (λ q. Ok q.0) p, ap (λ q. q.1) p)
size_ok n (Err f) x e = absurd cc

pub record Takes (len m : ℕ) (bytes : List ℕ) (x : List Bool × ℕ) : Type 0 where
  pub is_stored : IsStored len (numbers_at m bytes) (active_at len m bytes)
  pub values : stored len (numbers_at m bytes) (active_at len m bytes) ≡ x.0
  pub size : 8 + 4 * m + active_size len ≡ x.1

body_takes : (len m : ℕ) (bytes : List ℕ) (x : List Bool × ℕ) → len ≤ 4194304 → body_at len m bytes ≡ Ok x → Takes len m bytes x
unfolding body_at vector_of
body_takes len m bytes x within e =
    let ws = decoded_all (numbers_at m bytes) in
    let active = active_at len m bytes in
    let sized = size_ok (8 + 4 * m + active_size len) (vector_of len ws active) x e in
    let right = unless_ok (first_wrong (literal 0) ws) (values_of len ws active) x.0 sized.0 in
    let low = guard_ok (leb (2 ^ (len % 31)) active) (NotCanonical (length ws)) (cond (eqb (groups_told ws) (len / 31)) (Ok (told ws ++ places (len % 31) active)) (Err Groups)) x.0 right.1 in
    let same = guard_ended (eqb (groups_told ws) (len / 31)) Groups (told ws ++ places (len % 31) active) x.0 low.1 in
    record {
      is_stored = body_stored len m bytes within right.0 low.0 (eqb-true (groups_told ws) (len / 31) same.0);
      values = same.1;
      size = sized.1;
    }

-- the bytes after the length and the number of words
rest_taken : (len m : ℕ) (bytes : List ℕ) → IsBytes bytes → 4 * m + active_size len ≤ length bytes → bytes ≡ (words_bytes (decoded_all (numbers_at m bytes)) ++ cond (eqb (len % 31) 0) [] (number_bytes (active_at len m bytes))) ++ drop (active_size len) (drop (4 * m) bytes)
rest_taken len m bytes h long =
    let w = words_bytes (decoded_all (numbers_at m bytes)) in
    let t = cond (eqb (len % 31) 0) [] (number_bytes (active_at len m bytes)) in
    let after = drop (4 * m) bytes in
    let enough : active_size len ≤ length after = rw (length-drop (4 * m) bytes) (omega arith) in
    words_taken m bytes h (omega arith) ∙ ap (λ l. w ++ l) (active_taken len after (IsBytes-drop (4 * m) bytes h) enough) ∙ sym (append_assoc w t (drop (active_size len) after))

size_of_spelling : (len m : ℕ) (items : List ℕ) (active : ℕ) (v : List Bool) → IsStored len items active → stored len items active ≡ v → length items ≡ m → 8 + 4 * m + active_size len ≡ length (spelling v)
size_of_spelling len m items active v h e count =
    let words : length (regular_words v) ≡ m = ap (λ u. length (regular_words u)) (sym e) ∙ ap length (regular_words-stored len items active h) ∙ length-map items decoded ∙ count in
    let long : length v ≡ len = ap length (sym e) ∙ length-stored len items active h in
    sym (length-spelling_parts v ∙ ap (λ k. 8 + 4 * k + active_size (length v)) words ∙ ap (λ k. 8 + 4 * m + active_size k) long)

takes_front : (a b t bytes rest : List ℕ) → bytes ≡ a ++ (b ++ (t ++ rest)) → take (length (a ++ (b ++ t))) bytes ≡ a ++ (b ++ t)
takes_front a b t bytes rest e =
    let regroup : a ++ (b ++ (t ++ rest)) ≡ (a ++ (b ++ t)) ++ rest = sym (append_assoc a (b ++ t) rest ∙ ap (λ l. a ++ l) (append_assoc b t rest)) in
    ap (take (length (a ++ (b ++ t)))) (e ∙ regroup) ∙ take_at (a ++ (b ++ t)) rest (length (a ++ (b ++ t))) refl

pub vector_takes : (bytes : List ℕ) (x : List Bool × ℕ) → IsBytes bytes → vector_at bytes ≡ Ok x → (take x.1 bytes ≡ spelling x.0) × (x.1 ≡ length (spelling x.0)) × (x.1 ≤ length bytes)
unfolding vector_at sized_at
vector_takes bytes x h e =
    let len = number_at bytes in
    let m = number_at (drop 4 bytes) in
    let body = drop 8 bytes in
    let p0 = guard_ok (ltb (length bytes) 8) Short (sized_at len m bytes) x e in
    let long : 8 ≤ length bytes = ltb-false (length bytes) 8 p0.0 in
    let p1 = guard_ok (ltb 4194304 len) TooLong (cond (ltb (len / 31) m) (Err Groups) (cond (ltb (length bytes) (8 + 4 * m + active_size len)) (Err Short) (body_at len m body))) x p0.1 in
    let within : len ≤ 4194304 = ltb-false 4194304 len p1.0 in
    let p2 = guard_ok (ltb (len / 31) m) Groups (cond (ltb (length bytes) (8 + 4 * m + active_size len)) (Err Short) (body_at len m body)) x p1.1 in
    let p3 = guard_ok (ltb (length bytes) (8 + 4 * m + active_size len)) Short (body_at len m body) x p2.1 in
    let size : 8 + 4 * m + active_size len ≤ length bytes = ltb-false (length bytes) (8 + 4 * m + active_size len) p3.0 in
    let t = body_takes len m body x within p3.1 in
    let items = numbers_at m body in
    let active = active_at len m body in
    let end = words_bytes (decoded_all items) ++ cond (eqb (len % 31) 0) [] (number_bytes active) in
    let rest = drop (active_size len) (drop (4 * m) body) in
    let body_is : drop 4 (drop 4 bytes) ≡ body = drop-drop 4 4 bytes in
    let first : bytes ≡ number_bytes len ++ drop 4 bytes = number_taken bytes h (omega arith) in
    let next_long : 4 ≤ length (drop 4 bytes) = rw (length-drop 4 bytes) (omega arith) in
    let second : drop 4 bytes ≡ number_bytes m ++ body = number_taken (drop 4 bytes) (IsBytes-drop 4 bytes h) next_long ∙ ap (λ l. number_bytes m ++ l) body_is in
    let body_long : 4 * m + active_size len ≤ length body = rw (length-drop 8 bytes) (omega arith) in
    let third : body ≡ end ++ rest = rest_taken len m body (IsBytes-drop 8 bytes h) body_long in
    let split : bytes ≡ number_bytes len ++ (number_bytes m ++ (end ++ rest)) = first ∙ ap (λ l. number_bytes len ++ l) (second ∙ ap (λ l. number_bytes m ++ l) third) in
    let spelled : spelling x.0 ≡ number_bytes len ++ (number_bytes m ++ end) = ap spelling (sym t.values) ∙ spelling-stored len items active t.is_stored ∙ ap (λ k. number_bytes len ++ (number_bytes k ++ end)) (length-numbers_at m body) in
    let used : x.1 ≡ length (spelling x.0) = sym t.size ∙ size_of_spelling len m items active x.0 t.is_stored t.values (length-numbers_at m body) in
    let n : x.1 ≡ length (number_bytes len ++ (number_bytes m ++ end)) = used ∙ ap length spelled in
    (ap (λ k. take k bytes) n ∙ takes_front (number_bytes len) (number_bytes m) end bytes rest split ∙ sym spelled, used, omega (arith, t.size, size))

pub read_takes : (bytes : List ℕ) (r : Result (List Bool × ℕ) WordsFault) → IsBytes bytes → Reads r (vector_at bytes) → IfOk r (λ x. take x.1 bytes ≡ spelling x.0)
read_takes bytes (Ok x) h e = (vector_takes bytes x h e).0
read_takes bytes (Err fault) h e = tt

pub read_uses : (bytes : List ℕ) (r : Result (List Bool × ℕ) WordsFault) → IsBytes bytes → Reads r (vector_at bytes) → IfOk r (λ x. (x.1 ≡ length (spelling x.0)) × (x.1 ≤ length bytes))
read_uses bytes (Ok x) h e = let t = vector_takes bytes x h e in (t.1, t.2)
read_uses bytes (Err fault) h e = tt

-- bytes begin with the spelling of one list at most
pub one_spelling_at : (v w : List Bool) (x y : List ℕ) → length v ≤ 4194304 → length w ≤ 4194304 → spelling v ++ x ≡ spelling w ++ y → v ≡ w
one_spelling_at v w x y fits_v fits_w e =
    let same = sym (vector_again v x fits_v) ∙ ap vector_at e ∙ vector_again w y fits_w in
    ap (λ p. p.0) (ok_same (v, length (spelling v)) (w, length (spelling w)) same)

pub active_size_le : (len : ℕ) → active_size len ≤ 4
active_size_le len = elim (cases_eq (len % 31) 0) [ inl e ↦ rw e (omega arith) | inr some ↦ rw (ne_eqb (len % 31) 0 some) (omega arith) ]

pub joined_four : (a b w t : List ℕ) → ((a ++ b) ++ w) ++ t ≡ a ++ (b ++ (w ++ t))
joined_four a b w t = append_assoc (a ++ b) w t ∙ append_assoc a b (w ++ t)
