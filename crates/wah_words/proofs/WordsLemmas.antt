-- Words as numbers, and words at the end of others.
use Rattle.std.proofs.Common.{◌≡◌, ℕ, ◌+◌, ◌*◌, ◌/◌, ◌%◌, ◌<◌, ◌≤◌, Bool, true, false, eqb, leb, List, [], ◌∷◌, ◌++◌, length, take, set, get_or, replicate, refl, sym, ap, subst, ◌∙◌, arith, append_assoc, inl, inr}
use Rattle.std.proofs.lemmas.List.{map-append, take_all, take_more, take_more_set, length_push, length-set, replicate-append-replicate}
use Rattle.std.proofs.lemmas.Bool.{ne_eqb, lt-ltb, le-ltb, le-leb, lt-leb, cases_lt, eqb-true}
use Rattle.wah_words.specs.Places.{places, number}
use Rattle.wah_words.specs.Spelling.{Word, literal, fill, word_values, told, word_groups, groups_told, IsProper, AreApart, IsCanonical}
use Rattle.wah_words.specs.Bytes.{encoded, decoded, decoded_all, are_joined, Appends}
use Rattle.wah_words.proofs.PlacesLemmas.{places-zeros, places-ones}
use Rattle.wah_words.proofs.SpellingLemmas.{told-append, told-one, groups_told-append, groups_told-one}

-- ---- one word

pub decoded_literal : (n : ℕ) → n < 2147483648 → decoded n ≡ literal n
decoded_literal n h = rw (lt-ltb n 2147483648 h) refl

decoded_high : (n : ℕ) → 2147483648 ≤ n → decoded n ≡ fill (leb 3221225472 n) (n % 1073741824)
decoded_high n h = rw (le-ltb n 2147483648 h) refl

pub encoded_decoded : (n : ℕ) → n < 4294967296 → encoded (decoded n) ≡ n
encoded_decoded n h =
    elim (cases_lt n 2147483648) [
      | inl low ↦ rw (lt-ltb n 2147483648 low) refl
      | inr high ↦
          elim (cases_lt n 3221225472) [
            | inl zeros ↦ rw (le-ltb n 2147483648 high, lt-leb 3221225472 n zeros) (omega arith)
            | inr ones ↦ rw (le-ltb n 2147483648 high, le-leb 3221225472 n ones) (omega arith)
          ]
    ]

-- the two highest bits of a word
abbrev pub kind_of : Bool → ℕ
kind_of true = 3
kind_of false = 2

pub fill_kind : (b : Bool) (n : ℕ) → n < 4294967296 → eqb (n / 1073741824) (kind_of b) ≡ are_joined (decoded n) (fill b 1)
fill_kind true n h =
    elim (cases_lt n 2147483648) [
      | inl low ↦ rw (lt-ltb n 2147483648 low) (ne_eqb (n / 1073741824) 3 (λ e. omega arith))
      | inr high ↦
          elim (cases_lt n 3221225472) [
            | inl zeros ↦ rw (le-ltb n 2147483648 high, lt-leb 3221225472 n zeros) (ne_eqb (n / 1073741824) 3 (λ e. omega arith))
            | inr ones ↦ let e : n / 1073741824 ≡ 3 = omega arith in rw (le-ltb n 2147483648 high, le-leb 3221225472 n ones, e) refl
          ]
    ]
fill_kind false n h =
    elim (cases_lt n 2147483648) [
      | inl low ↦ rw (lt-ltb n 2147483648 low) (ne_eqb (n / 1073741824) 2 (λ e. omega arith))
      | inr high ↦
          elim (cases_lt n 3221225472) [
            | inl zeros ↦ let e : n / 1073741824 ≡ 2 = omega arith in rw (le-ltb n 2147483648 high, lt-leb 3221225472 n zeros, e) refl
            | inr ones ↦ rw (le-ltb n 2147483648 high, le-leb 3221225472 n ones) (ne_eqb (n / 1073741824) 2 (λ e. omega arith))
          ]
    ]

pub fill_at : (b : Bool) (m : ℕ) → m < 1073741824 → decoded (kind_of b * 1073741824 + m) ≡ fill b m
fill_at true m h =
    let rest : (3221225472 + m) % 1073741824 ≡ m = omega arith in
    rw (le-ltb (3221225472 + m) 2147483648 (omega arith), le-leb 3221225472 (3221225472 + m) (omega arith), rest) refl
fill_at false m h =
    let rest : (2147483648 + m) % 1073741824 ≡ m = omega arith in
    rw (le-ltb (2147483648 + m) 2147483648 (omega arith), lt-leb 3221225472 (2147483648 + m) (omega arith), rest) refl

kind_le : (b : Bool) → kind_of b ≤ 3
kind_le true = omega arith
kind_le false = omega arith

-- a fill of a value is that value above the number of its groups
pub record IsFillNumber (b : Bool) (n : ℕ) : Type 0 where
  pub same : decoded n ≡ fill b (n % 1073741824)
  pub more : (g : ℕ) → n % 1073741824 + g < 1073741824 → decoded (n + g) ≡ fill b (n % 1073741824 + g)
  pub fits : (g : ℕ) → n % 1073741824 + g < 1073741824 → n + g < 4294967296

pub joined_number : (b : Bool) (n : ℕ) → n < 4294967296 → are_joined (decoded n) (fill b 1) ≡ true → IsFillNumber b n
joined_number b n h e =
    let kind : n / 1073741824 ≡ kind_of b = eqb-true (n / 1073741824) (kind_of b) (fill_kind b n h ∙ e) in
    let low : n % 1073741824 < 1073741824 = omega arith in
    let split : n ≡ kind_of b * 1073741824 + n % 1073741824 = omega (arith, kind) in
    let few = kind_le b in
    record {
      same = ap decoded split ∙ fill_at b (n % 1073741824) low;
      more = λ g f. (let e2 : n + g ≡ kind_of b * 1073741824 + (n % 1073741824 + g) = omega arith in ap decoded e2 ∙ fill_at b (n % 1073741824 + g) f);
      fits = λ g f. omega arith;
    }

-- ---- words at the end

abbrev pub last_of : Word → List Word → Word
last_of w [] = w
last_of w (v ∷ vs) = last_of v vs

pub last_of-push : (w : Word) (vs : List Word) (v : Word) → last_of w (vs ++ v ∷ []) ≡ v
last_of-push w [] v = refl
last_of-push w (u ∷ vs) v = last_of-push u vs v

canonical_push : (d : Word) (vs : List Word) (w : Word) → IsCanonical vs → AreApart (last_of d vs) w → IsProper w → IsCanonical (vs ++ w ∷ [])
canonical_push d [] w h a p = (p, tt, tt)
canonical_push d (v ∷ []) w h a p = (h.0, a, (p, tt, tt))
canonical_push d (v ∷ u ∷ vs) w h a p = (h.0, h.1, canonical_push v (u ∷ vs) w h.2 a p)

-- the last fill may have any number of groups
canonical_refill : (vs : List Word) (b : Bool) (n m : ℕ) → IsCanonical (vs ++ fill b n ∷ []) → 0 < m → IsCanonical (vs ++ fill b m ∷ [])
canonical_refill [] b n m h p = (p, tt, tt)
canonical_refill (literal g ∷ []) b n m h p = (h.0, tt, (p, tt, tt))
canonical_refill (fill c k ∷ []) b n m h p = (h.0, h.1, (p, tt, tt))
canonical_refill (v ∷ u ∷ vs) b n m h p = (h.0, h.1, canonical_refill (u ∷ vs) b n m h.2 p)

pub decoded_all-push : (xs : List ℕ) (y : ℕ) → decoded_all (xs ++ y ∷ []) ≡ decoded_all xs ++ decoded y ∷ []
decoded_all-push xs y = map-append decoded xs (y ∷ [])

told_push : (vs : List Word) (w : Word) → told (vs ++ w ∷ []) ≡ told vs ++ word_values w
told_push vs w = told-append vs (w ∷ []) ∙ ap (λ l. told vs ++ l) (told-one w)

groups_push : (vs : List Word) (w : Word) → groups_told (vs ++ w ∷ []) ≡ groups_told vs + word_groups w
groups_push vs w = groups_told-append vs (w ∷ []) ∙ ap (λ k. groups_told vs + k) (groups_told-one w)

pub appends_pushed : (xs : List ℕ) (y : ℕ) (w : Word) → decoded y ≡ w → IsCanonical (decoded_all xs) → AreApart (last_of (literal 0) (decoded_all xs)) w → IsProper w → Appends xs (xs ++ y ∷ []) (word_values w) (word_groups w)
appends_pushed xs y w e h a p =
    let words : decoded_all (xs ++ y ∷ []) ≡ decoded_all xs ++ w ∷ [] = decoded_all-push xs y ∙ ap (λ v. decoded_all xs ++ v ∷ []) e in
    record {
      canonical = rw words (canonical_push (literal 0) (decoded_all xs) w h a p);
      told = rw words (told_push (decoded_all xs) w);
      groups_told = rw words (groups_push (decoded_all xs) w);
      at_least = omega (arith, length_push xs y);
      at_most = omega (arith, length_push xs y);
    }

word_values_fill : (b : Bool) (n : ℕ) → word_values (fill b n) ≡ replicate (31 * n) b
unfolding word_values
word_values_fill b n = refl

word_values_literal : (g : ℕ) → word_values (literal g) ≡ places 31 g
unfolding word_values
word_values_literal g = refl

fill_longer : (b : Bool) (n m : ℕ) → word_values (fill b (n + m)) ≡ word_values (fill b n) ++ replicate (31 * m) b
unfolding word_values
fill_longer b n m =
    let e : 31 * (n + m) ≡ 31 * n + 31 * m = omega arith in
    ap (λ k. replicate k b) e ∙ sym (replicate-append-replicate (31 * n) (31 * m) b)

groups_of_last : (xs : List ℕ) (y : ℕ) (w : Word) → decoded y ≡ w → word_groups w ≤ groups_told (decoded_all (xs ++ y ∷ []))
groups_of_last xs y w e = rw (decoded_all-push xs y, groups_push (decoded_all xs) (decoded y), e) (omega arith)

-- groups more in the last word, where it is a fill of their value
appends_joined : (xs : List ℕ) (y : ℕ) (b : Bool) (g : ℕ) → IsFillNumber b y → y % 1073741824 + g < 1073741824 → IsCanonical (decoded_all (xs ++ y ∷ [])) → 0 < g → Appends (xs ++ y ∷ []) (xs ++ (y + g) ∷ []) (replicate (31 * g) b) g
appends_joined xs y b g number fits h some =
    let m = y % 1073741824 in
    let was : decoded_all (xs ++ y ∷ []) ≡ decoded_all xs ++ fill b m ∷ [] = decoded_all-push xs y ∙ ap (λ v. decoded_all xs ++ v ∷ []) number.same in
    let is : decoded_all (xs ++ (y + g) ∷ []) ≡ decoded_all xs ++ fill b (m + g) ∷ [] = decoded_all-push xs (y + g) ∙ ap (λ v. decoded_all xs ++ v ∷ []) (number.more g fits) in
    let h' : IsCanonical (decoded_all xs ++ fill b m ∷ []) = rw was at h in
    let values : told (decoded_all xs ++ fill b (m + g) ∷ []) ≡ told (decoded_all xs ++ fill b m ∷ []) ++ replicate (31 * g) b = told_push (decoded_all xs) (fill b (m + g)) ∙ ap (λ l. told (decoded_all xs) ++ l) (fill_longer b m g) ∙ sym (append_assoc (told (decoded_all xs)) (word_values (fill b m)) (replicate (31 * g) b)) ∙ ap (λ l. l ++ replicate (31 * g) b) (sym (told_push (decoded_all xs) (fill b m))) in
    let groups : groups_told (decoded_all xs ++ fill b (m + g) ∷ []) ≡ groups_told (decoded_all xs ++ fill b m ∷ []) + g = omega (arith, groups_push (decoded_all xs) (fill b (m + g)), groups_push (decoded_all xs) (fill b m)) in
    record {
      canonical = rw is (canonical_refill (decoded_all xs) b m (m + g) h' (omega arith));
      told = rw (is, was) values;
      groups_told = rw (is, was) groups;
      at_least = omega (arith, length_push xs y, length_push xs (y + g));
      at_most = omega (arith, length_push xs y, length_push xs (y + g));
    }

-- ---- the same, told by the place of the last word

last_split : (xs : List ℕ) (k d : ℕ) → k + 1 ≡ length xs → xs ≡ take k xs ++ get_or xs k d ∷ []
last_split xs k d h = sym (take_all (k + 1) xs (omega arith)) ∙ take_more xs k d (omega arith)

last_set : (xs : List ℕ) (k y : ℕ) → k + 1 ≡ length xs → set xs k y ≡ take k xs ++ y ∷ []
last_set xs k y h = sym (take_all (k + 1) (set xs k y) (omega (arith, length-set xs k y))) ∙ take_more_set xs k y (omega arith)

pub last_fits : (xs : List ℕ) (k y : ℕ) (b : Bool) (g : ℕ) → k + 1 ≡ length xs → y ≡ get_or xs k y → IsFillNumber b y → groups_told (decoded_all xs) + g < 1073741824 → y % 1073741824 + g < 1073741824
last_fits xs k y b g h e number fits =
    let split : xs ≡ take k xs ++ y ∷ [] = last_split xs k y h ∙ ap (λ v. take k xs ++ v ∷ []) (sym e) in
    let most = groups_of_last (take k xs) y (fill b (y % 1073741824)) number.same in
    let same : groups_told (decoded_all (take k xs ++ y ∷ [])) ≡ groups_told (decoded_all xs) = ap (λ l. groups_told (decoded_all l)) (sym split) in
    omega (arith, most, same)

pub appends_to_last : (xs : List ℕ) (k y : ℕ) (b : Bool) (g : ℕ) → k + 1 ≡ length xs → y ≡ get_or xs k y → y < 4294967296 → are_joined (decoded y) (fill b 1) ≡ true → IsCanonical (decoded_all xs) → 0 < g → groups_told (decoded_all xs) + g < 1073741824 → Appends xs (set xs k (y + g)) (replicate (31 * g) b) g
appends_to_last xs k y b g h e low joined canonical some fits =
    let number = joined_number b y low joined in
    let split : xs ≡ take k xs ++ y ∷ [] = last_split xs k y h ∙ ap (λ v. take k xs ++ v ∷ []) (sym e) in
    let canonical' : IsCanonical (decoded_all (take k xs ++ y ∷ [])) = rw split at canonical in
    let all = appends_joined (take k xs) y b g number (last_fits xs k y b g h e number fits) canonical' some in
    let all' : Appends xs (take k xs ++ (y + g) ∷ []) (replicate (31 * g) b) g = subst (λ l. Appends l (take k xs ++ (y + g) ∷ []) (replicate (31 * g) b) g) (sym split) all in
    rw (last_set xs k (y + g) h) all'

apart_from_joined : (v : Word) (b : Bool) (g : ℕ) → are_joined v (fill b 1) ≡ false → AreApart v (fill b g)
apart_from_joined (literal h) b g e = tt
apart_from_joined (fill true n) true g e = absurd cc
apart_from_joined (fill true n) false g e = λ t. cc
apart_from_joined (fill false n) true g e = λ t. cc
apart_from_joined (fill false n) false g e = absurd cc

pub apart_last : (xs : List ℕ) (k y : ℕ) (b : Bool) (g : ℕ) → k + 1 ≡ length xs → y ≡ get_or xs k y → are_joined (decoded y) (fill b 1) ≡ false → AreApart (last_of (literal 0) (decoded_all xs)) (fill b g)
apart_last xs k y b g h e apart =
    let split : xs ≡ take k xs ++ y ∷ [] = last_split xs k y h ∙ ap (λ v. take k xs ++ v ∷ []) (sym e) in
    let last : last_of (literal 0) (decoded_all xs) ≡ decoded y = ap (λ l. last_of (literal 0) (decoded_all l)) split ∙ ap (last_of (literal 0)) (decoded_all-push (take k xs) y) ∙ last_of-push (literal 0) (decoded_all (take k xs)) (decoded y) in
    rw last (apart_from_joined (decoded y) b g apart)

pub apart_first : (xs : List ℕ) (b : Bool) (g : ℕ) → length xs ≡ 0 → AreApart (last_of (literal 0) (decoded_all xs)) (fill b g)
apart_first [] b g h = tt
apart_first (x ∷ xs) b g h = absurd (omega arith)

apart_literal_right : (v : Word) (g : ℕ) → AreApart v (literal g)
apart_literal_right (literal h) g = tt
apart_literal_right (fill b n) g = tt

pub appends_fill : (xs : List ℕ) (y : ℕ) (b : Bool) (g : ℕ) → decoded y ≡ fill b g → IsCanonical (decoded_all xs) → AreApart (last_of (literal 0) (decoded_all xs)) (fill b g) → 0 < g → Appends xs (xs ++ y ∷ []) (replicate (31 * g) b) g
appends_fill xs y b g e h a p = subst (λ l. Appends xs (xs ++ y ∷ []) l g) (word_values_fill b g) (appends_pushed xs y (fill b g) e h a p)

pub appends_literal : (xs : List ℕ) (y : ℕ) → 0 < y → y < 2147483647 → IsCanonical (decoded_all xs) → Appends xs (xs ++ y ∷ []) (places 31 y) 1
appends_literal xs y low high h = subst (λ l. Appends xs (xs ++ y ∷ []) l 1) (word_values_literal y) (appends_pushed xs y (literal y) (decoded_literal y (omega arith)) h (apart_literal_right (last_of (literal 0) (decoded_all xs)) y) (low, high))

pub appends_zeros : (xs ys : List ℕ) → Appends xs ys (replicate (31 * 1) false) 1 → Appends xs ys (places 31 0) 1
appends_zeros xs ys h = subst (λ l. Appends xs ys l 1) (sym (places-zeros 31)) h

pub appends_ones : (xs ys : List ℕ) → Appends xs ys (replicate (31 * 1) true) 1 → Appends xs ys (places 31 2147483647) 1
appends_ones xs ys h = subst (λ l. Appends xs ys l 1) (sym (places-ones 31 2147483647 refl)) h
