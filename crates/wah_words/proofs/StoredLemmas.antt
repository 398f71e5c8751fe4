-- What a vector has stored, and how each push changes it.
use Rattle.std.proofs.Common.{◌≡◌, ℕ, suc, ◌+◌, ◌*◌, ◌%◌, ◌^◌, ◌<◌, ◌≤◌, Bool, true, false, List, [], ◌∷◌, ◌++◌, length, refl, sym, ap, ◌∙◌, arith, length-append, append_assoc, lit<, lit≤, inl, inr}
use Rattle.std.proofs.lemmas.List.{length-map, append-nil}
use Rattle.std.proofs.lemmas.Bool.{cases_eq, ne_eqb}
use Rattle.std.proofs.Math.Nat.{pow-suc}
use Rattle.std.proofs.Math.Pow.{pow_mono}
use Rattle.std.specs.Int.{from_bool}
use Rattle.wah_words.specs.Places.{places}
use Rattle.wah_words.specs.Spelling.{regular_words, rest_of, words_of, told, groups_told}
use Rattle.wah_words.specs.Bytes.{decoded, decoded_all, IsStored, stored, Appends}
use Rattle.wah_words.proofs.PlacesLemmas.{length-places, places-push}
use Rattle.wah_words.proofs.SpellingLemmas.{length-told, length_le-groups_told, regular_words_told, rest_of_told, words_of_told, active_words}

few_places : (len active : ℕ) → length (places (len % 31) active) < 31
few_places len active = rw (length-places (len % 31) active) (omega arith)

pub length-stored : (len : ℕ) (items : List ℕ) (active : ℕ) → IsStored len items active → length (stored len items active) ≡ len
length-stored len items active h =
    length-append (told (decoded_all items)) (places (len % 31) active) ∙ omega (arith, length-told (decoded_all items), length-places (len % 31) active, h.whole)

pub regular_words-stored : (len : ℕ) (items : List ℕ) (active : ℕ) → IsStored len items active → regular_words (stored len items active) ≡ decoded_all items
regular_words-stored len items active h = regular_words_told (decoded_all items) (places (len % 31) active) h.canonical (few_places len active)

pub rest_of-stored : (len : ℕ) (items : List ℕ) (active : ℕ) → rest_of (stored len items active) ≡ places (len % 31) active
rest_of-stored len items active = rest_of_told (decoded_all items) (places (len % 31) active) (few_places len active)

pub words_of-stored : (len : ℕ) (items : List ℕ) (active : ℕ) → IsStored len items active → words_of (stored len items active) ≡ length items + active_words (len % 31)
words_of-stored len items active h =
    words_of_told (decoded_all items) (places (len % 31) active) h.canonical (few_places len active) ∙ rw (length-places (len % 31) active, length-map items decoded) refl

-- each word stands for a group at least
pub items_few : (len : ℕ) (items : List ℕ) (active : ℕ) → IsStored len items active → 31 * length items ≤ len
items_few len items active h = omega (arith, length_le-groups_told (decoded_all items) h.canonical, h.whole, length-map items decoded)

-- ---- pushes at a multiple of 31

places_none : (n : ℕ) → places 0 n ≡ []
unfolding places
places_none n = refl

stored_aligned : (len : ℕ) (items : List ℕ) (active : ℕ) → len % 31 ≡ 0 → stored len items active ≡ told (decoded_all items)
stored_aligned len items active e = ap (λ c. told (decoded_all items) ++ places c active) e ∙ ap (λ l. told (decoded_all items) ++ l) (places_none active) ∙ append-nil (told (decoded_all items))

pub stored_append : (len : ℕ) (old new : List ℕ) (active : ℕ) (values : List Bool) (g : ℕ) → IsStored len old active → len % 31 ≡ 0 → Appends old new values g → len + 31 * g ≤ 4194304 → IsStored (len + 31 * g) new active
stored_append len old new active values g h e a fits =
    let same : (len + 31 * g) % 31 ≡ len % 31 = omega arith in
    record {
      canonical = a.canonical;
      whole = rw (same, a.groups_told) (omega (arith, h.whole));
      active_fits = rw same h.active_fits;
      within = fits;
    }

pub values_append : (len : ℕ) (old new : List ℕ) (active : ℕ) (values : List Bool) (g : ℕ) → len % 31 ≡ 0 → Appends old new values g → stored (len + 31 * g) new active ≡ stored len old active ++ values
values_append len old new active values g e a =
    let e2 : (len + 31 * g) % 31 ≡ 0 = omega arith in
    stored_aligned (len + 31 * g) new active e2 ∙ a.told ∙ ap (λ l. l ++ values) (sym (stored_aligned len old active e))

pub words_append : (len : ℕ) (old new : List ℕ) (active : ℕ) (values : List Bool) (g : ℕ) → IsStored len old active → len % 31 ≡ 0 → Appends old new values g → len + 31 * g ≤ 4194304 → words_of (stored (len + 31 * g) new active) ≤ words_of (stored len old active) + 1
words_append len old new active values g h e a fits =
    let same : (len + 31 * g) % 31 ≡ len % 31 = omega arith in
    rw (words_of-stored (len + 31 * g) new active (stored_append len old new active values g h e a fits), words_of-stored len old active h, same) (omega (arith, a.at_most))

pub stored_tail : (len : ℕ) (items : List ℕ) (active bits count : ℕ) → IsStored len items active → len % 31 ≡ 0 → 1 ≤ count → count ≤ 30 → bits < 2 ^ count → len + count ≤ 4194304 → IsStored (len + count) items bits
stored_tail len items active bits count h e some few fits within =
    let rest : (len + count) % 31 ≡ count = omega arith in
    record {
      canonical = h.canonical;
      whole = rw rest (omega (arith, h.whole));
      active_fits = rw rest fits;
      within = within;
    }

pub values_tail : (len : ℕ) (items : List ℕ) (active bits count : ℕ) → len % 31 ≡ 0 → count ≤ 30 → stored (len + count) items bits ≡ stored len items active ++ places count bits
values_tail len items active bits count e few =
    let rest : (len + count) % 31 ≡ count = omega arith in
    ap (λ c. told (decoded_all items) ++ places c bits) rest ∙ ap (λ l. l ++ places count bits) (sym (stored_aligned len items active e))

pub words_tail : (len : ℕ) (items : List ℕ) (active bits count : ℕ) → IsStored len items active → len % 31 ≡ 0 → 1 ≤ count → count ≤ 30 → bits < 2 ^ count → len + count ≤ 4194304 → words_of (stored (len + count) items bits) ≡ words_of (stored len items active) + 1
words_tail len items active bits count h e some few fits within =
    let rest : (len + count) % 31 ≡ count = omega arith in
    rw (words_of-stored (len + count) items bits (stored_tail len items active bits count h e some few fits within), words_of-stored len items active h, rest, e, ne_eqb count 0 (λ z. omega arith)) (omega arith)

-- ---- a push of one value

twice_fits : (c n : ℕ) (b : Bool) → n < 2 ^ c → 2 * n + from_bool b < 2 ^ (c + 1)
twice_fits c n true h = let e : c + 1 ≡ suc c = omega arith in rw (e, pow-suc 2 c) (omega arith)
twice_fits c n false h = let e : c + 1 ≡ suc c = omega arith in rw (e, pow-suc 2 c) (omega arith)

pub stored_bit : (len : ℕ) (items : List ℕ) (active : ℕ) (b : Bool) → IsStored len items active → (len % 31 ≡ 30 → ⊥) → len + 1 ≤ 4194304 → IsStored (len + 1) items (2 * active + from_bool b)
stored_bit len items active b h part within =
    let rest : (len + 1) % 31 ≡ len % 31 + 1 = omega arith in
    record {
      canonical = h.canonical;
      whole = rw rest (omega (arith, h.whole));
      active_fits = rw rest (twice_fits (len % 31) active b h.active_fits);
      within = within;
    }

pub values_bit : (len : ℕ) (items : List ℕ) (active : ℕ) (b : Bool) → IsStored len items active → (len % 31 ≡ 30 → ⊥) → stored (len + 1) items (2 * active + from_bool b) ≡ stored len items active ++ b ∷ []
values_bit len items active b h part =
    let rest : (len + 1) % 31 ≡ len % 31 + 1 = omega arith in
    ap (λ c. told (decoded_all items) ++ places c (2 * active + from_bool b)) rest ∙ ap (λ l. told (decoded_all items) ++ l) (places-push (len % 31) active b h.active_fits) ∙ sym (append_assoc (told (decoded_all items)) (places (len % 31) active) (b ∷ []))

pub group_fits : (len : ℕ) (items : List ℕ) (active : ℕ) (b : Bool) → IsStored len items active → 2 * active + from_bool b < 2147483648
group_fits len items active b h =
    let fits : 2 * active + from_bool b < 2 ^ (len % 31 + 1) = twice_fits (len % 31) active b h.active_fits in
    let few : len % 31 + 1 ≤ 31 = omega arith in
    let most : 2 ^ (len % 31 + 1) ≤ 2 ^ 31 = pow_mono few in
    omega arith

pub stored_group : (len : ℕ) (old new : List ℕ) (active : ℕ) (b : Bool) → IsStored len old active → len % 31 ≡ 30 → Appends old new (places 31 (2 * active + from_bool b)) 1 → len + 1 ≤ 4194304 → IsStored (len + 1) new 0
stored_group len old new active b h e a within =
    let rest : (len + 1) % 31 ≡ 0 = omega arith in
    record {
      canonical = a.canonical;
      whole = rw (rest, a.groups_told) (omega (arith, h.whole));
      active_fits = rw rest (lit< tt);
      within = within;
    }

pub values_group : (len : ℕ) (old new : List ℕ) (active : ℕ) (b : Bool) → IsStored len old active → len % 31 ≡ 30 → Appends old new (places 31 (2 * active + from_bool b)) 1 → stored (len + 1) new 0 ≡ stored len old active ++ b ∷ []
values_group len old new active b h e a =
    let rest : (len + 1) % 31 ≡ 0 = omega arith in
    let fits : active < 2 ^ 30 = rw e at h.active_fits in
    stored_aligned (len + 1) new 0 rest ∙ a.told ∙ ap (λ l. told (decoded_all old) ++ l) (places-push 30 active b fits) ∙ sym (append_assoc (told (decoded_all old)) (places 30 active) (b ∷ [])) ∙ ap (λ c. (told (decoded_all old) ++ places c active) ++ b ∷ []) (sym e)

active_words_le_one : (r : ℕ) → active_words r ≤ 1
active_words_le_one r = elim (cases_eq r 0) [ inl e ↦ rw e (omega arith) | inr some ↦ rw (ne_eqb r 0 some) (omega arith) ]

pub words_bit : (len : ℕ) (items : List ℕ) (active : ℕ) (b : Bool) → IsStored len items active → (len % 31 ≡ 30 → ⊥) → len + 1 ≤ 4194304 → words_of (stored (len + 1) items (2 * active + from_bool b)) ≤ words_of (stored len items active) + 1
words_bit len items active b h part within =
    rw (words_of-stored (len + 1) items (2 * active + from_bool b) (stored_bit len items active b h part within), words_of-stored len items active h) (omega (arith, active_words_le_one ((len + 1) % 31)))

pub words_group : (len : ℕ) (old new : List ℕ) (active : ℕ) (b : Bool) → IsStored len old active → len % 31 ≡ 30 → Appends old new (places 31 (2 * active + from_bool b)) 1 → len + 1 ≤ 4194304 → words_of (stored (len + 1) new 0) ≤ words_of (stored len old active) + 1
words_group len old new active b h e a within =
    let rest : (len + 1) % 31 ≡ 0 = omega arith in
    rw (words_of-stored (len + 1) new 0 (stored_group len old new active b h e a within), words_of-stored len old active h, rest) (omega (arith, a.at_most))

pub not_tail : (tail : Bool) (len : ℕ) → (tail ≡ true → len % 31 ≡ 0 → ⊥) → len % 31 ≡ 0 → tail ≡ false
not_tail true len h e = absurd (h refl e)
not_tail false len h e = refl

pub stored_none : IsStored 0 [] 0
unfolding groups_told
stored_none = record { canonical = tt; whole = refl; active_fits = lit< tt; within = lit≤ tt }

pub values_none : stored 0 [] 0 ≡ []
unfolding told places
values_none = refl
