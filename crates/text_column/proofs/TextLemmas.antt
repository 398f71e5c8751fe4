-- Texts, their starts, and the bytes of both.
use Rattle.std.proofs.Common.{◌≡◌, ℕ, zero, suc, ◌+◌, ◌-◌, ◌*◌, ◌^◌, ◌<◌, ◌≤◌, ◌==◌, Bool, true, false, cond, List, [], ◌∷◌, ◌++◌, length, get_or, take, drop, take-append-drop, Option, Some, None, option_map, nat_lt, refl, sym, ap, subst, ◌∙◌, arith, length-append, length-drop, append_assoc, append-nil, add-zero}
use mir.Syntax.{w64}
use Rattle.std.specs.Int.{to_le_bytes, from_le_bytes}
use Rattle.std.specs.List.{AllByRecursion}
use Rattle.std.proofs.Math.Seq.{take-append_seam, drop-append_seam}
use Rattle.std.proofs.lemmas.Bool.{le-ltb, ltb-false, eqb-true}
use Rattle.std.proofs.lemmas.List.{length-take-le, take_all, drop-drop}
use Rattle.text_column.specs.Texts.{text_file, starts_from, starts_of, starts_bytes, starts_at, first_below, first_wrong, texts_at, AreWithin, starts_between, size_between}
use Rattle.column_file.proofs.NumberLemmas.{AreBytes, AreBytes-drop}
use Rattle.text_column.proofs.NumberLemmas.{wide_64, number_front, number_rest, number_spelled}

-- ---- the loop that writes

text_file-append : (texts more : List (List ℕ)) → text_file (texts ++ more) ≡ text_file texts ++ text_file more
text_file-append [] more = refl
text_file-append (t ∷ ts) more = ap (λ r. t ++ r) (text_file-append ts more) ∙ sym (append_assoc t (text_file ts) (text_file more))

pub text_pushed : (texts : List (List ℕ)) (text : List ℕ) → text_file (texts ++ text ∷ []) ≡ text_file texts ++ text
text_pushed texts text = text_file-append texts (text ∷ []) ∙ ap (λ r. text_file texts ++ r) (append-nil text)

starts_from-append : (at : ℕ) (texts : List (List ℕ)) (text : List ℕ)
    → starts_from at (texts ++ text ∷ []) ≡ starts_from at texts ++ (at + length (text_file (texts ++ text ∷ []))) ∷ []
starts_from-append at [] text =
    let size : length (text ++ []) ≡ length text = ap length (append-nil text) in
    ap (λ n. at ∷ (at + n) ∷ []) (sym size)
starts_from-append at (t ∷ ts) text =
    let rest = text_file (ts ++ text ∷ []) in
    let sum : at + length t + length rest ≡ at + length (t ++ rest) = omega (arith, length-append t rest) in
    ap (λ s. at ∷ s) (starts_from-append (at + length t) ts text) ∙ ap (λ n. at ∷ (starts_from (at + length t) ts ++ n ∷ [])) sum

starts_bytes-append : (starts : List ℕ) (start : ℕ) → starts_bytes (starts ++ start ∷ []) ≡ starts_bytes starts ++ to_le_bytes w64 start
unfolding starts_bytes
starts_bytes-append [] start = append-nil (to_le_bytes w64 start)
starts_bytes-append (s ∷ ss) start = ap (λ r. to_le_bytes w64 s ++ r) (starts_bytes-append ss start) ∙ sym (append_assoc (to_le_bytes w64 s) (starts_bytes ss) (to_le_bytes w64 start))

pub starts_pushed : (texts : List (List ℕ)) (text : List ℕ) (size : ℕ) → size ≡ length (text_file (texts ++ text ∷ []))
    → starts_bytes (starts_of (texts ++ text ∷ [])) ≡ starts_bytes (starts_of texts) ++ to_le_bytes w64 size
starts_pushed texts text size all =
    let sum : 0 + length (text_file (texts ++ text ∷ [])) ≡ size = sym (all ∙ omega arith) in
    ap starts_bytes (starts_from-append 0 texts text)
    ∙ ap (λ n. starts_bytes (starts_of texts ++ n ∷ [])) sum
    ∙ starts_bytes-append (starts_of texts) size

pub first_start : starts_bytes (0 ∷ []) ≡ to_le_bytes w64 0
unfolding starts_bytes
first_start = append-nil (to_le_bytes w64 0)

-- ---- starts that rise

abbrev pub last_of : ℕ → List ℕ → ℕ
last_of start [] = start
last_of start (next ∷ starts) = last_of next starts

map_none : (o : Option ℕ) → option_map suc o ≡ None → o ≡ None
map_none None h = refl
map_none (Some k) h = absurd (cc)

below_none : (b : Bool) (o : Option ℕ) → cond b (Some 0) (option_map suc o) ≡ None → (b ≡ false) × (o ≡ None)
below_none true o h = absurd (cc)
below_none false o h = (refl, map_none o h)

wrong_none : (start : ℕ) (starts : List ℕ) → first_wrong (start ∷ starts) ≡ None → (start ≡ 0) × (first_below start starts ≡ None)
wrong_none start starts h = by (start == 0) refl h
  where
    by : (b : Bool) → (start == 0) ≡ b → cond b (option_map suc (first_below start starts)) (Some 0) ≡ None → (start ≡ 0) × (first_below start starts ≡ None)
    by true e g = (eqb-true start 0 e, map_none (first_below start starts) g)
    by false e g = absurd (cc)

rises_to : (start : ℕ) (starts : List ℕ) → first_below start starts ≡ None → start ≤ last_of start starts
rises_to start [] h = omega arith
rises_to start (next ∷ starts) h =
    let two = below_none (nat_lt next start) (first_below next starts) h in
    let more = rises_to next starts two.1 in
    let step = ltb-false next start two.0 in
    omega (arith, more, step)

-- bytes that reach to the last start have what rising starts part
within_rising : (start : ℕ) (starts : List ℕ) (bytes : List ℕ) → first_below start starts ≡ None → last_of start starts - start ≤ length bytes → AreWithin (start ∷ starts) bytes
within_rising start [] bytes h room = tt
within_rising start (next ∷ starts) bytes h room =
    let two = below_none (nat_lt next start) (first_below next starts) h in
    let more = rises_to next starts two.1 in
    let step = ltb-false next start two.0 in
    let left : last_of next starts - next ≤ length (drop (next - start) bytes) = omega (arith, length-drop (next - start) bytes, more, step, room) in
    (step, omega (arith, more, step, room), within_rising next starts (drop (next - start) bytes) two.1 left)

rising-take : (start : ℕ) (starts : List ℕ) (n : ℕ) → first_below start starts ≡ None → first_below start (take n starts) ≡ None
rising-take start starts zero h = refl
rising-take start [] (suc n) h = refl
rising-take start (next ∷ starts) (suc n) h =
    let two = below_none (nat_lt next start) (first_below next starts) h in
    ap (λ b. cond b (Some 0) (option_map suc (first_below next (take n starts)))) two.0 ∙ ap (option_map suc) (rising-take next starts n two.1)

last-take : (start : ℕ) (starts : List ℕ) (n : ℕ) → n ≤ length starts → last_of start (take n starts) ≡ get_or (start ∷ starts) n 0
last-take start starts zero h = refl
last-take start [] (suc n) h = absurd (omega arith)
last-take start (next ∷ starts) (suc n) h = last-take next starts n (omega arith)

-- the part of rising starts from a place on
pub record Part (starts : List ℕ) (first : ℕ) : Type 0 where
  pub rest : List ℕ
  pub is : drop first starts ≡ get_or starts first 0 ∷ rest
  pub rises : first_below (get_or starts first 0) rest ≡ None
  pub size : first + 1 + length rest ≡ length starts
  pub at : (k : ℕ) → get_or starts (first + k) 0 ≡ get_or (get_or starts first 0 ∷ rest) k 0

part_from : (start : ℕ) (starts : List ℕ) (first : ℕ) → first_below start starts ≡ None → first < length (start ∷ starts) → Part (start ∷ starts) first
part_from start starts zero h within = record {
  rest = starts;
  is = refl;
  rises = h;
  size = omega arith;
  at = λ k. ap (λ n. get_or (start ∷ starts) n 0) (omega-zero k);
}
  where
    omega-zero : (k : ℕ) → 0 + k ≡ k
    omega-zero k = omega arith
part_from start [] (suc first) h within = absurd (omega arith)
part_from start (next ∷ starts) (suc first) h within =
    let two = below_none (nat_lt next start) (first_below next starts) h in
    let part = part_from next starts first two.1 (omega arith) in
    let size = part.size in
    record {
      rest = part.rest;
      is = part.is;
      rises = part.rises;
      size = omega (arith, size);
      at = λ k. ap (λ n. get_or (start ∷ next ∷ starts) n 0) (shifted first k) ∙ part.at k;
    }
  where
    shifted : (f k : ℕ) → suc f + k ≡ suc (f + k)
    shifted f k = omega arith

pub rising_part : (starts : List ℕ) (first : ℕ) → first_wrong starts ≡ None → first < length starts → Part starts first
rising_part [] first h within = absurd (omega arith)
rising_part (start ∷ starts) first h within = part_from start starts first (wrong_none start starts h).1 within

-- the starts of some rows, and that they part bytes of their size
pub record Between (starts : List ℕ) (first end : ℕ) : Type 0 where
  pub rest : List ℕ
  pub is : starts_between starts first end ≡ get_or starts first 0 ∷ rest
  pub rises : first_below (get_or starts first 0) rest ≡ None
  pub last : last_of (get_or starts first 0) rest ≡ get_or starts end 0
  pub few : length rest ≡ end - first

pub rows_between : (starts : List ℕ) (first end : ℕ) → first_wrong starts ≡ None → first ≤ end → end < length starts → Between starts first end
rows_between starts first end h order within =
    let part = rising_part starts first h (omega arith) in
    let n = end - first in
    let size = part.size in
    let count : end + 1 - first ≡ suc n = omega arith in
    let room : n ≤ length part.rest = omega (arith, size) in
    let place : first + n ≡ end = omega arith in
    record {
      rest = take n part.rest;
      is = ap (λ k. take k (drop first starts)) count ∙ ap (take (suc n)) part.is;
      rises = rising-take (get_or starts first 0) part.rest n part.rises;
      last = last-take (get_or starts first 0) part.rest n room ∙ sym (part.at n) ∙ ap (λ k. get_or starts k 0) place;
      few = length-take-le n part.rest room;
    }

pub starts_order : (starts : List ℕ) (first end : ℕ) → first_wrong starts ≡ None → first ≤ end → end < length starts → get_or starts first 0 ≤ get_or starts end 0
starts_order starts first end h order within =
    let between = rows_between starts first end h order within in
    let more = rises_to (get_or starts first 0) between.rest between.rises in
    let last = between.last in
    omega (arith, more, last)

pub within_between : (starts : List ℕ) (first end : ℕ) (bytes : List ℕ) → first_wrong starts ≡ None → first ≤ end → end < length starts
    → length bytes ≡ size_between starts first end → AreWithin (starts_between starts first end) bytes
within_between starts first end bytes h order within size =
    let between = rows_between starts first end h order within in
    let last = between.last in
    subst (λ ss. AreWithin ss bytes) (sym between.is)
    (within_rising (get_or starts first 0) between.rest bytes between.rises (omega (arith, size, last)))

-- ---- texts and their starts, both ways

take-front : (n : ℕ) (xs ys : List ℕ) → n ≡ length xs → take n (xs ++ ys) ≡ xs
take-front n xs ys h = ap (λ k. take k (xs ++ ys)) h ∙ take-append_seam xs ys

drop-front : (n : ℕ) (xs ys : List ℕ) → n ≡ length xs → drop n (xs ++ ys) ≡ ys
drop-front n xs ys h = ap (λ k. drop k (xs ++ ys)) h ∙ drop-append_seam xs ys

first_of_starts : (at : ℕ) (texts : List (List ℕ)) → (rest : List ℕ) × (starts_from at texts ≡ at ∷ rest)
first_of_starts at [] = ([], refl)
first_of_starts at (t ∷ ts) = (starts_from (at + length t) ts, refl)

-- texts are parted by their starts
pub parted_again : (at : ℕ) (texts : List (List ℕ)) (more : List ℕ) → texts_at (starts_from at texts) (text_file texts ++ more) ≡ texts
parted_again at [] more = refl
parted_again at (t ∷ ts) more =
    let next = first_of_starts (at + length t) ts in
    let whole = text_file (t ∷ ts) ++ more in
    let joined : whole ≡ t ++ (text_file ts ++ more) = append_assoc t (text_file ts) more in
    let size : at + length t - at ≡ length t = omega arith in
    ap (λ ss. texts_at (at ∷ ss) whole) next.1
    ∙ ap (λ b. take (at + length t - at) b ∷ texts_at ((at + length t) ∷ next.0) (drop (at + length t - at) b)) joined
    ∙ ap (λ x. x ∷ texts_at ((at + length t) ∷ next.0) (drop (at + length t - at) (t ++ (text_file ts ++ more)))) (take-front (at + length t - at) t (text_file ts ++ more) size)
    ∙ ap (λ b. t ∷ texts_at ((at + length t) ∷ next.0) b) (drop-front (at + length t - at) t (text_file ts ++ more) size)
    ∙ ap (λ ss. t ∷ texts_at ss (text_file ts ++ more)) (sym next.1)
    ∙ ap (λ x. t ∷ x) (parted_again (at + length t) ts more)

pub parted_all : (texts : List (List ℕ)) → texts_at (starts_of texts) (text_file texts) ≡ texts
parted_all texts = ap (texts_at (starts_of texts)) (sym (append-nil (text_file texts))) ∙ parted_again 0 texts []

-- the starts of some rows are those of their texts
pub start_of_row : (at : ℕ) (texts : List (List ℕ)) (k : ℕ) → k ≤ length texts → get_or (starts_from at texts) k 0 ≡ at + length (text_file (take k texts))
start_of_row at texts zero h = ap (λ ss. get_or ss 0 0) (first_of_starts at texts).1 ∙ omega arith
start_of_row at [] (suc k) h = absurd (omega arith)
start_of_row at (t ∷ ts) (suc k) h =
    start_of_row (at + length t) ts k (omega arith) ∙ omega (arith, length-append t (text_file (take k ts)))

starts-drop : (at : ℕ) (texts : List (List ℕ)) (k : ℕ) → k ≤ length texts → drop k (starts_from at texts) ≡ starts_from (at + length (text_file (take k texts))) (drop k texts)
starts-drop at texts zero h = ap (λ n. starts_from n texts) (sym (add-zero at))
starts-drop at [] (suc k) h = absurd (omega arith)
starts-drop at (t ∷ ts) (suc k) h =
    let sum : at + length t + length (text_file (take k ts)) ≡ at + length (t ++ text_file (take k ts)) = omega (arith, length-append t (text_file (take k ts))) in
    starts-drop (at + length t) ts k (omega arith) ∙ ap (λ n. starts_from n (drop k ts)) sum

starts-take : (at : ℕ) (texts : List (List ℕ)) (n : ℕ) → n ≤ length texts → take (suc n) (starts_from at texts) ≡ starts_from at (take n texts)
starts-take at texts zero h = ap (take 1) (first_of_starts at texts).1
starts-take at [] (suc n) h = absurd (omega arith)
starts-take at (t ∷ ts) (suc n) h = ap (λ ss. at ∷ ss) (starts-take (at + length t) ts n (omega arith))

drop-text : (texts : List (List ℕ)) (k : ℕ) → drop (length (text_file (take k texts))) (text_file texts) ≡ text_file (drop k texts)
drop-text texts zero = refl
drop-text [] (suc k) = refl
drop-text (t ∷ ts) (suc k) =
    let rest = text_file (take k ts) in
    let sum : length (t ++ rest) ≡ length rest + length t = omega (arith, length-append t rest) in
    ap (λ n. drop n (t ++ text_file ts)) (length-append t rest)
    ∙ sym (drop-drop (length rest) (length t) (t ++ text_file ts))
    ∙ ap (drop (length rest)) (drop-append_seam t (text_file ts))
    ∙ drop-text ts k

pub length-starts : (at : ℕ) (texts : List (List ℕ)) → length (starts_from at texts) ≡ length texts + 1
length-starts at [] = refl
length-starts at (t ∷ ts) = omega (arith, length-starts (at + length t) ts)

none_taken : (a b : ℕ) → take {A = List ℕ} a [] ≡ take b []
none_taken zero zero = refl
none_taken zero (suc b) = refl
none_taken (suc a) zero = refl
none_taken (suc a) (suc b) = refl

joined_rows : (ts : List (List ℕ)) (f e : ℕ) → f ≤ e → take f ts ++ take (e - f) (drop f ts) ≡ take e ts
joined_rows ts zero e h = let same : e - 0 ≡ e = omega arith in ap (λ n. take n ts) same
joined_rows [] (suc f) e h = none_taken (e - suc f) e
joined_rows (t ∷ ts) (suc f) zero h = absurd (omega arith)
joined_rows (t ∷ ts) (suc f) (suc e) h =
    let less : suc e - suc f ≡ e - f = omega arith in
    ap (λ n. t ∷ (take f ts ++ take n (drop f ts))) less ∙ ap (λ r. t ∷ r) (joined_rows ts f e (omega arith))

-- the texts of some rows, read from their bytes
pub rows_parted : (texts : List (List ℕ)) (first end : ℕ) → first ≤ end → end ≤ length texts
    → texts_at (starts_between (starts_of texts) first end) (take (size_between (starts_of texts) first end) (drop (get_or (starts_of texts) first 0) (text_file texts)))
    ≡ take (end - first) (drop first texts)
rows_parted texts first end order within =
    let n = end - first in
    let some = drop first texts in
    let rows = take n some in
    let front = length (text_file (take first texts)) in
    let zero_first : 0 + front ≡ front = omega arith in
    let at : get_or (starts_of texts) first 0 ≡ front = start_of_row 0 texts first (omega arith) ∙ zero_first in
    let count : end + 1 - first ≡ suc n = omega arith in
    let room : n ≤ length some = omega (arith, length-drop first texts) in
    let starts : starts_between (starts_of texts) first end ≡ starts_from (0 + front) rows =
    ap (λ k. take k (drop first (starts_of texts))) count ∙ ap (take (suc n)) (starts-drop 0 texts first (omega arith)) ∙ starts-take (0 + front) some n room in
    let all : take first texts ++ rows ≡ take end texts = joined_rows texts first end order in
    let size : size_between (starts_of texts) first end ≡ length (text_file rows) =
    omega (arith, start_of_row 0 texts end within, start_of_row 0 texts first (omega arith), ap (λ ts. length (text_file ts)) all, ap length (text_file-append (take first texts) rows), length-append (text_file (take first texts)) (text_file rows)) in
    let bytes : drop (get_or (starts_of texts) first 0) (text_file texts) ≡ text_file rows ++ text_file (drop n some) =
    ap (λ k. drop k (text_file texts)) at ∙ drop-text texts first ∙ ap text_file (sym (take-append-drop n some)) ∙ text_file-append rows (drop n some) in
    ap (λ ss. texts_at ss (take (size_between (starts_of texts) first end) (drop (get_or (starts_of texts) first 0) (text_file texts)))) starts
    ∙ ap (λ b. texts_at (starts_from (0 + front) rows) (take (size_between (starts_of texts) first end) b)) bytes
    ∙ ap (texts_at (starts_from (0 + front) rows)) (take-front (size_between (starts_of texts) first end) (text_file rows) (text_file (drop n some)) size)
    ∙ ap (texts_at (starts_from (0 + front) rows)) (sym (append-nil (text_file rows)))
    ∙ parted_again (0 + front) rows []

-- ---- starts read back from their bytes

abbrev pub AreSmall : List ℕ → Type 0
AreSmall starts = AllByRecursion (λ s. s < 2 ^ 64) starts

starts_cons : (s : ℕ) (ss : List ℕ) → starts_bytes (s ∷ ss) ≡ to_le_bytes w64 s ++ starts_bytes ss
unfolding starts_bytes
starts_cons s ss = refl

starts_none : starts_bytes [] ≡ []
unfolding starts_bytes
starts_none = refl

none_at : (bytes : List ℕ) → starts_at 0 bytes ≡ []
unfolding starts_at
none_at bytes = refl

starts_more : (n : ℕ) (bytes : List ℕ) → starts_at (suc n) bytes ≡ from_le_bytes w64 (take 8 bytes) ∷ starts_at n (drop 8 bytes)
unfolding starts_at
starts_more n bytes = refl

pub starts_again : (starts : List ℕ) → AreSmall starts → starts_at (length starts) (starts_bytes starts) ≡ starts
starts_again [] h = none_at (starts_bytes [])
starts_again (s ∷ ss) h =
    starts_more (length ss) (starts_bytes (s ∷ ss))
    ∙ ap (λ b. from_le_bytes w64 (take 8 b) ∷ starts_at (length ss) (drop 8 b)) (starts_cons s ss)
    ∙ ap (λ n. n ∷ starts_at (length ss) (drop 8 (to_le_bytes w64 s ++ starts_bytes ss))) (number_front w64 8 wide_64 s (starts_bytes ss) h.0)
    ∙ ap (λ b. s ∷ starts_at (length ss) b) (number_rest w64 8 wide_64 s (starts_bytes ss))
    ∙ ap (λ r. s ∷ r) (starts_again ss h.1)

pub length-starts_bytes : (starts : List ℕ) → length (starts_bytes starts) ≡ 8 * length starts
length-starts_bytes [] = ap length starts_none
length-starts_bytes (s ∷ ss) =
    ap length (starts_cons s ss) ∙ length-append (to_le_bytes w64 s) (starts_bytes ss) ∙ omega (arith, wide_64.size_is s, length-starts_bytes ss)

pub starts_spelled : (n : ℕ) (bytes : List ℕ) → AreBytes bytes → length bytes ≡ 8 * n → starts_bytes (starts_at n bytes) ≡ bytes
starts_spelled zero [] are size = ap starts_bytes (none_at []) ∙ starts_none
starts_spelled zero (b ∷ bs) are size = absurd (omega (arith, size))
starts_spelled (suc n) bytes are size =
    let eight : 8 ≤ length bytes = omega (arith, size) in
    let left : length (drop 8 bytes) ≡ 8 * n = omega (arith, size, length-drop 8 bytes) in
    ap starts_bytes (starts_more n bytes)
    ∙ starts_cons (from_le_bytes w64 (take 8 bytes)) (starts_at n (drop 8 bytes))
    ∙ ap (λ r. to_le_bytes w64 (from_le_bytes w64 (take 8 bytes)) ++ r) (starts_spelled n (drop 8 bytes) (AreBytes-drop 8 bytes are) left)
    ∙ sym (number_spelled w64 8 wide_64 bytes are eight)

-- ---- the starts of texts

pub starts_small : (at : ℕ) (texts : List (List ℕ)) → at + length (text_file texts) < 2 ^ 64 → AreSmall (starts_from at texts)
starts_small at [] h = (omega arith, tt)
starts_small at (t ∷ ts) h = (omega arith, starts_small (at + length t) ts (omega (arith, length-append t (text_file ts))))

below_from : (last at : ℕ) (texts : List (List ℕ)) → last ≤ at → first_below last (starts_from at texts) ≡ None
below_from last at [] h = ap (λ b. cond b (Some 0) None) (le-ltb at last h)
below_from last at (t ∷ ts) h =
    ap (λ b. cond b (Some 0) (option_map suc (first_below at (starts_from (at + length t) ts)))) (le-ltb at last h)
    ∙ ap (option_map suc) (below_from at (at + length t) ts (omega arith))

pub starts_rise : (texts : List (List ℕ)) → first_wrong (starts_of texts) ≡ None
starts_rise [] = refl
starts_rise (t ∷ ts) = ap (option_map suc) (below_from 0 (0 + length t) ts (omega arith))

pub last_start : (texts : List (List ℕ)) → get_or (starts_of texts) (length texts) 0 ≡ length (text_file texts)
last_start texts =
    let none : 0 + length (text_file texts) ≡ length (text_file texts) = omega arith in
    start_of_row 0 texts (length texts) (omega arith) ∙ ap (λ ts. 0 + length (text_file ts)) (take_all (length texts) texts (omega arith)) ∙ none

-- ---- the texts of starts

pub starts_back : (start : ℕ) (starts : List ℕ) (text : List ℕ) → first_below start starts ≡ None → last_of start starts - start ≤ length text
    → starts_from start (texts_at (start ∷ starts) text) ≡ start ∷ starts
starts_back start [] text h room = refl
starts_back start (next ∷ starts) text h room =
    let two = below_none (nat_lt next start) (first_below next starts) h in
    let more = rises_to next starts two.1 in
    let step = ltb-false next start two.0 in
    let first : length (take (next - start) text) ≡ next - start = length-take-le (next - start) text (omega (arith, more, step, room)) in
    let left : last_of next starts - next ≤ length (drop (next - start) text) = omega (arith, length-drop (next - start) text, more, step, room) in
    let sum : start + length (take (next - start) text) ≡ next = omega (arith, first, step) in
    ap (λ n. start ∷ starts_from n (texts_at (next ∷ starts) (drop (next - start) text))) sum
    ∙ ap (λ ss. start ∷ ss) (starts_back next starts (drop (next - start) text) two.1 left)

take-two : (m n : ℕ) (text : List ℕ) → take m text ++ take n (drop m text) ≡ take (m + n) text
take-two zero n text = let same : n ≡ 0 + n = omega arith in ap (λ k. take k text) same
take-two (suc m) n [] = none_left n (suc m + n)
  where
    none_left : (a b : ℕ) → take {A = ℕ} a [] ≡ take b []
    none_left zero zero = refl
    none_left zero (suc b) = refl
    none_left (suc a) zero = refl
    none_left (suc a) (suc b) = refl
take-two (suc m) n (x ∷ xs) = let more : suc (m + n) ≡ suc m + n = omega arith in ap (λ r. x ∷ r) (take-two m n xs) ∙ ap (λ k. take k (x ∷ xs)) more

pub text_back : (start : ℕ) (starts : List ℕ) (text : List ℕ) → first_below start starts ≡ None → text_file (texts_at (start ∷ starts) text) ≡ take (last_of start starts - start) text
text_back start [] text h = let none : 0 ≡ start - start = omega arith in ap (λ k. take k text) none
text_back start (next ∷ starts) text h =
    let two = below_none (nat_lt next start) (first_below next starts) h in
    let more = rises_to next starts two.1 in
    let step = ltb-false next start two.0 in
    let sum : next - start + (last_of next starts - next) ≡ last_of next starts - start = omega (arith, more, step) in
    ap (λ r. take (next - start) text ++ r) (text_back next starts (drop (next - start) text) two.1)
    ∙ take-two (next - start) (last_of next starts - next) text ∙ ap (λ k. take k text) sum

last-whole : (start : ℕ) (starts : List ℕ) (rows : ℕ) → length starts ≡ rows → last_of start starts ≡ get_or (start ∷ starts) rows 0
last-whole start starts rows h =
    ap (last_of start) (sym (take_all rows starts (omega (arith, h)))) ∙ last-take start starts rows (omega (arith, h))

-- starts of a text file part it into texts of which they are the starts
pub parts_of : (starts text : List ℕ) (rows : ℕ) → first_wrong starts ≡ None → length starts ≡ rows + 1 → get_or starts rows 0 ≡ length text
    → (starts_of (texts_at starts text) ≡ starts) × (text_file (texts_at starts text) ≡ text)
parts_of [] text rows h size last = absurd (omega (arith, size))
parts_of (s ∷ ss) text rows h size last =
    let two = wrong_none s ss h in
    let zero_first : s ≡ 0 = two.0 in
    let whole : last_of s ss ≡ length text = last-whole s ss rows (omega (arith, size)) ∙ last in
    let all : last_of s ss - s ≡ length text = omega (arith, whole, zero_first) in (
      ap (λ n. starts_from n (texts_at (s ∷ ss) text)) (sym zero_first) ∙ starts_back s ss text two.1 (omega (arith, all)),
      text_back s ss text two.1 ∙ ap (λ k. take k text) all ∙ take_all (length text) text (omega arith),
    )

-- the first rows' texts are a front of all
pub front_fits : (texts : List (List ℕ)) (k : ℕ) → length (text_file (take k texts)) ≤ length (text_file texts)
front_fits texts zero = omega arith
front_fits [] (suc k) = omega arith
front_fits (t ∷ ts) (suc k) = omega (arith, length-append t (text_file (take k ts)), length-append t (text_file ts), front_fits ts k)

pub few_texts : (starts bytes : List ℕ) → length starts < 2 → texts_at starts bytes ≡ []
few_texts [] bytes h = refl
few_texts (s ∷ []) bytes h = refl
few_texts (s ∷ next ∷ starts) bytes h = absurd (omega arith)

length-texts_at : (start : ℕ) (starts bytes : List ℕ) → length (texts_at (start ∷ starts) bytes) ≡ length starts
length-texts_at start [] bytes = refl
length-texts_at start (next ∷ starts) bytes = ap suc (length-texts_at next starts (drop (next - start) bytes))

-- a text for each of the rows
pub rows_counted : (starts bytes : List ℕ) (first end : ℕ) → first_wrong starts ≡ None → first ≤ end → end < length starts
    → length (texts_at (starts_between starts first end) bytes) ≡ end - first
rows_counted starts bytes first end rising order within =
    let between = rows_between starts first end rising order within in
    ap (λ ss. length (texts_at ss bytes)) between.is ∙ length-texts_at (get_or starts first 0) between.rest bytes ∙ between.few
