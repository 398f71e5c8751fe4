-- What is written is opened and fetched.
use Rattle.std.proofs.Common.{◌≡◌, ℕ, zero, suc, ◌+◌, ◌-◌, ◌*◌, ◌^◌, ◌<◌, ◌≤◌, Bool, true, false, cond, List, [], ◌∷◌, ◌++◌, length, get_or, take, drop, Option, Some, None, option_map, Ok, Err, nat_lt, ◌==◌, refl, sym, ap, ◌∙◌, arith, eq-eqb, length-append, append_assoc, append-nil}
use mir.Syntax.{w32}
use Rattle.std.specs.Prelude.{slice_get}
use Rattle.std.specs.Int.{div_ceil, to_le_bytes, from_le_bytes}
use Rattle.std.specs.List.{AllByRecursion, flat_map}
use Rattle.std.proofs.Math.Seq.{take-append_seam, drop-append_seam}
use Rattle.std.proofs.lemmas.Bool.{eqb-true, le-ltb, ltb-false}
use Rattle.index_spec.specs.Counts.{bitmap_count, coarse_count, groups_of}
use Rattle.index_spec.specs.declared.spec.Coarse.{Coarse}
use Rattle.index_spec.specs.declared.spec.Coarse.TheVariants as coarse
use Rattle.index_spec.specs.declared.spec.EncodingSpec.{EncodingSpec}
use Rattle.index_spec.specs.declared.spec.EncodingSpec.TheVariants as encoding
use Rattle.index_spec.specs.Language.{spec_of}
use Rattle.index_spec.specs.Printed.{printed}
use Rattle.index_spec.specs.declared.spec.Spec.{Spec}
use Rattle.index_spec.proofs.Laws.{spec_of-spelled}
use Rattle.index_spec.proofs.Again.{printed-spelled, length-printed}
use Rattle.wah_words.specs.Bytes.{spelling, vector_at}
use Rattle.wah_words.proofs.BytesLemmas.{length-spelling, vector_again}
use Rattle.wah_words.specs.declared.fault.WordsFault.TheVariants.{Short as short}
use Rattle.index_file.specs.Fetching.{bitmap_in, to_its_end, with_bytes}
use Rattle.index_file.specs.Front.{front_in, number_at, of_rows, rest_size, size_of, sizes_at}
use Rattle.index_file.specs.IndexFile.{EdgeFits, IsIndex, edges_bytes, front_bytes, head_bytes, index_bytes, magic, parts_bytes, places_bytes, places_of}
use Rattle.index_file.specs.Opening.{Head, bins_in, counted, head_in, ordered, parts_in, placed, places_at, places_in, rest_in, spec_in, tested, with_bins, with_front, with_places, with_rest, with_spec}
use Rattle.index_file.specs.Order.{first_out_of_order}
use Rattle.index_file.specs.Places.{first_close, first_wrong_place, head_size, last_from, or_else, places_from, room_at}
use Rattle.index_file.specs.declared.edge.Edge.{Edge}
use Rattle.index_file.specs.declared.front.Front.{Front}
use Rattle.index_file.specs.declared.fault.IndexFault.TheVariants as fault
use Rattle.index_file.proofs.EdgeLemmas.{edges_again, length-edges_bytes, length-places_bytes, places_again}
use Rattle.index_file.proofs.NumberLemmas.{number_front, wide_32}
use Rattle.index_file.proofs.PlacesLemmas.{few_words, length-places}
use Rattle.index_file.proofs.SpecTextLemmas.{spec_in-printed}

take-front : (n : ℕ) (xs ys : List ℕ) → length xs ≡ n → take n (xs ++ ys) ≡ xs
take-front n xs ys h = ap (λ k. take k (xs ++ ys)) (sym h) ∙ take-append_seam xs ys

drop-front : (n : ℕ) (xs ys : List ℕ) → length xs ≡ n → drop n (xs ++ ys) ≡ ys
drop-front n xs ys h = ap (λ k. drop k (xs ++ ys)) (sym h) ∙ drop-append_seam xs ys

take-whole : (n : ℕ) (xs : List ℕ) → length xs ≡ n → take n xs ≡ xs
take-whole n xs h = ap (take n) (sym (append-nil xs)) ∙ take-front n xs [] h

-- ---- one bitmap

first_of_places : (start : ℕ) (bitmaps : List (List Bool)) → get_or (places_from start bitmaps) 0 0 ≡ start
first_of_places start [] = refl
first_of_places start (b ∷ bs) = refl

part_at : (start : ℕ) (head : List ℕ) (bitmaps : List (List Bool)) (k : ℕ) (bits : List Bool) → length head ≡ start → slice_get bitmaps k ≡ Some bits
    → take (get_or (places_from start bitmaps) (suc k) 0 - get_or (places_from start bitmaps) k 0)
    (drop (get_or (places_from start bitmaps) k 0) (head ++ flat_map spelling bitmaps)) ≡ spelling bits
part_at start head [] k bits l h = absurd (cc)
part_at start head (b ∷ bs) zero bits l h =
    let same : b ≡ bits = cc in
    let rest = flat_map spelling bs in
    let next = first_of_places (start + length (spelling b)) bs in
    let size : get_or (places_from (start + length (spelling b)) bs) 0 0 - start ≡ length (spelling b) = ap (λ n. n - start) next ∙ omega arith in
    ap (λ n. take n (drop start (head ++ (spelling b ++ rest)))) size
    ∙ ap (take (length (spelling b))) (drop-front start head (spelling b ++ rest) l)
    ∙ take-append_seam (spelling b) rest ∙ ap spelling same
part_at start head (b ∷ bs) (suc k) bits l h =
    let more = start + length (spelling b) in
    let places = places_from more bs in
    let longer : length (head ++ spelling b) ≡ more = omega (arith, length-append head (spelling b)) in
    ap (λ f. take (get_or places (suc k) 0 - get_or places k 0) (drop (get_or places k 0) f)) (sym (append_assoc head (spelling b) (flat_map spelling bs)))
    ∙ part_at more (head ++ spelling b) bs k bits longer h

-- ---- sizes

length-front : (rows bins bitmaps text : ℕ) → length (front_bytes rows bins bitmaps text) ≡ 24
unfolding front_bytes
length-front rows bins bitmaps text = refl

length-parts : (text : List ℕ) (edges : List Edge) (places : List ℕ) → length (parts_bytes text edges places) ≡ length text + (32 * length edges + 8 * length places)
unfolding parts_bytes
length-parts text edges places =
    length-append text (edges_bytes edges ++ places_bytes places)
    ∙ omega (arith, length-append (edges_bytes edges) (places_bytes places), length-edges_bytes edges, length-places_bytes places)

length-head : (rows : ℕ) (text : List ℕ) (edges : List Edge) (places : List ℕ) (n : ℕ) → length places ≡ n + 1
    → length (head_bytes rows text edges places) ≡ head_size (length text) (length edges) n
unfolding head_bytes
length-head rows text edges places n h =
    length-append (front_bytes rows (length edges) (length places - 1) (length text)) (parts_bytes text edges places)
    ∙ omega (arith, length-front rows (length edges) (length places - 1) (length text), length-parts text edges places)

-- the bytes between two places are the bitmap's
pub bitmap_there : (rows : ℕ) (spec : Spec) (edges : List Edge) (bitmaps : List (List Bool)) (k : ℕ) (bits : List Bool) → slice_get bitmaps k ≡ Some bits
    → take (room_at (places_of spec edges bitmaps) k) (drop (get_or (places_of spec edges bitmaps) k 0) (index_bytes rows spec edges bitmaps)) ≡ spelling bits
unfolding index_bytes
bitmap_there rows spec edges bitmaps k bits h =
    let places = places_of spec edges bitmaps in
    let start = head_size (length (printed spec)) (length edges) (length bitmaps) in
    let head = head_bytes rows (printed spec) edges places in
    let next : k + 1 ≡ suc k = omega arith in
    ap (λ n. take (get_or places n 0 - get_or places k 0) (drop (get_or places k 0) (head ++ flat_map spelling bitmaps))) next
    ∙ part_at start head bitmaps k bits (length-head rows (printed spec) edges places (length bitmaps) (length-places start bitmaps)) h

pub bitmap_read : (k rows size : ℕ) (bits : List Bool) → length bits ≤ 4194304 → length bits ≡ rows → length (spelling bits) ≡ size
    → bitmap_in k rows size (spelling bits) ≡ Ok bits
bitmap_read k rows size bits limit same l =
    let bytes = spelling bits in
    let whole : (length bytes == size) ≡ true = eq-eqb (length bytes) size l in
    let again : vector_at bytes ≡ Ok (bits, length bytes) = ap vector_at (sym (append-nil bytes)) ∙ vector_again bits [] limit in
    let none : nat_lt (length bytes) (length bytes) ≡ false = le-ltb (length bytes) (length bytes) (omega arith) in
    let all : (length bits == rows) ≡ true = eq-eqb (length bits) rows same in
    ap (λ b. with_bytes k rows (cond b (Ok bytes) (Err (fault.Bitmap k short)))) whole
    ∙ ap (to_its_end k rows (length bytes)) again
    ∙ ap (λ b. cond b (Err (fault.BitmapTrailing k)) (cond (length bits == rows) (Ok bits) (Err (fault.BitmapLength k)))) none
    ∙ ap (λ b. cond b (Ok bits) (Err (fault.BitmapLength k))) all

-- ---- the first bytes

pub front_again : (rows bins bitmaps text : ℕ) → rows < 2 ^ 32 → bins < 2 ^ 32 → bitmaps < 2 ^ 32 → text < 2 ^ 32
    → front_in rows (front_bytes rows bins bitmaps text) ≡ Ok (record { bins = bins; bitmaps = bitmaps; text = text })
unfolding front_in front_bytes number_at
front_again rows bins bitmaps text small_rows small_bins small_bitmaps small_text =
    let t = to_le_bytes w32 text in
    let m = to_le_bytes w32 bitmaps ++ t in
    let n = to_le_bytes w32 bins ++ m in
    let r = to_le_bytes w32 rows ++ n in
    let bytes = magic ++ (to_le_bytes w32 1 ++ r) in
    let number = λ (k : ℕ) (more : List ℕ) (small : k < 2 ^ 32). number_front w32 4 wide_32 k more small in
    let version : (from_le_bytes w32 (take 4 (drop 4 bytes)) == 1) ≡ true = refl in
    let have = eq-eqb (from_le_bytes w32 (take 4 (drop 8 bytes))) rows (number rows n small_rows) in
    let sizes : sizes_at bytes ≡ record { bins = bins; bitmaps = bitmaps; text = text } =
    λ i. record {
      bins = number bins m small_bins i;
      bitmaps = number bitmaps t small_bitmaps i;
      text = (ap (λ l. from_le_bytes w32 (take 4 l)) (sym (append-nil t)) ∙ number text [] small_text) i;
    } in
    ap (λ b. cond b (of_rows rows (number_at 8 bytes) bytes) (Err (fault.Version (number_at 4 bytes)))) version
    ∙ ap (λ b. cond b (Ok (sizes_at bytes)) (Err (fault.Rows rows (number_at 8 bytes)))) have
    ∙ ap (λ f. Ok f) sizes

-- ---- the places

enough : (b : List Bool) (before : ℕ) → nat_lt (before + length (spelling b)) (before + 8) ≡ false
enough b before = le-ltb (before + length (spelling b)) (before + 8) (omega (arith, length-spelling b))

rest_far : (before : ℕ) (bitmaps : List (List Bool)) (b : List Bool) → first_close before (places_from (before + length (spelling b)) bitmaps) ≡ None
rest_far before [] b = ap (λ t. cond t (Some 0) None) (enough b before)
rest_far before (c ∷ cs) b =
    let at = before + length (spelling b) in
    ap (λ t. cond t (Some 0) (option_map suc (first_close at (places_from (at + length (spelling c)) cs)))) (enough b before)
    ∙ ap (option_map suc) (rest_far at cs c)

last_far : (before : ℕ) (bitmaps : List (List Bool)) → last_from before (places_from (before) bitmaps) ≡ before + length (flat_map spelling bitmaps)
last_far before [] = omega arith
last_far before (b ∷ bs) =
    let at = before + length (spelling b) in
    last_step at before bs ∙ last_far at bs ∙ omega (arith, length-append (spelling b) (flat_map spelling bs))
  where
    last_step : (at other : ℕ) (bs : List (List Bool)) → last_from other (places_from at bs) ≡ last_from at (places_from at bs)
    last_step at other [] = refl
    last_step at other (c ∷ cs) = refl

right_after : (start : ℕ) (o : Option ℕ) (last size count : ℕ) → o ≡ None → last ≡ size
    → cond (start == start) (or_else (option_map suc o) (cond (last == size) None (Some count))) (Some 0) ≡ None
right_after start o last size count none same =
    ap (λ b. cond b (or_else (option_map suc o) (cond (last == size) None (Some count))) (Some 0)) (eq-eqb start start refl)
    ∙ ap (λ q. or_else (option_map suc q) (cond (last == size) None (Some count))) none
    ∙ ap (λ b. cond b None (Some count)) (eq-eqb last size same)

pub places_good : (start size : ℕ) (bitmaps : List (List Bool)) → size ≡ start + length (flat_map spelling bitmaps) → first_wrong_place start size (places_from start bitmaps) ≡ None
places_good start size [] h =
    let same : start ≡ size = omega arith in
    right_after start None start size 0 refl same
places_good start size (b ∷ bs) h =
    let at = start + length (spelling b) in
    let places = places_from at bs in
    let same : last_from start places ≡ size = last_of_rest start b bs ∙ sym h in
    right_after start (first_close start places) (last_from start places) size (length places) (rest_far start bs b) same
  where
    last_of_rest : (start : ℕ) (b : List Bool) (bs : List (List Bool)) → last_from start (places_from (start + length (spelling b)) bs) ≡ start + length (flat_map spelling (b ∷ bs))
    last_of_rest start b bs = last_far start (b ∷ bs)

-- each place is a number of 64 bits
places_fit : (start : ℕ) (bitmaps : List (List Bool)) → AllByRecursion (λ bits. length bits ≤ 4194304) bitmaps → start + 1048576 * length bitmaps < 2 ^ 64
    → AllByRecursion (λ p. p < 2 ^ 64) (places_from start bitmaps)
places_fit start [] h small = (omega arith, tt)
places_fit start (b ∷ bs) h small =
    let few = few_words b h.0 in
    let size = length-spelling b in
    (omega arith, places_fit (start + length (spelling b)) bs h.1 (omega arith))

-- ---- the whole head

parts_again : (size m : ℕ) (spec : Spec) (edges : List Edge) (places : List ℕ) → spec_of (printed spec) ≡ Ok spec → first_out_of_order edges ≡ None
    → AllByRecursion EdgeFits edges → bitmap_count spec.encoding (length edges) ≡ Some m → length places ≡ m + 1 → AllByRecursion (λ p. p < 2 ^ 64) places
    → first_wrong_place (head_size (length (printed spec)) (length edges) m) size places ≡ None
    → parts_in size (record { bins = length edges; bitmaps = m; text = length (printed spec) }) (parts_bytes (printed spec) edges places)
    ≡ Ok (record { spec = spec; bins = edges; places = places })
unfolding parts_in parts_bytes
parts_again size m spec edges places given order fit count len small right =
    let text = printed spec in
    let n = length edges in
    let e = edges_bytes edges in
    let p = places_bytes places in
    let front : Front = record { bins = n; bitmaps = m; text = length text } in
    let ends = length-edges_bytes edges in
    let bins : bins_in n e ≡ Ok edges = ap (λ es. ordered (first_out_of_order es) es) (edges_again edges fit) ∙ ap (λ o. ordered o edges) order in
    let read : places_at (m + 1) p ≡ places = ap (λ k. places_at k p) (sym len) ∙ places_again places small in
    let found : places_in (size_of front) size m p ≡ Ok places =
    ap (λ ps. placed (first_wrong_place (size_of front) size ps) ps) read ∙ ap (λ o. placed o places) right in
    let known : tested (bitmap_count spec.encoding n) m ≡ Ok tt =
    ap (λ o. tested o m) count ∙ ap (λ b. cond b (Ok tt) (Err (fault.Count m m))) (eq-eqb m m refl) in
    ap (λ b. with_spec size front (drop (length text) (text ++ (e ++ p))) (spec_in b)) (take-append_seam text (e ++ p))
    ∙ ap (λ r. with_spec size front (drop (length text) (text ++ (e ++ p))) r) (spec_in-printed spec given)
    ∙ ap (λ b. with_bins size front spec (drop (32 * n) b) (bins_in n (take (32 * n) b))) (drop-append_seam text (e ++ p))
    ∙ ap (λ b. with_bins size front spec b (bins_in n (take (32 * n) (e ++ p)))) (drop-front (32 * n) e p ends)
    ∙ ap (λ b. with_bins size front spec p (bins_in n b)) (take-front (32 * n) e p ends)
    ∙ ap (λ r. with_bins size front spec p r) bins
    ∙ ap (λ r. counted (tested (bitmap_count spec.encoding n) m) (with_places spec edges r)) found
    ∙ ap (λ r. counted r (Ok (record { spec = spec; bins = edges; places = places }))) known

whole_again : (rows : ℕ) (front : Front) (first parts body : List ℕ) (head : Head) → length first ≡ 24 → front_in rows first ≡ Ok front
    → length parts + 24 ≡ size_of front → parts_in (size_of front + length body) front parts ≡ Ok head → head_in rows (first ++ (parts ++ body)) ≡ Ok head
whole_again rows front first parts body head l says size is =
    let file = first ++ (parts ++ body) in
    let all : length file ≡ size_of front + length body = omega (arith, length-append first (parts ++ body), length-append parts body) in
    let rest : length parts ≡ rest_size front = omega arith in
    let behind : take (rest_size front) (drop 24 file) ≡ parts =
    ap (take (rest_size front)) (drop-front 24 first (parts ++ body) l) ∙ take-front (rest_size front) parts body rest in
    let long : nat_lt (length file) (size_of front) ≡ false = le-ltb (length file) (size_of front) (omega arith) in
    ap (λ b. with_front (length file) (λ f. take (rest_size f) (drop 24 file)) (front_in rows b)) (take-front 24 first (parts ++ body) l)
    ∙ ap (λ r. with_front (length file) (λ f. take (rest_size f) (drop 24 file)) r) says
    ∙ ap (λ b. with_rest (length file) front (rest_in (length file) front b)) behind
    ∙ ap (λ b. with_rest (length file) front (cond b (Err fault.Short) (cond (length parts == rest_size front) (Ok parts) (Err fault.Short)))) long
    ∙ ap (λ b. with_rest (length file) front (cond b (Ok parts) (Err fault.Short))) (eq-eqb (length parts) (rest_size front) rest)
    ∙ ap (λ n. parts_in n front parts) all
    ∙ is

-- bins of which there is a number of bitmaps are at most 1,024, or no more than the bitmaps
nested_few : (b : Bool) (n m : ℕ) (o : Option ℕ) → nat_lt 1024 n ≡ b → cond b None o ≡ Some m → n ≤ 1024
nested_few true n m o e h = absurd (cc)
nested_few false n m o e h = ltb-false 1024 n e

level_few : (level : Coarse) (n m : ℕ) → coarse_count level n ≡ Some m → m < 2 ^ 32 → n < 2 ^ 32
level_few coarse.Equality n m h small = let same : n ≡ m = cc in omega arith
level_few coarse.Range n m h small = let few = nested_few (nat_lt 1024 n) n m (cond (n == 0) (Some 0) (Some (n - 1))) refl h in omega arith
level_few coarse.Interval n m h small = let few = nested_few (nat_lt 1024 n) n m (cond (n == 0) (Some 0) (Some (n - div_ceil n 2 + 1))) refl h in omega arith

sum_few : (n m : ℕ) (o : Option ℕ) → option_map (λ q. n + q) o ≡ Some m → n ≤ m
sum_few n m None h = absurd (cc)
sum_few n m (Some q) h = let same : n + q ≡ m = cc in omega arith

grouped_few : (b : Bool) (n m : ℕ) (o : Option ℕ) → (n == 0) ≡ b → cond b (Some 0) (option_map (λ q. n + q) o) ≡ Some m → m < 2 ^ 32 → n < 2 ^ 32
grouped_few true n m o e h small = let none = eqb-true n 0 e in omega arith
grouped_few false n m o e h small = let few = sum_few n m o h in omega arith

few_bins : (e : EncodingSpec) (n m : ℕ) → bitmap_count e n ≡ Some m → m < 2 ^ 32 → n < 2 ^ 32
few_bins encoding.Equality n m h small = level_few coarse.Equality n m h small
few_bins encoding.Range n m h small = level_few coarse.Range n m h small
few_bins encoding.Interval n m h small = level_few coarse.Interval n m h small
few_bins (encoding.TwoLevel level ncoarse) n m h small = grouped_few (n == 0) n m (coarse_count level (groups_of n ncoarse)) refl h small

-- what is written opens
pub index_again : (rows : ℕ) (spec : Spec) (edges : List Edge) (bitmaps : List (List Bool)) → IsIndex rows spec edges bitmaps → rows ≤ 4194304
    → AllByRecursion EdgeFits edges
    → head_in rows (index_bytes rows spec edges bitmaps) ≡ Ok (record { spec = spec; bins = edges; places = places_of spec edges bitmaps })
unfolding index_bytes head_bytes
index_again rows spec edges bitmaps h few_rows fit =
    let text = printed spec in
    let n = length edges in
    let m = length bitmaps in
    let start = head_size (length text) n m in
    let places = places_of spec edges bitmaps in
    let body = flat_map spelling bitmaps in
    let parts = parts_bytes text edges places in
    let front : Front = record { bins = n; bitmaps = m; text = length text } in
    let count = length-places start bitmaps in
    let short = length-printed spec h.given in
    let few_n = few_bins spec.encoding n m h.counted h.few_bitmaps in
    let few_m = h.few_bitmaps in
    let given = spec_of-spelled text spec (printed-spelled spec h.given) in
    let limit = all_within rows bitmaps few_rows h.each in
    let small = places_fit start bitmaps limit (omega arith) in
    let right = places_good start (start + length body) bitmaps refl in
    let size : length parts + 24 ≡ size_of front = omega (arith, length-parts text edges places) in
    let minus : length places - 1 ≡ m = omega arith in
    ap (λ k. head_in rows ((front_bytes rows n k (length text) ++ parts) ++ body)) minus
    ∙ ap (head_in rows) (append_assoc (front_bytes rows n m (length text)) parts body)
    ∙ whole_again rows front (front_bytes rows n m (length text)) parts body (record { spec = spec; bins = edges; places = places })
    (length-front rows n m (length text)) (front_again rows n m (length text) (omega arith) few_n few_m (omega arith)) size
    (parts_again (start + length body) m spec edges places given h.ordered fit h.counted count small right)
  where
    all_within : (rows : ℕ) (bitmaps : List (List Bool)) → rows ≤ 4194304 → AllByRecursion (λ bits. length bits ≡ rows) bitmaps → AllByRecursion (λ bits. length bits ≤ 4194304) bitmaps
    all_within rows [] few h = tt
    all_within rows (b ∷ bs) few h = let same = h.0 in (omega arith, all_within rows bs few h.1)
