-- What was opened, over files that are told.
use Rattle.std.proofs.Common.{◌≡◌, ℕ, zero, suc, ◌+◌, ◌-◌, ◌≤◌, inl, inr, Bool, true, false, cond, List, [], ◌∷◌, ◌++◌, length, get_or, take, drop, Option, Some, None, IfSome, option_map, unwrap_or, Result, Ok, Err, bytes_eq, nat_lt, ◌==◌, refl, sym, ap, subst, ◌∙◌, arith}
use Rattle.std.proofs.Math.Seq.{take-nil}
use Rattle.index_spec.specs.Printed.{printed}
use Rattle.index_spec.specs.declared.spec.Spec.{Spec}
use Rattle.fb_outside.specs.Files.{Files, bytes_at, file_at, told_at}
use Rattle.fb_outside.specs.Reads.{AddsOnly, AddsRead, Look}
use Rattle.fb_outside.proofs.ReadLemmas.{AddsOnly-read, AddsOnly-trans}
use Rattle.index_file.specs.Front.{front_in, number_at, of_rows, of_version, rest_size, size_of, sizes_at}
use Rattle.index_file.specs.IndexFile.{front_bytes, head_bytes, magic, parts_bytes}
use Rattle.index_file.specs.declared.edge.Edge.{Edge}
use Rattle.index_file.specs.Opening.{EndsBy, HasSizes, Head, IsAnswer, IsHeadLook, front_look, index_in, rest_look, some_head, with_front}
use Rattle.index_file.specs.Places.{first_wrong_place, head_size, last_place}
use Rattle.index_file.proofs.PlacesLemmas.{places_right}
use Rattle.index_file.specs.declared.front.Front.{Front}
use Rattle.index_file.specs.declared.fault.IndexFault.{IndexFault}
use Rattle.index_file.specs.declared.fault.IndexFault.TheVariants as fault

-- ---- what is told of the bytes of a file

no_file : (o : Option (List ℕ)) (bytes : List ℕ) → o ≡ None → o ≡ Some bytes → ⊥
no_file o bytes none some = cc

at_file : (Q : List ℕ → Type 0) (files : Option Files) (name bytes : List ℕ) (at most : ℕ) → told_at files name ≡ Some bytes
    → IfSome files (λ m. Q (bytes_at m name at most)) → Q (take most (drop at bytes))
at_file Q None name bytes at most e h = absurd (no_file (told_at None name) bytes refl e)
at_file Q (Some m) name bytes at most e h = subst Q (ap (λ o. take most (drop at (unwrap_or o []))) e) h

sized_file : (o : Option (List ℕ)) (rows size : ℕ) (r : Result (Option Head) IndexFault) → Some size ≡ option_map length o
    → IsAnswer r (some_head (with_front size (λ front. take (rest_size front) (drop 24 (unwrap_or o []))) (front_in rows (take 24 (unwrap_or o [])))))
    → IsAnswer r (index_in rows o)
sized_file None rows size r e h = absurd (cc)
sized_file (Some bytes) rows size r e h =
    let same : size ≡ length bytes = cc in
    subst (λ n. IsAnswer r (some_head (with_front n (λ front. take (rest_size front) (drop 24 bytes)) (front_in rows (take 24 bytes))))) same h

-- what a file of this size gives
pub opened_by : (files : Option Files) (name : List ℕ) (rows size : ℕ) (r : Result (Option Head) IndexFault)
    → IfSome files (λ m. Some size ≡ option_map length (file_at m name))
    → IfSome files (λ m. IsAnswer r (some_head (with_front size (λ front. bytes_at m name 24 (rest_size front)) (front_in rows (bytes_at m name 0 24)))))
    → IfSome files (λ m. IsAnswer r (index_in rows (file_at m name)))
opened_by None name rows size r e h = tt
opened_by (Some m) name rows size r e h = sized_file (file_at m name) rows size r e h

two_parts : (a b : ℕ) (bytes : List ℕ) → take (a + b) bytes ≡ take a bytes ++ take b (drop a bytes)
two_parts zero b bytes = let plain : 0 + b ≡ b = omega arith in ap (λ n. take n bytes) plain
two_parts (suc a) b [] = let more : suc a + b ≡ suc (a + b) = omega arith in ap (λ n. take {A = ℕ} n []) more ∙ sym (take-nil b)
two_parts (suc a) b (x ∷ xs) = let more : suc a + b ≡ suc (a + b) = omega arith in ap (λ n. take n (x ∷ xs)) more ∙ ap (λ r. x ∷ r) (two_parts a b xs)

-- the bytes of a head that were read in two parts
pub parts_read : (files : Option Files) (name : List ℕ) (rows size : ℕ) (front : Front) (spec : Spec) (edges : List Edge) (places : List ℕ)
    → IfSome files (λ m. bytes_at m name 0 24 ≡ front_bytes rows front.bins front.bitmaps front.text)
    → IfSome files (λ m. bytes_at m name 24 (rest_size front) ≡ parts_bytes (printed spec) edges places)
    → HasSizes front size (length (printed spec)) (length edges) places → get_or places 0 0 ≡ size_of front
    → IfSome files (λ m. bytes_at m name 0 (get_or places 0 0) ≡ head_bytes rows (printed spec) edges places)
unfolding head_bytes
parts_read None name rows size front spec edges places first second sizes start = tt
parts_read (Some m) name rows size front spec edges places first second sizes start =
    let bytes = unwrap_or (file_at m name) [] in
    let bitmaps = sizes.bitmaps in
    let count : front.bitmaps ≡ length places - 1 = omega arith in
    let whole : get_or places 0 0 ≡ 24 + rest_size front = start ∙ omega arith in
    ap (λ n. take n bytes) whole ∙ two_parts 24 (rest_size front) bytes
    ∙ ap (λ b. b ++ take (rest_size front) (drop 24 bytes)) first
    ∙ ap (λ b. front_bytes rows front.bins front.bitmaps front.text ++ b) second
    ∙ ap (λ n. front_bytes rows n front.bitmaps front.text ++ parts_bytes (printed spec) edges places) (sym sizes.bins)
    ∙ ap (λ n. front_bytes rows (length edges) n front.text ++ parts_bytes (printed spec) edges places) count
    ∙ ap (λ n. front_bytes rows (length edges) (length places - 1) n ++ parts_bytes (printed spec) edges places) (sym sizes.text)

-- ---- the sizes that the first bytes say

rows_sizes : (b : Bool) (bytes : List ℕ) (front : Front) (why : IndexFault) → cond b (Ok (sizes_at bytes)) (Err why) ≡ Ok front → front ≡ sizes_at bytes
rows_sizes true bytes front why h = cc
rows_sizes false bytes front why h = absurd (cc)

version_sizes : (b : Bool) (rows : ℕ) (bytes : List ℕ) (front : Front) (why : IndexFault) → cond b (of_rows rows (number_at 8 bytes) bytes) (Err why) ≡ Ok front → front ≡ sizes_at bytes
version_sizes true rows bytes front why h = rows_sizes (number_at 8 bytes == rows) bytes front (fault.Rows rows (number_at 8 bytes)) h
version_sizes false rows bytes front why h = absurd (cc)

magic_sizes : (b : Bool) (rows : ℕ) (bytes : List ℕ) (front : Front) → cond b (of_version rows (number_at 4 bytes) bytes) (Err fault.Magic) ≡ Ok front → front ≡ sizes_at bytes
magic_sizes true rows bytes front h = version_sizes (number_at 4 bytes == 1) rows bytes front (fault.Version (number_at 4 bytes)) h
magic_sizes false rows bytes front h = absurd (cc)

short_sizes : (b : Bool) (rows : ℕ) (bytes : List ℕ) (front : Front)
    → cond b (Err fault.Short) (cond (bytes_eq (take 4 bytes) magic) (of_version rows (number_at 4 bytes) bytes) (Err fault.Magic)) ≡ Ok front → front ≡ sizes_at bytes
short_sizes true rows bytes front h = absurd (cc)
short_sizes false rows bytes front h = magic_sizes (bytes_eq (take 4 bytes) magic) rows bytes front h

pub front_sizes : (rows : ℕ) (bytes : List ℕ) (front : Front) → front_in rows bytes ≡ Ok front → front ≡ sizes_at bytes
unfolding front_in
front_sizes rows bytes front h = short_sizes (nat_lt (length bytes) 24) rows bytes front h

-- ---- the reads of a head

front_within : (files : Option Files) (name : List ℕ) → IsHeadLook files name (front_look name)
front_within files name = record { of_it = refl; within = λ bytes told. inl (omega arith) }

rest_within : (files : Option Files) (name : List ℕ) (rows : ℕ) (front : Front) → IfSome files (λ m. front_in rows (bytes_at m name 0 24) ≡ Ok front)
    → IsHeadLook files name (rest_look name front)
rest_within files name rows front h = record {
  of_it = refl;
  within = λ bytes told.
      let says = at_file (λ b. front_in rows b ≡ Ok front) files name bytes 0 24 told h in
      let same = front_sizes rows (take 24 bytes) front says in
      let size : 24 + rest_size front ≤ size_of front = omega arith in
      inr (subst (λ f. 24 + rest_size front ≤ size_of f) same size);
}

-- both reads of a head
pub head_looks : (files : Option Files) (name : List ℕ) (rows : ℕ) (front : Front) (old mid new : Option (List Look))
    → IfSome files (λ m. front_in rows (bytes_at m name 0 24) ≡ Ok front) → AddsRead files old mid (front_look name) → AddsRead None mid new (rest_look name front)
    → AddsOnly (IsHeadLook files name) old new
head_looks files name rows front old mid new says first second =
    AddsOnly-trans (IsHeadLook files name) old mid new
    (AddsOnly-read (IsHeadLook files name) files old mid (front_look name) (front_within files name) first)
    (AddsOnly-read (IsHeadLook files name) None mid new (rest_look name front) (rest_within files name rows front says) second)

pub front_looks : (files : Option Files) (name : List ℕ) (old mid : Option (List Look)) → AddsRead files old mid (front_look name) → AddsOnly (IsHeadLook files name) old mid
front_looks files name old mid first = AddsOnly-read (IsHeadLook files name) files old mid (front_look name) (front_within files name) first

-- the same bytes by another name, of files that stayed
pub same_bytes : (old new : Option Files) (name : List ℕ) (at most : ℕ) (items parts : List ℕ) → new ≡ old → items ≡ parts
    → IfSome new (λ m. bytes_at m name at most ≡ items) → IfSome old (λ m. bytes_at m name at most ≡ parts)
same_bytes old new name at most items parts stayed same h =
    subst (λ f. IfSome f (λ m. bytes_at m name at most ≡ parts)) stayed (subst (λ l. IfSome new (λ m. bytes_at m name at most ≡ l)) same h)

-- the bitmaps begin where the head ends
pub start_is : (front : Front) (size text bins : ℕ) (places : List ℕ) → HasSizes front size text bins places
    → first_wrong_place (head_size text bins (length places - 1)) (last_place places) places ≡ None → get_or places 0 0 ≡ size_of front
start_is front size text bins places sizes right =
    let first = (places_right (head_size text bins (length places - 1)) (last_place places) places right).first in
    let t = sizes.text in
    let b = sizes.bins in
    let m = sizes.bitmaps in
    omega arith

-- both reads of a head end where it ends
pub head_ends : (files : Option Files) (name : List ℕ) (front : Front) (place : ℕ) (old mid new : Option (List Look)) → place ≡ size_of front
    → AddsRead files old mid (front_look name) → AddsRead None mid new (rest_look name front) → AddsOnly (EndsBy name place) old new
head_ends files name front place old mid new is first second =
    AddsOnly-trans (EndsBy name place) old mid new
    (AddsOnly-read (EndsBy name place) files old mid (front_look name) (record { of_it = refl; within = omega arith }) first)
    (AddsOnly-read (EndsBy name place) None mid new (rest_look name front) (record { of_it = refl; within = omega arith }) second)
