-- The list of entries of a store in memory, and the map and the reads that it stands for.
use Rattle.std.proofs.Common.{◌≡◌, ◌<◌, ◌≤◌, ◌+◌, ◌||◌, not, nat_lt, IsSome, is_some, take, drop, take-append-drop, drop-drop, length-drop, take_at, ℕ, zero, suc, Bool, true, false, cond, List, [], ◌∷◌, ◌++◌, length, get_or, set, map, Some, None, option_map, unwrap_or, bytes_eq, refl, sym, ap, subst, ◌∙◌, arith, nat_cmp, add-one}
use Rattle.std.specs.Cmp.Lexicographic.{slice_cmp, texts_ties}
use Rattle.std.specs.FinMap.{insert, from_entries, find, get-from_entries, get-insert, same_map, nat_cmp-IsAntisymmetric, slice_cmp-IsAntisymmetric}
use Rattle.std.specs.List.{AllByRecursion}
use Rattle.std.proofs.lemmas.List.{map-append, length-take-le}
use Rattle.std.proofs.lemmas.Cmp.{nat_list_cmp_total}
use Rattle.std.proofs.lemmas.Slice.Eq.{bytes_eq-Decides}
use Rattle.fb_outside.specs.Files.{Files, file_at, Puts}
use Rattle.fb_outside.specs.Reads.{Look, AddsRead}
use Rattle.fb_outside.specs.Memory.{Entry, Noted, bytes_in, place_of, put_entry, name_at, look_of, noted, reads_in}
use Rattle.fb_outside.specs.declared.read_note.ReadNote.{ReadNote}

find_bytes : (es : List Entry) (name : List ℕ) → find (slice_cmp nat_cmp) name es ≡ bytes_in es name
find_bytes [] name = refl
find_bytes (e ∷ es) name = λ i. cond (sym (texts_ties name e.0) i) (Some e.1) (find_bytes es name i)

pub file_at-from_entries : (es : List Entry) (name : List ℕ) → file_at (from_entries es) name ≡ bytes_in es name
file_at-from_entries es name = get-from_entries nat_list_cmp_total es name ∙ find_bytes es name

-- the place of a name is below the number of entries, and has that name
pub place_name : (es : List Entry) (name : List ℕ) (k : ℕ) → place_of es name ≡ Some k → name_at es k ≡ Some name
place_name [] name k h = absurd (cc)
place_name (e ∷ es) name k h =
    elim (bytes_eq name e.0) as (λ b. bytes_eq name e.0 ≡ b → cond b (Some 0) (option_map (λ j. j + 1) (place_of es name)) ≡ Some k → name_at (e ∷ es) k ≡ Some name) [
      | true ↦ λ t is.
          let same : name ≡ e.0 = (bytes_eq-Decides name e.0).0 t in
          let zero_is : 0 ≡ k = cc in
          subst (λ j. name_at (e ∷ es) j ≡ Some name) zero_is (ap Some (sym same))
      | false ↦ λ t is.
          elim (place_of es name) as (λ p. place_of es name ≡ p → option_map (λ j. j + 1) p ≡ Some k → name_at (e ∷ es) k ≡ Some name) [
            | None ↦ λ q none. absurd (cc)
            | Some j ↦ λ q some.
                let next : j + 1 ≡ k = cc in
                let next_suc : suc j ≡ k = sym (add-one j) ∙ next in
                subst (λ i. name_at (e ∷ es) i ≡ Some name) next_suc (place_name es name j q)
          ] refl is
    ] refl h

-- bytes put at the name of an entry
pub put_entry_at : (es : List Entry) (name bytes : List ℕ) (k : ℕ) (e : Entry) → place_of es name ≡ Some k → e ≡ get_or es k e
    → put_entry es name bytes ≡ set es k (e.0, bytes)
put_entry_at [] name bytes k e h is = absurd (cc)
put_entry_at (x ∷ es) name bytes k e h is =
    elim (bytes_eq name x.0) as (λ b. bytes_eq name x.0 ≡ b → cond b (Some 0) (option_map (λ j. j + 1) (place_of es name)) ≡ Some k
    → cond b ((x.0, bytes) ∷ es) (x ∷ put_entry es name bytes) ≡ set (x ∷ es) k (e.0, bytes)) [
      | true ↦ λ t p.
          let zero_is : 0 ≡ k = cc in
          let here : e ≡ x = is ∙ ap (λ j. get_or (x ∷ es) j e) (sym zero_is) in
          ap (λ y. (y, bytes) ∷ es) (ap (λ y. y.0) (sym here)) ∙ ap (λ j. set (x ∷ es) j (e.0, bytes)) zero_is
      | false ↦ λ t p.
          elim (place_of es name) as (λ q. place_of es name ≡ q → option_map (λ j. j + 1) q ≡ Some k → x ∷ put_entry es name bytes ≡ set (x ∷ es) k (e.0, bytes)) [
            | None ↦ λ q none. absurd (cc)
            | Some j ↦ λ q some.
                let next : j + 1 ≡ k = cc in
                let next_suc : suc j ≡ k = sym (add-one j) ∙ next in
                let there : e ≡ get_or es j e = is ∙ ap (λ i. get_or (x ∷ es) i e) (sym next_suc) in
                ap (λ rest. x ∷ rest) (put_entry_at es name bytes j e q there) ∙ ap (λ i. set (x ∷ es) i (e.0, bytes)) next_suc
          ] refl p
    ] refl h

-- bytes put at a new name
pub put_entry_new : (es : List Entry) (name bytes : List ℕ) → place_of es name ≡ None → put_entry es name bytes ≡ es ++ (name, bytes) ∷ []
put_entry_new [] name bytes h = refl
put_entry_new (x ∷ es) name bytes h =
    elim (bytes_eq name x.0) as (λ b. cond b (Some 0) (option_map (λ j. j + 1) (place_of es name)) ≡ None
    → cond b ((x.0, bytes) ∷ es) (x ∷ put_entry es name bytes) ≡ x ∷ (es ++ (name, bytes) ∷ [])) [
      | true ↦ λ none. absurd (cc)
      | false ↦ λ none.
          elim (place_of es name) as (λ q. place_of es name ≡ q → option_map (λ j. j + 1) q ≡ None → x ∷ put_entry es name bytes ≡ x ∷ (es ++ (name, bytes) ∷ [])) [
            | None ↦ λ q is. ap (λ rest. x ∷ rest) (put_entry_new es name bytes q)
            | Some j ↦ λ q is. absurd (cc)
          ] refl none
    ] h

-- what is found after that
bytes_in-put_entry : (es : List Entry) (name bytes q : List ℕ) → bytes_in (put_entry es name bytes) q ≡ cond (bytes_eq q name) (Some bytes) (bytes_in es q)
bytes_in-put_entry [] name bytes q = refl
bytes_in-put_entry (e ∷ es) name bytes q =
    elim (bytes_eq name e.0) as (λ b. bytes_eq name e.0 ≡ b → bytes_in (cond b ((e.0, bytes) ∷ es) (e ∷ put_entry es name bytes)) q
    ≡ cond (bytes_eq q name) (Some bytes) (cond (bytes_eq q e.0) (Some e.1) (bytes_in es q))) [
      | true ↦ λ t.
          let same : name ≡ e.0 = (bytes_eq-Decides name e.0).0 t in
          subst (λ n. cond (bytes_eq q n) (Some bytes) (bytes_in es q) ≡ cond (bytes_eq q name) (Some bytes) (cond (bytes_eq q n) (Some e.1) (bytes_in es q))) same
          (shadowed (bytes_eq q name) (Some bytes) (Some e.1) (bytes_in es q))
      | false ↦ λ t.
          ap (cond (bytes_eq q e.0) (Some e.1)) (bytes_in-put_entry es name bytes q)
          ∙ swapped (bytes_eq q e.0) (bytes_eq q name) (Some e.1) (Some bytes) (bytes_in es q)
          (λ here there. apart q name e.0 t here there)
    ] refl
  where
    shadowed : {A : Type 0} (b : Bool) (x y z : A) → cond b x z ≡ cond b x (cond b y z)
    shadowed true x y z = refl
    shadowed false x y z = refl

    swapped : {A : Type 0} (a b : Bool) (x y z : A) → (a ≡ true → b ≡ true → ⊥) → cond a x (cond b y z) ≡ cond b y (cond a x z)
    swapped true true x y z h = absurd (h refl refl)
    swapped true false x y z h = refl
    swapped false true x y z h = refl
    swapped false false x y z h = refl

    apart : (q name k : List ℕ) → bytes_eq name k ≡ false → bytes_eq q k ≡ true → bytes_eq q name ≡ true → ⊥
    apart q name k unlike here there =
        let same : name ≡ k = sym ((bytes_eq-Decides q name).0 there) ∙ (bytes_eq-Decides q k).0 here in
        let yes : bytes_eq name k ≡ true = (bytes_eq-Decides name k).1 same in cc

-- to put an entry is to insert it
pub from_entries-put_entry : (es : List Entry) (name bytes : List ℕ)
    → from_entries {R = slice_cmp nat_cmp} (put_entry es name bytes) ≡ insert (from_entries es) name bytes
from_entries-put_entry es name bytes =
    same_map nat_list_cmp_total (slice_cmp-IsAntisymmetric nat_cmp-IsAntisymmetric) _ _ (λ q.
    file_at-from_entries (put_entry es name bytes) q ∙ bytes_in-put_entry es name bytes q
    ∙ sym (get-insert nat_list_cmp_total (from_entries es) name bytes q
    ∙ (λ i. cond (sym (texts_ties q name) i) (Some bytes) (file_at-from_entries es q i))))

-- the entries that are there keep their names
pub name_at-put_entry : (es : List Entry) (name bytes : List ℕ) (k : ℕ) → k < length es → name_at (put_entry es name bytes) k ≡ name_at es k
name_at-put_entry [] name bytes k h = absurd (omega arith)
name_at-put_entry (e ∷ es) name bytes zero h =
    elim (bytes_eq name e.0) as (λ b. name_at (cond b ((e.0, bytes) ∷ es) (e ∷ put_entry es name bytes)) 0 ≡ Some e.0) [ true ↦ refl | false ↦ refl ]
name_at-put_entry (e ∷ es) name bytes (suc k) h =
    elim (bytes_eq name e.0) as (λ b. name_at (cond b ((e.0, bytes) ∷ es) (e ∷ put_entry es name bytes)) (suc k) ≡ name_at es k) [
      | true ↦ refl
      | false ↦ name_at-put_entry es name bytes k (omega arith)
    ]

pub length-put_entry : (es : List Entry) (name bytes : List ℕ) → length es ≤ length (put_entry es name bytes)
length-put_entry [] name bytes = omega arith
length-put_entry (e ∷ es) name bytes =
    elim (bytes_eq name e.0) as (λ b. length (e ∷ es) ≤ length (cond b ((e.0, bytes) ∷ es) (e ∷ put_entry es name bytes))) [
      | true ↦ omega arith
      | false ↦ omega (arith, length-put_entry es name bytes)
    ]

-- each note is of an entry that is there
abbrev pub AreWithin : ℕ → List ReadNote → Type 0
AreWithin n notes = AllByRecursion (λ note. note.file < n) notes

pub AreWithin-more : (m n : ℕ) (notes : List ReadNote) → m ≤ n → AreWithin m notes → AreWithin n notes
AreWithin-more m n [] h w = tt
AreWithin-more m n (note ∷ notes) h w = (let here : note.file < m = w.0 in omega arith, AreWithin-more m n notes h w.1)

pub AreWithin-push : (n : ℕ) (notes : List ReadNote) (note : ReadNote) → AreWithin n notes → note.file < n → AreWithin n (notes ++ note ∷ [])
AreWithin-push n [] note w h = (h, tt)
AreWithin-push n (x ∷ notes) note w h = (w.0, AreWithin-push n notes note w.1 h)

-- the reads stay what they were
pub looks-put_entry : (es : List Entry) (name bytes : List ℕ) (notes : List ReadNote) → AreWithin (length es) notes
    → map (look_of (put_entry es name bytes)) notes ≡ map (look_of es) notes
looks-put_entry es name bytes [] w = refl
looks-put_entry es name bytes (note ∷ notes) w =
    λ i. record { name = unwrap_or (name_at-put_entry es name bytes note.file w.0 i) []; offset = note.at; room = note.length }
    ∷ looks-put_entry es name bytes notes w.1 i

-- told reads after one more note
told_more : (over fits : Bool) (es : List Entry) (notes : List ReadNote) (note : ReadNote) (look : Look) → look_of es note ≡ look
    → IsSome (cond (over || not fits) None (Some (map (look_of es) (cond fits (notes ++ note ∷ []) notes))))
    → cond (over || not fits) None (Some (map (look_of es) (cond fits (notes ++ note ∷ []) notes)))
    ≡ option_map (λ before. before ++ look ∷ []) (cond over None (Some (map (look_of es) notes)))
told_more true fits es notes note look e h = absurd (cc)
told_more false true es notes note look e h =
    ap Some (map-append (look_of es) notes (note ∷ []) ∙ ap (λ l. map (look_of es) notes ++ l ∷ []) e)
told_more false false es notes note look e h = absurd (cc)

-- one more note, where the looked at name has a file
pub adds_note : (es : List Entry) (before : Noted) (files : Files) (name : List ℕ) (file offset room : ℕ)
    → place_of es name ≡ Some file → is_some (file_at files name) ≡ true
    → AddsRead (Some files) (reads_in es before)
    (reads_in es (noted before (record { file = file; at = offset; length = room })))
    (record { name = name; offset = offset; room = room })
adds_note es before files name file offset room place there = record {
  added = (record { name = name; offset = offset; room = room }) ∷ [];
  each = ap (λ b. cond b ((record { name = name; offset = offset; room = room }) ∷ []) []) (sym there);
  told = told_more before.over (nat_lt (length before.notes) before.room) es before.notes (record { file = file; at = offset; length = room })
      (record { name = name; offset = offset; room = room })
      (λ i. record { name = unwrap_or (place_name es name file place i) []; offset = offset; room = room });
}

-- what is moved out of the front, and what is left behind it
pub takes_front : (bytes buf copied : List ℕ) (at n : ℕ) → at + n ≤ length bytes → copied ≡ take n (drop at bytes)
    → drop at bytes ≡ take n (copied ++ drop n buf) ++ drop (at + n) bytes
takes_front bytes buf copied at n h is =
    let fits : n ≤ length (drop at bytes) = omega (arith, length-drop at bytes) in
    let size : length copied ≡ n = ap length is ∙ length-take-le n (drop at bytes) fits in
    let front : take n (copied ++ drop n buf) ≡ copied = take_at copied (drop n buf) n size in
    sym (take-append-drop n (drop at bytes)) ∙ (λ i. sym (front ∙ is) i ++ drop-drop n at bytes i)

-- what a put of an entry does to the map and to the reads
pub puts_entry : (new es : List Entry) (name bytes : List ℕ) → new ≡ put_entry es name bytes
    → Puts (Some (from_entries es)) (Some (from_entries new)) name bytes
puts_entry new es name bytes h = ap Some (ap from_entries h ∙ from_entries-put_entry es name bytes)

pub keeps_reads : (new es : List Entry) (name bytes : List ℕ) (n : Noted) → new ≡ put_entry es name bytes → AreWithin (length es) n.notes
    → reads_in new n ≡ reads_in es n
keeps_reads new es name bytes n h w =
    ap (λ l. reads_in l n) h ∙ ap (λ l. cond n.over None (Some l)) (looks-put_entry es name bytes n.notes w)

pub stays_within : (new es : List Entry) (name bytes : List ℕ) (notes : List ReadNote) → new ≡ put_entry es name bytes → AreWithin (length es) notes
    → AreWithin (length new) notes
stays_within new es name bytes notes h w =
    AreWithin-more (length es) (length new) notes (rw h (length-put_entry es name bytes)) w
