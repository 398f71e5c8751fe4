-- Names that are free to stand after others, column by column, are those of a schema.
use Rattle.std.proofs.Common.{◌≡◌, ◌≢◌, ℕ, zero, suc, ◌≤◌, Bool, true, false, ◌||◌, List, [], ◌∷◌, ◌++◌, length, get_or, refl, sym, ◌∙◌, arith}
use Rattle.std.specs.List.{All, AllPairs, list_any}
use Rattle.std.specs.Str.{bytes_eq}
use Rattle.std.proofs.lemmas.List.Elements.{All-cons, All-head, All-tail}
use Rattle.std.proofs.lemmas.List.Folds.{list_any-append}
use Rattle.std.proofs.lemmas.List.Kept.{AllPairs-cons}
use Rattle.std.proofs.lemmas.Slice.Eq.{bytes_eq-Decides}
use Rattle.fb_types.specs.declared.schemas.Column.{Column}
use Rattle.fb_types.specs.Names.{IsColumnName}
use Rattle.fb_types.specs.Schemas.{IsSchema}

-- each column has a name, which is neither taken nor an earlier one's
unfoldable pub AreFree : List (List ℕ) → List Column → Type 0
AreFree taken [] = Unit {0}
AreFree taken (column ∷ columns) =
    IsColumnName column.name × (list_any (bytes_eq column.name) taken ≡ false) × AreFree (taken ++ column.name ∷ []) columns

abbrev pub IsNamed : Column → Type 0
IsNamed column = IsColumnName column.name

abbrev pub IsUntaken : List (List ℕ) → Column → Type 0
IsUntaken taken column = list_any (bytes_eq column.name) taken ≡ false

abbrev pub AreDistinct : Column → Column → Type 0
AreDistinct a b = a.name ≢ b.name

pub record AreValid (taken : List (List ℕ)) (columns : List Column) : Type 0 where
  pub named : All IsNamed columns
  pub distinct : AllPairs AreDistinct columns
  pub untaken : All (IsUntaken taken) columns

or_left : (a b : Bool) → (a || b) ≡ false → a ≡ false
or_left true b h = h
or_left false b h = refl

or_right : (a b : Bool) → (a || b) ≡ false → b ≡ false
or_right true b h = cc
or_right false b h = h

differ : (a b : List ℕ) → bytes_eq a b ≡ false → a ≢ b
differ a b h same = let test : bytes_eq a b ≡ true = (bytes_eq-Decides a b).1 same in cc

same_not : (a b : List ℕ) → a ≢ b → bytes_eq a b ≡ false
same_not a b apart = by (bytes_eq a b) refl
  where
    by : (test : Bool) → bytes_eq a b ≡ test → test ≡ false
    by true is = absurd (apart ((bytes_eq-Decides a b).0 is))
    by false is = refl

-- what isn't among more names is not among the first, and isn't the last
untaken_less : (taken : List (List ℕ)) (name other : List ℕ) → list_any (bytes_eq name) (taken ++ other ∷ []) ≡ false → (list_any (bytes_eq name) taken ≡ false) × (bytes_eq name other ≡ false)
untaken_less taken name other h =
    let split : (list_any (bytes_eq name) taken || (bytes_eq name other || false)) ≡ false = sym (list_any-append (bytes_eq name) taken (other ∷ [])) ∙ h in
    (or_left _ _ split, or_left _ _ (or_right (list_any (bytes_eq name) taken) _ split))

untaken_more : (taken : List (List ℕ)) (name other : List ℕ) → list_any (bytes_eq name) taken ≡ false → bytes_eq name other ≡ false → list_any (bytes_eq name) (taken ++ other ∷ []) ≡ false
untaken_more taken name other here last = rw (list_any-append (bytes_eq name) taken (other ∷ []), here, last) refl

pub free-valid : (taken : List (List ℕ)) (columns : List Column) → AreFree taken columns → AreValid taken columns
unfolding AreFree
free-valid taken [] h = record { named = λ k d within. absurd (omega arith); distinct = λ i j d low within. absurd (omega arith); untaken = λ k d within. absurd (omega arith) }
free-valid taken (column ∷ columns) h =
    let rest = free-valid (taken ++ column.name ∷ []) columns h.2 in
    let apart : All (λ d. AreDistinct column d) columns =
    λ k d within. let two = untaken_less taken (get_or columns k d).name column.name (rest.untaken k d within) in λ same. differ (get_or columns k d).name column.name two.1 (sym same) in
    let others : All (IsUntaken taken) columns = λ k d within. (untaken_less taken (get_or columns k d).name column.name (rest.untaken k d within)).0 in
    record {
      named = All-cons IsNamed column columns h.0 rest.named;
      distinct = AllPairs-cons AreDistinct column columns apart rest.distinct;
      untaken = All-cons (IsUntaken taken) column columns h.1 others;
    }

pub valid-free : (taken : List (List ℕ)) (columns : List Column) → AreValid taken columns → AreFree taken columns
unfolding AreFree
valid-free taken [] h = tt
valid-free taken (column ∷ columns) h =
    let others : AreValid (taken ++ column.name ∷ []) columns = record {
      named = All-tail IsNamed column columns h.named;
      distinct = λ i j d low within. h.distinct (suc i) (suc j) d (omega (arith, low)) (omega (arith, within));
      untaken = λ k d within.
          let apart : bytes_eq (get_or columns k d).name column.name ≡ false =
          same_not (get_or columns k d).name column.name (λ same. h.distinct zero (suc k) d (omega arith) (omega (arith, within)) (sym same)) in
          untaken_more taken (get_or columns k d).name column.name (h.untaken (suc k) d (omega (arith, within))) apart;
    } in
    (All-head IsNamed column columns h.named, All-head (IsUntaken taken) column columns h.untaken, valid-free (taken ++ column.name ∷ []) columns others)

none_taken : (columns : List Column) → All (IsUntaken []) columns
none_taken columns = λ k d within. refl

pub schema-free : (columns : List Column) → IsSchema columns → AreFree [] columns
schema-free columns valid = valid-free [] columns (record { named = valid.named; distinct = valid.distinct; untaken = none_taken columns })

pub free-schema : (columns : List Column) → AreFree [] columns → 1 ≤ length columns → length columns ≤ 255 → IsSchema columns
free-schema columns free some few =
    let valid = free-valid [] columns free in
    record { some = some; few = few; named = valid.named; distinct = valid.distinct }
