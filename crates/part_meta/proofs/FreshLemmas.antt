-- Columns with distinct names: fewer than 255 always leave a name for one more.
use Rattle.std.proofs.Common.{◌≡◌, ◌≢◌, ◌⊎◌, inl, inr, ℕ, zero, suc, ◌+◌, ◌/◌, ◌%◌, ◌<◌, ◌≤◌, true, List, [], ◌∷◌, ◌++◌, length, map, refl, sym, ap, ◌∙◌, subst, arith, append_assoc, append-nil, bytes_eq}
use Rattle.std.specs.List.{All, AllByRecursion}
use Rattle.std.proofs.lemmas.Bool.{both_ways, cases_Bool}
use Rattle.std.proofs.lemmas.Bool.Decides.{nat_tests}
use Rattle.std.proofs.lemmas.List.{length-append, length-map, length_push}
use Rattle.std.proofs.lemmas.List.Elements.{All-append, All-cons, All-nil, All-from_recursion}
use Rattle.std.proofs.lemmas.List.Quantifiers.{all_pairs_push}
use Rattle.std.proofs.lemmas.Slice.Eq.{bytes_eq-Decides}
use Rattle.fb_types.specs.Names.{IsColumnName, continues_name, keywords}
use Rattle.fb_types.specs.declared.schemas.Column.{Column}
use Rattle.fb_types.specs.declared.types.ColType.TheVariants.{Int}
use Rattle.part_meta.specs.FileNames.{four_digits}
use Rattle.part_meta.specs.PartFront.{AreColumns}
use Rattle.part_meta.proofs.DigitLemmas.{four_digits-injective}

-- ---- a name that isn't among these

-- `_` (95) and four digits
abbrev candidate : ℕ → List ℕ
candidate n = 95 ∷ four_digits n

continues_digit : (n : ℕ) → continues_name (48 + n % 10) ≡ true
continues_digit n = grind (arith, nat_tests)

candidate_is_name : (n : ℕ) → IsColumnName (candidate n)
unfolding keywords
candidate_is_name n = rw (continues_digit (n / 1000), continues_digit (n / 100), continues_digit (n / 10), continues_digit n) refl

candidate-injective : (m n : ℕ) → m < 10000 → n < 10000 → candidate m ≡ candidate n → m ≡ n
candidate-injective m n a b e = four_digits-injective m n a b (cc)

record IsAmong (x : List ℕ) (names : List (List ℕ)) : Type 0 where
  front : List (List ℕ)
  back : List (List ℕ)
  joined : names ≡ front ++ x ∷ back

abbrev NoneIs : List ℕ → List (List ℕ) → Type 0
NoneIs x names = AllByRecursion (λ y. y ≢ x) names

among_more : (x y : List ℕ) (ys : List (List ℕ)) → y ≢ x → IsAmong x ys ⊎ NoneIs x ys → IsAmong x (y ∷ ys) ⊎ NoneIs x (y ∷ ys)
among_more x y ys other (inl among) = inl (record { front = y ∷ among.front; back = among.back; joined = ap (λ t. y ∷ t) among.joined })
among_more x y ys other (inr none) = inr (other, none)

among_or_none : (x : List ℕ) (names : List (List ℕ)) → IsAmong x names ⊎ NoneIs x names
among_or_none x [] = inr tt
among_or_none x (y ∷ ys) =
    elim (cases_Bool (bytes_eq y x)) [
      | inl same ↦ inl (record { front = []; back = ys; joined = ap (λ t. t ∷ ys) ((bytes_eq-Decides y x).0 same) })
      | inr other ↦ among_more x y ys (λ e. both_ways (bytes_eq y x) other ((bytes_eq-Decides y x).1 e)) (among_or_none x ys)
    ]

none_inserted : (x y : List ℕ) (front back : List (List ℕ)) → y ≢ x → NoneIs x (front ++ back) → NoneIs x (front ++ y ∷ back)
none_inserted x y [] back other none = (other, none)
none_inserted x y (z ∷ zs) back other none = (none.0, none_inserted x y zs back other none.1)

record IsFresh (most : ℕ) (names : List (List ℕ)) : Type 0 where
  number : ℕ
  small : number ≤ most
  none : NoneIs (candidate number) names

fresh_but_last : (n : ℕ) (names : List (List ℕ)) (a : IsAmong (candidate (suc n)) names) → suc n < 10000 → IsFresh n (a.front ++ a.back) → IsFresh (suc n) names
fresh_but_last n names a small f = record {
  number = f.number;
  small = omega (arith, f.small);
  none =
      (let other : candidate (suc n) ≢ candidate f.number = λ e. (let same : suc n ≡ f.number = candidate-injective (suc n) f.number small (omega (arith, f.small)) e in absurd (omega (arith, f.small))) in
      let P : List (List ℕ) → Type 0 = λ t. NoneIs (candidate f.number) t in
      subst P (sym a.joined) (none_inserted (candidate f.number) (candidate (suc n)) a.front a.back other f.none));
}

-- so many names don't hold one more candidate
fresh : (n : ℕ) (names : List (List ℕ)) → n < 10000 → length names ≤ n → IsFresh n names
fresh zero [] small few = record { number = 0; small = omega arith; none = tt }
fresh zero (y ∷ ys) small few = absurd (omega arith)
fresh (suc n) names small few =
    elim (among_or_none (candidate (suc n)) names) [
      | inl a ↦ fresh_but_last n names a small (fresh n (a.front ++ a.back) (omega arith)
          (omega (arith, ap length a.joined, length-append a.front (candidate (suc n) ∷ a.back), length-append a.front a.back)))
      | inr none ↦ record { number = suc n; small = omega arith; none = none }
    ]

-- ---- a column with such a name

other_names : (x : List ℕ) (columns : List Column) → NoneIs x (map (λ c. c.name) columns) → AllByRecursion (λ c. c.name ≢ x) columns
other_names x [] h = tt
other_names x (c ∷ cs) h = (h.0, other_names x cs h.1)

pub record NewName (columns : List Column) : Type 0 where
  pub name : List ℕ
  pub named : IsColumnName name
  pub new : All (λ c. c.name ≢ name) columns

pub new_name : (columns : List Column) → length columns < 255 → NewName columns
new_name columns few =
    let f = fresh 254 (map (λ c. c.name) columns) (omega arith) (omega (arith, length-map columns (λ c. c.name))) in
    record {
      name = candidate f.number;
      named = candidate_is_name f.number;
      new = All-from_recursion (λ c. c.name ≢ candidate f.number) columns (other_names (candidate f.number) columns f.none);
    }

-- ---- columns that grow

pub AreColumns-none : AreColumns []
AreColumns-none = record { named = All-nil (λ c. IsColumnName c.name); distinct = λ i j d low high. absurd (omega (arith, high)) }

pub AreColumns-push : (columns : List Column) (column : Column) → AreColumns columns → IsColumnName column.name → All (λ c. c.name ≢ column.name) columns → AreColumns (columns ++ column ∷ [])
AreColumns-push columns column are named new =
    let Named : Column → Type 0 = λ c. IsColumnName c.name in
    record {
      named = All-append Named columns (column ∷ []) are.named (All-cons Named column [] named (All-nil Named));
      distinct = all_pairs_push (λ a b. a.name ≢ b.name) columns column are.distinct (λ k d within. new k d within);
    }

pub record Grows (columns : List Column) (count : ℕ) : Type 0 where
  pub more : List Column
  pub are : AreColumns (columns ++ more)
  pub long : length (columns ++ more) ≡ count

grows_by : (columns : List Column) (column : Column) (count : ℕ) → Grows (columns ++ column ∷ []) count → Grows columns count
grows_by columns column count g =
    let same : (columns ++ column ∷ []) ++ g.more ≡ columns ++ column ∷ g.more = append_assoc columns (column ∷ []) g.more in
    record {
      more = column ∷ g.more;
      are = subst AreColumns same g.are;
      long = ap length (sym same) ∙ g.long;
    }

-- to any number up to 255
pub grow : (k : ℕ) (columns : List Column) (count : ℕ) → AreColumns columns → length columns + k ≡ count → count ≤ 255 → Grows columns count
grow zero columns count are long few =
    let same : columns ≡ columns ++ [] = sym (append-nil columns) in
    record { more = []; are = subst AreColumns same are; long = omega (arith, ap length same) }
grow (suc k) columns count are long few =
    let n = new_name columns (omega arith) in
    let column : Column = record { name = n.name; ty = Int } in
    grows_by columns column count
    (grow k (columns ++ column ∷ []) count (AreColumns-push columns column are n.named n.new) (omega (arith, length_push columns column)) few)
