-- What a gatherer keeps of a column, and when it is that of a column.
use Rattle.std.specs.Prelude.{◌≡◌, ℕ, suc, Bool, false, if◌then◌else◌, ⊤, List, [], ◌∷◌, map, Option, Some, None, ℤ}
use Rattle.std.specs.List.{list_any, AllByRecursion}
use Rattle.std.specs.Int.{int_min, int_max}
use Rattle.std.specs.Ordering.{int_eq}
use Rattle.std.specs.HashMap.{get, HashMap}
use Rattle.std.specs.declared.hash.FoldHasher.{FoldHasher}
use Rattle.std.specs.declared.hash.BuildHasherDefault.{BuildHasherDefault}
use Rattle.binning.specs.Keys.{key}
use Rattle.binning.specs.Bins.{present, values_with, least_of, greatest_of}
use Rattle.binning.specs.declared.rules.Keying.{Keying}
use Rattle.binning.specs.declared.groups.Group.{Group}

-- the rule; of each key its group; of each row the place of its key's group
pub record Held : Type 0 where
  pub rule : Keying
  pub groups : List Group
  pub places : List ℕ

abbrev pub keys_in : List Group → List ℤ
keys_in groups = map (λ g. g.key) groups

abbrev pub held : Keying → List Group → List ℕ → Held
held rule groups places = record { rule = rule; groups = groups; places = places }

-- whether a list has the number
abbrev pub is_in : ℤ → List ℤ → Bool
is_in k ks = list_any (int_eq k) ks

-- no number twice
abbrev pub AreDistinct : List ℤ → Type 0
AreDistinct [] = ⊤
AreDistinct (k ∷ ks) = (is_in k ks ≡ false) × AreDistinct ks

-- the place of the first number of a list that is this one; how many there are, if none is
abbrev pub place_in : ℤ → List ℤ → ℕ
place_in k [] = 0
place_in k (x ∷ ks) = if int_eq k x then 0 else suc (place_in k ks)

-- the group of a key: the least and the greatest value with it
abbrev pub group_of : Keying → List (Option ℤ) → ℤ → Group
group_of keys column k = record {
  key = k;
  least = least_of (values_with keys k column);
  greatest = greatest_of (values_with keys k column);
}

-- the place of a cell's key among these; without a value 2^32 - 1
abbrev pub place_of : Keying → List ℤ → Option ℤ → ℕ
place_of keys ks None = 4294967295
place_of keys ks (Some v) = place_in (key keys v) ks

-- What is kept is that of the column: a group for each key that a value has, and the places of the rows.
pub record Gathered (held : Held) (column : List (Option ℤ)) : Type 0 where
  pub distinct : AreDistinct (keys_in held.groups)
  pub keys : (k : ℤ) → is_in k (keys_in held.groups) ≡ is_in k (map (key held.rule) (present column))
  pub groups : AllByRecursion (λ g. g ≡ group_of held.rule column g.key) held.groups
  pub places : held.places ≡ map (place_of held.rule (keys_in held.groups)) column

-- ---- the map from keys to places

abbrev pub Known : Type 0
Known = HashMap ℤ ℕ (BuildHasherDefault FoldHasher)

-- the map gives of each key its place among these
abbrev pub Knows : Known → List ℤ → Type 0
Knows known ks = (k : ℤ) → get int_eq known k ≡ (if is_in k ks then Some (place_in k ks) else None)

-- ---- one more row

abbrev pub grown_group : Group → ℤ → Group
grown_group g v = record { key = g.key; least = int_min g.least v; greatest = int_max g.greatest v }

-- the groups with a further value of this key, whose group is the last where it is new
abbrev pub with_value : List Group → ℤ → ℤ → List Group
with_value [] k v = record { key = k; least = v; greatest = v } ∷ []
with_value (g ∷ groups) k v = if int_eq k g.key then grown_group g v ∷ groups else g ∷ with_value groups k v

-- the groups with the value of a further cell
abbrev pub groups_after : Keying → List Group → Option ℤ → List Group
groups_after keys gs None = gs
groups_after keys gs (Some v) = with_value gs (key keys v) v
