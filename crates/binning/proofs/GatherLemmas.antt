-- A gatherer is that of the column, with one row more; its bins are the column's.
use Rattle.std.proofs.Common.{◌≡◌, ℕ, zero, suc, ◌+◌, ◌<◌, ◌≤◌, Bool, true, false, ◌||◌, cond, eqb, List, [], ◌∷◌, ◌++◌, length, get_or, map, Option, Some, None, ℤ, pos, refl, sym, ap, subst, ◌∙◌, append-nil, arith}
use Rattle.std.specs.List.{AllByRecursion, fold, filter}
use Rattle.std.specs.Int.{int_min, int_max}
use Rattle.std.specs.Ordering.{int_eq}
use Rattle.std.proofs.lemmas.Bool.Decides.{nat_tests}
use Rattle.wah_words.specs.Limits.{most_bits}
use Rattle.binning.specs.Keys.{key}
use Rattle.binning.specs.Bins.{present, values_with, least_of, greatest_of, has_key, rows_with, bin_of, bins_of}
use Rattle.binning.specs.BinFor.{bin_for, no_group}
use Rattle.binning.specs.Gathered.{Held, Gathered, keys_in, is_in, AreDistinct, place_in, place_of, group_of, grown_group, with_value, groups_after, held}
use Rattle.binning.specs.Groups.{ByKey}
use Rattle.binning.specs.declared.groups.Group.{Group}
use Rattle.binning.specs.declared.groups.KeyPlace.{KeyPlace}
use Rattle.binning.specs.declared.rules.Keying.{Keying}
use Rattle.binning.proofs.TestLemmas.{either, not_both}
use Rattle.binning.proofs.KeyLemmas.{eq_from, eq_true, eq_self, eq_swap, is_in-append, is_in_again, or_left, or_right, rising_from}
use Rattle.binning.proofs.GroupLemmas.{place_at, place_longer, place_of_new, place_absent, keys_with, keys_new, with_new, distinct_push, keys_in-get, length-keys_in}

-- ---- a column with one row more

present-none : (column : List (Option ℤ)) → present (column ++ None ∷ []) ≡ present column
present-none [] = refl
present-none (None ∷ column) = present-none column
present-none (Some v ∷ column) = ap (λ vs. v ∷ vs) (present-none column)

present-some : (column : List (Option ℤ)) (v : ℤ) → present (column ++ Some v ∷ []) ≡ present column ++ v ∷ []
present-some [] v = refl
present-some (None ∷ column) v = present-some column v
present-some (Some w ∷ column) v = ap (λ vs. w ∷ vs) (present-some column v)

map-push : {X Y : Type 0} (f : X → Y) (xs : List X) (y : X) → map f (xs ++ y ∷ []) ≡ map f xs ++ f y ∷ []
map-push f [] y = refl
map-push f (x ∷ xs) y = ap (λ ys. f x ∷ ys) (map-push f xs y)

filter-push : (p : ℤ → Bool) (xs : List ℤ) (y : ℤ) → filter p (xs ++ y ∷ []) ≡ filter p xs ++ cond (p y) (y ∷ []) []
filter-push p [] y = refl
filter-push p (x ∷ xs) y =
    either (p x) (λ t. rw t (ap (λ ys. x ∷ ys) (filter-push p xs y))) (λ f. rw f (filter-push p xs y))

filter-none : (keys : Keying) (k : ℤ) (vs : List ℤ) → is_in k (map (key keys) vs) ≡ false → filter (λ v. int_eq (key keys v) k) vs ≡ []
filter-none keys k [] h = refl
filter-none keys k (v ∷ vs) h =
    let f : int_eq (key keys v) k ≡ false = eq_swap (key keys v) k ∙ either (int_eq k (key keys v)) (λ t. absurd (not_both (or_left (int_eq k (key keys v)) (is_in k (map (key keys) vs)) t) h)) (λ f. f) in
    let g : int_eq k (key keys v) ≡ false = eq_swap k (key keys v) ∙ f in
    rw f (filter-none keys k vs (sym (or_right (int_eq k (key keys v)) (is_in k (map (key keys) vs)) g) ∙ h))

fold-push : (f : ℤ → ℤ → ℤ) (a : ℤ) (xs : List ℤ) (y : ℤ) → fold f a (xs ++ y ∷ []) ≡ f (fold f a xs) y
fold-push f a [] y = refl
fold-push f a (x ∷ xs) y = fold-push f (f a x) xs y

-- the extremes with one value more, where there is one before
extremes-push : (vs : List ℤ) (v : ℤ) → (vs ≡ [] → ⊥) → (least_of (vs ++ v ∷ []) ≡ int_min (least_of vs) v) × (greatest_of (vs ++ v ∷ []) ≡ int_max (greatest_of vs) v)
extremes-push [] v some = absurd (some refl)
extremes-push (x ∷ vs) v some = (fold-push int_min x vs v, fold-push int_max x vs v)

pub values_some : (keys : Keying) (k : ℤ) (vs : List ℤ) → is_in k (map (key keys) vs) ≡ true → filter (λ v. int_eq (key keys v) k) vs ≡ [] → ⊥
values_some keys k [] h e = not_both h refl
values_some keys k (v ∷ vs) h e =
    either (int_eq (key keys v) k)
    (λ t. nonempty v (filter (λ v. int_eq (key keys v) k) vs) (rw t at e))
    (λ f. let g : int_eq k (key keys v) ≡ false = eq_swap k (key keys v) ∙ f in
    values_some keys k vs (sym (or_right (int_eq k (key keys v)) (is_in k (map (key keys) vs)) g) ∙ h) (rw f at e))
  where
    nonempty : (v : ℤ) (xs : List ℤ) → v ∷ xs ≡ [] → ⊥
    nonempty v xs e = cc

-- of another key nothing changes
group_other : (keys : Keying) (column : List (Option ℤ)) (v k : ℤ) → int_eq (key keys v) k ≡ false → group_of keys (column ++ Some v ∷ []) k ≡ group_of keys column k
group_other keys column v k other =
    let e : values_with keys k (column ++ Some v ∷ []) ≡ values_with keys k column =
    ap (filter (λ w. int_eq (key keys w) k)) (present-some column v) ∙ filter-push (λ w. int_eq (key keys w) k) (present column) v ∙ (rw other (append-nil (values_with keys k column))) in
    rw e refl

group_same : (keys : Keying) (column : List (Option ℤ)) (v k : ℤ) → int_eq (key keys v) k ≡ true → is_in k (map (key keys) (present column)) ≡ true → group_of keys (column ++ Some v ∷ []) k ≡ grown_group (group_of keys column k) v
group_same keys column v k same there =
    let e : values_with keys k (column ++ Some v ∷ []) ≡ values_with keys k column ++ v ∷ [] =
    ap (filter (λ w. int_eq (key keys w) k)) (present-some column v) ∙ filter-push (λ w. int_eq (key keys w) k) (present column) v ∙ (rw same refl) in
    let x = extremes-push (values_with keys k column) v (values_some keys k (present column) there) in
    rw (e, x.0, x.1) refl

group_new : (keys : Keying) (column : List (Option ℤ)) (v k : ℤ) → int_eq (key keys v) k ≡ true → is_in k (map (key keys) (present column)) ≡ false → group_of keys (column ++ Some v ∷ []) k ≡ record { key = k; least = v; greatest = v }
group_new keys column v k same absent =
    let e : values_with keys k (column ++ Some v ∷ []) ≡ values_with keys k column ++ v ∷ [] =
    ap (filter (λ w. int_eq (key keys w) k)) (present-some column v) ∙ filter-push (λ w. int_eq (key keys w) k) (present column) v ∙ (rw same refl) in
    rw (e, filter-none keys k (present column) absent) refl

-- each group of the column is one of the longer column
pub groups_more : (keys : Keying) (column : List (Option ℤ)) (v : ℤ) (gs : List Group) → ((k : ℤ) → is_in k (keys_in gs) ≡ true → is_in k (map (key keys) (present column)) ≡ true) → AreDistinct (keys_in gs) → AllByRecursion (λ g. g ≡ group_of keys column g.key) gs → is_in (key keys v) (keys_in gs) ≡ true → AllByRecursion (λ g. g ≡ group_of keys (column ++ Some v ∷ []) g.key) (with_value gs (key keys v) v)
groups_more keys column v [] among apart all there = absurd (not_both there refl)
groups_more keys column v (g ∷ gs) among apart all there =
    either (int_eq (key keys v) g.key)
    (λ t. rw t (first t, others gs all.1 (λ k h. apart_from k h t)))
    (λ f. rw f (
      all.0 ∙ sym (group_other keys column v g.key f),
      groups_more keys column v gs (λ k h. among k (later k h)) apart.1 all.1 (sym (or_right (int_eq (key keys v) g.key) (is_in (key keys v) (keys_in gs)) f) ∙ there),
    ))
  where
    first : int_eq (key keys v) g.key ≡ true → grown_group g v ≡ group_of keys (column ++ Some v ∷ []) g.key
    first t = ap (λ x. grown_group x v) all.0 ∙ sym (group_same keys column v g.key t (among g.key (or_left (int_eq g.key g.key) (is_in g.key (keys_in gs)) (eq_self g.key))))

    later : (k : ℤ) → is_in k (keys_in gs) ≡ true → is_in k (keys_in (g ∷ gs)) ≡ true
    later k h = either (int_eq k g.key) (λ t. or_left (int_eq k g.key) (is_in k (keys_in gs)) t) (λ f. or_right (int_eq k g.key) (is_in k (keys_in gs)) f ∙ h)

    apart_from : (k : ℤ) → is_in k (keys_in gs) ≡ true → int_eq (key keys v) g.key ≡ true → int_eq (key keys v) k ≡ false
    apart_from k h t = either (int_eq (key keys v) k)
        (λ u. let e : g.key ≡ k = sym (eq_from (key keys v) g.key t) ∙ eq_from (key keys v) k u in absurd (not_both h (subst (λ (z : ℤ). is_in z (keys_in gs) ≡ false) e apart.0)))
        (λ f. f)

    others : (hs : List Group) → AllByRecursion (λ g. g ≡ group_of keys column g.key) hs → ((k : ℤ) → is_in k (keys_in hs) ≡ true → int_eq (key keys v) k ≡ false) → AllByRecursion (λ g. g ≡ group_of keys (column ++ Some v ∷ []) g.key) hs
    others [] a o = tt
    others (h ∷ hs) a o =
        let f = o h.key (or_left (int_eq h.key h.key) (is_in h.key (keys_in hs)) (eq_self h.key)) in
        (a.0 ∙ sym (group_other keys column v h.key f), others hs a.1 (λ k i. o k (either (int_eq k h.key) (λ t. or_left (int_eq k h.key) (is_in k (keys_in hs)) t) (λ f. or_right (int_eq k h.key) (is_in k (keys_in hs)) f ∙ i))))

all_to : (P Q : Group → Type 0) (gs : List Group) → ((g : Group) → P g → Q g) → AllByRecursion P gs → AllByRecursion Q gs
all_to P Q [] h all = tt
all_to P Q (g ∷ gs) h all = (h g all.0, all_to P Q gs h all.1)

all_groups_push : (P : Group → Type 0) (gs : List Group) (g : Group) → AllByRecursion P gs → P g → AllByRecursion P (gs ++ g ∷ [])
all_groups_push P [] g all one = (one, tt)
all_groups_push P (x ∷ gs) g all one = (all.0, all_groups_push P gs g all.1 one)

group_none : (keys : Keying) (column : List (Option ℤ)) (k : ℤ) → group_of keys (column ++ None ∷ []) k ≡ group_of keys column k
group_none keys column k = rw (present-none column) refl

-- a new key's value changes no group
groups_new : (keys : Keying) (column : List (Option ℤ)) (v : ℤ) (gs : List Group) → is_in (key keys v) (keys_in gs) ≡ false → AllByRecursion (λ g. g ≡ group_of keys column g.key) gs → AllByRecursion (λ g. g ≡ group_of keys (column ++ Some v ∷ []) g.key) gs
groups_new keys column v [] absent all = tt
groups_new keys column v (g ∷ gs) absent all =
    let f : int_eq (key keys v) g.key ≡ false = either (int_eq (key keys v) g.key) (λ t. absurd (not_both (or_left (int_eq (key keys v) g.key) (is_in (key keys v) (keys_in gs)) t) absent)) (λ f. f) in
    (all.0 ∙ sym (group_other keys column v g.key f), groups_new keys column v gs (sym (or_right (int_eq (key keys v) g.key) (is_in (key keys v) (keys_in gs)) f) ∙ absent) all.1)

places_longer : (keys : Keying) (ks : List ℤ) (y : ℤ) (column : List (Option ℤ)) → ((q : ℤ) → is_in q (map (key keys) (present column)) ≡ true → is_in q ks ≡ true) → map (place_of keys (ks ++ y ∷ [])) column ≡ map (place_of keys ks) column
places_longer keys ks y [] h = refl
places_longer keys ks y (None ∷ column) h = ap (λ ps. 4294967295 ∷ ps) (places_longer keys ks y column h)
places_longer keys ks y (Some v ∷ column) h =
    let first = place_longer (key keys v) y ks (h (key keys v) (or_left (int_eq (key keys v) (key keys v)) (is_in (key keys v) (map (key keys) (present column))) (eq_self (key keys v)))) in
    let rest = places_longer keys ks y column (λ q t. h q (either (int_eq q (key keys v)) (λ u. or_left (int_eq q (key keys v)) (is_in q (map (key keys) (present column))) u) (λ f. or_right (int_eq q (key keys v)) (is_in q (map (key keys) (present column))) f ∙ t))) in
    rw (first, rest) refl

keys_push_present : (keys : Keying) (column : List (Option ℤ)) (v : ℤ) → map (key keys) (present (column ++ Some v ∷ [])) ≡ map (key keys) (present column) ++ key keys v ∷ []
keys_push_present keys column v = ap (map (key keys)) (present-some column v) ∙ map-push (key keys) (present column) v

pub distinct_with : (gs : List Group) (k v : ℤ) → AreDistinct (keys_in gs) → AreDistinct (keys_in (with_value gs k v))
distinct_with gs k v apart =
    either (is_in k (keys_in gs))
    (λ t. rw (keys_with gs k v t) apart)
    (λ f. rw (keys_new gs k v f) (distinct_push k (keys_in gs) apart f))

pub distinct_after : (keys : Keying) (gs : List Group) (c : Option ℤ) → AreDistinct (keys_in gs) → AreDistinct (keys_in (groups_after keys gs c))
distinct_after keys gs None apart = apart
distinct_after keys gs (Some v) apart = distinct_with gs (key keys v) v apart

pub length_with : (gs : List Group) (k v : ℤ) → length (with_value gs k v) ≤ length gs + 1
length_with [] k v = omega arith
length_with (g ∷ gs) k v =
    either (int_eq k g.key)
    (λ t. rw t (omega arith))
    (λ f. rw f (let r = length_with gs k v in omega arith))

pub length_after : (keys : Keying) (gs : List Group) (c : Option ℤ) → length (groups_after keys gs c) ≤ length gs + 1
length_after keys gs None = omega arith
length_after keys gs (Some v) = length_with gs (key keys v) v

pub gathered_more : (keys : Keying) (gs : List Group) (ps : List ℕ) (column : List (Option ℤ)) (c : Option ℤ) → Gathered (held keys gs ps) column → Gathered (held keys (groups_after keys gs c) (ps ++ place_of keys (keys_in gs) c ∷ [])) (column ++ c ∷ [])
gathered_more keys gs ps column None g = record {
  distinct = g.distinct;
  keys = λ k. g.keys k ∙ ap (λ vs. is_in k (map (key keys) vs)) (sym (present-none column));
  groups = all_to (λ x. x ≡ group_of keys column x.key) (λ x. x ≡ group_of keys (column ++ None ∷ []) x.key) gs (λ x e. e ∙ sym (group_none keys column x.key)) g.groups;
  places = rw g.places (sym (map-push (place_of keys (keys_in gs)) column None));
}
gathered_more keys gs ps column (Some v) g =
    either (is_in (key keys v) (keys_in gs)) (λ t. old_key t) (λ f. new_key f)
  where
    old_key : is_in (key keys v) (keys_in gs) ≡ true → Gathered (held keys (with_value gs (key keys v) v) (ps ++ place_in (key keys v) (keys_in gs) ∷ [])) (column ++ Some v ∷ [])
    old_key t =
        let same = keys_with gs (key keys v) v t in
        let there : is_in (key keys v) (map (key keys) (present column)) ≡ true = sym (g.keys (key keys v)) ∙ t in
        record {
          distinct = rw same g.distinct;
          keys = λ q. ap (λ ks. is_in q ks) same ∙ g.keys q ∙ is_in_again q (key keys v) (map (key keys) (present column)) there ∙ sym (is_in-append q (map (key keys) (present column)) (key keys v)) ∙ ap (λ ks. is_in q ks) (sym (keys_push_present keys column v));
          groups = groups_more keys column v gs (λ k h. sym (g.keys k) ∙ h) g.distinct g.groups t;
          places = rw (same, g.places) (sym (map-push (place_of keys (keys_in gs)) column (Some v)));
        }

    new_key : is_in (key keys v) (keys_in gs) ≡ false → Gathered (held keys (with_value gs (key keys v) v) (ps ++ place_in (key keys v) (keys_in gs) ∷ [])) (column ++ Some v ∷ [])
    new_key f =
        let longer = keys_new gs (key keys v) v f in
        let absent : is_in (key keys v) (map (key keys) (present column)) ≡ false = sym (g.keys (key keys v)) ∙ f in
        let last : place_in (key keys v) (keys_in gs) ≡ place_in (key keys v) (keys_in gs ++ key keys v ∷ []) = place_absent (key keys v) (keys_in gs) f ∙ sym (place_of_new (key keys v) (keys_in gs) f) in
        record {
          distinct = rw longer (distinct_push (key keys v) (keys_in gs) g.distinct f);
          keys = λ q. ap (λ ks. is_in q ks) longer ∙ is_in-append q (keys_in gs) (key keys v) ∙ ap (λ b. b || int_eq q (key keys v)) (g.keys q) ∙ sym (is_in-append q (map (key keys) (present column)) (key keys v)) ∙ ap (λ ks. is_in q ks) (sym (keys_push_present keys column v));
          groups = rw (with_new gs (key keys v) v f) (all_groups_push (λ x. x ≡ group_of keys (column ++ Some v ∷ []) x.key) gs (record { key = key keys v; least = v; greatest = v }) (groups_new keys column v gs f g.groups) (sym (group_new keys column v (key keys v) (eq_self (key keys v)) absent)));
          places = rw longer (ap (λ x. ps ++ x ∷ []) last ∙ ap (λ xs. xs ++ place_in (key keys v) (keys_in gs ++ key keys v ∷ []) ∷ []) (g.places ∙ sym (places_longer keys (keys_in gs) (key keys v) column (λ q h. g.keys q ∙ h))) ∙ sym (map-push (place_of keys (keys_in gs ++ key keys v ∷ [])) column (Some v)));
        }

pub gathered_none : (keys : Keying) (gs : List Group) (ps : List ℕ) → gs ≡ [] → ps ≡ [] → Gathered (held keys gs ps) []
gathered_none keys gs ps e f = rw (e, f) (record { distinct = tt; keys = λ k. refl; groups = tt; places = refl })

-- ---- the bins

pub place_get : (q : ℤ) (ks : List ℤ) (d : ℤ) → place_in q ks < length ks → get_or ks (place_in q ks) d ≡ q
place_get q [] d h = absurd (omega arith)
place_get q (x ∷ ks) d h =
    either (int_eq q x)
    (λ t. rw t (sym (eq_from q x t)))
    (λ f. rw f (place_get q ks d (let s : place_in q (x ∷ ks) ≡ suc (place_in q ks) = rw f refl in omega arith)))

has_place : (keys : Keying) (ks : List ℤ) (place : ℕ) (k d : ℤ) → AreDistinct ks → place < length ks → get_or ks place d ≡ k → length ks ≤ most_bits → (c : Option ℤ) → eqb (place_of keys ks c) place ≡ has_key keys k c
has_place keys ks place k d apart within e few None = far 4294967295 place (omega arith)
  where
    far : (a b : ℕ) → b < a → eqb a b ≡ false
    far a b h = grind (arith, nat_tests)
has_place keys ks place k d apart within e few (Some v) =
    either (int_eq (key keys v) k)
    (λ t. let p : place_in (key keys v) ks ≡ place = place_at ks place d (key keys v) apart within (e ∙ sym (eq_from (key keys v) k t)) in
    rw (t, p) (same place))
    (λ f. rw f (either (eqb (place_in (key keys v) ks) place)
    (λ u. let p : place_in (key keys v) ks ≡ place = equal (place_in (key keys v) ks) place u in
    let r : get_or ks place d ≡ key keys v = rw p at (place_get (key keys v) ks d (rw p within)) in
    absurd (not_both (eq_true (key keys v) k (sym r ∙ e)) f))
    (λ g. g)))
  where
    same : (n : ℕ) → eqb n n ≡ true
    same n = grind (arith, nat_tests)

    equal : (a b : ℕ) → eqb a b ≡ true → a ≡ b
    equal a b h = grind (arith, nat_tests)

rows_of_place : (keys : Keying) (ks : List ℤ) (place : ℕ) (k d : ℤ) → AreDistinct ks → place < length ks → get_or ks place d ≡ k → length ks ≤ most_bits → (column : List (Option ℤ)) → map (λ p. eqb p place) (map (place_of keys ks) column) ≡ rows_with keys k column
rows_of_place keys ks place k d apart within e few [] = refl
rows_of_place keys ks place k d apart within e few (c ∷ column) =
    rw (has_place keys ks place k d apart within e few c, rows_of_place keys ks place k d apart within e few column) refl

group_at : (P : Group → Type 0) (gs : List Group) (i : ℕ) (d : Group) → AllByRecursion P gs → i < length gs → P (get_or gs i d)
group_at P [] i d all h = absurd (omega arith)
group_at P (g ∷ gs) zero d all h = all.0
group_at P (g ∷ gs) (suc i) d all h = group_at P gs i d all.1 (omega arith)

bin_each : (held : Held) (column : List (Option ℤ)) (place : ℕ) (k : ℤ) → Gathered held column → length held.groups ≤ most_bits → place < length held.groups → (get_or held.groups place no_group).key ≡ k → bin_for held.groups held.places place ≡ bin_of held.rule column k
bin_each held column place k g few within e =
    let l = length-keys_in held.groups in
    let group : get_or held.groups place no_group ≡ group_of held.rule column k = group_at (λ x. x ≡ group_of held.rule column x.key) held.groups place no_group g.groups within ∙ ap (λ z. group_of held.rule column z) e in
    let rows : map (λ p. eqb p place) held.places ≡ rows_with held.rule k column = ap (map (λ p. eqb p place)) g.places ∙ rows_of_place held.rule (keys_in held.groups) place k (pos 0) g.distinct (omega (arith, l)) (keys_in-get held.groups place no_group (pos 0) within ∙ e) (omega (arith, l)) column in
    rw (group, rows) refl

bins_each : (held : Held) (column : List (Option ℤ)) (order : List KeyPlace) → Gathered held column → length held.groups ≤ most_bits → AllByRecursion (λ pair. (pair.place < length held.groups) × ((d : Group) → (get_or held.groups pair.place d).key ≡ pair.key)) order → map (λ pair. bin_for held.groups held.places pair.place) order ≡ map (bin_of held.rule column) (map (λ pair. pair.key) order)
bins_each held column [] g few all = refl
bins_each held column (p ∷ order) g few all =
    rw (bin_each held column p.place p.key g few all.0.0 (all.0.1 no_group), bins_each held column order g few all.1) refl

pub bins_final : (held : Held) (column : List (Option ℤ)) (order : List KeyPlace) → length held.groups ≤ most_bits → ByKey held.groups order → Gathered held column → map (λ pair. bin_for held.groups held.places pair.place) order ≡ bins_of held.rule column
bins_final held column order few b g =
    bins_each held column order g few b.places
    ∙ ap (map (bin_of held.rule column)) (rising_from (map (λ pair. pair.key) order) (map (key held.rule) (present column)) (b.rises g.distinct) (λ k. b.keys k ∙ g.keys k))

pub places_within : (n : ℕ) (groups : List Group) (order : List KeyPlace) → AllByRecursion (λ pair. (pair.place < length groups) × ((d : Group) → (get_or groups pair.place d).key ≡ pair.key)) order → AllByRecursion (λ pair. pair.place < length groups) order
places_within n groups [] all = tt
places_within n groups (p ∷ order) all = (all.0.0, places_within n groups order all.1)
