-- What is read for a run of bins, as unions over sets of bins.
use Rattle.std.proofs.Common.{◌≡◌, ℕ, zero, suc, ◌+◌, ◌*◌, ◌<◌, ◌≤◌, Bool, true, false, map, List, [], ◌∷◌, All, length, get_or, Result, Ok, Err, OnOk, OnErr, refl, ap, ◌∙◌, arith}
use Rattle.std.specs.List.{list_any}
use Rattle.std.proofs.lemmas.List.{map-id}
use Rattle.index_spec.specs.declared.spec.EncodingSpec.{EncodingSpec}
use Rattle.index_spec.specs.Members.{member, needed}
use Rattle.wah_logic.specs.Logic.{each_place, union, groups_and_rest}
use Rattle.binning.specs.Members.{union_of, in_run, bitmap, AreFetched}
use Rattle.binning.proofs.MembersLemmas.{union_of-same, union_of-all, bins-op, bins-unions}

get_or-map_of : {A : Type 0} (f : ℕ → A) (ks : List ℕ) (i : ℕ) (d : A) → i < length ks → get_or (map f ks) i d ≡ f (get_or ks i 0)
get_or-map_of f [] i d h = absurd (omega arith)
get_or-map_of f (k ∷ ks) zero d h = refl
get_or-map_of f (k ∷ ks) (suc i) d h = get_or-map_of f ks i d (omega arith)

-- the vector at place i of those read is that of the bitmap which stands there
pub fetched_at : (e : EncodingSpec) (n i j : ℕ) (vs fetched : List (List Bool)) (mask : List Bool) → AreFetched e n i j vs fetched mask → (at place : ℕ) (v : List Bool) → at < length (needed e n i j) → get_or (needed e n i j) at 0 ≡ place → v ≡ get_or fetched at v → v ≡ union_of (length mask) (member e n place) vs
fetched_at e n i j vs fetched mask h at place v below is e' =
    e' ∙ ap (λ l. get_or l at v) h.bitmaps ∙ get_or-map_of (bitmap e (length mask) vs) (needed e n i j) at v below
    ∙ ap (λ k. union_of (length mask) (member e (length vs) k) vs) is ∙ ap (λ m. union_of (length mask) (member e m place) vs) h.number

-- each vector that was read is as long as the mask
pub item_long : (len : ℕ) (fetched : List (List Bool)) (at : ℕ) (v : List Bool) → All (λ x. length x ≡ len) fetched → at < length fetched → v ≡ get_or fetched at v → length v ≡ len
item_long len fetched at v h below e = ap length e ∙ h at v below

-- the mask is the union of all
pub mask_is : (e : EncodingSpec) (n i j : ℕ) (vs fetched : List (List Bool)) (mask : List Bool) → AreFetched e n i j vs fetched mask → mask ≡ union_of (length mask) (λ b. true) vs
mask_is e n i j vs fetched mask h = h.all ∙ union_of-all (length mask) vs

-- a union over a set that is the run
pub of_one : (e : EncodingSpec) (n i j : ℕ) (vs fetched : List (List Bool)) (mask : List Bool) → AreFetched e n i j vs fetched mask → (v : List Bool) (s : ℕ → Bool) → v ≡ union_of (length mask) s vs → ((b : ℕ) → b < n → s b ≡ in_run i j b) → v ≡ union_of (length mask) (in_run i j) vs
of_one e n i j vs fetched mask h v s e' same = e' ∙ union_of-same (length mask) s (in_run i j) vs (λ b l. same b (omega (arith, h.number)))

-- an operation on unions over two sets that come to the run
pub of_two : (e : EncodingSpec) (n i j : ℕ) (vs fetched : List (List Bool)) (mask : List Bool) → AreFetched e n i j vs fetched mask → (op : Bool → Bool → Bool) → op false false ≡ false → (v w : List Bool) (s t : ℕ → Bool) → v ≡ union_of (length mask) s vs → w ≡ union_of (length mask) t vs → ((b : ℕ) → b < n → op (s b) (t b) ≡ in_run i j b) → each_place op v w ≡ union_of (length mask) (in_run i j) vs
of_two e n i j vs fetched mask h op none v w s t x y same =
    ap (λ l. each_place op l w) x ∙ ap (λ l. each_place op (union_of (length mask) s vs) l) y
    ∙ bins-op op none (length mask) s t vs h.bins_apart
    ∙ union_of-same (length mask) (λ b. op (s b) (t b)) (in_run i j) vs (λ b l. same b (omega (arith, h.number)))

-- ---- steps

-- the words of a copy are within the bound of one operation, and of more
pub few_steps : (len words old new k : ℕ) → words ≤ groups_and_rest len → new ≤ old + words → new ≤ old + 2 * groups_and_rest len * (k + 1)
few_steps len words old new k h e =
    let more : 2 * groups_and_rest len * (k + 1) ≡ 2 * groups_and_rest len * k + 2 * groups_and_rest len = grind arith in
    omega (arith, more)

pub copy_steps : {T E : Type 0} (r : Result T E) (len words old new k : ℕ) → words ≤ groups_and_rest len → OnOk r (new ≡ old + words) → OnErr r (new ≡ old) → new ≤ old + 2 * groups_and_rest len * (k + 1)
copy_steps (Ok x) len words old new k h e f = few_steps len words old new k h (omega (arith, e))
copy_steps (Err x) len words old new k h e f = few_steps len words old new k h (omega (arith, f))

-- ---- all that was read

-- the union of all that was read is that of the bins which one of the bitmaps has
pub fetched_union : (e : EncodingSpec) (n i j : ℕ) (vs fetched : List (List Bool)) (mask : List Bool) → AreFetched e n i j vs fetched mask → union (length mask) fetched ≡ union_of (length mask) (λ b. list_any (λ k. member e n k b) (needed e n i j)) vs
fetched_union e n i j vs fetched mask h =
    ap (λ l. union (length mask) l) h.bitmaps
    ∙ bins-unions (length mask) (member e (length vs)) (needed e n i j) vs h.bins_apart
    ∙ ap (λ m. union_of (length mask) (λ b. list_any (λ k. member e m k b) (needed e n i j)) vs) h.number

pub long_rows : (len : ℕ) (fetched : List (List Bool)) → All (λ v. length v ≡ len) fetched → All (λ v. length v ≡ len) (map (λ v. v) fetched)
long_rows len fetched h = rw (map-id fetched) h
