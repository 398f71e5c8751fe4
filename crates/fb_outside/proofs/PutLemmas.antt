-- What files that are put one after another leave.
use Rattle.std.proofs.Common.{◌≡◌, ◌≢◌, ◌⊎◌, inl, inr, ◌+◌, ◌<◌, ◌≤◌, ℕ, List, [], ◌∷◌, ◌++◌, Option, Some, None, option_map, Result, IsErr, Ok, Err, All, length, take, refl, sym, ap, subst, ◌∙◌, arith, length-append}
use Rattle.std.proofs.Math.Seq.{take-append-add}
use Rattle.std.proofs.lemmas.List.{take-append-le, take_all}
use Rattle.std.proofs.lemmas.List.Elements.{All-nil, All-cons, All-head, All-tail, All-take}
use Rattle.std.specs.FinMap.{insert}
use Rattle.fb_outside.specs.Files.{Files, file_at, SameFiles, Puts, PutLeaves, ChangesAmong}
use Rattle.fb_outside.specs.Puts.{File, IsThere, with_files, PutsAll, PutsFront, PutsInOrder}
use Rattle.fb_outside.proofs.FileLemmas.{file_at-insert_same, file_at-insert_other, ChangesAmong-same, ChangesAmong-trans, ChangesAmong-weaken, ChangesOnly-puts}

pub with_files-append : (xs ys : List File) (m : Files) → with_files (xs ++ ys) m ≡ with_files ys (with_files xs m)
with_files-append [] ys m = refl
with_files-append (x ∷ xs) ys m = with_files-append xs ys (insert m x.name x.bytes)

-- ---- a file that isn't among them stays

pub with_files-other : (xs : List File) (m : Files) (q : List ℕ) → All (λ f. f.name ≢ q) xs → file_at (with_files xs m) q ≡ file_at m q
with_files-other [] m q apart = refl
with_files-other (x ∷ xs) m q apart =
    with_files-other xs (insert m x.name x.bytes) q (All-tail (λ f. f.name ≢ q) x xs apart)
    ∙ file_at-insert_other m x.name x.bytes q (λ e. All-head (λ f. f.name ≢ q) x xs apart (sym e))

-- ---- and where no two have one name, each is there

-- no two files of the list have one name
abbrev pub AreApart : List File → Type 0
AreApart [] = Unit {0}
AreApart (x ∷ xs) = All (λ f. f.name ≢ x.name) xs × AreApart xs

pub AreApart-append : (xs ys : List File) → AreApart xs → AreApart ys → All (λ x. All (λ y. y.name ≢ x.name) ys) xs → AreApart (xs ++ ys)
AreApart-append [] ys h k across = k
AreApart-append (x ∷ xs) ys h k across = (
  All-both xs (λ f. f.name ≢ x.name) h.0 (All-head (λ z. All (λ y. y.name ≢ z.name) ys) x xs across),
  AreApart-append xs ys h.1 k (All-tail (λ z. All (λ y. y.name ≢ z.name) ys) x xs across),
)
  where
    All-both : (zs : List File) (P : File → Type 0) → All P zs → All P ys → All P (zs ++ ys)
    All-both [] P a b = b
    All-both (z ∷ zs) P a b = All-cons P z (zs ++ ys) (All-head P z zs a) (All-both zs P (All-tail P z zs a) b)

pub with_files-there : (xs : List File) (m : Files) → AreApart xs → All (IsThere (with_files xs m)) xs
with_files-there [] m h = All-nil (IsThere m)
with_files-there (x ∷ xs) m h =
    All-cons (IsThere (with_files xs (insert m x.name x.bytes))) x xs
    (with_files-other xs (insert m x.name x.bytes) x.name h.0 ∙ file_at-insert_same m x.name x.bytes)
    (with_files-there xs (insert m x.name x.bytes) h.1)

-- ---- of a store

pub PutsAll-none : (old new : Option Files) → SameFiles old new → PutsAll [] old new
PutsAll-none None new h = h
PutsAll-none (Some m) new h = h

pub PutsAll-append : (xs ys : List File) (old mid new : Option Files) → PutsAll xs old mid → PutsAll ys mid new → PutsAll (xs ++ ys) old new
PutsAll-append xs ys None mid new h k = k ∙ ap (option_map (with_files ys)) h
PutsAll-append xs ys (Some m) mid new h k = k ∙ (ap (option_map (with_files ys)) h ∙ ap Some (sym (with_files-append xs ys m)))

pub PutsAll-one : (x : File) (old new : Option Files) → Puts old new x.name x.bytes → PutsAll (x ∷ []) old new
PutsAll-one x None new h = h
PutsAll-one x (Some m) new h = h

pub PutsFront-none : (xs : List File) (old new : Option Files) → SameFiles old new → PutsFront xs old new
PutsFront-none xs old new h = record { count = 0; within = omega arith; front = PutsAll-none old new h }

pub PutsFront-all : (xs : List File) (old new : Option Files) → PutsAll xs old new → PutsFront xs old new
PutsFront-all xs old new h =
    record {
      count = length xs;
      within = omega arith;
      front = subst (λ (zs : List File). PutsAll zs old new) (sym (take_all (length xs) xs (omega arith))) h;
    }

pub PutsFront-more : (xs ys : List File) (old new : Option Files) → PutsFront xs old new → PutsFront (xs ++ ys) old new
PutsFront-more xs ys old new h =
    record {
      count = h.count;
      within = let w : h.count ≤ length xs = h.within in omega (arith, length-append xs ys);
      front = subst (λ (zs : List File). PutsAll zs old new) (sym (take-append-le h.count xs ys h.within)) h.front;
    }

pub PutsFront-append : (xs ys : List File) (old mid new : Option Files) → PutsAll xs old mid → PutsFront ys mid new → PutsFront (xs ++ ys) old new
PutsFront-append xs ys old mid new h k =
    record {
      count = length xs + k.count;
      within = let w : k.count ≤ length ys = k.within in omega (arith, length-append xs ys);
      front = subst (λ (zs : List File). PutsAll zs old new) (sym (take-append-add xs ys k.count))
          (PutsAll-append xs (take k.count ys) old mid new h k.front);
    }

-- a single put that failed
pub PutsFront-one : (x : File) (old new : Option Files) → PutLeaves x.name x.bytes old new → PutsFront (x ∷ []) old new
PutsFront-one x old new (inl same) = PutsFront-none (x ∷ []) old new same
PutsFront-one x old new (inr put) = PutsFront-all (x ∷ []) old new (PutsAll-one x old new put)

-- ---- the files that change are among them

with_files-among : (P : List ℕ → Type 0) (xs : List File) (old new : Option Files) → All (λ f. P f.name) xs → PutsAll xs old new → ChangesAmong P old new
with_files-among P [] None new h k = ChangesAmong-same None new k
with_files-among P [] (Some m) new h k = ChangesAmong-same (Some m) new k
with_files-among P (x ∷ xs) old new h k =
    ChangesAmong-trans old (option_map (λ files. insert files x.name x.bytes) old) new
    (ChangesAmong-weaken old (option_map (λ files. insert files x.name x.bytes) old) (λ q e. subst P (sym e) (All-head (λ f. P f.name) x xs h)) (ChangesOnly-puts old (option_map (λ files. insert files x.name x.bytes) old) x.name x.bytes refl))
    (with_files-among P xs (option_map (λ files. insert files x.name x.bytes) old) new (All-tail (λ f. P f.name) x xs h) (k ∙ apart old))
  where
    apart : (o : Option Files) → option_map (with_files (x ∷ xs)) o ≡ option_map (with_files xs) (option_map (λ files. insert files x.name x.bytes) o)
    apart None = refl
    apart (Some m) = refl

pub ChangesAmong-puts : (P : List ℕ → Type 0) (xs : List File) (old new : Option Files) → All (λ f. P f.name) xs → PutsAll xs old new → ChangesAmong P old new
ChangesAmong-puts P xs old new h k = with_files-among P xs old new h k

pub ChangesAmong-front : (P : List ℕ → Type 0) (xs : List File) (old new : Option Files) → All (λ f. P f.name) xs → PutsFront xs old new → ChangesAmong P old new
ChangesAmong-front P xs old new h k = with_files-among P (take k.count xs) old new (All-take (λ f. P f.name) k.count xs h) k.front

-- a call that goes on behind files that were put
pub PutsInOrder-then : {A E : Type 0} (xs ys : List File) (r : Result A E) (old mid new : Option Files) → PutsAll xs old mid → PutsInOrder ys r mid new → PutsInOrder (xs ++ ys) r old new
PutsInOrder-then xs ys (Ok done) old mid new h k = PutsAll-append xs ys old mid new h k
PutsInOrder-then xs ys (Err fault) old mid new h k = PutsFront-append xs ys old mid new h k

-- a call that stopped
pub PutsInOrder-err : {A E : Type 0} (xs : List File) (r : Result A E) (old new : Option Files) → IsErr r → PutsFront xs old new → PutsInOrder xs r old new
PutsInOrder-err xs (Ok done) old new h k = absurd (cc)
PutsInOrder-err xs (Err fault) old new h k = k
