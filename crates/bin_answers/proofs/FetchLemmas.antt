-- Bitmaps that are fetched one behind another: their first fault, and their reads.
use Rattle.std.proofs.Common.{◌≡◌, ℕ, zero, suc, ◌+◌, ◌<◌, Option, Some, None, Result, Ok, Err, Bool, cond, inl, inr, All, List, [], ◌∷◌, ◌++◌, map, length, take, drop, get_or, refl, sym, ap, ◌∙◌, subst, arith, append_assoc, append-nil, length-append}
use Rattle.std.specs.Prelude.{IfSome}
use Rattle.std.proofs.lemmas.List.{map-append}
use Rattle.fb_outside.specs.Causes.{HasCause, Rose}
use Rattle.fb_outside.specs.Files.{Files}
use Rattle.fb_outside.specs.Reads.{AddsRead, IsNoteOf, Look}
use Rattle.fb_outside.proofs.ReadLemmas.{AddsReads-same, AddsReads-trans, AddsReads-weaken}
use Rattle.binning.specs.Encodings.{vectors}
use Rattle.binning.specs.Members.{bitmap}
use Rattle.binning.specs.declared.gathering.Bin.{Bin}
use Rattle.index_file.specs.Opening.{IsAnswer}
use Rattle.index_file.specs.Places.{bitmap_look}
use Rattle.index_file.specs.declared.fault.IndexFault.{IndexFault}
use Rattle.index_file.specs.declared.fault.IndexFault.TheVariants as index
use Rattle.index_file.specs.declared.head.IndexHead.{IndexHead}
use Rattle.bin_answers.specs.Fetched.{AreFaultless, Fetches, HasBins, IsFrontOf, IsOutside, StopsIn, bitmap_at, fault_or, first_fault, index_fault}
use Rattle.bin_answers.specs.declared.fault.BinsFault.{BinsFault}
use Rattle.bin_answers.specs.declared.fault.BinsFault.TheVariants.{Index, OutOfMemory}

-- ---- lists

-- a list at one of its places
pub cut : {X : Type 0} (xs : List X) (i : ℕ) (d : X) → i < length xs → xs ≡ take i xs ++ (get_or xs i d ∷ [] ++ drop (i + 1) xs)
cut [] i d h = absurd (omega arith)
cut (y ∷ xs) zero d h = refl
cut (y ∷ xs) (suc i) d h = let e : suc i + 1 ≡ suc (i + 1) = omega arith in rw e (ap (λ l. y ∷ l) (cut xs i d (omega arith)))

pub taken_more : {X : Type 0} (xs : List X) (i : ℕ) (d : X) → i < length xs → take (i + 1) xs ≡ take i xs ++ get_or xs i d ∷ []
taken_more [] i d h = absurd (omega arith)
taken_more (y ∷ xs) zero d h = refl
taken_more (y ∷ xs) (suc i) d h = let e : suc i + 1 ≡ suc (i + 1) = omega arith in rw e (ap (λ l. y ∷ l) (taken_more xs i d (omega arith)))

-- ---- faults

fault_behind : (m : Files) (head : IndexHead) (xs ys : List ℕ) → first_fault m head xs ≡ None → first_fault m head (xs ++ ys) ≡ first_fault m head ys
unfolding first_fault
fault_behind m head [] ys h = refl
fault_behind m head (x ∷ xs) ys h =
    elim (bitmap_at m head x) as (λ r. fault_or r (first_fault m head xs) ≡ None → fault_or r (first_fault m head (xs ++ ys)) ≡ first_fault m head ys) [
      | Ok bits ↦ λ e. fault_behind m head xs ys e
      | Err why ↦ λ e. absurd cc
    ]
    h

fault_stays : (m : Files) (head : IndexHead) (xs ys : List ℕ) (why : IndexFault) → first_fault m head xs ≡ Some why → first_fault m head (xs ++ ys) ≡ Some why
unfolding first_fault
fault_stays m head [] ys why h = absurd cc
fault_stays m head (x ∷ xs) ys why h =
    elim (bitmap_at m head x) as (λ r. fault_or r (first_fault m head xs) ≡ Some why → fault_or r (first_fault m head (xs ++ ys)) ≡ Some why) [
      | Ok bits ↦ λ e. fault_stays m head xs ys why e
      | Err other ↦ λ e. e
    ]
    h

pub sound_none : (files : Option Files) (head : IndexHead) → AreFaultless files head []
unfolding first_fault
sound_none files head = λ m e. refl

-- further bitmaps without a fault, fetched over the same files
pub sound_more : (files now : Option Files) (head : IndexHead) (xs ys all : List ℕ) → now ≡ files → all ≡ xs ++ ys
    → AreFaultless files head xs → AreFaultless now head ys → AreFaultless files head all
sound_more files now head xs ys all same e h k = λ m told.
    ap (first_fault m head) e ∙ fault_behind m head xs ys (h m told) ∙ k m (same ∙ told)

-- a fault behind bitmaps without one
pub stop_more : (files now : Option Files) (head : IndexHead) (xs ys rest all : List ℕ) (fault : BinsFault) → now ≡ files → all ≡ xs ++ (ys ++ rest)
    → AreFaultless files head xs → StopsIn now head ys fault → StopsIn files head all fault
stop_more files now head xs ys rest all fault same e h k = record {
  first = λ m why told is other.
      ap (first_fault m head) e ∙ fault_behind m head xs (ys ++ rest) (h m told) ∙ fault_stays m head ys rest why (k.first m why (same ∙ told) is other);
  memory = k.memory;
}

pub stop_memory : (files : Option Files) (head : IndexHead) (numbers : List ℕ) (fault : BinsFault) → fault ≡ OutOfMemory → StopsIn files head numbers fault
stop_memory files head numbers fault e = record {
  first = λ m why told is other. absurd (let wrong : OutOfMemory ≡ Index why = sym e ∙ is in cc);
  memory = λ is. (let wrong : OutOfMemory ≡ Index index.OutOfMemory = sym e ∙ is in absurd cc);
}

-- ---- reads

-- nothing was read
pub fetches_none : (files : Option Files) (old new : Option (List Look)) (head : IndexHead) {done : Type 0} → new ≡ old → Fetches files old new head [] done
fetches_none files old new head e = λ m told there. AddsReads-same old new e (record { left = []; front = refl; whole = λ d. refl })

-- nothing was read by a call that isn't done
pub fetches_yet : (files : Option Files) (old new : Option (List Look)) (head : IndexHead) (numbers : List ℕ) {done : Type 0} → new ≡ old → (done → ⊥)
    → Fetches files old new head numbers done
fetches_yet files old new head numbers e not =
    λ m told there. AddsReads-same old new e (record { left = map (bitmap_look head.name head.offsets) numbers; front = refl; whole = λ d. absurd (not d) })

front_less : {done other : Type 0} (all added : List Look) → (other → done) → IsFrontOf all done added → IsFrontOf all other added
front_less all added f h = record { left = h.left; front = h.front; whole = λ d. h.whole (f d) }

-- of a call that has less to show
pub fetches_less : (done other : Type 0) (files : Option Files) (old new : Option (List Look)) (head : IndexHead) (numbers all : List ℕ) → all ≡ numbers → (other → done)
    → Fetches files old new head numbers done → Fetches files old new head all other
fetches_less done other files old new head numbers all e f h = λ m told there.
    AddsReads-weaken old new
    (λ added p. subst (λ (ns : List ℕ). IsFrontOf (map (bitmap_look head.name head.offsets) ns) other added) (sym e)
    (front_less (map (bitmap_look head.name head.offsets) numbers) added f p))
    (h m told there)

-- reads that are done, and a front of further ones
fronts : {done other : Type 0} (look : ℕ → Look) (xs ys rest : List ℕ) (one two : List Look) → (other → done) → (other → rest ≡ [])
    → IsFrontOf (map look xs) (Unit {0}) one → IsFrontOf (map look ys) done two → IsFrontOf (map look (xs ++ (ys ++ rest))) other (one ++ two)
fronts look xs ys rest one two f none h k = record {
  left = k.left ++ map look rest;
  front =
      let first : one ≡ map look xs = sym (append-nil one) ∙ ap (λ l. one ++ l) (sym (h.whole tt)) ∙ h.front in
      append_assoc one two (k.left ++ map look rest)
      ∙ ap (λ l. one ++ l) (sym (append_assoc two k.left (map look rest)) ∙ ap (λ l. l ++ map look rest) k.front ∙ sym (map-append look ys rest))
      ∙ ap (λ l. l ++ map look (ys ++ rest)) first
      ∙ sym (map-append look xs (ys ++ rest));
  whole = λ d. ap (λ l. l ++ map look rest) (k.whole (f d)) ∙ ap (map look) (none d);
}

pub fetches_more : (done other : Type 0) (files now : Option Files) (old mid new : Option (List Look)) (head : IndexHead) (xs ys rest all : List ℕ)
    → now ≡ files → all ≡ xs ++ (ys ++ rest) → (other → done) → (other → rest ≡ [])
    → Fetches files old mid head xs (Unit {0}) → Fetches now mid new head ys done → Fetches files old new head all other
fetches_more done other files now old mid new head xs ys rest all same e f none h k = λ m told there.
    AddsReads-trans old mid new (h m told there) (k m (same ∙ told) there)
    (λ one two p q. subst (λ (ns : List ℕ). IsFrontOf (map (bitmap_look head.name head.offsets) ns) other (one ++ two)) (sym e)
    (fronts (bitmap_look head.name head.offsets) xs ys rest one two f none p q))

-- ---- one bitmap

some_of : (P : Files → Type 0) (files : Option Files) → IfSome files P → (m : Files) → files ≡ Some m → P m
some_of P files h m e = subst (λ (f : Option Files). IfSome f P) e h

-- a bitmap that is fetched has no fault
pub one_sound : (files : Option Files) (head : IndexHead) (k : ℕ) (bits : List Bool) → IfSome files (λ m. bitmap_at m head k ≡ Ok bits) → AreFaultless files head (k ∷ [])
unfolding first_fault
one_sound files head k bits h = λ m told. ap (λ (r : Result (List Bool) IndexFault). fault_or r None) (some_of (λ f. bitmap_at f head k ≡ Ok bits) files h m told)

-- one that isn't has the fault
pub one_stops : (files : Option Files) (head : IndexHead) (k : ℕ) (why : IndexFault) → IfSome files (λ m. IsAnswer (Err why) (bitmap_at m head k))
    → StopsIn files head (k ∷ []) (index_fault why)
unfolding first_fault
one_stops files head k index.OutOfMemory h = stop_memory files head (k ∷ []) OutOfMemory refl
one_stops files head k index.Store h = record { first = λ m other told is not. absurd (not (let e : Index index.Store ≡ Index other = is in cc)); memory = λ is. absurd cc }
one_stops files head k why h = record {
  first = λ m other told is not. ap (λ (r : Result (List Bool) IndexFault). fault_or r None) (some_of (λ f. bitmap_at f head k ≡ Err why) files h m told) ∙ (let e : Index why ≡ Index other = is in let f : why ≡ other = cc in ap Some f);
  memory = λ is. absurd cc;
}

pub one_look : (files : Option Files) (old new : Option (List Look)) (head : IndexHead) (k : ℕ) {done : Type 0} → AddsRead files old new (bitmap_look head.name head.offsets k)
    → Fetches files old new head (k ∷ []) done
one_look files old new head k h = λ m told there.
    AddsReads-weaken old new
    (λ added p.
    (let look = bitmap_look head.name head.offsets k in
    let noted : IsNoteOf (Some m) look added = subst (λ (f : Option Files). IsNoteOf f look added) told p in
    let e : added ≡ look ∷ [] = noted ∙ ap (λ (b : Bool). cond b (look ∷ []) []) there in
    record { left = []; front = append-nil added ∙ e; whole = λ d. refl }))
    h

maybe_look : {done : Type 0} (look : Look) (added : List Look) → (done → ⊥) → IsNoteOf None look added → IsFrontOf (look ∷ []) done added
maybe_look look added not (inl e) = record { left = look ∷ []; front = ap (λ l. l ++ look ∷ []) e; whole = λ d. absurd (not d) }
maybe_look look added not (inr e) = record { left = []; front = append-nil added ∙ e; whole = λ d. refl }

-- by a call that isn't done
pub one_look_yet : (files : Option Files) (old new : Option (List Look)) (head : IndexHead) (k : ℕ) {done : Type 0} → (done → ⊥) → AddsRead None old new (bitmap_look head.name head.offsets k)
    → Fetches files old new head (k ∷ []) done
one_look_yet files old new head k not h = λ m told there. AddsReads-weaken old new (λ added p. maybe_look (bitmap_look head.name head.offsets k) added not p) h

-- ---- bitmaps of some bins

-- they have no fault
pub bins_sound : (files : Option Files) (head : IndexHead) (mask : List Bool) (bins : List Bin) (numbers : List ℕ) → HasBins files head mask bins
    → All (λ k. k + 1 < length head.offsets) numbers → AreFaultless files head numbers
unfolding first_fault
bins_sound files head mask bins [] h below = λ m told. refl
bins_sound files head mask bins (k ∷ numbers) h below = λ m told.
    (let same : h.m ≡ m = (let e : Some h.m ≡ Some m = sym h.told ∙ told in cc) in
    let there : bitmap_at m head k ≡ Ok (bitmap head.spec.encoding (length mask) (vectors bins) k) =
    subst (λ (f : Files). bitmap_at f head k ≡ Ok (bitmap head.spec.encoding (length mask) (vectors bins) k)) same (h.there k (below 0 k (omega arith))) in
    ap (λ (r : Result (List Bool) IndexFault). fault_or r (first_fault m head numbers)) there
    ∙ bins_sound files head mask bins numbers h (λ i d l. below (suc i) d (omega arith)) m told)

store_or_memory : (fault : BinsFault) → ((why : IndexFault) → fault ≡ Index why → (why ≡ index.Store → ⊥) → ⊥) → IsOutside fault
store_or_memory OutOfMemory h = tt
store_or_memory (Index index.Store) h = tt
store_or_memory (Index why) h = absurd (h why refl (λ e. absurd cc))

-- so a call that is refused is refused by the store or for memory
pub bins_outside : (files : Option Files) (head : IndexHead) (mask : List Bool) (bins : List Bin) (numbers : List ℕ) (fault : BinsFault) → HasBins files head mask bins
    → All (λ k. k + 1 < length head.offsets) numbers → StopsIn files head numbers fault → IsOutside fault
bins_outside files head mask bins numbers fault h below stop =
    store_or_memory fault (λ why is other.
    (let none = bins_sound files head mask bins numbers h below h.m h.told in
    let some = stop.first h.m why h.told is other in
    let wrong : Some why ≡ None = sym some ∙ none in
    absurd cc))

-- ---- lists that grow by an item

all_pushed : {X : Type 0} (P : X → Type 0) (x : X) → P x → (zs : List X) → All P zs → All P (zs ++ x ∷ [])
all_pushed P x p [] k zero d l = p
all_pushed P x p [] k (suc i) d l = absurd (omega arith)
all_pushed P x p (z ∷ zs) k zero d l = k 0 d (omega arith)
all_pushed P x p (z ∷ zs) k (suc i) d l = all_pushed P x p zs (λ j c m. k (suc j) c (omega arith)) i d (omega arith)

pub all_more : {X : Type 0} (P : X → Type 0) (xs ys : List X) (x : X) → ys ≡ xs ++ x ∷ [] → All P xs → P x → All P ys
all_more {X = X} P xs ys x e h p = subst (λ (l : List X). All P l) (sym e) (all_pushed P x p xs h)

pub grown : {X Y : Type 0} (f : X → Y) (xs more : List X) (x : X) (old new : List Y) (v : Y) → new ≡ old ++ v ∷ [] → old ≡ map f xs → v ≡ f x → more ≡ xs ++ x ∷ [] → new ≡ map f more
grown f xs more x old new v e o w m =
    e ∙ ap (λ l. l ++ v ∷ []) o ∙ ap (λ y. map f xs ++ y ∷ []) w ∙ sym (ap (map f) m ∙ map-append f xs (x ∷ []))

pub longer : {X : Type 0} (old new : List X) (x : X) (n : ℕ) → new ≡ old ++ x ∷ [] → length old ≡ n → length new ≡ n + 1
longer old new x n e l = ap length e ∙ length-append old (x ∷ []) ∙ ap (λ k. k + 1) l

-- the same bins over the files as they are now
pub still_bins : (files now : Option Files) (head : IndexHead) (mask : List Bool) (bins : List Bin) → now ≡ files → HasBins files head mask bins → HasBins now head mask bins
still_bins files now head mask bins same h = subst (λ (f : Option Files). HasBins f head mask bins) (sym same) h

-- ---- causes

same_fault : (A B : Type 0) (f e : BinsFault) → (let r : Result A BinsFault = Err f in r ≡ Err e) → (let r : Result B BinsFault = Err f in r ≡ Err e)
same_fault A B f e h = let is : f ≡ e = cc in ap (λ (x : BinsFault). let r : Result B BinsFault = Err x in r) is

-- the count was as it was before
pub cause_from : (A B : Type 0) (a b c : ℕ) (f e : BinsFault) → b ≡ a → HasCause b c (let r : Result A BinsFault = Err f in r ≡ Err e)
    → HasCause a c (let r : Result B BinsFault = Err f in r ≡ Err e)
cause_from A B a b c f e same h = record {
  later = omega (arith, h.later, same);
  rose = λ x. subst (λ (n : ℕ). Rose n c) same (h.rose (same_fault B A f e x));
  told = λ not. h.told (λ y. not (same_fault A B f e y)) ∙ same;
}
