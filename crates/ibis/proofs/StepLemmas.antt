-- What the steps of a listing come to together.
use Rattle.std.proofs.Common.{inl, inr, ◌≡◌, ℕ, List, Option, IfSome, Result, Ok, Err, refl, ap, subst}
use Rattle.fb_outside.specs.Files.{Files}
use Rattle.fb_outside.specs.Reads.{AddsOnly, Look}
use Rattle.fb_outside.proofs.ReadLemmas.{AddsOnly-trans, AddsOnly-weaken}
use Rattle.dataset.specs.Found.{Absent, Broken, Found, IsFound, There}
use Rattle.dataset.specs.Opened.{IsTextLook}
use Rattle.dataset.specs.declared.content.Dataset.{Dataset}
use Rattle.statuses.specs.declared.stop.Unanswered.{Unanswered}
use Rattle.statuses.specs.declared.stop.Unanswered.TheVariants.{Refused, StoreFault, OutOfMemory}
use Rattle.statuses.specs.Opening.{Finds, dataset_or_refusal}
use Rattle.ibis.specs.Listing.{ListGives}
use Rattle.ibis.specs.ListSteps.{DatasetGives}
use Rattle.ibis.specs.Looks.{IsIndexLook, IsListLook}

is_there : (dir : List ℕ) (found : Found) (dataset : Dataset) → dataset_or_refusal dir found ≡ Ok dataset → found ≡ There dataset
is_there dir Absent dataset e = absurd (cc)
is_there dir (There d) dataset e = let same : d ≡ dataset = cc in ap There same
is_there dir (Broken damage) dataset e = absurd (cc)

pub listing_stops : (dir : List ℕ) (files : Option Files) (stop : Unanswered) → Finds dir files (Err stop) → ListGives dir files (Err stop)
listing_stops dir files (Refused status) h = record { found = h.found; told = h.told; lists = rw h.is refl }
listing_stops dir files StoreFault h = h
listing_stops dir files OutOfMemory h = h

comes_there : (dir : List ℕ) (files : Option Files) (dataset : Dataset) (result : Result (List ℕ) Unanswered) → Finds dir files (Ok dataset)
    → DatasetGives files dataset result → ListGives dir files result
comes_there dir files dataset (Ok text) h gives = record { found = h.found; told = h.told; lists = rw h.is gives }
comes_there dir files dataset (Err (Refused status)) h gives = record { found = h.found; told = h.told; lists = rw h.is gives }
comes_there dir files dataset (Err StoreFault) h gives = tt
comes_there dir files dataset (Err OutOfMemory) h gives = tt

pub listing_comes : (dir : List ℕ) (files now : Option Files) (dataset : Dataset) (result : Result (List ℕ) Unanswered) → now ≡ files → Finds dir files (Ok dataset)
    → DatasetGives now dataset result → ListGives dir files result
listing_comes dir files now dataset result kept h gives =
    comes_there dir files dataset result h (subst (λ (f : Option Files). DatasetGives f dataset result) kept gives)

-- the texts of the dataset, and then its indexes
pub listing_looks : (dir : List ℕ) (files now : Option Files) (dataset : Dataset) (old mid new : Option (List Look)) → now ≡ files → Finds dir files (Ok dataset)
    → dataset.dir ≡ dir → AddsOnly (IsTextLook dir) old mid → AddsOnly (IsIndexLook now dataset) mid new → AddsOnly (IsListLook files dir) old new
listing_looks dir files now dataset old mid new kept finds path h g =
    AddsOnly-trans (IsListLook files dir) old mid new
    (AddsOnly-weaken (IsTextLook dir) (IsListLook files dir) old mid (λ look w. inl w) h)
    (AddsOnly-weaken (IsIndexLook now dataset) (IsListLook files dir) mid new
    (λ look w. inr (record {
      dataset = dataset;
      told = subst (λ (f : Found). IfSome files (λ m. IsFound m dir f)) (is_there dir finds.found dataset finds.is) finds.told;
      path = path;
      index = subst (λ (f : Option Files). IsIndexLook f dataset look) kept w;
    })) g)
