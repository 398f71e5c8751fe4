-- A load reads its file first, and then the texts of its dataset.
use Rattle.std.proofs.Common.{◌≡◌, inl, inr, ℕ, List, Option, refl, subst, sym}
use Rattle.fb_outside.specs.Reads.{AddsOnly, Look}
use Rattle.fb_outside.proofs.ReadLemmas.{AddsOnly-trans, AddsOnly-weaken}
use Rattle.command_words.specs.declared.Load.{Load}
use Rattle.dataset.specs.Opened.{IsTextLook}
use Rattle.ardea.specs.Looks.{IsInputLook, IsLoadLook}

pub load_looks : (load : Load) (old mid new : Option (List Look)) → AddsOnly (IsInputLook load.file) old mid → AddsOnly (IsTextLook load.dir) mid new
    → AddsOnly (IsLoadLook load) old new
load_looks load old mid new h k =
    AddsOnly-trans (IsLoadLook load) old mid new
    (AddsOnly-weaken (IsInputLook load.file) (IsLoadLook load) old mid (λ look w. inl w) h)
    (AddsOnly-weaken (IsTextLook load.dir) (IsLoadLook load) mid new (λ look w. inr w) k)

-- what comes after them reads nothing
pub load_looks_all : (load : Load) (old mid new last : Option (List Look)) → AddsOnly (IsInputLook load.file) old mid
    → AddsOnly (IsTextLook load.dir) mid new → last ≡ new → AddsOnly (IsLoadLook load) old last
load_looks_all load old mid new last h k e =
    subst (λ (reads : Option (List Look)). AddsOnly (IsLoadLook load) old reads) (sym e) (load_looks load old mid new h k)
