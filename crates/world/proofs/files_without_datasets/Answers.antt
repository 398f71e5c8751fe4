use Rattle.std.proofs.Common.{◌≡◌, List, ℕ, Some, None, refl}
use Rattle.std.specs.Cmp.Lexicographic.{slice_cmp}
use Rattle.std.specs.Ordering.{nat_cmp}
use Rattle.std.specs.FinMap.{empty, get, get-empty}
use Rattle.fb_outside.specs.Files.{Files, file_at}
use Rattle.fb_outside.specs.Names.{IsPath}
use Rattle.part_meta.specs.FileNames.{catalog_name, index_name}
use Rattle.world.specs.Stands.{IsFree, IsInputName, Stands}
use Rattle.world.specs.World.{Content, content_at, no_datasets}
use Rattle.world.proofs.files_without_datasets.Goals as goal

nothing : (inputs : Files) (path : List ℕ) (content : Content) → content_at (no_datasets inputs) path ≡ Some content → ⊥
nothing inputs path content there =
    let none : content_at (no_datasets inputs) path ≡ None = get-empty (slice_cmp nat_cmp) path in cc

without : (files inputs : Files) → ((path : List ℕ) → IsPath path → IsFree files path)
    → ((name : List ℕ) → IsInputName name → file_at files name ≡ get inputs name) → Stands files (no_datasets inputs)
without files inputs free same =
    record {
      paths = λ path content there. absurd (nothing inputs path content there);
      valid = λ path content there. absurd (nothing inputs path content there);
      rests = λ path content there. absurd (nothing inputs path content there);
      free = λ path proper absent. free path proper;
      inputs = same;
    }

absent : (name : List ℕ) → file_at empty name ≡ None
absent name = get-empty (slice_cmp nat_cmp) name

pub returns-clause-none : goal.returns-clause-none
returns-clause-none c =
    without empty empty
    (λ path proper.
    record { catalog = absent (catalog_name path); unindexed = λ number name low named. absent (index_name path number name) })
    (λ name input. refl)

pub returns-clause-free : goal.returns-clause-free
returns-clause-free c = without
