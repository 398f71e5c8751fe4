-- What opening an index file gives over files that are told: what its head says, or the first fault.
use Rattle.std.specs.Prelude.{◌≡◌, ◌≢◌, ◌==◌, ◌⊎◌, ◌+◌, ◌*◌, ◌≤◌, ℕ, ℤ, Vec, List, length, map, take, drop, Option, None, Some, Result, Ok, Err, nat_lt, bytes_eq, if◌then◌else◌}
use Rattle.std.specs.Int.{w64, w128, from_le_bytes, cast_signed}
use Rattle.std.specs.Simd.{first_chunks}
use Rattle.index_spec.specs.Counts.{bitmap_count}
use Rattle.index_spec.specs.Language.{spec_of}
use Rattle.index_spec.specs.Printed.{printed}
use Rattle.index_spec.specs.declared.spec.Spec.{Spec}
use Rattle.index_spec.specs.declared.spec.SpecKind.{SpecKind}
use Rattle.fb_outside.specs.Files.{Files, told_at}
use Rattle.fb_outside.specs.Reads.{Look}
use Rattle.index_file.specs.Order.{first_out_of_order}
use Rattle.index_file.specs.Places.{first_wrong_place, last_place}
use Rattle.index_file.specs.Front.{front_in, size_of, rest_size, sizes_at}
use Rattle.index_file.specs.declared.edge.Edge.{Edge}
use Rattle.index_file.specs.declared.front.Front.{Front}
use Rattle.index_file.specs.declared.head.IndexHead.{IndexHead}
use Rattle.index_file.specs.declared.fault.IndexFault.{IndexFault}
use Rattle.index_file.specs.declared.fault.IndexFault.TheVariants as fault

-- what a head says
pub record Head : Type 0 where
  pub spec : Spec
  pub bins : List Edge
  pub places : List ℕ

-- What a call answered is what the files give, unless the store failed or memory ran out, which is answered as such.
abbrev pub IsAnswer : {T : Type 0} → Result T IndexFault → Result T IndexFault → Type 0
IsAnswer (Ok value) given = given ≡ Ok value
IsAnswer (Err fault.Store) given = Unit {0}
IsAnswer (Err fault.OutOfMemory) given = Unit {0}
IsAnswer (Err why) given = given ≡ Err why

-- what a vector holds
abbrev pub listed : {X A : Type 0} → Result (Vec X A) IndexFault → Result (List X) IndexFault
listed (Ok items) = Ok items.items
listed (Err why) = Err why

-- ---- the parts of a head

abbrev pub reprinted : List ℕ → Result Spec SpecKind → Result Spec IndexFault
reprinted text (Ok spec) = if bytes_eq (printed spec) text then Ok spec else Err fault.Spec
reprinted text (Err kind) = Err fault.Spec

-- the specification whose printed form this is
unfoldable pub spec_in : List ℕ → Result Spec IndexFault
spec_in text = reprinted text (spec_of text)

-- a number of 16 bytes in two's complement
unfoldable pub end_at : List ℕ → ℤ
end_at piece = cast_signed w128 (from_le_bytes w128 piece)

abbrev pub edge_at : List ℕ → Edge
edge_at piece = record { least = end_at (take 16 piece); greatest = end_at (take 16 (drop 16 piece)) }

-- the first so many bins
unfoldable pub edges_at : ℕ → List ℕ → List Edge
edges_at count bytes = map edge_at (first_chunks 32 count bytes)

-- the first so many places
unfoldable pub places_at : ℕ → List ℕ → List ℕ
places_at count bytes = map (from_le_bytes w64) (first_chunks 8 count bytes)

abbrev pub ordered : Option ℕ → List Edge → Result (List Edge) IndexFault
ordered (Some k) bins = Err (fault.Order k)
ordered None bins = Ok bins

abbrev pub placed : Option ℕ → List ℕ → Result (List ℕ) IndexFault
placed (Some k) places = Err (fault.Offsets k)
placed None places = Ok places

-- so many bins in order
abbrev pub bins_in : ℕ → List ℕ → Result (List Edge) IndexFault
bins_in count bytes = ordered (first_out_of_order (edges_at count bytes)) (edges_at count bytes)

-- the places of so many bitmaps, and of the end, behind a head and in a file of these sizes
abbrev pub places_in : ℕ → ℕ → ℕ → List ℕ → Result (List ℕ) IndexFault
places_in head size bitmaps bytes = placed (first_wrong_place head size (places_at (bitmaps + 1) bytes)) (places_at (bitmaps + 1) bytes)

-- ---- all of them, with the first fault

abbrev pub with_places : Spec → List Edge → Result (List ℕ) IndexFault → Result Head IndexFault
with_places spec bins (Err why) = Err why
with_places spec bins (Ok places) = Ok (record { spec = spec; bins = bins; places = places })

-- as many bitmaps as the encoding has of these bins
abbrev pub tested : Option ℕ → ℕ → Result (Unit {0}) IndexFault
tested None have = Err (fault.Count 0 have)
tested (Some want) have = if want == have then Ok tt else Err (fault.Count want have)

abbrev pub counted : Result (Unit {0}) IndexFault → Result Head IndexFault → Result Head IndexFault
counted (Err why) given = Err why
counted (Ok done) given = given

abbrev pub with_bins : ℕ → Front → Spec → List ℕ → Result (List Edge) IndexFault → Result Head IndexFault
with_bins size front spec bytes (Err why) = Err why
with_bins size front spec bytes (Ok bins) =
    counted (tested (bitmap_count spec.encoding front.bins) front.bitmaps) (with_places spec bins (places_in (size_of front) size front.bitmaps bytes))

abbrev pub with_spec : ℕ → Front → List ℕ → Result Spec IndexFault → Result Head IndexFault
with_spec size front bytes (Err why) = Err why
with_spec size front bytes (Ok spec) = with_bins size front spec (drop (32 * front.bins) bytes) (bins_in front.bins (take (32 * front.bins) bytes))

-- what the bytes behind the first 24 say in a file of this size
unfoldable pub parts_in : ℕ → Front → List ℕ → Result Head IndexFault
parts_in size front bytes = with_spec size front (drop front.text bytes) (spec_in (take front.text bytes))

-- the bytes behind the first 24 in a file of this size, or that there are fewer
abbrev pub rest_in : ℕ → Front → List ℕ → Result (List ℕ) IndexFault
rest_in size front bytes =
    if nat_lt size (size_of front) then Err fault.Short else if length bytes == rest_size front then Ok bytes else Err fault.Short

abbrev pub with_rest : ℕ → Front → Result (List ℕ) IndexFault → Result Head IndexFault
with_rest size front (Err why) = Err why
with_rest size front (Ok bytes) = parts_in size front bytes

-- what a head says in a file of this size, where its first 24 bytes say this, and the bytes behind them are given
abbrev pub with_front : ℕ → (Front → List ℕ) → Result Front IndexFault → Result Head IndexFault
with_front size behind (Err why) = Err why
with_front size behind (Ok front) = with_rest size front (rest_in size front (behind front))

-- what a file's head says of an index of so many rows, or the first fault
abbrev pub head_in : ℕ → List ℕ → Result Head IndexFault
head_in rows bytes = with_front (length bytes) (λ front. take (rest_size front) (drop 24 bytes)) (front_in rows (take 24 bytes))

abbrev pub some_head : Result Head IndexFault → Result (Option Head) IndexFault
some_head (Ok head) = Ok (Some head)
some_head (Err why) = Err why

-- the same of a file that may be absent
abbrev pub index_in : ℕ → Option (List ℕ) → Result (Option Head) IndexFault
index_in rows None = Ok None
index_in rows (Some bytes) = some_head (head_in rows bytes)

-- what was opened
abbrev pub opened_head : Result IndexHead IndexFault → Result Head IndexFault
opened_head (Ok head) = Ok (record { spec = head.spec; bins = head.bins; places = head.offsets })
opened_head (Err why) = Err why

abbrev pub opened_index : Result (Option IndexHead) IndexFault → Result (Option Head) IndexFault
opened_index (Ok None) = Ok None
opened_index (Ok (Some head)) = Ok (Some (record { spec = head.spec; bins = head.bins; places = head.offsets }))
opened_index (Err why) = Err why

-- the head has the sizes that its first bytes say, and its last place is where the file ends
pub record HasSizes (front : Front) (size spec edges : ℕ) (places : List ℕ) : Type 0 where
  pub text : spec ≡ front.text
  pub bins : edges ≡ front.bins
  pub bitmaps : length places ≡ front.bitmaps + 1
  pub last : last_place places ≡ size

-- ---- what a call may answer

-- one that reads the first 24 bytes
abbrev pub StopsFront : ℕ → IndexFault → Type 0
StopsFront rows fault.Short = Unit {0}
StopsFront rows fault.Magic = Unit {0}
StopsFront rows (fault.Version version) = version ≢ 1
StopsFront rows (fault.Rows want have) = (want ≡ rows) × (have ≢ rows)
StopsFront rows fault.Store = Unit {0}
StopsFront rows why = ⊥

-- one that looks at the parts behind them
abbrev pub StopsParts : IndexFault → Type 0
StopsParts fault.Spec = Unit {0}
StopsParts (fault.Order k) = Unit {0}
StopsParts (fault.Count want have) = Unit {0}
StopsParts (fault.Offsets k) = Unit {0}
StopsParts fault.OutOfMemory = Unit {0}
StopsParts why = ⊥

-- one that reads them
abbrev pub StopsRest : IndexFault → Type 0
StopsRest fault.Short = Unit {0}
StopsRest fault.Store = Unit {0}
StopsRest fault.OutOfMemory = Unit {0}
StopsRest why = ⊥

-- one that opens an index
abbrev pub StopsOpening : ℕ → IndexFault → Type 0
StopsOpening rows (fault.Version version) = version ≢ 1
StopsOpening rows (fault.Rows want have) = (want ≡ rows) × (have ≢ rows)
StopsOpening rows (fault.Bitmap k why) = ⊥
StopsOpening rows (fault.BitmapTrailing k) = ⊥
StopsOpening rows (fault.BitmapLength k) = ⊥
StopsOpening rows why = Unit {0}

-- ---- its reads

-- the head's first 24 bytes, and the rest of a head of these sizes
abbrev pub front_look : List ℕ → Look
front_look name = record { name = name; offset = 0; room = 24 }

abbrev pub rest_look : List ℕ → Front → Look
rest_look name front = record { name = name; offset = 24; room = rest_size front }

-- a read of this file that ends within its first 24 bytes, or within the head whose length these give
pub record IsHeadLook (files : Option Files) (name : List ℕ) (look : Look) : Type 0 where
  pub of_it : look.name ≡ name
  pub within : (bytes : List ℕ) → told_at files name ≡ Some bytes
      → (look.offset + look.room ≤ 24) ⊎ (look.offset + look.room ≤ size_of (sizes_at (take 24 bytes)))

-- a read of this file that ends at a place or before it
pub record EndsBy (name : List ℕ) (place : ℕ) (look : Look) : Type 0 where
  pub of_it : look.name ≡ name
  pub within : look.offset + look.room ≤ place
