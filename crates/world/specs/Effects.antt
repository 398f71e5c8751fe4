-- What commands do to the world, one effect after another.
use Rattle.std.specs.Prelude.{ℕ, ◌+◌, ◌*◌, List, [], ◌∷◌, ◌++◌, length, map, take, drop, Option, Some, None, if◌then◌else◌, ◌==◌}
use Rattle.std.specs.FinMap.{empty, insert}
use Rattle.std.specs.Int.{div_ceil}
use Rattle.std.specs.List.{range_with_len}
use Rattle.fb_types.specs.declared.cells.Cell.{Cell}
use Rattle.fb_types.specs.declared.schemas.Column.{Column}
use Rattle.index_spec.specs.declared.spec.Spec.{Spec}
use Rattle.world.specs.World.{Content, Partition, World, content_at, with_content}

-- A load of these records, with so many in a part, into the dataset at a path; or a build of the index of a column in a part
-- of such a dataset: the part has that number, the column that place in the schema.
pub data Effect : Type 0 where
  Loads : (path : List ℕ) (schema : List Column) (per_part : ℕ) (records : List (List Cell)) → Effect
  Builds : (path : List ℕ) (number col : ℕ) (spec : Spec) → Effect

-- ---- the parts of a load

-- how many parts so many records make
abbrev pub part_count : (per_part rows : ℕ) → ℕ
part_count per_part rows = div_ceil rows per_part

-- the records of the part at a place: so many, and in the last one what is left
abbrev pub piece : ℕ → List (List Cell) → ℕ → List (List Cell)
piece per_part records place = take per_part (drop (place * per_part) records)

abbrev pub new_part : (next per_part : ℕ) → List (List Cell) → ℕ → Partition
new_part next per_part records place = record { number = next + place; records = piece per_part records place; specs = empty }

-- the parts, numbered from `next` on
abbrev pub new_parts : (next per_part : ℕ) → List (List Cell) → List Partition
new_parts next per_part records =
    map (new_part next per_part records) (range_with_len 0 (part_count per_part (length records)))

-- ---- the dataset after it

-- a dataset without parts
abbrev pub empty_content : List Column → Content
empty_content schema = record { schema = schema; next = 0; parts = [] }

abbrev pub found_or_empty : List Column → Option Content → Content
found_or_empty schema None = empty_content schema
found_or_empty schema (Some content) = content

abbrev pub extended : Content → (per_part : ℕ) → List (List Cell) → Content
extended content per_part records = record {
  schema = content.schema;
  next = content.next + part_count per_part (length records);
  parts = content.parts ++ new_parts content.next per_part records;
}

-- ---- the dataset after a build

-- the part with this index of the column, in place of one that it had
abbrev pub with_index : (col : ℕ) → Spec → Partition → Partition
with_index col spec part = record part { specs = insert part.specs col spec }

abbrev pub indexed : (number col : ℕ) → Spec → Partition → Partition
indexed number col spec part = if part.number == number then with_index col spec part else part

abbrev pub built : Content → (number col : ℕ) → Spec → Content
built content number col spec = record content { parts = map (indexed number col spec) content.parts }

-- ---- the world after an effect

-- where no dataset is, nothing is built
abbrev pub after_build : World → List ℕ → (number col : ℕ) → Spec → Option Content → World
after_build world path number col spec None = world
after_build world path number col spec (Some content) = with_content world path (built content number col spec)

abbrev pub after_one : World → Effect → World
after_one world (Loads path schema per_part records) =
    with_content world path (extended (found_or_empty schema (content_at world path)) per_part records)
after_one world (Builds path number col spec) = after_build world path number col spec (content_at world path)

-- the world after these effects, the first of them first
abbrev pub after : World → List Effect → World
after world [] = world
after world (effect ∷ effects) = after (after_one world effect) effects
