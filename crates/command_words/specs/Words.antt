-- The request that a list of words spells.
use Rattle.std.specs.Prelude.{ℕ, Bool, ◌==◌, ◌&&◌, ◌||◌, not, nat_le, List, [], ◌∷◌, String, length, map, Option, Some, None, bytes_eq, codes, count_by, option_and_then, option_map, string_bytes, if◌then◌else◌}
use Rattle.std.specs.List.{ends_with}
use Rattle.std.specs.Option.{option_or}
use Rattle.fb_outside.specs.NameTests.{are_pieces}
use Rattle.fb_types.specs.Field.{natural_of}
use Rattle.command_words.specs.Places.{Given, Letters, are_in_order, given_by, has, letters_by, value_of}
use Rattle.command_words.specs.declared.Job.{Job}
use Rattle.command_words.specs.declared.Job.TheVariants.{Ardea, Gen, Ibis, Session}
use Rattle.command_words.specs.declared.Task.{Task}
use Rattle.command_words.specs.declared.Task.TheVariants as task

-- what passes a test
abbrev pub kept : {A : Type 0} → (A → Bool) → Option A → Option A
kept test found = option_and_then (λ value. if test value then Some value else None) found

-- a path: at most 200 bytes, in pieces of at most 64
unfoldable pub is_path : List ℕ → Bool
is_path word = nat_le (length word) 200 && are_pieces 64 word

-- the path that a word is, and the path that ends in `.csv`
abbrev pub path_of : List ℕ → Option (List ℕ)
path_of word = if is_path word then Some word else None

abbrev pub csv_path_of : List ℕ → Option (List ℕ)
csv_path_of word = if ends_with ◌==◌ word (codes ".csv") then path_of word else None

-- the number of 1 to 18 digits that a word is
unfoldable pub number_of : List ℕ → Option ℕ
number_of word = if nat_le (length word) 18 then natural_of word else None

-- an option that may be left out: what its value is read as, and this where it isn't there
abbrev pub or_left_out : {A : Type 0} → A → (List ℕ → Option A) → Option (List ℕ) → Option A
or_left_out left_out read None = Some left_out
or_left_out left_out read (Some word) = read word

-- the values of `-d` (100), `-m` (109), `-t` (116), `-p` (112) and `-s` (115), each None where it isn't as it has to be
abbrev pub dir_of : Given → Option (List ℕ)
dir_of given = option_and_then path_of (value_of given 100)

abbrev pub schema_of : Given → Option (List ℕ)
schema_of given = value_of given 109

abbrev pub file_of : Given → Option (Option (List ℕ))
file_of given = or_left_out None (λ word. option_map Some (csv_path_of word)) (value_of given 116)

abbrev pub per_part_of : Given → Option ℕ
per_part_of given = kept (nat_le 1) (or_left_out 1000000 number_of (value_of given 112))

abbrev pub skip_of : Given → Option ℕ
skip_of given = or_left_out 0 number_of (value_of given 115)

-- a load, where each of its parts is there
abbrev pub load_of : Option (List ℕ) → Option (List ℕ) → Option (Option (List ℕ)) → Option ℕ → Option ℕ → Option Job
load_of (Some dir) (Some schema) (Some file) (Some per_part) (Some skip) =
    Some (Ardea (record { dir = dir; schema = schema; file = file; per_part = per_part; skip = skip }))
load_of dir schema file per_part skip = None

-- how many of the letters of tasks are there
unfoldable pub task_count : Given → ℕ
task_count given = count_by (λ letter. has given letter) (codes "qebcl")

-- `-q` (113), `-e` (101), `-b` (98), `-c` (99), `-l` (108): exactly one of them; `-v` (118) only with `-q`, `-k` (107) only with `-b`
abbrev pub is_one_task : Given → Bool
is_one_task given =
    (task_count given == 1)
    && (not (has given 118) || has given 113)
    && (not (has given 107) || has given 98)

-- the first of them that is there
abbrev pub first_task : Given → Option Task
first_task given =
    option_or (option_map (λ query. task.Answer query (has given 118)) (value_of given 113))
    (option_or (option_map task.Estimate (value_of given 101))
    (option_or (option_map (λ spec. task.Build spec (value_of given 107)) (value_of given 98))
    (if has given 99 then Some task.Check else (if has given 108 then Some task.List else None))))

unfoldable pub task_of : Given → Option Task
task_of given = if is_one_task given then first_task given else None

-- a task on a dataset, where both are there
abbrev pub ibis_of : Option (List ℕ) → Option Task → Option Job
ibis_of (Some dir) (Some task) = Some (Ibis dir task)
ibis_of dir task = None

-- a table of 1 to 1,000,000 rows from a number
abbrev pub gen_of : Option ℕ → Option ℕ → Option Job
gen_of (Some rows) (Some seed) = Some (Gen rows seed)
gen_of rows seed = None

abbrev pub rows_of : List ℕ → Option ℕ
rows_of word = kept (λ n. nat_le 1 n && nat_le n 1000000) (number_of word)

-- the words behind a command, where they are options and flags of these letters
abbrev pub if_in_order : Letters → (Given → Option Job) → List (List ℕ) → Option Job
if_in_order letters read words =
    let given = given_by letters words in if are_in_order letters given then read given else None

abbrev pub ardea_letters : Letters
ardea_letters = letters_by (codes "dmtps") []

abbrev pub ibis_letters : Letters
ibis_letters = letters_by (codes "dqebk") (codes "vcl")

unfoldable pub ardea_by : List (List ℕ) → Option Job
ardea_by words = if_in_order ardea_letters (λ given. load_of (dir_of given) (schema_of given) (file_of given) (per_part_of given) (skip_of given)) words

unfoldable pub ibis_by : List (List ℕ) → Option Job
ibis_by words = if_in_order ibis_letters (λ given. ibis_of (dir_of given) (task_of given)) words

unfoldable pub session_by : List (List ℕ) → Option Job
session_by [] = Some Session
session_by (word ∷ words) = None

unfoldable pub gen_by : List (List ℕ) → Option Job
gen_by (rows ∷ seed ∷ []) = gen_of (rows_of rows) (number_of seed)
gen_by words = None

-- The first word is the command, and what follows is read by its rule.
unfoldable pub request_of : List (List ℕ) → Option Job
request_of [] = None
request_of (command ∷ words) =
    if bytes_eq command (codes "ardea") then ardea_by words
    else (if bytes_eq command (codes "ibis") then ibis_by words
    else (if bytes_eq command (codes "session") then session_by words
    else (if bytes_eq command (codes "gen") then gen_by words else None)))

-- the same of words as strings
abbrev pub asked_by : {A : Type 0} → List (String A) → Option Job
asked_by words = request_of (map string_bytes words)
