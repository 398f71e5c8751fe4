-- What the objects in memory are, and what a call does to them.
use Rattle.std.specs.Prelude.{◌==◌, ◌+◌, ◌||◌, not, nat_lt, ℕ, Bool, true, false, List, [], ◌∷◌, ◌++◌, map, length, Option, Some, None, Result, Ok, Err, is_some, option_map, unwrap_or, slice_get, if◌then◌else◌, bytes_eq}
use Rattle.std.specs.FinMap.{from_entries}
use Rattle.fb_outside.specs.Causes.{one_more}
use Rattle.fb_outside.specs.Files.{Files}
use Rattle.fb_outside.specs.Reads.{Look}
use Rattle.fb_outside.specs.declared.outside.Trouble.{Trouble}
use Rattle.fb_outside.specs.declared.outside.Trouble.TheVariants.{Failed, OutOfMemory}
use Rattle.fb_outside.specs.declared.fail_at.FailAt.{FailAt}
use Rattle.fb_outside.specs.declared.read_note.ReadNote.{ReadNote}

-- which calls fail, and how many calls and faults there were
pub record Counted : Type 0 where
  pub fails : List FailAt
  pub calls : ℕ
  pub faults : ℕ

-- before the first call
abbrev pub uncalled : List FailAt → Counted
uncalled fails = record { fails = fails; calls = 0; faults = 0 }

-- a call that fails and leaves nothing new
abbrev pub plain_fail : ℕ → FailAt
plain_fail call = record { call = call; keep_new = false }

-- whether the call of this number fails, and then whether it leaves the new: the first entry counts
abbrev pub fault_at : List FailAt → ℕ → Option Bool
fault_at [] call = None
fault_at (f ∷ fs) call = if f.call == call then Some f.keep_new else fault_at fs call

-- the same of the call that comes next
abbrev pub next_fault : Counted → Option Bool
next_fault c = fault_at c.fails c.calls

-- after that call
abbrev pub called : Counted → Counted
called c = record {
  fails = c.fails;
  calls = one_more c.calls;
  faults = if is_some (next_fault c) then one_more c.faults else c.faults;
}

-- a source in memory, of which each call gives at most `piece` bytes
pub record SourceState : Type 0 where
  pub left : List ℕ
  pub piece : ℕ
  pub counted : Counted

-- a sink in memory
pub record SinkState : Type 0 where
  pub written : List ℕ
  pub counted : Counted

-- a file's name and its bytes
abbrev pub Entry : Type 0
Entry = List ℕ × List ℕ

-- the notes of the reads that a store in memory made, of which there is room for `room`; with `over` more were made
pub record Noted : Type 0 where
  pub notes : List ReadNote
  pub room : ℕ
  pub over : Bool

-- before the first read
abbrev pub unread : ℕ → Noted
unread room = record { notes = []; room = room; over = false }

-- after one more read
abbrev pub noted : Noted → ReadNote → Noted
noted n note = record {
  notes = if nat_lt (length n.notes) n.room then n.notes ++ note ∷ [] else n.notes;
  room = n.room;
  over = n.over || not (nat_lt (length n.notes) n.room);
}

-- a store in memory: its files in the order in which they were first put, and the notes of its reads
pub record StoreState : Type 0 where
  pub entries : List Entry
  pub noted : Noted
  pub counted : Counted

-- the bytes of the file of this name
abbrev pub bytes_in : List Entry → List ℕ → Option (List ℕ)
bytes_in [] name = None
bytes_in (e ∷ es) name = if bytes_eq name e.0 then Some e.1 else bytes_in es name

-- the number of the file of this name
abbrev pub place_of : List Entry → List ℕ → Option ℕ
place_of [] name = None
place_of (e ∷ es) name = if bytes_eq name e.0 then Some 0 else option_map (λ k. k + 1) (place_of es name)

-- with these bytes at this name: at its place, or at the end where it is new
abbrev pub put_entry : List Entry → List ℕ → List ℕ → List Entry
put_entry [] name bytes = (name, bytes) ∷ []
put_entry (e ∷ es) name bytes = if bytes_eq name e.0 then (e.0, bytes) ∷ es else e ∷ put_entry es name bytes

-- the name of the file of this number
abbrev pub name_at : List Entry → ℕ → Option (List ℕ)
name_at es k = option_map (λ e. e.0) (slice_get es k)

-- the read that a note stands for
abbrev pub look_of : List Entry → ReadNote → Look
look_of es note = record { name = unwrap_or (name_at es note.file) []; offset = note.at; room = note.length }

-- the files as a map
abbrev pub files_of : StoreState → Files
files_of s = from_entries s.entries

-- the reads, where there was room for each
abbrev pub reads_in : List Entry → Noted → Option (List Look)
reads_in es n = if n.over then None else Some (map (look_of es) n.notes)

-- the same of a store
abbrev pub reads_of : StoreState → Option (List Look)
reads_of s = reads_in s.entries s.noted

-- after a look at the file of a number, if there is one
abbrev pub looked : Noted → Option ℕ → ℕ → ℕ → Noted
looked n None offset room = n
looked n (Some file) offset room = noted n (record { file = file; at = offset; length = room })

-- whether a `put` that answered so left the new bytes
abbrev pub left_new : Result (Unit {0}) Trouble → Option Bool → Bool
left_new (Ok _) keeps = true
left_new (Err Failed) keeps = unwrap_or keeps false
left_new (Err OutOfMemory) keeps = false

-- the calls after a `put` that answered so: one for which memory ran out doesn't count
abbrev pub put_counted : Counted → Result (Unit {0}) Trouble → Counted
put_counted c (Ok _) = called c
put_counted c (Err Failed) = called c
put_counted c (Err OutOfMemory) = c

-- after a `put` that answered so
abbrev pub after_put : StoreState → List ℕ → List ℕ → Result (Unit {0}) Trouble → StoreState
after_put s name bytes answer = record {
  entries = if left_new answer (next_fault s.counted) then put_entry s.entries name bytes else s.entries;
  noted = s.noted;
  counted = put_counted s.counted answer;
}
