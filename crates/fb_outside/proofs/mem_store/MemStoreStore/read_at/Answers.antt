use Rattle.std.proofs.Common.{◌≡◌, Some, is_some, map, length, true, sym, ap}
use Rattle.std.specs.FinMap.{from_entries}
use Rattle.fb_outside.specs.Files.{file_at}
use Rattle.fb_outside.specs.Memory.{place_of}
use Rattle.fb_outside.specs.MemFiles.{entry_of}
use Rattle.fb_outside.proofs.MemoryLemmas.{adds_note}
use Rattle.fb_outside.proofs.mem_store.MemStoreStore.read_at.Goals as goal

-- the read of a name that has a file is noted, also where it is refused
pub returns-then-is_some-2-clause-reads : goal.returns-then-is_some-2-clause-reads
returns-then-is_some-2-clause-reads c =
    let es = map entry_of c.self.inside.files.items in
    let place : place_of es c.args.name.now ≡ Some c.in-Some.file = rw (← c.as_slice.ensures.value) (sym c.in-Some.ensures.place) in
    let there : is_some (file_at (from_entries es) c.args.name.now) ≡ true =
    rw (← c.as_slice.ensures.value) (ap is_some (sym c.in-Some.ensures.bytes)) in
    rw (← c.self.view_is, c.add.ensures)
    (adds_note es c.self.inside.notes (from_entries es) c.args.name.now c.in-Some.file c.args.at (length c.args.buf.now) place there)

pub returns-clause-reads : goal.returns-clause-reads
returns-clause-reads c =
    let es = map entry_of c.self.inside.files.items in
    let place : place_of es c.args.name.now ≡ Some c.in-Some.file = rw (← c.as_slice.ensures.value) (sym c.in-Some.ensures.place) in
    let there : is_some (file_at (from_entries es) c.args.name.now) ≡ true =
    rw (← c.as_slice.ensures.value) (ap is_some (sym c.in-Some.ensures.bytes)) in
    rw (← c.self.view_is, c.add.ensures, c.give.auto.buf)
    (adds_note es c.self.inside.notes (from_entries es) c.args.name.now c.in-Some.file c.args.at (length c.args.buf.now) place there)
