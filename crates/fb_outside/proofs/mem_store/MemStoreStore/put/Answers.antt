use Rattle.std.proofs.Common.{Result, Ok, Err, OnOk, map, length, inr}
use Rattle.std.proofs.lemmas.List.{length-map}
use Rattle.fb_outside.specs.MemFiles.{entry_of}
use Rattle.fb_outside.proofs.MemoryLemmas.{AreWithin, puts_entry, keeps_reads, stays_within}
use Rattle.fb_outside.proofs.mem_store.MemStoreStore.put.Goals as goal

on_ok : {T E : Type 0} {P : Type 0} (r : Result T E) → P → OnOk r P
on_ok (Ok x) p = p
on_ok (Err e) p = tt

-- each note is of a file that is still there
pub invariant_of-self-2 : goal.invariant_of-self-2
invariant_of-self-2 c =
    let old = map entry_of c.self.inside.files.items in
    let new = map entry_of c.keep_file.new.files.items in
    let was : AreWithin (length old) c.self.inside.notes.notes = rw length-map c.self.invariant in
    rw (← length-map c.keep_file.new.files.items entry_of) (stays_within new old c.args.name.now c.args.bytes.now c.self.inside.notes.notes c.in-Ok.ensures.ok was)

pub returns-clause-ok : goal.returns-clause-ok
returns-clause-ok c =
    let put = puts_entry (map entry_of c.keep_file.new.files.items) (map entry_of c.self.inside.files.items) c.args.name.now c.args.bytes.now c.in-Ok.ensures.ok in
    on_ok c.match-count.result (rw (← c.self.view_is) put)

pub returns-clause-failed : goal.returns-clause-failed
returns-clause-failed c =
    let put = puts_entry (map entry_of c.keep_file.new.files.items) (map entry_of c.self.inside.files.items) c.args.name.now c.args.bytes.now c.in-Ok.ensures.ok in
    λ _. rw (← c.self.view_is) (inr put)

pub returns-clause-reads : goal.returns-clause-reads
returns-clause-reads c =
    let old = map entry_of c.self.inside.files.items in
    let was : AreWithin (length old) c.self.inside.notes.notes = rw length-map c.self.invariant in
    rw (← c.self.view_is) (keeps_reads (map entry_of c.keep_file.new.files.items) old c.args.name.now c.args.bytes.now c.self.inside.notes c.in-Ok.ensures.ok was)
