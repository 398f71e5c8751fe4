use Rattle.std.proofs.Common.{map, arith}
use Rattle.std.proofs.lemmas.Grind.{common_steps}
use Rattle.fb_outside.specs.MemFiles.{entry_of}
use Rattle.fb_outside.proofs.MemoryLemmas.{file_at-from_entries}
use Rattle.fb_outside.proofs.mem_file.find_file.Goals as goal

pub returns-then-eq-clause-bytes : goal.returns-then-eq-clause-bytes
returns-then-eq-clause-bytes c =
    let e = file_at-from_entries (map entry_of c.args.files.now) c.args.name.now in
    grind (arith, common_steps)

pub returns-clause-bytes : goal.returns-clause-bytes
returns-clause-bytes c =
    let e = file_at-from_entries (map entry_of c.args.files.now) c.args.name.now in
    grind (arith, common_steps)
