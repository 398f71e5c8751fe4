-- A file in memory, as its name and its bytes.
use Rattle.fb_outside.specs.Memory.{Entry}
use Rattle.fb_outside.specs.declared.mem_file.MemFile.{MemFile}

abbrev pub entry_of : MemFile → Entry
entry_of file = (file.name, file.bytes.items)
