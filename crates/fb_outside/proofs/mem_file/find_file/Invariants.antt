use Rattle.std.proofs.Common.{◌≡◌, ◌+◌, drop, map, option_map}
use Rattle.fb_outside.specs.Memory.{bytes_in, place_of}
use Rattle.fb_outside.specs.MemFiles.{entry_of}
use Rattle.fb_outside.proofs.mem_file.find_file.Given as goal

-- none of the files so far has this name
abbrev pub invariant-loop-i : goal.invariant-loop-i
invariant-loop-i l = record {
  place : place_of (map entry_of l.files) l.name ≡ option_map (λ k. k + l.i) (place_of (map entry_of (drop l.i l.files)) l.name);
  bytes : bytes_in (map entry_of l.files) l.name ≡ bytes_in (map entry_of (drop l.i l.files)) l.name;
}
