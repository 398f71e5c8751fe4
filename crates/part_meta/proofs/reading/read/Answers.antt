use Rattle.part_meta.proofs.CutLemmas.{reads_exact, reads_found}
use Rattle.part_meta.proofs.reading.read.Goals as goal

pub returns-clause-found : goal.returns-clause-found
returns-clause-found g c = reads_found g.F.Front.is_of g.F.Front.lines c.args.bytes.now c.read_lines.result c.read_lines.ensures

pub returns-clause-exact : goal.returns-clause-exact
returns-clause-exact g c =
    reads_exact g.F.Front.is_of g.F.Front.lines c.laws.ensures.each_line c.laws.ensures.one c.args.bytes.now c.read_lines.result c.read_lines.ensures
