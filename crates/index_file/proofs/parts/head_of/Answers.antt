use Rattle.std.proofs.Common.{◌≡◌, ◌*◌, sym, take, drop, ◌∙◌}
use Rattle.index_file.specs.IndexFile.{edges_bytes, places_bytes}
use Rattle.index_file.proofs.PartLemmas.{parts_joined}
use Rattle.index_file.proofs.parts.head_of.Goals as goal

pub returns-clause-spelled : goal.returns-clause-spelled
returns-clause-spelled c =
    let t = c.args.front.text in
    let e = 32 * c.args.front.bins in
    let text : take t c.args.bytes.now ≡ _ = sym c.split_at.ensures.front ∙ c.in_ok-spec.ensures.found.0 in
    let edges : edges_bytes c.in_ok-bins.bins ≡ take e (drop t c.args.bytes.now) = cc (c.in_ok-bins.ensures.spelled, c.split_at-2.ensures.front, c.split_at.ensures.back) in
    let places : places_bytes c.in_ok-offsets.offsets ≡ drop e (drop t c.args.bytes.now) = cc (c.in_ok-offsets.ensures.spelled, c.split_at-2.ensures.back, c.split_at.ensures.back) in
    parts_joined t e c.args.bytes.now _ c.in_ok-bins.bins c.in_ok-offsets.offsets text edges places
