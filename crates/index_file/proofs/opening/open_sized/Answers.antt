use Rattle.std.proofs.Common.{length, sym, ◌∙◌}
use Rattle.index_spec.specs.Printed.{printed}
use Rattle.index_file.specs.Front.{rest_size}
use Rattle.index_file.specs.IndexFile.{parts_bytes}
use Rattle.index_file.proofs.OpenedLemmas.{head_ends, head_looks, parts_read, same_bytes, start_is}
use Rattle.index_file.proofs.opening.open_sized.Goals as goal

pub returns-in_err-rest-clause-reads : goal.returns-in_err-rest-clause-reads
returns-in_err-rest-clause-reads g c =
    head_looks (g.S.Store.files c.args.store.now) c.args.name.now c.args.rows c.in_ok-front.front _ _ _ c.in_ok-front.ensures.exact c.read_front.ensures.reads
    c.read_rest.ensures.reads

pub returns-in_err-head-clause-reads : goal.returns-in_err-head-clause-reads
returns-in_err-head-clause-reads g c =
    head_looks (g.S.Store.files c.args.store.now) c.args.name.now c.args.rows c.in_ok-front.front _ _ _ c.in_ok-front.ensures.exact c.read_front.ensures.reads
    c.read_rest.ensures.reads

pub returns-clause-reads : goal.returns-clause-reads
returns-clause-reads g c =
    head_looks (g.S.Store.files c.args.store.now) c.args.name.now c.args.rows c.in_ok-front.front _ _ _ c.in_ok-front.ensures.exact c.read_front.ensures.reads
    c.read_rest.ensures.reads

pub returns-clause-found : goal.returns-clause-found
returns-clause-found g c =
    let files = g.S.Store.files c.args.store.now in
    let head = c.in_ok-head.head in
    parts_read files c.args.name.now c.args.rows c.args.size c.in_ok-front.front head.spec head.bins head.offsets c.in_ok-front.ensures.spelled
    (same_bytes files (g.S.Store.files c.read_front.new.store) c.args.name.now 24 (rest_size c.in_ok-front.front) c.in_ok-rest.rest.items
    (parts_bytes (printed head.spec) head.bins head.offsets) c.read_front.ensures.files
    (sym c.deref.ensures.value ∙ c.in_ok-head.ensures.spelled) c.in_ok-rest.ensures.given)
    c.in_ok-head.ensures.sizes (start_is c.in_ok-front.front c.args.size (length (printed head.spec)) (length head.bins) head.offsets c.in_ok-head.ensures.sizes head.placed)

pub returns-clause-before : goal.returns-clause-before
returns-clause-before g c =
    let head = c.in_ok-head.head in
    head_ends (g.S.Store.files c.args.store.now) c.args.name.now c.in_ok-front.front _ _ _ _
    (start_is c.in_ok-front.front c.args.size (length (printed head.spec)) (length head.bins) head.offsets c.in_ok-head.ensures.sizes head.placed) c.read_front.ensures.reads
    c.read_rest.ensures.reads
