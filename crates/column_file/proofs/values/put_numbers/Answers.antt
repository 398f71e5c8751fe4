use Rattle.std.proofs.Common.{◌≡◌, List, ℕ, OnOk, IsErrOf, ap, subst, ◌∙◌}
use Rattle.std.specs.List.{flat_map}
use Rattle.fb_outside.specs.Files.{Puts, PutLeaves}
use Rattle.column_file.specs.declared.fault.ColFault.TheVariants.{Store}
use Rattle.column_file.specs.Values.{values_bytes}
use Rattle.column_file.proofs.ValuesLemmas.{flattened}
use Rattle.column_file.proofs.values.put_numbers.Goals as goal

pub returns-clause-ok : goal.returns-clause-ok
returns-clause-ok g c =
    let written : c.as_flattened.result.now ≡ values_bytes g.T.Number.ty c.args.values.now =
    c.as_flattened.ensures.value ∙ ap (flat_map (λ x. x)) (c.deref.ensures.value ∙ c.in-Ok.ensures) ∙ flattened g.T.Number.ty c.args.values.now in
    let P : List ℕ → Type 0 = λ b. OnOk c.put_bytes.result (Puts (g.S.Store.files c.args.store.now) (g.S.Store.files c.put_bytes.new.store) c.args.name.now b) in
    subst P written c.put_bytes.ensures.ok

pub returns-clause-store : goal.returns-clause-store
returns-clause-store g c =
    let written : c.as_flattened.result.now ≡ values_bytes g.T.Number.ty c.args.values.now =
    c.as_flattened.ensures.value ∙ ap (flat_map (λ x. x)) (c.deref.ensures.value ∙ c.in-Ok.ensures) ∙ flattened g.T.Number.ty c.args.values.now in
    let P : List ℕ → Type 0 = λ b. IsErrOf c.put_bytes.result Store → PutLeaves c.args.name.now b (g.S.Store.files c.args.store.now) (g.S.Store.files c.put_bytes.new.store) in
    subst P written c.put_bytes.ensures.store
