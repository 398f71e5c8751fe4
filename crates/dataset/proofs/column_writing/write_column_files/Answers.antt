use Rattle.std.proofs.Common.{◌≡◌, List, ap, subst, sym, ◌∙◌}
use Rattle.fb_outside.specs.Puts.{File, PutsInOrder}
use Rattle.fb_types.specs.declared.types.ColType.TheVariants.{Category, Text}
use Rattle.dataset.proofs.FileLemmas.{by_type_category, by_type_text, by_type_whole, is_whole}
use Rattle.dataset.proofs.column_writing.write_column_files.Goals as goal

pub returns-in-Category-clause-files : goal.returns-in-Category-clause-files
returns-in-Category-clause-files g c =
    let is : c.args.part.now.column.ty ≡ Category = sym (ap (λ p. p.column.ty) c.part.view_is) ∙ c.in-Category.is in
    subst (λ (fs : List File). PutsInOrder fs c.write_category.result (g.S.Store.files c.args.store.now) (g.S.Store.files c.write_category.new.store))
    (sym (by_type_category c.args.part.now is)) c.write_category.ensures.files

pub returns-in-Text-clause-files : goal.returns-in-Text-clause-files
returns-in-Text-clause-files g c =
    let is : c.args.part.now.column.ty ≡ Text = sym (ap (λ p. p.column.ty) c.part.view_is) ∙ c.in-Text.is in
    subst (λ (fs : List File). PutsInOrder fs c.write_text.result (g.S.Store.files c.args.store.now) (g.S.Store.files c.write_text.new.store))
    (sym (by_type_text c.args.part.now is)) c.write_text.ensures.files

pub returns-in_default-clause-files : goal.returns-in_default-clause-files
returns-in_default-clause-files g c =
    let view = ap (λ p. p.column.ty) c.part.view_is in
    let whole = is_whole c.args.part.now.column.ty (λ e. c.in_default.not-Category (view ∙ e)) (λ e. c.in_default.not-Text (view ∙ e)) in
    subst (λ (fs : List File). PutsInOrder fs c.write_whole.result (g.S.Store.files c.args.store.now) (g.S.Store.files c.write_whole.new.store))
    (sym (by_type_whole c.args.part.now whole)) c.write_whole.ensures.files
