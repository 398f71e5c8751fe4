use Rattle.std.proofs.Common.{◌≡◌, false, true, ◌++◌, [], ◌∷◌, ◌∙◌, sym, ap}
use Rattle.std.specs.Prelude.{Some}
use Rattle.where_grammar.specs.declared.token.Sign.TheVariants as sign
use Rattle.where_grammar.specs.Nesting.{is_close, is_sign}
use Rattle.where_grammar.specs.Parsing.{bare, items_at, taken}
use Rattle.where_grammar.proofs.Lists.{front_told, items_at-some, put_items, put-with}
use Rattle.where_grammar.proofs.atoms.items.Goals as goal

pub loop-token-preserved : goal.loop-token-preserved
loop-token-preserved g c =
    let part = g.T.Item.part in
    let token = c.in-Some-first.token.now in
    let behind = bare c.in-Some-first.behind.now in
    let item = c.in-Some-2.item in
    let after = bare c.in-Some-2.after.now in
    let cut = front_told (bare c.loop-token.rest.now) token behind c.in-Some-first.ensures in
    let no_close : is_close token ≡ false = sym c.is_sign.ensures ∙ c.if-is_sign.false in
    let is_comma : is_sign sign.Comma token ≡ true = sym c.is_sign-in-Some-first.ensures ∙ c.if-not-is_sign.false in
    let found : taken part behind ≡ Some (item, after) = sym (rw c.in-Some-2.is at c.in_ok-item-2.ensures) in
    let step = items_at-some part token behind item after no_close is_comma found in
    let more = put-with c.loop-token.list item (items_at part after) in
    let pushed : c.push-in-Some-2.new.self ≡ c.loop-token.list ++ (item ∷ []) = c.in_ok-push-in-Some-2.ensures.ok in
    ap (λ xs. put_items xs (items_at part after)) pushed ∙ (sym more ∙ (ap (put_items c.loop-token.list) (sym step ∙ ap (items_at part) (sym cut)) ∙ c.loop-token.invariant))
