-- Behind a select list there is as much room for parentheses as before it.
use Rattle.std.proofs.Common.{◌≡◌, ℕ, zero, suc, ◌+◌, ◌-◌, Bool, true, false, List, [], ◌∷◌, ◌++◌, refl, sym, ap, subst, ◌∙◌, append_assoc, append-nil, arith, eqb, take, drop}
use Rattle.std.specs.Prelude.{Option, Some, None, codes, ◌||◌, ◌&&◌, ◌==◌}
use Rattle.std.proofs.lemmas.Bool.Decides.{nat_tests}
use Rattle.where_grammar.specs.declared.token.Token.{Token}
use Rattle.where_grammar.specs.declared.token.Token.TheVariants as t
use Rattle.where_grammar.specs.Nesting.{is_close, is_crowded, is_open, room_after}
use Rattle.where_grammar.specs.Grammar.{closing, comma, keyword, opening}
use Rattle.query_grammar.specs.declared.query.Item.{Item}
use Rattle.query_grammar.specs.Grammar.{AreListed, IsItem, IsSelect, count_alone, counted, greatest, last, least, more, plain, rows, star, summed}

-- two tokens in parentheses, and one
crowd_pair : (token : Token) (room : ℕ) (rest : List Token) → is_open token ≡ false → is_close token ≡ false → is_crowded room (opening ∷ token ∷ closing ∷ rest) ≡ false → is_crowded room rest ≡ false
crowd_pair token zero rest o c free = absurd cc
crowd_pair token (suc room) rest o c free =
    let some : eqb (suc room) 0 ≡ false = grind (arith, nat_tests) in
    let less : suc room - 1 ≡ room = omega arith in
    let one : room + 1 ≡ suc room = omega arith in
    rw (some, less, o, c, one) at free

crowd_item : (i : Item) (tokens : List Token) → IsItem i tokens → (room : ℕ) (rest : List Token) → is_crowded room (tokens ++ rest) ≡ false → is_crowded room rest ≡ false
crowd_item _ _ (plain word name named) room rest free = free
crowd_item _ _ counted room rest free = crowd_pair star room rest refl refl free
crowd_item _ _ (least word name named) room rest free = crowd_pair (t.Word word) room rest refl refl free
crowd_item _ _ (greatest word name named) room rest free = crowd_pair (t.Word word) room rest refl refl free
crowd_item _ _ (summed word name named) room rest free = crowd_pair (t.Word word) room rest refl refl free

crowd_listed : (items : List Item) (tokens : List Token) → AreListed IsItem items tokens → (room : ℕ) (rest : List Token) → is_crowded room (tokens ++ rest) ≡ false → is_crowded room rest ≡ false
crowd_listed _ _ (last one tokens is) room rest free = crowd_item one tokens is room rest free
crowd_listed _ _ (more one others front back is are) room rest free =
    let cut : (front ++ (comma ∷ back)) ++ rest ≡ front ++ (comma ∷ (back ++ rest)) = append_assoc front (comma ∷ back) rest in
    crowd_listed others back are room rest (crowd_item one front is room (comma ∷ (back ++ rest)) (ap (is_crowded room) (sym cut) ∙ free))

pub crowd_select : (items : Option (List Item)) (tokens : List Token) → IsSelect items tokens → (room : ℕ) (rest : List Token) → is_crowded room (tokens ++ rest) ≡ false → is_crowded room rest ≡ false
crowd_select _ _ count_alone room rest free = free
crowd_select _ _ (rows items tokens are) room rest free = crowd_listed items tokens are room rest free

or_first : (a b : Bool) → (a || b) ≡ false → a ≡ false
or_first true b e = cc
or_first false b e = refl

or_second : (a b : Bool) → (a || b) ≡ false → b ≡ false
or_second true b e = absurd cc
or_second false b e = e

-- the front of tokens isn't crowded where the whole isn't
pub crowd_front : (front back : List Token) (room : ℕ) → is_crowded room (front ++ back) ≡ false → is_crowded room front ≡ false
crowd_front [] back room free = refl
crowd_front (token ∷ front) back room free =
    let a = or_first (is_open token && room == 0) (is_crowded (room_after token room) (front ++ back)) free in
    let b = crowd_front front back (room_after token room) (or_second (is_open token && room == 0) (is_crowded (room_after token room) (front ++ back)) free) in
    rw (a, b) refl
