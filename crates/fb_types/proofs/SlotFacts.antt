-- What the cells of a list of slots are as the list or its text grows or is cut.
use Rattle.std.proofs.Common.{◌≡◌, ℕ, zero, suc, ◌+◌, ◌<◌, ◌≤◌, List, [], ◌∷◌, ◌++◌, ◌^◌, length, get_or, take, drop, refl, ap, sym, subst, ◌∙◌, ℤ, pos, negsuc, ◌-ℤ◌, arith, length-append, length-drop}
use Rattle.std.proofs.lemmas.List.{take-append-le, drop-append-le}
use Rattle.std.proofs.lemmas.Int.{ints}
use mir.Val.{SFits, to_z, of_z}
use mir.Syntax.{w128}
use Rattle.fb_types.specs.declared.cells.Cell.{Cell}
use Rattle.fb_types.specs.declared.cells.Cell.TheVariants.{Null, Whole, Word}
use Rattle.fb_types.specs.declared.slots.Slot.{Slot}
use Rattle.fb_types.specs.declared.slots.Slot.TheVariants.{Empty, Natural, Negative, Bytes}
use Rattle.fb_types.specs.Slots.{cell_in, cells_in, IsInText, AllInText, IsStorable, AllStorable}

pub length-cells_in : (text : List ℕ) (slots : List Slot) → length (cells_in text slots) ≡ length slots
length-cells_in text [] = refl
length-cells_in text (slot ∷ slots) = ap suc (length-cells_in text slots)

pub cells_in-append : (text : List ℕ) (slots more : List Slot) → cells_in text (slots ++ more) ≡ cells_in text slots ++ cells_in text more
cells_in-append text [] more = refl
cells_in-append text (slot ∷ slots) more = ap (λ cells. cell_in text slot ∷ cells) (cells_in-append text slots more)

pub AllInText-append : (text : List ℕ) (slots more : List Slot) → AllInText text slots → AllInText text more → AllInText text (slots ++ more)
AllInText-append text [] more here there = there
AllInText-append text (slot ∷ slots) more here there = (here.0, AllInText-append text slots more here.1 there)

IsInText-grown : (text more : List ℕ) (slot : Slot) → IsInText text slot → IsInText (text ++ more) slot
IsInText-grown text more Empty h = tt
IsInText-grown text more (Natural n) h = tt
IsInText-grown text more (Negative n) h = tt
IsInText-grown text more (Bytes start len) h = omega (arith, length-append text more)

pub AllInText-grown : (text more : List ℕ) (slots : List Slot) → AllInText text slots → AllInText (text ++ more) slots
AllInText-grown text more [] h = tt
AllInText-grown text more (slot ∷ slots) h = (IsInText-grown text more slot h.0, AllInText-grown text more slots h.1)

part-grown : (text more : List ℕ) (start len : ℕ) → start + len ≤ length text → take len (drop start (text ++ more)) ≡ take len (drop start text)
part-grown text more start len h =
    let here : start ≤ length text = omega arith in
    let there : len ≤ length (drop start text) = omega (arith, length-drop start text) in
    ap (take len) (drop-append-le start text more here) ∙ take-append-le len (drop start text) more there

cell_in-grown : (text more : List ℕ) (slot : Slot) → IsInText text slot → cell_in (text ++ more) slot ≡ cell_in text slot
cell_in-grown text more Empty h = refl
cell_in-grown text more (Natural n) h = refl
cell_in-grown text more (Negative n) h = refl
cell_in-grown text more (Bytes start len) h = ap (λ word. Word word) (part-grown text more start len h)

pub cells_in-grown : (text more : List ℕ) (slots : List Slot) → AllInText text slots → cells_in (text ++ more) slots ≡ cells_in text slots
cells_in-grown text more [] h = refl
cells_in-grown text more (slot ∷ slots) h =
    let here = cell_in-grown text more slot h.0 in let there = cells_in-grown text more slots h.1 in cc

pub cells_in-take : (text : List ℕ) (n : ℕ) (slots : List Slot) → cells_in text (take n slots) ≡ take n (cells_in text slots)
cells_in-take text zero slots = refl
cells_in-take text (suc n) [] = refl
cells_in-take text (suc n) (slot ∷ slots) = ap (λ cells. cell_in text slot ∷ cells) (cells_in-take text n slots)

pub AllInText-take : (text : List ℕ) (n : ℕ) (slots : List Slot) → AllInText text slots → AllInText text (take n slots)
AllInText-take text zero slots h = tt
AllInText-take text (suc n) [] h = tt
AllInText-take text (suc n) (slot ∷ slots) h = (h.0, AllInText-take text n slots h.1)

pub get_or-cells_in : (text : List ℕ) (slots : List Slot) (i : ℕ) (d : Slot) → i < length slots → get_or (cells_in text slots) i Null ≡ cell_in text (get_or slots i d)
get_or-cells_in text [] i d h = absurd (omega arith)
get_or-cells_in text (slot ∷ slots) zero d h = refl
get_or-cells_in text (slot ∷ slots) (suc i) d h = get_or-cells_in text slots i d (omega arith)

pub get_or-AllInText : (text : List ℕ) (slots : List Slot) (i : ℕ) (d : Slot) → i < length slots → AllInText text slots → IsInText text (get_or slots i d)
get_or-AllInText text [] i d h inside = absurd (omega arith)
get_or-AllInText text (slot ∷ slots) zero d h inside = inside.0
get_or-AllInText text (slot ∷ slots) (suc i) d h inside = get_or-AllInText text slots i d (omega arith) inside.1

-- the cell at a place is that of the slot there
pub cell_of_slot : (text : List ℕ) (slots : List Slot) (cells : List Cell) (at : ℕ) (slot : Slot) → cells_in text slots ≡ cells → at < length cells → slot ≡ get_or slots at slot → get_or cells at Null ≡ cell_in text slot
cell_of_slot text slots cells at slot view here is =
    let within : at < length slots = omega (arith, here, ap length view, length-cells_in text slots) in
    let cell = get_or-cells_in text slots at slot within in
    rw (← view) (cell ∙ ap (cell_in text) (sym is))

-- and a slot of words lies in the text
pub slot_in_text : (text : List ℕ) (slots : List Slot) (cells : List Cell) (at : ℕ) (slot : Slot) → cells_in text slots ≡ cells → at < length cells → AllInText text slots → slot ≡ get_or slots at slot → IsInText text slot
slot_in_text text slots cells at slot view here inside is =
    let within : at < length slots = omega (arith, here, ap length view, length-cells_in text slots) in
    let Inside : Slot → Type 0 = λ s. IsInText text s in
    subst Inside (sym is) (get_or-AllInText text slots at slot within inside)

-- a place among the cells is one among the slots
pub slot_place : (text : List ℕ) (slots : List Slot) (cells : List Cell) (at : ℕ) → cells_in text slots ≡ cells → at < length cells → at < length slots
slot_place text slots cells at view here = omega (arith, here, ap length view, length-cells_in text slots)

-- a number kept as -1 - n
pub negative_kept : (n : ℕ) → n < 2 ^ 64 → to_z w128 (of_z w128 (negsuc 0 -ℤ to_z w128 n)) ≡ negsuc n
negative_kept n h = omega (arith, ints)

-- a number that a slot takes is one of 128 bits
pub SFits-storable : (number : ℤ) → IsStorable (Whole number) → SFits w128 number
SFits-storable (pos n) h = record { sfits = omega (arith, ints, h.1) }
SFits-storable (negsuc n) h = record { sfits = omega (arith, ints, h.0) }

pub IsStorable-at : (cells : List Cell) (i : ℕ) (cell : Cell) → AllStorable cells → i < length cells → cell ≡ get_or cells i cell → IsStorable cell
IsStorable-at [] i cell all here is = absurd (omega arith)
IsStorable-at (first ∷ cells) zero cell all here is = let S : Cell → Type 0 = λ x. IsStorable x in subst S (sym is) all.0
IsStorable-at (first ∷ cells) (suc i) cell all here is = IsStorable-at cells i cell all.1 (omega arith) is
