-- How a list of cells is kept: a slot for each cell, and the bytes of all words in one text.
use Rattle.std.specs.Prelude.{◌≡◌, ℕ, ◌+◌, ◌^◌, ◌≤◌, ℤ, pos, negsuc, neg_ℤ, ◌≤ℤ◌, ◌-◌, Option, Some, None, List, [], ◌∷◌, ◌++◌, length, take, drop}
use Rattle.fb_types.specs.declared.cells.Cell.{Cell}
use Rattle.fb_types.specs.declared.cells.Cell.TheVariants.{Null, Whole, Word}
use Rattle.fb_types.specs.declared.slots.Slot.{Slot}
use Rattle.fb_types.specs.declared.slots.Slot.TheVariants.{Empty, Natural, Negative, Bytes}

-- the cell that a slot keeps; a negative number n is kept as -1 - n
abbrev pub cell_in : List ℕ → Slot → Cell
cell_in text Empty = Null
cell_in text (Natural n) = Whole (pos n)
cell_in text (Negative n) = Whole (negsuc n)
cell_in text (Bytes start len) = Word (take len (drop start text))

abbrev pub IsInText : List ℕ → Slot → Type 0
IsInText text Empty = Unit {0}
IsInText text (Natural n) = Unit {0}
IsInText text (Negative n) = Unit {0}
IsInText text (Bytes start len) = start + len ≤ length text

abbrev pub cells_in : List ℕ → List Slot → List Cell
cells_in text [] = []
cells_in text (slot ∷ slots) = cell_in text slot ∷ cells_in text slots

abbrev pub AllInText : List ℕ → List Slot → Type 0
AllInText text [] = Unit {0}
AllInText text (slot ∷ slots) = IsInText text slot × AllInText text slots

-- a slot takes numbers of 64 bits with or without a sign, and words of at most 65,535 bytes
abbrev pub IsStorable : Cell → Type 0
IsStorable Null = Unit {0}
IsStorable (Whole number) = (neg_ℤ (pos (2 ^ 64)) ≤ℤ number) × (number ≤ℤ pos (2 ^ 64 - 1))
IsStorable (Word word) = length word ≤ 65535

abbrev pub AllStorable : List Cell → Type 0
AllStorable [] = Unit {0}
AllStorable (cell ∷ cells) = IsStorable cell × AllStorable cells

-- the bytes that a cell adds to the text
abbrev pub text_of : Cell → List ℕ
text_of Null = []
text_of (Whole number) = []
text_of (Word word) = word

-- the slot keeps the cell, whose word has gone to the end of the text
pub record IsKept (old new : List ℕ) (slot : Slot) (cell : Cell) : Type 0 where
  pub grown : new ≡ old ++ text_of cell
  pub inside : IsInText new slot
  pub value : cell_in new slot ≡ cell

-- the number or the word of a cell that is one
abbrev pub whole_in : Cell → Option ℤ
whole_in Null = None
whole_in (Whole number) = Some number
whole_in (Word word) = None

abbrev pub word_in : Cell → Option (List ℕ)
word_in Null = None
word_in (Whole number) = None
word_in (Word word) = Some word
