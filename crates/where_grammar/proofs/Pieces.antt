-- The tokens of the print of a clause, from those of its parts.
use Rattle.std.proofs.Common.{◌≡◌, Bool, false, List, [], ◌∷◌, map, refl, sym, ap, ◌∙◌}
use Rattle.std.specs.Prelude.{codes}
use Rattle.std.specs.List.{list_any}
use Rattle.where_grammar.specs.declared.clause.Atom.{Atom}
use Rattle.where_grammar.specs.declared.clause.Clause.{Clause}
use Rattle.where_grammar.specs.declared.clause.Clause.TheVariants as clause
use Rattle.where_grammar.specs.declared.clause.Clause.TheVariants.{rolls-Or, rolls-Xor, rolls-And, rolls-Not, rolls-One}
use Rattle.where_grammar.specs.declared.clause.Clause.TheOpen.{Clause-F}
use Rattle.where_grammar.specs.declared.clause.Clause.TheFolds.{fold-Clause, fold-roll-Clause}
use Rattle.where_grammar.specs.declared.clause.Join.{Join}
use Rattle.where_grammar.specs.declared.clause.Join.TheVariants as join
use Rattle.where_grammar.specs.Grammar.{group, keyword}
use Rattle.where_grammar.specs.Printed.{Piece, any_by_parts, as_part, atom_tokens, group_piece, has_long_list, lists_too_much, piece_by_parts, piece_of}
use Rattle.std.specs.Prelude.{ℕ, ◌||◌}

-- the word that joins parts of this level
abbrev pub joint_word : Join → List ℕ
joint_word join.Or = codes "or"
joint_word join.Xor = codes "xor"
joint_word join.And = codes "and"

pub piece_of-group : (j : Join) (parts : List Clause) → piece_of (group j parts) ≡ group_piece (joint_word j) (map piece_of parts)
piece_of-group join.Or parts = ap (fold-Clause Piece piece_by_parts) (sym (rolls-Or parts)) ∙ fold-roll-Clause Piece piece_by_parts (Clause-F.Or parts)
piece_of-group join.Xor parts = ap (fold-Clause Piece piece_by_parts) (sym (rolls-Xor parts)) ∙ fold-roll-Clause Piece piece_by_parts (Clause-F.Xor parts)
piece_of-group join.And parts = ap (fold-Clause Piece piece_by_parts) (sym (rolls-And parts)) ∙ fold-roll-Clause Piece piece_by_parts (Clause-F.And parts)

pub piece_of-not : (part : Clause) → piece_of (clause.Not part) ≡ record { is_group = false; tokens = keyword (codes "not") ∷ as_part (piece_of part) }
piece_of-not part = ap (fold-Clause Piece piece_by_parts) (sym (rolls-Not part)) ∙ fold-roll-Clause Piece piece_by_parts (Clause-F.Not part)

pub piece_of-one : (a : Atom) → piece_of (clause.One a) ≡ record { is_group = false; tokens = atom_tokens a }
piece_of-one a = ap (fold-Clause Piece piece_by_parts) (sym (rolls-One a)) ∙ fold-roll-Clause Piece piece_by_parts (Clause-F.One a)

any_mapped : {X : Type 0} (f : X → Bool) (xs : List X) → list_any (λ b. b) (map f xs) ≡ list_any f xs
any_mapped f [] = refl
any_mapped f (x ∷ xs) = ap (λ b. f x || b) (any_mapped f xs)

pub lists_too_much-group : (j : Join) (parts : List Clause) → lists_too_much (group j parts) ≡ list_any lists_too_much parts
lists_too_much-group join.Or parts = ap (fold-Clause Bool any_by_parts) (sym (rolls-Or parts)) ∙ (fold-roll-Clause Bool any_by_parts (Clause-F.Or parts) ∙ any_mapped lists_too_much parts)
lists_too_much-group join.Xor parts = ap (fold-Clause Bool any_by_parts) (sym (rolls-Xor parts)) ∙ (fold-roll-Clause Bool any_by_parts (Clause-F.Xor parts) ∙ any_mapped lists_too_much parts)
lists_too_much-group join.And parts = ap (fold-Clause Bool any_by_parts) (sym (rolls-And parts)) ∙ (fold-roll-Clause Bool any_by_parts (Clause-F.And parts) ∙ any_mapped lists_too_much parts)

pub lists_too_much-not : (part : Clause) → lists_too_much (clause.Not part) ≡ lists_too_much part
lists_too_much-not part = ap (fold-Clause Bool any_by_parts) (sym (rolls-Not part)) ∙ fold-roll-Clause Bool any_by_parts (Clause-F.Not part)

pub lists_too_much-one : (a : Atom) → lists_too_much (clause.One a) ≡ has_long_list a
lists_too_much-one a = ap (fold-Clause Bool any_by_parts) (sym (rolls-One a)) ∙ fold-roll-Clause Bool any_by_parts (Clause-F.One a)
