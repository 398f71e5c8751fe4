-- The reads of blocks, joined.
use Rattle.std.proofs.Common.{◌≡◌, ◌<◌, ℕ, Bool, true, false, cond, nat_lt, List, [], ◌∷◌, ◌++◌, Option, Some, None, map, refl, sym, ap, subst, ◌∙◌, is_some, arith}
use Rattle.std.specs.List.{filter}
use Rattle.std.proofs.lemmas.Bool.Decides.{nat_tests}
use Rattle.std.proofs.lemmas.List.{map-append}
use Rattle.std.proofs.lemmas.List.Elements.{filter-append}
use Rattle.fb_outside.specs.Files.{Files, file_at}
use Rattle.fb_outside.specs.Reads.{Look, AddsRead}
use Rattle.fb_outside.proofs.ReadLemmas.{AddsReads-same, AddsReads-trans, AddsReads-weaken}
use Rattle.candidates.specs.Reads.{AddsAll, notes_of, reads_of}

pub adds_none : (files : Option Files) (old : Option (List Look)) → AddsAll files old old []
adds_none None old = tt
adds_none (Some m) old = AddsReads-same {P = λ added. added ≡ notes_of m []} old old refl refl

pub adds_more : (files : Option Files) (old mid new : Option (List Look)) (xs ys : List Look) → AddsAll files old mid xs → AddsAll files mid new ys
    → AddsAll files old new (xs ++ ys)
adds_more None old mid new xs ys h k = tt
adds_more (Some m) old mid new xs ys h k =
    AddsReads-trans {P = λ added. added ≡ notes_of m xs} {Q = λ added. added ≡ notes_of m ys} {R = λ added. added ≡ notes_of m (xs ++ ys)} old mid new h k
    (λ a b p q. ap (λ l. l ++ b) p ∙ ap (λ l. notes_of m xs ++ l) q ∙ sym (filter-append (λ look. is_some (file_at m look.name)) xs ys))

pub adds_read : (files : Option Files) (old new : Option (List Look)) (look : Look) → AddsRead files old new look → AddsAll files old new (look ∷ [])
adds_read None old new look h = tt
adds_read (Some m) old new look h = AddsReads-weaken {Q = λ added. added ≡ notes_of m (look ∷ [])} old new (λ added is. is) h

pub reads_joined : (look : ℕ × ℕ → Look) (takes : ℕ × ℕ → Bool) (xs ys : List (ℕ × ℕ)) → reads_of look takes xs ++ reads_of look takes ys ≡ reads_of look takes (xs ++ ys)
reads_joined look takes xs ys = sym (map-append look (filter takes xs) (filter takes ys)) ∙ ap (map look) (sym (filter-append takes xs ys))

-- the reads of blocks, and of more of them
pub adds_blocks : (files : Option Files) (old mid new : Option (List Look)) (look : ℕ × ℕ → Look) (takes : ℕ × ℕ → Bool) (xs ys all : List (ℕ × ℕ))
    → all ≡ xs ++ ys → AddsAll files old mid (reads_of look takes xs) → AddsAll files mid new (reads_of look takes ys)
    → AddsAll files old new (reads_of look takes all)
adds_blocks files old mid new look takes xs ys all e h k =
    subst (λ (l : List Look). AddsAll files old new l) (reads_joined look takes xs ys ∙ ap (reads_of look takes) (sym e))
    (adds_more files old mid new (reads_of look takes xs) (reads_of look takes ys) h k)

-- a block that is read where it has bytes
adds_where : (files : Option Files) (old new : Option (List Look)) (look : ℕ × ℕ → Look) (rows : ℕ × ℕ) (t : Bool)
    → (t ≡ true → AddsRead files old new (look rows)) → (t ≡ false → new ≡ old) → AddsAll files old new (map look (cond t (rows ∷ []) []))
adds_where files old new look rows true h k = adds_read files old new (look rows) (h refl)
adds_where files old new look rows false h k = subst (λ (now : Option (List Look)). AddsAll files old now []) (sym (k refl)) (adds_none files old)

pub adds_if_some : (files : Option Files) (old new : Option (List Look)) (look : ℕ × ℕ → Look) (size : ℕ × ℕ → ℕ) (rows : ℕ × ℕ)
    → (0 < size rows → AddsRead files old new (look rows)) → (size rows ≡ 0 → new ≡ old) → AddsAll files old new (reads_of look (λ block. nat_lt 0 (size block)) (rows ∷ []))
adds_if_some files old new look size rows h k =
    adds_where files old new look rows (nat_lt 0 (size rows))
    (λ t. let some : 0 < size rows = grind (arith, nat_tests) in h some)
    (λ f. let none : size rows ≡ 0 = grind (arith, nat_tests) in k none)

-- each block is read
every_block : (blocks : List (ℕ × ℕ)) → filter (λ rows. true) blocks ≡ blocks
every_block [] = refl
every_block (b ∷ bs) = ap (λ l. b ∷ l) (every_block bs)

pub adds_every : (files : Option Files) (old new : Option (List Look)) (look : ℕ × ℕ → Look) (blocks : List (ℕ × ℕ))
    → AddsAll files old new (reads_of look (λ rows. true) blocks) → AddsAll files old new (map look blocks)
adds_every files old new look blocks h = subst (λ (l : List Look). AddsAll files old new l) (ap (map look) (every_block blocks)) h
