-- The definitions at a few values, so that they are seen to say what is meant.
use Rattle.std.proofs.Common.{◌≡◌, true, false, ℕ, List, [], ◌∷◌, take, drop, unwrap_or, codes, refl, ap, lit≤}
use Rattle.std.specs.FinMap.{insert}
use Rattle.fb_outside.specs.Files.{Files, bytes_at}
use Rattle.fb_outside.specs.Names.{IsFileName, IsPath}
use Rattle.fb_outside.proofs.NameLemmas.{IsName-from_test, test-from_IsName}
use Rattle.fb_outside.proofs.FileLemmas.{file_at-insert_same}

a_name : IsFileName (codes "a/b.csv")
a_name = IsName-from_test 300 80 (codes "a/b.csv") refl (lit≤ tt)

a_rooted_path : IsPath (codes "/a/-b")
a_rooted_path = IsName-from_test 200 64 (codes "/a/-b") refl (lit≤ tt)

no_empty_piece : IsFileName (codes "a//b") → ⊥
no_empty_piece h = let is : false ≡ true = test-from_IsName 300 80 (codes "a//b") h in cc

no_dots : IsFileName (codes "a/..") → ⊥
no_dots h = let is : false ≡ true = test-from_IsName 300 80 (codes "a/..") h in cc

no_empty_name : IsFileName [] → ⊥
no_empty_name h = let is : false ≡ true = test-from_IsName 300 80 [] h in cc

-- of a file of three bytes, two from the second on
two_bytes : (files : Files) (name : List ℕ) → bytes_at (insert files name (7 ∷ 8 ∷ 9 ∷ [])) name 1 5 ≡ 8 ∷ 9 ∷ []
two_bytes files name = ap (λ found. take 5 (drop 1 (unwrap_or found []))) (file_at-insert_same files name (7 ∷ 8 ∷ 9 ∷ []))

-- none from its end on
no_bytes : (files : Files) (name : List ℕ) → bytes_at (insert files name (7 ∷ [])) name 1 5 ≡ []
no_bytes files name = ap (λ found. take 5 (drop 1 (unwrap_or found []))) (file_at-insert_same files name (7 ∷ []))
