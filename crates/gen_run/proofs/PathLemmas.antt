-- The path of the table is a name.
use Rattle.std.proofs.Common.{rules, ◌≤◌, ℕ, false, [], ◌∷◌, refl, arith}
use Rattle.fb_outside.specs.Names.{IsName}
use Rattle.gen_run.specs.Made.{table_path}

pub table_named : (longest most : ℕ) → 1 ≤ longest → 1 ≤ most → IsName longest most table_path
unfolding table_path
table_named longest most long much = record {
  rooted = false;
  pieces = (68 ∷ []) ∷ [];
  is = refl;
  some = omega arith;
  each = (record { some = omega arith; short = much; bytes = search rules; not_here = λ e. cc; not_up = λ e. cc }, tt);
  short = long;
}
