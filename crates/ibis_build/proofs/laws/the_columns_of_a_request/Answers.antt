use Rattle.std.proofs.Common.{refl}
use Rattle.ibis_build.specs.Columns.{columns_behind}
use Rattle.fb_types.specs.Names.{keywords}
use Rattle.ibis_build.proofs.ColumnLemmas.{listed-lists, lists-listed}
use Rattle.ibis_build.proofs.laws.the_columns_of_a_request.Goals as goal

pub returns-clause-all : goal.returns-clause-all
returns-clause-all c = refl

pub returns-clause-listed : goal.returns-clause-listed
unfolding columns_behind keywords
returns-clause-listed c = refl

pub returns-clause-unknown : goal.returns-clause-unknown
unfolding columns_behind keywords
returns-clause-unknown c = refl

pub returns-clause-none : goal.returns-clause-none
unfolding columns_behind keywords
returns-clause-none c = refl

pub returns-clause-repeated : goal.returns-clause-repeated
unfolding columns_behind keywords
returns-clause-repeated c = refl

pub returns-clause-text : goal.returns-clause-text
unfolding columns_behind keywords
returns-clause-text c = refl

pub returns-clause-found : goal.returns-clause-found
returns-clause-found c schema list cols valid e = listed-lists schema list cols e

pub returns-clause-only : goal.returns-clause-only
returns-clause-only c = lists-listed
