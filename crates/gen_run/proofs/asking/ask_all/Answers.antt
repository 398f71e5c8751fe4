use Rattle.std.proofs.Common.{[], ◌∷◌, List, ℕ}
use Rattle.std.specs.List.{flat_map}
use lib.Chars.{codes}
use Rattle.commands.specs.Command.{Command}
use Rattle.gen_run.specs.Made.{asked_of, specifications}
use Rattle.gen_run.proofs.RanLemmas.{ran_last, ran_stops, ran_then}
use Rattle.gen_run.proofs.asking.ask_all.Goals as goal

abbrev none : List ℕ
none = codes "<binning none/><encoding equality/>"

abbrev widths : List ℕ
widths = codes "<binning start=0 end=1000 nbins=20/><encoding range/>"

abbrev weights : List ℕ
weights = codes "<binning nbins=30/><encoding interval/>"

abbrev digits : List ℕ
digits = codes "<binning precision=2/><encoding two-level coarse=interval ncoarse=8/>"

abbrev asked : List (List ℕ) → List Command
asked specs = flat_map asked_of specs

pub returns-in_err-build_and_ask-clause-ran : goal.returns-in_err-build_and_ask-clause-ran
unfolding specifications
returns-in_err-build_and_ask-clause-ran g c =
    ran_stops (asked_of none) (asked (widths ∷ weights ∷ digits ∷ [])) _ _ _ _ _
    c.from_residual.result c.from_residual.ensures.0 c.in_err-build_and_ask.ensures.ran

pub returns-in_err-build_and_ask-2-clause-ran : goal.returns-in_err-build_and_ask-2-clause-ran
unfolding specifications
returns-in_err-build_and_ask-2-clause-ran g c =
    ran_then (asked_of none) (asked (widths ∷ weights ∷ digits ∷ [])) _ _ _ _ _ _ _ c.from_residual-in_err-build_and_ask-2.result
    c.in_ok-build_and_ask.ensures.ran
    (ran_stops (asked_of widths) (asked (weights ∷ digits ∷ [])) _ _ _ _ _
    c.from_residual-in_err-build_and_ask-2.result c.from_residual-in_err-build_and_ask-2.ensures.0 c.in_err-build_and_ask-2.ensures.ran)

pub returns-in_err-build_and_ask-3-clause-ran : goal.returns-in_err-build_and_ask-3-clause-ran
unfolding specifications
returns-in_err-build_and_ask-3-clause-ran g c =
    ran_then (asked_of none) (asked (widths ∷ weights ∷ digits ∷ [])) _ _ _ _ _ _ _ c.from_residual-in_err-build_and_ask-3.result
    c.in_ok-build_and_ask.ensures.ran
    (ran_then (asked_of widths) (asked (weights ∷ digits ∷ [])) _ _ _ _ _ _ _ c.from_residual-in_err-build_and_ask-3.result
    c.in_ok-build_and_ask-2.ensures.ran
    (ran_stops (asked_of weights) (asked (digits ∷ [])) _ _ _ _ _
    c.from_residual-in_err-build_and_ask-3.result c.from_residual-in_err-build_and_ask-3.ensures.0 c.in_err-build_and_ask-3.ensures.ran))

pub returns-clause-ran : goal.returns-clause-ran
unfolding specifications
returns-clause-ran g c =
    ran_then (asked_of none) (asked (widths ∷ weights ∷ digits ∷ [])) _ _ _ _ _ _ _ c.build_and_ask-4.result
    c.in_ok-build_and_ask.ensures.ran
    (ran_then (asked_of widths) (asked (weights ∷ digits ∷ [])) _ _ _ _ _ _ _ c.build_and_ask-4.result
    c.in_ok-build_and_ask-2.ensures.ran
    (ran_then (asked_of weights) (asked (digits ∷ [])) _ _ _ _ _ _ _ c.build_and_ask-4.result
    c.in_ok-build_and_ask-3.ensures.ran
    (ran_last (asked_of digits) _ _ _ _ c.build_and_ask-4.result c.build_and_ask-4.ensures.ran)))
