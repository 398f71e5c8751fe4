-- What spans say of a range of numbers, of which one is not known.
use Rattle.std.specs.Prelude.{Bool, ◌&&◌, if◌then◌else◌, List, ℤ}
use Rattle.std.specs.List.{list_any}
use Rattle.binning.specs.Spans.{int_le}
use Rattle.binning.specs.declared.span_lists.Span.{Span}
use Rattle.binning.specs.declared.against_bins.Three.{Three}
use Rattle.binning.specs.declared.against_bins.Three.TheVariants.{Yes, No, Unknown}

-- the span has each number of the range
abbrev pub covers : ℤ → ℤ → Span → Bool
covers least greatest s = int_le s.least least && int_le greatest s.greatest

-- the span has a number of the range
abbrev pub meets : ℤ → ℤ → Span → Bool
meets least greatest s = int_le s.least greatest && int_le least s.greatest

-- Yes where one span covers the range, No where none meets it, else Unknown
abbrev pub against : ℤ → ℤ → List Span → Three
against least greatest spans =
    if list_any (covers least greatest) spans then Yes
    else (if list_any (meets least greatest) spans then Unknown else No)
