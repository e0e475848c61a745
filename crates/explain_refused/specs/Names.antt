-- Meaning. What names are to a refused line.
use Rattle.std.specs.Prelude.{ℕ, List, if◌then◌else◌, codes}
use Rattle.std.specs.List.{list_any}
use Rattle.std.specs.Str.{str_eq_ignore_ascii_case}
use Rattle.explain_refused.specs.declared.names.NameClass.{NameClass}
use Rattle.explain_refused.specs.declared.names.NameClass.TheVariants.{Quiet, Coupling, Then, Axis, Geo, Other}
use Rattle.explain_refused.specs.declared.names.TheConstants.{QUIET_NAMES, COUPLING_NAMES}

-- names that move no axis, names of couplings, and three words that slips have, in upper or lower case
unfoldable pub class_of : List ℕ → NameClass
class_of text =
    if list_any (λ name. str_eq_ignore_ascii_case text name.now) QUIET_NAMES then Quiet
    else if list_any (λ name. str_eq_ignore_ascii_case text name.now) COUPLING_NAMES then Coupling
    else if str_eq_ignore_ascii_case text (codes "THEN") then Then
    else if str_eq_ignore_ascii_case text (codes "AXIS") then Axis
    else if str_eq_ignore_ascii_case text (codes "GEO") then Geo
    else Other
