-- Meaning. The names that are refused, each with its code.
use Rattle.std.specs.Prelude.{ℕ, ◌||◌, if◌then◌else◌, List, [], ◌∷◌, Option, Some, None, codes}
use Rattle.name_tables.specs.Spelling.{is_word, is_one_of, is_cycle}

unfoldable pub refused_name : List ℕ → Option ℕ
refused_name text =
    if is_one_of text (codes "ID" ∷ codes "IDS" ∷ codes "WHEN" ∷ codes "WHENEVER" ∷ codes "FROM" ∷ codes "EVERY" ∷ codes "DO" ∷ []) then Some 40
    else if is_one_of text (codes "MEAS" ∷ codes "MEAW" ∷ []) then Some 41
    else if is_cycle text || is_word text (codes "MCALL") then Some 42
    else if is_word text (codes "DEF") then Some 43
    else if is_one_of text (codes "SIN" ∷ codes "COS" ∷ codes "TAN" ∷ codes "ASIN" ∷ codes "ACOS" ∷ codes "ATAN2" ∷ codes "LN" ∷ codes "EXP" ∷ []) then Some 45
    else if is_one_of text (codes "AR" ∷ codes "AP" ∷ codes "RP" ∷ codes "CIP" ∷ codes "CT" ∷ codes "TURN" ∷ codes "ASPLINE" ∷ codes "BSPLINE" ∷ codes "CSPLINE" ∷ codes "POLY" ∷ []) then Some 47
    else if is_one_of text (codes "ANG" ∷ codes "CHF" ∷ codes "CHR" ∷ codes "RND" ∷ codes "RNDM" ∷ []) then Some 48
    else if is_one_of text (codes "TRANSMIT" ∷ codes "TRACYL" ∷ codes "TRAORI" ∷ codes "TRAANG" ∷ codes "TRAFOOF" ∷ []) then Some 50
    else if is_one_of text (codes "TRAILON" ∷ codes "TRAILOF" ∷ codes "LEADON" ∷ codes "LEADOF" ∷ codes "COUPDEF" ∷ codes "COUPON" ∷ codes "COUPOF" ∷ []) then Some 51
    else if is_one_of text (codes "NPROT" ∷ codes "NPROTDEF" ∷ codes "CPROTDEF" ∷ codes "EXECUTE" ∷ []) then Some 52
    else if is_one_of text (codes "SETINT" ∷ codes "CLRINT" ∷ []) then Some 53
    else if is_word text (codes "SAVE") then Some 54
    else if is_word text (codes "GETD") then Some 55
    else if is_one_of text (codes "GOTOS" ∷ codes "CALL" ∷ codes "PCALL" ∷ codes "EXTCALL" ∷ codes "EXTERN" ∷ codes "ENDLABEL" ∷ []) then Some 57
    else None
