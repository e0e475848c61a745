-- Meaning. The names that stand in some table.
use Rattle.std.specs.Prelude.{ℕ, Bool, ◌||◌, List, [], ◌∷◌, is_some, codes}
use Rattle.name_tables.specs.Spelling.{is_one_of}
use Rattle.name_tables.specs.RefusedNames.{refused_name}

-- jumps, branches, loops and the choice
unfoldable pub is_control_name : List ℕ → Bool
is_control_name text = is_one_of text
    (codes "GOTOF" ∷ codes "GOTOB" ∷ codes "GOTO" ∷ codes "GOTOC"
    ∷ codes "IF" ∷ codes "ELSE" ∷ codes "ENDIF"
    ∷ codes "WHILE" ∷ codes "ENDWHILE" ∷ codes "REPEAT" ∷ codes "UNTIL" ∷ codes "LOOP" ∷ codes "ENDLOOP" ∷ codes "FOR" ∷ codes "ENDFOR"
    ∷ codes "CASE" ∷ codes "REPEATB" ∷ codes "RET" ∷ codes "PROC" ∷ [])

-- frames
unfoldable pub is_frame_name : List ℕ → Bool
is_frame_name text = is_one_of text
    (codes "TRANS" ∷ codes "ATRANS" ∷ codes "SCALE" ∷ codes "ASCALE" ∷ codes "MIRROR" ∷ codes "AMIRROR" ∷ codes "ROT" ∷ codes "AROT" ∷ [])

-- coordination
unfoldable pub is_coordination_name : List ℕ → Bool
is_coordination_name text = is_one_of text
    (codes "WAITM" ∷ codes "WAITMC" ∷ codes "SETM" ∷ codes "CLEARM" ∷ codes "INIT" ∷ codes "START" ∷ codes "WAITE"
    ∷ codes "RELEASE" ∷ codes "GET" ∷ codes "CPROT" ∷ [])

-- messages
unfoldable pub is_message_name : List ℕ → Bool
is_message_name text = is_one_of text (codes "MSG" ∷ codes "STOPRE" ∷ codes "SETMS" ∷ codes "WORKPIECE" ∷ [])

-- the first names of all forms but the word block
unfoldable pub is_first_name : List ℕ → Bool
is_first_name text = is_control_name text || is_frame_name text || is_coordination_name text || is_message_name text

-- names within forms and words
unfoldable pub is_inner_name : List ℕ → Bool
is_inner_name text = is_one_of text
    (codes "TO" ∷ codes "OF" ∷ codes "DEFAULT" ∷ codes "DISPLOF" ∷ codes "RPL" ∷ codes "AC" ∷ codes "IC" ∷ codes "CR"
    ∷ codes "SPOS" ∷ codes "SPOSA" ∷ codes "LIMS" ∷ codes "SF" ∷ [])

-- names of expressions
unfoldable pub is_expression_name : List ℕ → Bool
is_expression_name text = is_one_of text
    (codes "DIV" ∷ codes "MOD" ∷ codes "AND" ∷ codes "OR" ∷ codes "XOR" ∷ codes "NOT" ∷ codes "TRUE" ∷ codes "FALSE"
    ∷ codes "ABS" ∷ codes "POT" ∷ codes "SQRT" ∷ codes "TRUNC" ∷ codes "ROUND" ∷ [])

-- names of the words of groups
unfoldable pub is_group_name : List ℕ → Bool
is_group_name text = is_one_of text
    (codes "RTLION" ∷ codes "RTLIOF" ∷ codes "SUPA" ∷ codes "NORM" ∷ codes "KONT" ∷ codes "BRISK" ∷ codes "SOFT" ∷ codes "FFWON"
    ∷ codes "FFWOF" ∷ codes "WALIMON" ∷ codes "WALIMOF" ∷ codes "DIAMON" ∷ codes "DIAMOF" ∷ codes "DIAM90" ∷ [])

-- a name that stands in no table may be called as a program
unfoldable pub is_table_word : List ℕ → Bool
is_table_word text =
    is_first_name text || is_inner_name text || is_expression_name text || is_group_name text || is_some (refused_name text)
