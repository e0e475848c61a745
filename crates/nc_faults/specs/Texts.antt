-- Meaning. The printed texts of refusals and alarms, by their codes.
use Rattle.std.specs.Prelude.{ℕ, ◌==◌, List, [], ◌∷◌, codes, if◌then◌else◌}
use Rattle.fault_codes.specs.declared.alarms.TheConstants.{NUMBER_TOO_LARGE, DIVISION_BY_ZERO, NEGATIVE_ROOT, PARAMETER_INDEX, JUMP_TARGET_MISSING, TOO_MANY_LEVELS, NO_SUCH_PROGRAM, TOO_MANY_BLOCKS, NO_PROGRAM_END, GROUP_TWICE, SCALE_NOT_ALLOWED, NO_QUARTER_TURN, OUT_OF_RANGE, NO_SUCH_AXIS, AXIS_NOT_OWNED, GEOMETRY_AXIS_BY_NAME, ADDRESS_TWICE, ARC_WORDS, CENTRE_OUTSIDE_PLANE, RADIUS_DIFFERS, ARC_DEGENERATE, RADIUS_TOO_SMALL, ARC_SCALE, NO_SUCH_CHANNEL, NO_SUCH_MARK, OWN_MARK_STANDS, CHANNEL_NOT_IDLE, NO_PROGRAM_SELECTED, ZONE_NOT_HELD, ZONE_STATE, ZONE_SPLIT, TOO_MANY_REPETITIONS, REPETITION_COUNT, NO_SUCH_TOOL, TOOL_PLANE, TOO_MANY_ARGUMENTS}

-- what a refusal says, by its code
unfoldable pub refusal_texts : List (ℕ × List ℕ)
refusal_texts =
    (1, codes "no job line") ∷
    (2, codes "line too long") ∷
    (3, codes "byte not allowed") ∷
    (4, codes "unknown job line") ∷
    (5, codes "number out of range") ∷
    (6, codes "declared twice") ∷
    (7, codes "not declared") ∷
    (8, codes "owner differs") ∷
    (9, codes "program name repeated") ∷
    (10, codes "bad program header") ∷
    (11, codes "too many") ∷
    (12, codes "program not in library") ∷
    (20, codes "text not closed") ∷
    (21, codes "number too large") ∷
    (22, codes "block not readable") ∷
    (23, codes "comparison beside AND, OR, XOR or NOT") ∷
    (24, codes "statement not alone") ∷
    (25, codes "structure not matched") ∷
    (26, codes "nested too deep") ∷
    (27, codes "unknown address") ∷
    (28, codes "unknown variable") ∷
    (29, codes "definition not at the beginning") ∷
    (30, codes "variable defined twice") ∷
    (40, codes "synchronised action not supported") ∷
    (41, codes "measuring not supported") ∷
    (42, codes "cycle not supported") ∷
    (43, codes "variable definition not supported") ∷
    (44, codes "system variable not supported") ∷
    (45, codes "function not supported") ∷
    (46, codes "inch dimension not supported") ∷
    (47, codes "path form not supported") ∷
    (48, codes "contour element not supported") ∷
    (49, codes "fixed point not supported") ∷
    (50, codes "transformation not supported") ∷
    (51, codes "coupling not supported") ∷
    (52, codes "zone definition not supported") ∷
    (53, codes "interrupt not supported") ∷
    (54, codes "SAVE not supported") ∷
    (55, codes "GETD not supported") ∷
    (56, codes "tool radius compensation not supported") ∷
    (57, codes "word not supported") ∷
    (58, codes "call with arguments not supported") ∷
    (59, codes "skip level not supported") ∷
    (60, codes "form not built yet") ∷
    []

-- what an alarm says, by its code
unfoldable pub alarm_texts : List (ℕ × List ℕ)
alarm_texts =
    (NUMBER_TOO_LARGE, codes "number too large") ∷
    (DIVISION_BY_ZERO, codes "division by zero") ∷
    (NEGATIVE_ROOT, codes "root of a negative number") ∷
    (PARAMETER_INDEX, codes "parameter index") ∷
    (JUMP_TARGET_MISSING, codes "jump target missing") ∷
    (TOO_MANY_LEVELS, codes "too many program levels") ∷
    (NO_SUCH_PROGRAM, codes "no such program") ∷
    (TOO_MANY_BLOCKS, codes "block limit") ∷
    (NO_PROGRAM_END, codes "no program end") ∷
    (GROUP_TWICE, codes "two words of one group") ∷
    (SCALE_NOT_ALLOWED, codes "scale not allowed") ∷
    (NO_QUARTER_TURN, codes "quarter turns only") ∷
    (OUT_OF_RANGE, codes "out of range") ∷
    (NO_SUCH_AXIS, codes "no such axis") ∷
    (AXIS_NOT_OWNED, codes "axis not owned") ∷
    (GEOMETRY_AXIS_BY_NAME, codes "geometry axis by name") ∷
    (ADDRESS_TWICE, codes "address twice") ∷
    (ARC_WORDS, codes "arc words") ∷
    (CENTRE_OUTSIDE_PLANE, codes "centre outside the plane") ∷
    (RADIUS_DIFFERS, codes "radius differs") ∷
    (ARC_DEGENERATE, codes "arc degenerate") ∷
    (RADIUS_TOO_SMALL, codes "radius too small") ∷
    (ARC_SCALE, codes "arc scale") ∷
    (NO_SUCH_CHANNEL, codes "no such channel") ∷
    (NO_SUCH_MARK, codes "no such mark") ∷
    (OWN_MARK_STANDS, codes "own mark stands") ∷
    (CHANNEL_NOT_IDLE, codes "channel not idle") ∷
    (NO_PROGRAM_SELECTED, codes "no program selected") ∷
    (ZONE_NOT_HELD, codes "zone not held") ∷
    (ZONE_STATE, codes "zone state") ∷
    (ZONE_SPLIT, codes "zone split") ∷
    (TOO_MANY_REPETITIONS, codes "too many repetitions") ∷
    (REPETITION_COUNT, codes "repetition count") ∷
    (NO_SUCH_TOOL, codes "no such tool") ∷
    (TOOL_PLANE, codes "tool plane") ∷
    (TOO_MANY_ARGUMENTS, codes "too many arguments") ∷
    []

-- the text beside the code in the table
abbrev pub text_of : List (ℕ × List ℕ) → ℕ → List ℕ
text_of [] code = []
text_of (row ∷ rows) code = if row.0 == code then row.1 else text_of rows code

-- what the refusal of this code says
unfoldable pub refusal_text_of : ℕ → List ℕ
refusal_text_of = text_of refusal_texts

-- what the alarm of this code says
unfoldable pub alarm_text_of : ℕ → List ℕ
alarm_text_of = text_of alarm_texts
