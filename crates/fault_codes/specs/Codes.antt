-- Meaning. The codes that a refusal and an alarm may have.
use Rattle.std.specs.Prelude.{ℕ, ◌==◌, Bool, IsTrue, List, [], ◌∷◌}
use Rattle.std.specs.List.{list_any}
use Rattle.fault_codes.specs.declared.alarms.TheConstants.{NUMBER_TOO_LARGE, DIVISION_BY_ZERO, NEGATIVE_ROOT, PARAMETER_INDEX, JUMP_TARGET_MISSING, TOO_MANY_LEVELS, NO_SUCH_PROGRAM, TOO_MANY_BLOCKS, NO_PROGRAM_END, GROUP_TWICE, SCALE_NOT_ALLOWED, NO_QUARTER_TURN, OUT_OF_RANGE, NO_SUCH_AXIS, AXIS_NOT_OWNED, GEOMETRY_AXIS_BY_NAME, ADDRESS_TWICE, ARC_WORDS, CENTRE_OUTSIDE_PLANE, RADIUS_DIFFERS, ARC_DEGENERATE, RADIUS_TOO_SMALL, ARC_SCALE, NO_SUCH_CHANNEL, NO_SUCH_MARK, OWN_MARK_STANDS, CHANNEL_NOT_IDLE, NO_PROGRAM_SELECTED, ZONE_NOT_HELD, ZONE_STATE, ZONE_SPLIT, TOO_MANY_REPETITIONS, REPETITION_COUNT, NO_SUCH_TOOL, TOOL_PLANE, TOO_MANY_ARGUMENTS}

-- the codes of refusals: those of the job list, those of the language, and those of what is not supported
unfoldable pub refusal_codes : List ℕ
refusal_codes =
    1 ∷ 2 ∷ 3 ∷ 4 ∷ 5 ∷ 6 ∷ 7 ∷ 8 ∷ 9 ∷ 10 ∷ 11 ∷ 12 ∷
    20 ∷ 21 ∷ 22 ∷ 23 ∷ 24 ∷ 25 ∷ 26 ∷ 27 ∷ 28 ∷ 29 ∷ 30 ∷ 40 ∷
    41 ∷ 42 ∷ 43 ∷ 44 ∷ 45 ∷ 46 ∷ 47 ∷ 48 ∷ 49 ∷ 50 ∷ 51 ∷ 52 ∷
    53 ∷ 54 ∷ 55 ∷ 56 ∷ 57 ∷ 58 ∷ 59 ∷ 60 ∷
    []

-- the codes of alarms
unfoldable pub alarm_codes : List ℕ
alarm_codes =
    NUMBER_TOO_LARGE ∷ DIVISION_BY_ZERO ∷ NEGATIVE_ROOT ∷ PARAMETER_INDEX ∷
    JUMP_TARGET_MISSING ∷ TOO_MANY_LEVELS ∷ NO_SUCH_PROGRAM ∷ TOO_MANY_BLOCKS ∷
    NO_PROGRAM_END ∷ GROUP_TWICE ∷ SCALE_NOT_ALLOWED ∷ NO_QUARTER_TURN ∷
    OUT_OF_RANGE ∷ NO_SUCH_AXIS ∷ AXIS_NOT_OWNED ∷ GEOMETRY_AXIS_BY_NAME ∷
    ADDRESS_TWICE ∷ ARC_WORDS ∷ CENTRE_OUTSIDE_PLANE ∷ RADIUS_DIFFERS ∷
    ARC_DEGENERATE ∷ RADIUS_TOO_SMALL ∷ ARC_SCALE ∷ NO_SUCH_CHANNEL ∷
    NO_SUCH_MARK ∷ OWN_MARK_STANDS ∷ CHANNEL_NOT_IDLE ∷ NO_PROGRAM_SELECTED ∷
    ZONE_NOT_HELD ∷ ZONE_STATE ∷ ZONE_SPLIT ∷ TOO_MANY_REPETITIONS ∷
    REPETITION_COUNT ∷ NO_SUCH_TOOL ∷ TOOL_PLANE ∷ TOO_MANY_ARGUMENTS ∷
    []

-- the code is one of these
abbrev pub has_code : List ℕ → ℕ → Bool
has_code known code = list_any (λ one. one == code) known

-- the code is that of a refusal
unfoldable pub IsRefusalCode : ℕ → Type 0
IsRefusalCode code = IsTrue (has_code refusal_codes code)

-- the code is that of an alarm
unfoldable pub IsAlarmCode : ℕ → Type 0
IsAlarmCode code = IsTrue (has_code alarm_codes code)
