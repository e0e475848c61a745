-- Meaning. Why no boxes of any two zones are compared, in short: each reason that two zones have.
use Rattle.std.specs.Prelude.{ℕ, ◌||◌, not, Bool, true, false, List, [], ◌∷◌, ◌++◌, codes}
use Rattle.std.specs.List.{list_any}
use Rattle.explain_pairs.specs.declared.pairs.PairKind.{PairKind}
use Rattle.explain_pairs.specs.declared.pairs.PairKind.TheVariants.{OneGroup, NeverOn, Compared, OneChannel, Coordinated}
use Rattle.explain_pairs.specs.declared.pairs.ZonePair.{ZonePair}

-- what is told of two zones, by name
abbrev pub is_compared : PairKind → Bool
is_compared OneGroup = false
is_compared (NeverOn absent) = false
is_compared (Compared found) = true
is_compared (OneChannel channel) = false
is_compared Coordinated = false

abbrev pub is_one_group : PairKind → Bool
is_one_group OneGroup = true
is_one_group (NeverOn absent) = false
is_one_group (Compared found) = false
is_one_group (OneChannel channel) = false
is_one_group Coordinated = false

abbrev pub is_never_on : PairKind → Bool
is_never_on OneGroup = false
is_never_on (NeverOn absent) = true
is_never_on (Compared found) = false
is_never_on (OneChannel channel) = false
is_never_on Coordinated = false

abbrev pub is_one_channel : PairKind → Bool
is_one_channel OneGroup = false
is_one_channel (NeverOn absent) = false
is_one_channel (Compared found) = false
is_one_channel (OneChannel channel) = true
is_one_channel Coordinated = false

abbrev pub is_coordinated : PairKind → Bool
is_coordinated OneGroup = false
is_coordinated (NeverOn absent) = false
is_coordinated (Compared found) = false
is_coordinated (OneChannel channel) = false
is_coordinated Coordinated = true

-- some two zones are so
abbrev pub has_kind : (PairKind → Bool) → List ZonePair → Bool
has_kind test rows = list_any (λ row. test row.kind) rows

-- no boxes of any two zones are compared
abbrev pub is_none_compared : List ZonePair → Bool
is_none_compared rows = not (has_kind is_compared rows)

-- what stands before a reason: the word "or", where another stands before it
abbrev pub link_text : Bool → List ℕ
link_text true = codes ", or "
link_text false = codes " "

-- a reason, where some two zones have it
unfoldable pub reason_text : Bool → Bool → List ℕ → List ℕ
reason_text later true reason = link_text later ++ reason
reason_text later false reason = []

-- each reason that holds
unfoldable pub reasons_by : Bool → Bool → Bool → Bool → List ℕ
reasons_by group never channel marks =
    reason_text false group (codes "are of one group")
    ++ (reason_text group never (codes "have one that is never on")
    ++ (reason_text (group || never) channel (codes "are kept apart in time by the order of one channel's blocks")
    ++ reason_text ((group || never) || channel) marks (codes "are kept apart in time by marks or other coordination")))

-- each reason that some two zones have
unfoldable pub reasons_text : List ZonePair → List ℕ
reasons_text rows = reasons_by (has_kind is_one_group rows) (has_kind is_never_on rows) (has_kind is_one_channel rows) (has_kind is_coordinated rows)

-- why none are compared
unfoldable pub why_text : List ZonePair → List ℕ
why_text [] = codes "the job has no two zones"
why_text (row ∷ rows) = codes "each two" ++ reasons_text (row ∷ rows)

-- the verdict YES in one line, where nothing was compared
unfoldable pub none_compared_text : List ZonePair → List ℕ
none_compared_text rows = codes "YES, but no two zones were compared: " ++ (why_text rows ++ codes ".\n")
