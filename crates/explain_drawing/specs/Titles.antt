-- Meaning. The head of a drawing: the verdict, and what it names.
use Rattle.std.specs.Prelude.{ℕ, ℤ, pos, List, [], ◌++◌, codes}
use Rattle.std.specs.Fmt.{decimal}
use Rattle.job_types.specs.Job.{JobView}
use Rattle.explain_views.specs.Marks.{place_text, times}
use Rattle.explain_views.specs.Shown.{shown_text}
use Rattle.explain_drawing.specs.Words.{block_words, name_words}
use Rattle.sync_types.specs.declared.verdicts.PlaceName.{PlaceName}
use Rattle.sync_types.specs.declared.verdicts.Verdict.{Verdict}
use Rattle.sync_types.specs.declared.verdicts.Verdict.TheVariants.{Alarm, No, Race, Stuck, Undecided, Yes}

-- a block of a channel
unfoldable pub channel_words : List ℕ → JobView → ℕ × ℕ → List ℕ
channel_words input job place = codes "channel " ++ (decimal place.0 ++ (codes ", " ++ block_words input job place.1))

-- a zone, and the block of its box
unfoldable pub place_words : List ℕ → JobView → PlaceName → List ℕ
place_words input job name = codes "zone " ++ (decimal name.zone ++ (codes ", " ++ name_words input job name))

-- what a verdict names first
unfoldable pub first_words : List ℕ → JobView → Verdict → List ℕ
first_words input job (Race race) = channel_words input job race.first
first_words input job (Alarm channel alarm) = channel_words input job (channel, alarm.line)
first_words input job (Stuck channel line) = channel_words input job (channel, line)
first_words input job (Undecided count budget) = []
first_words input job (No left right) = place_words input job left
first_words input job Yes = []

-- what it names second
unfoldable pub second_words : List ℕ → JobView → Verdict → List ℕ
second_words input job (Race race) = channel_words input job race.second
second_words input job (Alarm channel alarm) = []
second_words input job (Stuck channel line) = []
second_words input job (Undecided count budget) = []
second_words input job (No left right) = place_words input job right
second_words input job Yes = []

-- a place one letter from the left edge, and so many from the upper one
abbrev pub head_place : ℤ → ℤ → ℤ × ℤ
head_place letter letters = (letter, times letter letters)

-- the verdict in large letters
unfoldable pub verdict_text : List ℕ → ℤ → List ℕ
verdict_text title letter = codes "<text class=\"title\"" ++ (place_text (head_place letter (pos 2)) ++ (shown_text title ++ codes "</text>\n"))

-- and below it in lines of their own what it names
unfoldable pub first_note : List ℕ → JobView → Verdict → ℤ → List ℕ
first_note input job verdict letter = codes "<text class=\"note\"" ++ (place_text (head_place letter (pos 4)) ++ (first_words input job verdict ++ codes "</text>\n"))

unfoldable pub second_note : List ℕ → JobView → Verdict → ℤ → List ℕ
second_note input job verdict letter = codes "<text class=\"note\"" ++ (place_text (head_place letter (pos 5)) ++ (second_words input job verdict ++ codes "</text>\n"))

unfoldable pub title_text : List ℕ → JobView → List ℕ → Verdict → ℤ → List ℕ
title_text input job title verdict letter = verdict_text title letter ++ (first_note input job verdict letter ++ second_note input job verdict letter)
