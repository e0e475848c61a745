-- The job list of a sample, line by line.
use Rattle.std.proofs.Common.{ℕ, true, false, List, [], ◌∷◌, ◌++◌, take, drop, flat_map, codes, refl}
use Rattle.job_types.specs.declared.job.AxisLine.{AxisLine}
use Rattle.job_types.specs.declared.job.ChannelLine.{ChannelLine}
use Rattle.job_types.specs.declared.job.GeoLine.{GeoLine}
use Rattle.job_types.specs.declared.job.ZoneLine.{ZoneLine}
use Rattle.job_lines.specs.Declaration as declaration
use Rattle.job_lines.specs.Header as headers
use Rattle.job_lines.specs.Length as lengths
use Rattle.job_lines.specs.Numbers as numbers
use Rattle.job_lines.specs.OptionLines as options
use Rattle.micro_units.specs.NumberText.{number_of}
use Rattle.micro_units.specs.Rounding.{half_away}
use Rattle.sample_jobs.specs.Samples.{list_lines, list_text}
use Rattle.tape_job.specs.Draft.{no_options, nothing_told}
use Rattle.tape_job.specs.Lines as lines
use Rattle.tape_job.specs.Read as reads
use Rattle.tape_job.specs.Reading as readings
use Rattle.tape_job.specs.Rules as rule
use Rattle.tape_job.specs.Steps as steps
use Rattle.tape_job.specs.Told.{Told, accept_compensation, by_channel, facts_of}
use Rattle.sample_laws.proofs.Taken.{IsJobFrom, IsTaken, taken_goes, channels, axes, slots, zones, told_at, first_program}

-- these lines are told, and no option
abbrev listed : List ChannelLine → List AxisLine → List GeoLine → List ZoneLine → Told
listed some_channels some_axes some_slots some_zones = record {
  seen = true;
  in_programs = false;
  options = no_options;
  job = record nothing_told {
    line = 1;
    channels = some_channels;
    axes = some_axes;
    geo = some_slots;
    zones = some_zones;
  };
}

-- opens what a job line says
says_open : Unit {0}
unfolding readings.reading_of readings.entry_reading readings.is_bad_byte readings.form_of readings.is_job_line readings.declaration_line readings.header_line lines.text_of lines.before_comment lines.has_token lines.begins_with_percent declaration.declaration_of declaration.channel_line declaration.channel_declaration_of declaration.starting_declaration_of declaration.channel_of declaration.zone_of declaration.axis_name_of declaration.owner_of declaration.slot_of declaration.carrier_of declaration.named_side_of declaration.axis_declaration_of declaration.axis_line declaration.geo_declaration_of declaration.geo_line declaration.state_of declaration.zone_head_of declaration.zone_declaration_of declaration.zone_line options.option_declaration_of options.budget_of options.budget_line numbers.number_within numbers.whole_of numbers.is_whole numbers.is_digits lengths.length_of lengths.signed_size_of lengths.size_of lengths.in_reach lengths.is_size number_of half_away headers.header_of headers.header_word_of headers.is_header headers.has_header_form headers.is_name_byte
says_open = tt

-- opens what it breaks, and what is told with it
tells_open : Unit {0}
unfolding says_open reads.trial reads.end_of_program reads.line_trial rule.rule_of rule.declaration_rule rule.channel_rule rule.axis_rule rule.slot_rule rule.zone_rule rule.sides_rule rule.owns_carrier rule.owns rule.has_owner rule.has_channel rule.has_axis rule.has_slot rule.has_slot_axis rule.has_zone rule.axis_of rule.side_of rule.same_axis rule.header_rule rule.has_program rule.open_structure_refusal rule.left_open rule.open_line steps.tell steps.with_line
tells_open = tt

line_1 : IsTaken (facts_of []) 1 (codes "JOB 1") (listed [] [] [] [])
unfolding tells_open facts_of accept_compensation by_channel
line_1 = record { lacks = refl; taken = refl; tells = refl }

line_2 : IsTaken (listed [] [] [] []) 2 (codes "CHANNEL 1 S1 START") (listed (take 1 channels) [] [] [])
unfolding tells_open
line_2 = record { lacks = refl; taken = refl; tells = refl }

line_3 : IsTaken (listed (take 1 channels) [] [] []) 3 (codes "CHANNEL 2 S2 START") (listed channels [] [] [])
unfolding tells_open
line_3 = record { lacks = refl; taken = refl; tells = refl }

line_4 : IsTaken (listed channels [] [] []) 4 (codes "AXIS X1 1 100") (listed channels (take 1 axes) [] [])
unfolding tells_open
line_4 = record { lacks = refl; taken = refl; tells = refl }

line_5 : IsTaken (listed channels (take 1 axes) [] []) 5 (codes "AXIS Z1 1 0") (listed channels (take 2 axes) [] [])
unfolding tells_open
line_5 = record { lacks = refl; taken = refl; tells = refl }

line_6 : IsTaken (listed channels (take 2 axes) [] []) 6 (codes "AXIS X2 2 -100") (listed channels (take 3 axes) [] [])
unfolding tells_open
line_6 = record { lacks = refl; taken = refl; tells = refl }

line_7 : IsTaken (listed channels (take 3 axes) [] []) 7 (codes "AXIS Z2 2 0") (listed channels axes [] [])
unfolding tells_open
line_7 = record { lacks = refl; taken = refl; tells = refl }

line_8 : IsTaken (listed channels axes [] []) 8 (codes "GEO 1 X X1") (listed channels axes (take 1 slots) [])
unfolding tells_open
line_8 = record { lacks = refl; taken = refl; tells = refl }

line_9 : IsTaken (listed channels axes (take 1 slots) []) 9 (codes "GEO 1 Z Z1") (listed channels axes (take 2 slots) [])
unfolding tells_open
line_9 = record { lacks = refl; taken = refl; tells = refl }

line_10 : IsTaken (listed channels axes (take 2 slots) []) 10 (codes "GEO 2 X X2") (listed channels axes (take 3 slots) [])
unfolding tells_open
line_10 = record { lacks = refl; taken = refl; tells = refl }

line_11 : IsTaken (listed channels axes (take 3 slots) []) 11 (codes "GEO 2 Z Z2") (listed channels axes slots [])
unfolding tells_open
line_11 = record { lacks = refl; taken = refl; tells = refl }

line_12 : IsTaken (listed channels axes slots []) 12 (codes "ZONE 1 1 1 ON +X1 -10 10 - -10 10 +Z1 -10 10") (listed channels axes slots (take 1 zones))
unfolding tells_open
line_12 = record { lacks = refl; taken = refl; tells = refl }

line_13 : IsTaken (listed channels axes slots (take 1 zones)) 13 (codes "ZONE 2 2 2 ON +X2 -10 10 - -10 10 +Z2 -10 10") (listed channels axes slots zones)
unfolding tells_open
line_13 = record { lacks = refl; taken = refl; tells = refl }

line_14 : IsTaken (listed channels axes slots zones) 14 (codes "BUDGET 100000000") (told_at false [])
unfolding tells_open
line_14 = record { lacks = refl; taken = refl; tells = refl }

line_15 : IsTaken (told_at false []) 15 (codes "%_N_S1_MPF") (told_at true (first_program []))
unfolding tells_open
line_15 = record { lacks = refl; taken = refl; tells = refl }

-- the list from a line on, and the first header
abbrev rest_from : ℕ → List ℕ → List ℕ
rest_from place more = flat_map (λ line. line ++ codes "\n") (drop place list_lines) ++ (codes "%_N_S1_MPF" ++ 10 ∷ more)

pub list_goes : (more : List ℕ) → IsJobFrom (told_at true (first_program [])) 16 more → IsJobFrom (facts_of []) 1 (list_text ++ (codes "%_N_S1_MPF" ++ 10 ∷ more))
list_goes more goes =
    taken_goes _ _ 1 (codes "JOB 1") (rest_from 1 more) line_1
    (taken_goes _ _ 2 (codes "CHANNEL 1 S1 START") (rest_from 2 more) line_2
    (taken_goes _ _ 3 (codes "CHANNEL 2 S2 START") (rest_from 3 more) line_3
    (taken_goes _ _ 4 (codes "AXIS X1 1 100") (rest_from 4 more) line_4
    (taken_goes _ _ 5 (codes "AXIS Z1 1 0") (rest_from 5 more) line_5
    (taken_goes _ _ 6 (codes "AXIS X2 2 -100") (rest_from 6 more) line_6
    (taken_goes _ _ 7 (codes "AXIS Z2 2 0") (rest_from 7 more) line_7
    (taken_goes _ _ 8 (codes "GEO 1 X X1") (rest_from 8 more) line_8
    (taken_goes _ _ 9 (codes "GEO 1 Z Z1") (rest_from 9 more) line_9
    (taken_goes _ _ 10 (codes "GEO 2 X X2") (rest_from 10 more) line_10
    (taken_goes _ _ 11 (codes "GEO 2 Z Z2") (rest_from 11 more) line_11
    (taken_goes _ _ 12 (codes "ZONE 1 1 1 ON +X1 -10 10 - -10 10 +Z1 -10 10") (rest_from 12 more) line_12
    (taken_goes _ _ 13 (codes "ZONE 2 2 2 ON +X2 -10 10 - -10 10 +Z2 -10 10") (rest_from 13 more) line_13
    (taken_goes _ _ 14 (codes "BUDGET 100000000") (rest_from 14 more) line_14
    (taken_goes _ _ 15 (codes "%_N_S1_MPF") more line_15 goes))))))))))))))
