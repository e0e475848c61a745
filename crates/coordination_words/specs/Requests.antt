-- Meaning. What a coordination block asks for, or its first alarm.
use Rattle.std.specs.Prelude.{ℕ, not, ℤ, Bool, false, if◌then◌else◌, List, drop, slice_set, Result, Ok, Err}
use Rattle.std.specs.List.{list_all}
use Rattle.axis_sets.specs.Sets.{has, members_of}
use Rattle.nc_blocks.specs.Statement.{OperandView}
use Rattle.nc_blocks.specs.declared.blocks.CoordWord.{CoordWord}
use Rattle.nc_blocks.specs.declared.blocks.CoordWord.TheVariants as word
use Rattle.nc_expressions.specs.Value.{◌>>=◌}
use Rattle.nc_expressions.specs.Values.{Values}
use Rattle.fault_codes.specs.declared.alarms.TheConstants.{AXIS_NOT_OWNED, NO_SUCH_CHANNEL, NO_SUCH_MARK, NO_SUCH_PROGRAM, ZONE_NOT_HELD, ZONE_SPLIT, ZONE_STATE}
use Rattle.sync_types.specs.BoardAlarms.{is_whole}
use Rattle.sync_types.specs.declared.Action.TheVariants.{WaitM, SetM, ClearM, Init, Start, WaitE, Release, Get}
use Rattle.coordination_words.specs.Operands.{mark_in, channel_in, zone_in, state_in, program_in, marks_in, channels_in, axes_in, first_in}
use Rattle.coordination_words.specs.Settings.{SettingView}
use Rattle.coordination_words.specs.declared.asked.Request.{Request}
use Rattle.coordination_words.specs.declared.asked.Request.TheVariants.{Act, Switch}

-- the channel does not wait for its own mark
abbrev pub without_itself : SettingView → List Bool → List Bool
without_itself setting named = slice_set named setting.channel false

-- the mark comes before the channels
abbrev pub meeting : SettingView → Values → List OperandView → Result Request ℕ
meeting setting values operands =
    first_in (mark_in setting values) NO_SUCH_MARK operands >>= λ mark.
    channels_in setting values (drop 1 operands) >>= λ named.
    Ok (Act (WaitM mark (without_itself setting named)))

-- the channel comes before its program; a third argument has no effect
abbrev pub selection : SettingView → Values → List OperandView → Result Request ℕ
selection setting values operands =
    first_in (channel_in setting values) NO_SUCH_CHANNEL operands >>= λ channel.
    first_in (program_in setting) NO_SUCH_PROGRAM (drop 1 operands) >>= λ program.
    Ok (Act (Init channel program))

-- the zone and who holds it come before its state
abbrev pub switching : SettingView → Values → List OperandView → Result Request ℕ
switching setting values operands =
    first_in (zone_in setting values) ZONE_NOT_HELD operands >>= λ zone.
    first_in (state_in values) ZONE_STATE (drop 1 operands) >>= λ on.
    Ok (Switch zone on)

-- the channel owns each of these axes
abbrev pub owns_all : SettingView → List Bool → Bool
owns_all setting axes = list_all (has setting.owned) (members_of axes)

-- of each zone of the job all axes are among these, or none
abbrev pub leaves_zones_whole : SettingView → List Bool → Bool
leaves_zones_whole setting axes = list_all (is_whole axes) setting.zones

-- an axis that is not owned comes before a zone that is split
unfoldable pub letting_go : SettingView → List Bool → Result Request ℕ
letting_go setting axes =
    if not (owns_all setting axes) then Err AXIS_NOT_OWNED
    else if leaves_zones_whole setting axes then Ok (Act (Release axes))
    else Err ZONE_SPLIT

-- any axes may be asked for that split no zone
unfoldable pub taking : SettingView → List Bool → Result Request ℕ
taking setting axes = if leaves_zones_whole setting axes then Ok (Act (Get axes)) else Err ZONE_SPLIT

-- what a coordination word asks for with these arguments, where the channel's parameters have these values; or the first alarm that fits
unfoldable pub request_of : SettingView → Values → CoordWord → List OperandView → Result Request ℕ
request_of setting values word.WaitM operands = meeting setting values operands
request_of setting values word.WaitMC operands = meeting setting values operands
request_of setting values word.SetM operands = marks_in setting values operands >>= λ marks. Ok (Act (SetM marks))
request_of setting values word.ClearM operands = marks_in setting values operands >>= λ marks. Ok (Act (ClearM marks))
request_of setting values word.Init operands = selection setting values operands
request_of setting values word.Start operands = channels_in setting values operands >>= λ named. Ok (Act (Start named))
request_of setting values word.WaitE operands = channels_in setting values operands >>= λ named. Ok (Act (WaitE named))
request_of setting values word.Release operands = axes_in setting operands >>= letting_go setting
request_of setting values word.Get operands = axes_in setting operands >>= taking setting
request_of setting values word.CProt operands = switching setting values operands
