-- The groups that axes go by have words that hold.
use Rattle.std.proofs.Common.{refl}
use Rattle.g_groups.specs.Groups.{holding_of, HasModalValue}

pub has_block_word : HasModalValue 9
unfolding holding_of
has_block_word = refl

pub has_measure_word : HasModalValue 14
unfolding holding_of
has_measure_word = refl

pub has_diameter_word : HasModalValue 29
unfolding holding_of
has_diameter_word = refl

pub has_rapid_word : HasModalValue 0
unfolding holding_of
has_rapid_word = refl

pub has_motion_word : HasModalValue 1
unfolding holding_of
has_motion_word = refl

pub has_plane_word : HasModalValue 6
unfolding holding_of
has_plane_word = refl
