-- When a start state is sound, by tests of its lines.
use Rattle.std.proofs.Common.{inl, inr, ◌≡◌, ℕ, ℤ, ◌==◌, ◌&&◌, ◌||◌, not, Bool, true, false, List, [], ◌∷◌, map, Option, Some, None, refl, sym, ap, ◌∙◌, eqb-true}
use Rattle.std.specs.Prelude.{find, is_some}
use Rattle.std.proofs.lemmas.Bool.{cases_Bool, and_parts}
use Rattle.std.specs.List.{list_all}
use Rattle.std.specs.Option.{option_map_or}
use Rattle.axis_sets.proofs.SetLaws.{list_any-members_of}
use Rattle.axis_sets.specs.Sets.{has, members_of}
use Rattle.sync_types.proofs.BoardTests.{no_truth, passes}
use Rattle.sync_types.specs.Starts.{IsSound, first_owner, has_axis, has_channel, stand_once}
use Rattle.sync_types.specs.Views.{StartView}

-- what all lines pass, the one that is found passes
found_passes : {L : Type 0} (p q : L → Bool) (lines : List L) (line : L) → list_all q lines ≡ true → find p lines ≡ Some line → q line ≡ true
found_passes p q [] line all found = let out : ⊥ = cc in absurd out
found_passes p q (x ∷ xs) line all found =
    let parts = and_parts (q x) (list_all q xs) all in
    elim (cases_Bool (p x)) [
      | inl here ↦
          let first : Some x ≡ Some line = rw here at found in
          let same : x ≡ line = cc in
          ap q (sym same) ∙ parts.0
      | inr other ↦ found_passes p q xs line parts.1 (rw other at found)
    ]

abbrev pub is_known : StartView → Option ℕ → Bool
is_known start (Some c) = has_channel start c
is_known start None = true

abbrev pub are_same : Option ℕ → Option ℕ → Bool
are_same (Some c) (Some d) = c == d
are_same (Some c) None = false
are_same None (Some d) = false
are_same None None = true

same_of : (a b : Option ℕ) → are_same a b ≡ true → a ≡ b
same_of (Some c) (Some d) same = ap (λ (n : ℕ). Some n) (eqb-true c d same)
same_of (Some c) None same = no_truth false same refl
same_of None (Some d) same = no_truth false same refl
same_of None None same = refl

known_of : (start : StartView) (owner : Option ℕ) (c : ℕ) → is_known start owner ≡ true → owner ≡ Some c → has_channel start c ≡ true
known_of start owner c known is = sym (ap (is_known start) is) ∙ known

no_one : {A : Type 0} (c : ℕ) → None ≡ Some c → A
no_one c bad = let out : ⊥ = cc in absurd out

-- the axes of a zone are of the job, and have its holder as their owner
abbrev pub zone_fits : StartView → (ℕ × List Bool × Option ℕ × Bool) → Bool
zone_fits start line = list_all (λ x. has_axis start x && are_same (first_owner start x) line.2) (members_of line.1)

pub sound_by_tests : (start : StartView) → stand_once (map (λ line. line.0) start.channels) ≡ true → stand_once (map (λ line. line.0) start.axes) ≡ true → stand_once (map (λ line. line.0) start.zones) ≡ true
    → list_all (λ line. is_known start line.1) start.axes ≡ true → list_all (λ line. is_known start line.2) start.zones ≡ true
    → list_all (zone_fits start) start.zones ≡ true → list_all (λ line. not line.2 || is_some line.1) start.channels ≡ true → IsSound start
sound_by_tests start channels axes zones owners holders fit programs = record {
  channels_once = channels;
  axes_once = axes;
  zones_once = zones;
  owners = λ x c. owner (find (λ line. line.0 == x) start.axes) x c refl;
  holders = λ z c. holder (find (λ line. line.0 == z) start.zones) z c refl;
  zone_axes = λ z x. carried (find (λ line. line.0 == z) start.zones) z x refl;
  zone_owners = λ z x. held (find (λ line. line.0 == z) start.zones) z x refl;
  programs = λ c. program (find (λ line. line.0 == c) start.channels) c refl;
}
  where
    owner : (found : Option (ℕ × Option ℕ × ℤ)) (x c : ℕ) → find (λ line. line.0 == x) start.axes ≡ found → option_map_or (λ line. line.1) found None ≡ Some c → has_channel start c ≡ true
    owner (Some line) x c is owned = known_of start line.1 c (found_passes (λ (l : ℕ × Option ℕ × ℤ). l.0 == x) (λ l. is_known start l.1) start.axes line owners is) owned
    owner None x c is owned = no_one c owned

    holder : (found : Option (ℕ × List Bool × Option ℕ × Bool)) (z c : ℕ) → find (λ line. line.0 == z) start.zones ≡ found → option_map_or (λ line. line.2) found None ≡ Some c → has_channel start c ≡ true
    holder (Some line) z c is owned = known_of start line.2 c (found_passes (λ (l : ℕ × List Bool × Option ℕ × Bool). l.0 == z) (λ l. is_known start l.2) start.zones line holders is) owned
    holder None z c is owned = no_one c owned

    fits_at : (line : ℕ × List Bool × Option ℕ × Bool) (z x : ℕ) → find (λ line. line.0 == z) start.zones ≡ Some line → has line.1 x ≡ true → (has_axis start x && are_same (first_owner start x) line.2) ≡ true
    fits_at line z x is on =
        passes (λ y. has_axis start y && are_same (first_owner start y) line.2) (members_of line.1) x
        (found_passes (λ (l : ℕ × List Bool × Option ℕ × Bool). l.0 == z) (zone_fits start) start.zones line fit is) (list_any-members_of line.1 x ∙ on)

    carried : (found : Option (ℕ × List Bool × Option ℕ × Bool)) (z x : ℕ) → find (λ line. line.0 == z) start.zones ≡ found → has (option_map_or (λ line. line.1) found []) x ≡ true → has_axis start x ≡ true
    carried (Some line) z x is on = (and_parts (has_axis start x) (are_same (first_owner start x) line.2) (fits_at line z x is on)).0
    carried None z x is on = no_truth false on refl

    held : (found : Option (ℕ × List Bool × Option ℕ × Bool)) (z x : ℕ) → find (λ line. line.0 == z) start.zones ≡ found → has (option_map_or (λ line. line.1) found []) x ≡ true
        → first_owner start x ≡ option_map_or (λ line. line.2) found None
    held (Some line) z x is on = same_of (first_owner start x) line.2 (and_parts (has_axis start x) (are_same (first_owner start x) line.2) (fits_at line z x is on)).1
    held None z x is on = no_truth false on refl

    program : (found : Option (ℕ × Option ℕ × Bool)) (c : ℕ) → find (λ line. line.0 == c) start.channels ≡ found → option_map_or (λ line. line.2) found false ≡ true → is_some (option_map_or (λ line. line.1) found None) ≡ true
    program (Some line) c is runs =
        implied line.2 (is_some line.1) runs (found_passes (λ (l : ℕ × Option ℕ × Bool). l.0 == c) (λ l. not l.2 || is_some l.1) start.channels line programs is)
      where
        implied : (a b : Bool) → a ≡ true → (not a || b) ≡ true → b ≡ true
        implied true b on h = h
        implied false b on h = no_truth false on refl
    program None c is runs = no_truth false runs refl
