-- What each step keeps of a board: axes and zones stay together, and what channels own, ask for, hold and select is of the machine.
use Rattle.std.proofs.Common.{◌≡◌, ◌∙◌, ℕ, ℤ, ◌<◌, ◌==◌, ◌||◌, not, Bool, true, false, cond, List, [], ◌∷◌, find, Option, Some, None, IfSome, if◌then◌else◌, refl, sym, ap, subst}
use Rattle.std.proofs.lemmas.Bool.{and_parts}
use Rattle.std.specs.List.{list_any}
use Rattle.std.specs.Option.{option_map_or}
use Rattle.axis_sets.specs.Sets.{has, members_of}
use Rattle.axis_sets.proofs.SetLaws.{list_any-members_of}
use Rattle.coordination_words.specs.Laws.{selected_program}
use Rattle.sync_types.proofs.BoardTests.{no_truth, none_pass, passes, some_alike, whole_alike, whole_found, not_so, by_test, not_not}
use Rattle.sync_types.proofs.TakenAxes.{named_and_not_own, taken_alike}
use Rattle.sync_types.specs.Boards.{State, Ownership, OwnedBy, FreeAt, Board, among, owner_of, owns, ownership_of, first_board, first_state}
use Rattle.sync_types.specs.BoardAlarms.{alarm_of, named_axes, names_no_mark, names_no_channel, names_no_axis, lets_go_of_others, splits_a_zone, finds_own_mark, finds_one_awake, starts_without_program, own_alarm}
use Rattle.sync_types.specs.BoardActions.{carries, channels_to_start, axes_to_free, ownership_after, holder_after, program_after, state_after_alarm, state_after_action, state_of_actor, after_alarm, after_effects, after_action, after_part}
use Rattle.sync_types.specs.GoingOn.{axes_asked, goers_at_once, state_after_goes, after_goes, axes_to_take, ownership_after_taking, holder_after_taking, state_after_taking, after_taking}
use Rattle.sync_types.specs.Starts.{axes_of_zone, first_holder, first_owner, first_position, first_program, has_axis, runs_at_first, IsSound}
use Rattle.sync_types.specs.Views.{StartView}
use Rattle.sync_types.specs.declared.Action.{Action}
use Rattle.sync_types.specs.declared.Action.TheVariants.{Init, Release, Get}
use Rattle.sync_types.specs.declared.Step.{Step}

abbrev pub is_zone : StartView → ℕ → Bool
is_zone start z = list_any (λ line. line.0 == z) start.zones

-- each axis of a zone has its holder as owner; who waits for one of them waits for all; owners, axes that are asked for, holders and programs are of the machine; and a zone that no axis carries keeps its first holder
pub record IsKept (count : ℕ) (b : Board) : Type 0 where
  pub zones : (z x : ℕ) → has (axes_of_zone b.start z) x ≡ true → owner_of (b.axis x) ≡ b.holder z
  pub alike : (d z x y : ℕ) → has (axes_of_zone b.start z) x ≡ true → has (axes_of_zone b.start z) y ≡ true
      → among (axes_asked (b.state d)) x ≡ among (axes_asked (b.state d)) y
  pub there : (x d : ℕ) → owner_of (b.axis x) ≡ Some d → has_axis b.start x ≡ true
  pub asked : (d x : ℕ) → among (axes_asked (b.state d)) x ≡ true → has_axis b.start x ≡ true
  pub held : (z d : ℕ) → b.holder z ≡ Some d → is_zone b.start z ≡ true
  pub programs : (d p : ℕ) → b.program d ≡ Some p → p < count
  pub alone : (z : ℕ) → ((x : ℕ) → has (axes_of_zone b.start z) x ≡ false) → b.holder z ≡ first_holder b.start z

-- it asks for both axes or for neither
abbrev AsksAlike : ℕ → ℕ → State → Type 0
AsksAlike x y s = among (axes_asked s) x ≡ among (axes_asked s) y

-- it asks for axes of the machine alone
abbrev AsksKnown : StartView → ℕ → State → Type 0
AsksKnown start x s = among (axes_asked s) x ≡ true → has_axis start x ≡ true

no_owner : {A : Type 0} (c : ℕ) → None ≡ Some c → A
no_owner c bad = let out : ⊥ = cc in absurd out

same_number : (c d : ℕ) → Some c ≡ Some d → c ≡ d
same_number c d e = cc

-- ---- what an action has passed that does not alarm

pub record IsLawful (b : Board) (c : ℕ) (action : Action) : Type 0 where
  pub axes : names_no_axis b action ≡ false
  pub own : lets_go_of_others b c action ≡ false
  pub whole : splits_a_zone b action ≡ false
  pub selected : starts_without_program b action ≡ false

pub lawful : (b : Board) (c : ℕ) (action : Action) → alarm_of b c action ≡ None → IsLawful b c action
unfolding alarm_of
lawful b c action none =
    let late_5 : Option ℕ = if starts_without_program b action then Some 28 else own_alarm action in
    let late_4 : Option ℕ = if finds_one_awake b action then Some 27 else late_5 in
    let late_3 : Option ℕ = if finds_own_mark b c action then Some 26 else late_4 in
    let late_2 : Option ℕ = if splits_a_zone b action then Some 31 else late_3 in
    let late_1 : Option ℕ = if lets_go_of_others b c action then Some 15 else late_2 in
    let late_0 : Option ℕ = if names_no_axis b action then Some 14 else late_1 in
    let late : Option ℕ = if names_no_channel b action then Some 24 else late_0 in
    let numbered = not_so (names_no_mark action) 25 late none in
    let known = not_so (names_no_channel b action) 24 late_0 numbered.1 in
    let there = not_so (names_no_axis b action) 14 late_1 known.1 in
    let own = not_so (lets_go_of_others b c action) 15 late_2 there.1 in
    let whole = not_so (splits_a_zone b action) 31 late_3 own.1 in
    let lowered = not_so (finds_own_mark b c action) 26 late_4 whole.1 in
    let asleep = not_so (finds_one_awake b action) 27 late_5 lowered.1 in
    let selected = not_so (starts_without_program b action) 28 (own_alarm action) asleep.1 in
    record { axes = there.0; own = own.0; whole = whole.0; selected = selected.0 }

-- ---- the channel's own part

kept_alarm : (count : ℕ) (b : Board) (c : ℕ) (step : Step) (code : ℕ) → IsKept count b → IsKept count (after_alarm b c step code)
unfolding state_after_alarm
kept_alarm count b c step code k = record {
  zones = k.zones;
  alike = λ d z x y on_x on_y. by_test (AsksAlike x y) (d == c) _ _ (λ here. refl) (λ other. k.alike d z x y on_x on_y);
  there = k.there;
  asked = λ d x. by_test (AsksKnown b.start x) (d == c) _ _ (λ here asks. no_truth false asks refl) (λ other. k.asked d x);
  held = k.held;
  programs = k.programs;
  alone = k.alone;
}

freed_alike : (action : Action) (x y : ℕ) → has (named_axes action) x ≡ has (named_axes action) y → among (axes_to_free action) x ≡ among (axes_to_free action) y
freed_alike (Release axes) x y same = list_any-members_of axes x ∙ same ∙ sym (list_any-members_of axes y)
freed_alike other x y same = refl

actor_alike : (b : Board) (c line : ℕ) (action : Action) (x y : ℕ) → has (named_axes action) x ≡ has (named_axes action) y → AsksAlike x y (state_of_actor b c line action)
actor_alike b c line (Get axes) x y same = list_any-members_of axes x ∙ same ∙ sym (list_any-members_of axes y)
actor_alike b c line other x y same = refl

actor_known : (b a : Board) (c line : ℕ) (action : Action) (x : ℕ) → names_no_axis b action ≡ false → AsksKnown b.start x (state_of_actor a c line action)
actor_known b a c line (Get axes) x known asks = passes (has_axis b.start) (members_of axes) x (not_not _ known) asks
actor_known b a c line other x known asks = no_truth false asks refl

named_alike : (b : Board) (action : Action) (z x y : ℕ) → splits_a_zone b action ≡ false → has (axes_of_zone b.start z) x ≡ true → has (axes_of_zone b.start z) y ≡ true
    → has (named_axes action) x ≡ has (named_axes action) y
named_alike b action z x y whole on_x on_y = whole_alike (named_axes action) (axes_of_zone b.start z) x y (whole_found (named_axes action) b.start.zones z (not_not _ whole)) on_x on_y

-- an axis and its zone go the same way
goes_free : (test carried : Bool) (a : Ownership) (holder : Option ℕ) (position : ℤ) → carried ≡ test → owner_of a ≡ holder
    → owner_of (cond test (FreeAt position) a) ≡ cond carried None holder
goes_free true carried a holder position same at_holder = sym (ap (λ t. cond t None holder) same)
goes_free false carried a holder position same at_holder = at_holder ∙ sym (ap (λ t. cond t None holder) same)

goes_to : (test carried : Bool) (a : Ownership) (holder : Option ℕ) (c : ℕ) → carried ≡ test → owner_of a ≡ holder
    → owner_of (cond test (OwnedBy c) a) ≡ cond carried (Some c) holder
goes_to true carried a holder c same at_holder = sym (ap (λ t. cond t (Some c) holder) same)
goes_to false carried a holder c same at_holder = at_holder ∙ sym (ap (λ t. cond t (Some c) holder) same)

selects_known : (count : ℕ) (action : Action) (d p : ℕ) (old : Option ℕ) → IfSome (selected_program action) (λ place. place < count) → (old ≡ Some p → p < count)
    → program_after action d old ≡ Some p → p < count
selects_known count (Init target program) d p old known had =
    by_test (λ (o : Option ℕ). o ≡ Some p → p < count) (d == target) (Some program) old
    (λ here is. subst (λ (n : ℕ). n < count) (same_number program p is) known) (λ other. had)
selects_known count other d p old known had = had

none_carries : (b : Board) (z : ℕ) → ((x : ℕ) → has (axes_of_zone b.start z) x ≡ false) → (axes : List ℕ) → carries b axes z ≡ false
none_carries b z none axes = none_pass (has (axes_of_zone b.start z)) axes (λ x listed. none x)

kept_action : (count : ℕ) (b : Board) (c : ℕ) (step : Step) → IsLawful b c step.action → IfSome (selected_program step.action) (λ place. place < count)
    → IsKept count b → IsKept count (after_action b c step)
unfolding state_after_action ownership_after holder_after
kept_action count b c step law known k = record {
  zones = λ z x on_x. goes_free (among (axes_to_free step.action) x) (carries b (axes_to_free step.action) z) (b.axis x) (b.holder z) _
      (some_alike (has (axes_of_zone b.start z)) (axes_to_free step.action) x on_x (λ y on_y. freed_alike step.action y x (named_alike b step.action z y x law.whole on_y on_x)))
      (k.zones z x on_x);
  alike = λ d z x y on_x on_y. by_test (AsksAlike x y) (d == c) _ _
      (λ here. actor_alike (after_effects b c step) c step.line step.action x y (named_alike b step.action z x y law.whole on_x on_y))
      (λ other. by_test (AsksAlike x y) (among (channels_to_start step.action) d) _ _ (λ starts. refl) (λ stays. k.alike d z x y on_x on_y));
  there = λ x d. by_test (λ a. owner_of a ≡ Some d → has_axis b.start x ≡ true) (among (axes_to_free step.action) x) _ _ (λ freed owned. no_owner d owned) (λ stays. k.there x d);
  asked = λ d x. by_test (AsksKnown b.start x) (d == c) _ _
      (λ here. actor_known b (after_effects b c step) c step.line step.action x law.axes)
      (λ other. by_test (AsksKnown b.start x) (among (channels_to_start step.action) d) _ _ (λ starts asks. no_truth false asks refl) (λ stays. k.asked d x));
  held = λ z d. by_test (λ (o : Option ℕ). o ≡ Some d → is_zone b.start z ≡ true) (carries b (axes_to_free step.action) z) _ _ (λ freed holds. no_owner d holds) (λ stays. k.held z d);
  programs = λ d p. selects_known count step.action d p (b.program d) known (k.programs d p);
  alone = λ z none. by_test (λ (o : Option ℕ). o ≡ first_holder b.start z) (carries b (axes_to_free step.action) z) _ _
      (λ carried. no_truth (carries b (axes_to_free step.action) z) carried (none_carries b z none (axes_to_free step.action))) (λ stays. k.alone z none);
}

pub kept_part : (count : ℕ) (b : Board) (c : ℕ) (step : Step) (alarm : Option ℕ) → alarm_of b c step.action ≡ alarm → IfSome (selected_program step.action) (λ place. place < count)
    → IsKept count b → IsKept count (after_part b c step alarm)
kept_part count b c step (Some code) is known k = kept_alarm count b c step code k
kept_part count b c step None is known k = kept_action count b c step (lawful b c step.action is) known k

-- ---- who goes on

pub kept_goes : (count : ℕ) (b : Board) → IsKept count b → IsKept count (after_goes b)
unfolding state_after_goes
kept_goes count b k = record {
  zones = k.zones;
  alike = λ d z x y on_x on_y. by_test (AsksAlike x y) (among (goers_at_once b) d) _ _ (λ goes. refl) (λ stays. k.alike d z x y on_x on_y);
  there = k.there;
  asked = λ d x. by_test (AsksKnown b.start x) (among (goers_at_once b) d) _ _ (λ goes asks. no_truth false asks refl) (λ stays. k.asked d x);
  held = k.held;
  programs = k.programs;
  alone = k.alone;
}

-- what it takes it has asked for
taken_known : (count : ℕ) (b : Board) (c x : ℕ) → IsKept count b → among (axes_to_take b c) x ≡ true → has_axis b.start x ≡ true
taken_known count b c x k taken =
    k.asked c x (and_parts (among (axes_asked (b.state c)) x) (not (owns b c x)) (sym (named_and_not_own b c x) ∙ taken)).0

-- no axis carries a zone that there is not
carried_there : (b : Board) (z : ℕ) (axes : List ℕ) → carries b axes z ≡ true → is_zone b.start z ≡ true
carried_there b z axes carried = by_lines b.start.zones carried
  where
    none : (xs : List ℕ) → list_any (has []) xs ≡ false
    none [] = refl
    none (x ∷ xs) = none xs

    by_lines : (lines : List (ℕ × List Bool × Option ℕ × Bool)) → list_any (has (option_map_or (λ line. line.1) (find (λ line. line.0 == z) lines) [])) axes ≡ true → list_any (λ line. line.0 == z) lines ≡ true
    by_lines [] carried = no_truth (list_any (has []) axes) carried (none axes)
    by_lines (line ∷ lines) carried = by_number (line.0 == z) carried (by_lines lines)
      where
        by_number : (here : Bool) → list_any (has (option_map_or (λ (l : ℕ × List Bool × Option ℕ × Bool). l.1) (cond here (Some line) (find (λ l. l.0 == z) lines)) [])) axes ≡ true
            → (list_any (has (option_map_or (λ (l : ℕ × List Bool × Option ℕ × Bool). l.1) (find (λ l. l.0 == z) lines) [])) axes ≡ true → list_any (λ l. l.0 == z) lines ≡ true)
            → (here || list_any (λ l. l.0 == z) lines) ≡ true
        by_number true carried rest = refl
        by_number false carried rest = rest carried

pub kept_taking : (count : ℕ) (b : Board) (c : ℕ) → IsKept count b → IsKept count (after_taking b c)
unfolding ownership_after_taking holder_after_taking state_after_taking
kept_taking count b c k = record {
  zones = λ z x on_x. goes_to (among (axes_to_take b c) x) (carries b (axes_to_take b c) z) (b.axis x) (b.holder z) c
      (some_alike (has (axes_of_zone b.start z)) (axes_to_take b c) x on_x (λ y on_y. taken_alike b c y x (k.alike c z y x on_y on_x) (k.zones z y on_y ∙ sym (k.zones z x on_x))))
      (k.zones z x on_x);
  alike = λ d z x y on_x on_y. by_test (AsksAlike x y) (d == c) _ _ (λ here. refl) (λ other. k.alike d z x y on_x on_y);
  there = λ x d. by_test (λ a. owner_of a ≡ Some d → has_axis b.start x ≡ true) (among (axes_to_take b c) x) _ _ (λ taken owned. taken_known count b c x k taken) (λ stays. k.there x d);
  asked = λ d x. by_test (AsksKnown b.start x) (d == c) _ _ (λ here asks. no_truth false asks refl) (λ other. k.asked d x);
  held = λ z d. by_test (λ (o : Option ℕ). o ≡ Some d → is_zone b.start z ≡ true) (carries b (axes_to_take b c) z) _ _ (λ taken holds. carried_there b z (axes_to_take b c) taken) (λ stays. k.held z d);
  programs = k.programs;
  alone = λ z none. by_test (λ (o : Option ℕ). o ≡ first_holder b.start z) (carries b (axes_to_take b c) z) _ _
      (λ carried. no_truth (carries b (axes_to_take b c) z) carried (none_carries b z none (axes_to_take b c))) (λ stays. k.alone z none);
}

-- ---- the board before the first step

owner_at_first : (owner : Option ℕ) (position : ℤ) → owner_of (ownership_of owner position) ≡ owner
owner_at_first (Some c) position = refl
owner_at_first None position = refl

-- what is given of a line is of a line that there is
owned_there : (start : StartView) (x d : ℕ) → first_owner start x ≡ Some d → has_axis start x ≡ true
owned_there start x d = by_lines start.axes
  where
    by_lines : (lines : List (ℕ × Option ℕ × ℤ)) → option_map_or (λ line. line.1) (find (λ line. line.0 == x) lines) None ≡ Some d → list_any (λ line. line.0 == x) lines ≡ true
    by_lines [] owned = no_owner d owned
    by_lines (line ∷ lines) owned = by_number (line.0 == x) owned (by_lines lines)
      where
        by_number : (here : Bool) → option_map_or (λ (l : ℕ × Option ℕ × ℤ). l.1) (cond here (Some line) (find (λ l. l.0 == x) lines)) None ≡ Some d
            → (option_map_or (λ (l : ℕ × Option ℕ × ℤ). l.1) (find (λ l. l.0 == x) lines) None ≡ Some d → list_any (λ l. l.0 == x) lines ≡ true)
            → (here || list_any (λ l. l.0 == x) lines) ≡ true
        by_number true owned rest = refl
        by_number false owned rest = rest owned

held_there : (start : StartView) (z d : ℕ) → first_holder start z ≡ Some d → is_zone start z ≡ true
held_there start z d = by_lines start.zones
  where
    by_lines : (lines : List (ℕ × List Bool × Option ℕ × Bool)) → option_map_or (λ line. line.2) (find (λ line. line.0 == z) lines) None ≡ Some d → list_any (λ line. line.0 == z) lines ≡ true
    by_lines [] holds = no_owner d holds
    by_lines (line ∷ lines) holds = by_number (line.0 == z) holds (by_lines lines)
      where
        by_number : (here : Bool) → option_map_or (λ (l : ℕ × List Bool × Option ℕ × Bool). l.2) (cond here (Some line) (find (λ l. l.0 == z) lines)) None ≡ Some d
            → (option_map_or (λ (l : ℕ × List Bool × Option ℕ × Bool). l.2) (find (λ l. l.0 == z) lines) None ≡ Some d → list_any (λ l. l.0 == z) lines ≡ true)
            → (here || list_any (λ l. l.0 == z) lines) ≡ true
        by_number true holds rest = refl
        by_number false holds rest = rest holds

pub kept_first : (count : ℕ) (start : StartView) → IsSound start → ((d p : ℕ) → first_program start d ≡ Some p → p < count) → IsKept count (first_board start)
unfolding first_state
kept_first count start sound programs = record {
  zones = λ z x on_x. owner_at_first (first_owner start x) (first_position start x) ∙ sound.zone_owners z x on_x;
  alike = λ d z x y on_x on_y. by_test (AsksAlike x y) (runs_at_first start d) _ _ (λ runs. refl) (λ rests. refl);
  there = λ x d owned. owned_there start x d (sym (owner_at_first (first_owner start x) (first_position start x)) ∙ owned);
  asked = λ d x. by_test (AsksKnown start x) (runs_at_first start d) _ _ (λ runs asks. no_truth false asks refl) (λ rests asks. no_truth false asks refl);
  held = held_there start;
  programs = programs;
  alone = λ z none. refl;
}
