-- What a block asks of the other channels is of the job, and a zone that is switched is held.
use Rattle.std.proofs.Common.{◌≡◌, ◌≢◌, ℕ, ◌*◌, ◌<◌, ◌≤◌, ◌%◌, ◌/◌, ◌==◌, ◌&&◌, ◌||◌, nat_lt, nat_le, ℤ, pos, negsuc, Bool, true, false, not, cond, List, [], ◌∷◌, length, drop, replicate, slice_set, get_or-set_same, Option, None, Some, Result, Ok, Err, refl, sym, ap, subst, ◌∙◌, arith}
use Rattle.std.specs.List.{list_all}
use Rattle.std.specs.Str.{bytes_eq}
use Rattle.std.proofs.lemmas.List.Quantifiers.{position-Some}
use Rattle.std.proofs.lemmas.Bool.{lt-ltb, ltb-true}
use Rattle.set_laws.proofs.MemberLaws.{list_all-members_of}
use Rattle.axis_sets.specs.Sets.{has, members_of, IsEmpty}
use Rattle.axis_sets.specs.declared.limits.TheConstants.{AXIS_LIMIT, CHANNEL_PLACES, MARK_LIMIT, ZONE_PLACES}
use Rattle.nc_expressions.specs.NameTexts.{name_of}
use Rattle.nc_blocks.specs.AxisNames.{slot_named}
use Rattle.nc_blocks.specs.Statement.{OperandView, Value, Text, AxisName}
use Rattle.nc_blocks.specs.declared.blocks.CoordWord.{CoordWord}
use Rattle.nc_blocks.specs.declared.blocks.CoordWord.TheVariants as word
use Rattle.nc_expressions.specs.Value.{◌>>=◌}
use Rattle.nc_expressions.specs.Values.{Values}
use Rattle.sync_types.specs.BoardAlarms.{is_whole}
use Rattle.sync_types.specs.declared.Action.{Action}
use Rattle.sync_types.specs.declared.Action.TheVariants.{WaitM, SetM, ClearM, Init, Start, WaitE, Release, Get}
use Rattle.coordination_words.proofs.SetLaws.{from_bind, less_has, less_itself, all_kept, all_found_pass}
use Rattle.coordination_words.specs.Laws.{AllAxesPass, IsOfTheJob}
use Rattle.coordination_words.specs.Operands.{or_alarm, operand_value, whole_below, mark_in, channel_in, if_passes, zone_in, state_in, axis_in, axis_found, program_in, set_with, marks_in, channels_in, axes_in, first_in}
use Rattle.coordination_words.specs.Programs.{number_of, program_named, program_text}
use Rattle.coordination_words.specs.Requests.{without_itself, meeting, selection, switching, owns_all, leaves_zones_whole, letting_go, taking, request_of}
use Rattle.coordination_words.specs.Settings.{SettingView}
use Rattle.coordination_words.specs.declared.asked.Request.{Request}
use Rattle.coordination_words.specs.declared.asked.Request.TheVariants.{Act, Switch}

-- ---- what comes of an argument

found_is : (code : ℕ) (o : Option ℕ) (n : ℕ) → or_alarm code o ≡ Ok n → o ≡ Some n
found_is code (Some m) n is = cc
found_is code None n is = absurd (never is)
  where
    never : (let r : Result ℕ ℕ = Err code in r) ≡ Ok n → ⊥
    never e = cc

passes_test : (test : ℕ → Bool) (o : Option ℕ) (n : ℕ) → if_passes test o ≡ Some n → test n ≡ true
passes_test test None n is = absurd (never is)
  where
    never : (let o : Option ℕ = None in o) ≡ Some n → ⊥
    never e = cc
passes_test test (Some m) n is = by_tests (nat_le 1 m) (test m) refl is
  where
    by_tests : (b c : Bool) → test m ≡ c → cond (b && c) (Some m) None ≡ Some n → test n ≡ true
    by_tests true true e found =
        let same : m ≡ n = cc in
        ap test (sym same) ∙ e
    by_tests true false e found = absurd (never found)
      where
        never : (let o : Option ℕ = None in o) ≡ Some n → ⊥
        never h = cc
    by_tests false c e found = absurd (never found)
      where
        never : (let o : Option ℕ = None in o) ≡ Some n → ⊥
        never h = cc

below_limit : (limit : ℕ) (value : ℤ) (n : ℕ) → whole_below limit value ≡ Some n → n < limit
unfolding whole_below
below_limit limit (negsuc k) n is = absurd (never is)
  where
    never : (let o : Option ℕ = None in o) ≡ Some n → ⊥
    never e = cc
below_limit limit (pos k) n is = by_tests (k % 1000000 == 0) (nat_lt k (limit * 1000000)) refl is
  where
    divided : k < limit * 1000000 → k / 1000000 < limit
    divided below = omega arith

    by_tests : (b c : Bool) → nat_lt k (limit * 1000000) ≡ c → cond (b && c) (Some (k / 1000000)) None ≡ Some n → n < limit
    by_tests true true e found =
        let same : k / 1000000 ≡ n = cc in
        subst (λ m. m < limit) same (divided (ltb-true k (limit * 1000000) e))
    by_tests true false e found = absurd (never found)
      where
        never : (let o : Option ℕ = None in o) ≡ Some n → ⊥
        never h = cc
    by_tests false c e found = absurd (never found)
      where
        never : (let o : Option ℕ = None in o) ≡ Some n → ⊥
        never h = cc

mark_below : (setting : SettingView) (values : Values) (operand : OperandView) (n : ℕ) → mark_in setting values operand ≡ Ok n → n < setting.marks
mark_below setting values operand n is =
    let value = from_bind (operand_value values 25 operand) (λ value. or_alarm 25 (whole_below setting.marks value)) n is in
    below_limit setting.marks value.0 n (found_is 25 (whole_below setting.marks value.0) n value.2)

-- what the first argument stands for passes where each does
first_is : {A : Type 0} (P : A → Type 0) (value_in : OperandView → Result A ℕ) → ((operand : OperandView) (x : A) → value_in operand ≡ Ok x → P x) → (code : ℕ)
    → (operands : List OperandView) (x : A) → first_in value_in code operands ≡ Ok x → P x
first_is {A} P value_in each code [] x is = absurd (never is)
  where
    never : (let r : Result A ℕ = Err code in r) ≡ Ok x → ⊥
    never e = cc
first_is P value_in each code (operand ∷ operands) x is = each operand x is

-- ---- what is named

or_true : (b : Bool) → (b || true) ≡ true
or_true true = refl
or_true false = refl

-- no axes split no zone
none_split : (zones : List (List Bool)) → list_all (is_whole []) zones ≡ true
none_split [] = refl
none_split (zone ∷ zones) =
    let apart : list_all (λ x. not (has [] x)) (members_of zone) ≡ true = list_all-members_of zone (λ x. not (has [] x)) (λ m member. refl) in
    rw (apart, or_true (list_all (has []) (members_of zone)), none_split zones) refl

module _ (setting : SettingView) (values : Values) where
  channel_passes : (operand : OperandView) (n : ℕ) → channel_in setting values operand ≡ Ok n → setting.has_channel n ≡ true
  channel_passes operand n is =
      let value = from_bind (operand_value values 24 operand) (λ value. or_alarm 24 (if_passes setting.has_channel (whole_below CHANNEL_PLACES value))) n is in
      passes_test setting.has_channel (whole_below CHANNEL_PLACES value.0) n (found_is 24 (if_passes setting.has_channel (whole_below CHANNEL_PLACES value.0)) n value.2)

  zone_passes : (operand : OperandView) (n : ℕ) → zone_in setting values operand ≡ Ok n → setting.holds n ≡ true
  zone_passes operand n is =
      let value = from_bind (operand_value values 29 operand) (λ value. or_alarm 29 (if_passes setting.holds (whole_below ZONE_PLACES value))) n is in
      passes_test setting.holds (whole_below ZONE_PLACES value.0) n (found_is 29 (if_passes setting.holds (whole_below ZONE_PLACES value.0)) n value.2)

  axis_passes : (test : ℕ → Bool) → AllAxesPass setting test → (operand : OperandView) (n : ℕ) → axis_in setting operand ≡ Ok n → test n ≡ true
  axis_passes test all (Value tree) n is = absurd (never is)
    where
      never : (let r : Result ℕ ℕ = Err 14 in r) ≡ Ok n → ⊥
      never e = cc
  axis_passes test all (Text bytes) n is = absurd (never is)
    where
      never : (let r : Result ℕ ℕ = Err 14 in r) ≡ Ok n → ⊥
      never e = cc
  axis_passes test all (AxisName name) n is = by_slot (slot_named name) (found_is 14 (axis_found setting name (slot_named name)) n is)
    where
      by_slot : (o : Option ℕ) → axis_found setting name o ≡ Some n → test n ≡ true
      by_slot (Some slot) found = all.in_slots slot n found
      by_slot None found = all.with_names name n found

  channels_pass : (operands : List OperandView) (named : List Bool) → channels_in setting values operands ≡ Ok named → (m : ℕ) → has named m ≡ true → setting.has_channel m ≡ true
  unfolding channels_in
  channels_pass operands named is = all_found_pass setting.has_channel (channel_in setting values) channel_passes CHANNEL_PLACES operands named is

  axes_pass : (test : ℕ → Bool) → AllAxesPass setting test → (operands : List OperandView) (axes : List Bool) → axes_in setting operands ≡ Ok axes → (m : ℕ) → has axes m ≡ true → test m ≡ true
  unfolding axes_in
  axes_pass test all operands axes is = all_found_pass test (axis_in setting) (axis_passes test all) AXIS_LIMIT operands axes is

  named_within : (text : List ℕ) (n : ℕ) → program_named setting.names text ≡ Some n → n < length setting.names
  unfolding program_named
  named_within text n is = by_test (nat_le (length text) 32) is
    where
      by_test : (b : Bool) → cond b (number_of setting.names (name_of text)) None ≡ Some n → n < length setting.names
      by_test true found = (position-Some (λ name. bytes_eq name (name_of text)) setting.names n [] found).0
      by_test false found = absurd (never found)
        where
          never : (let o : Option ℕ = None in o) ≡ Some n → ⊥
          never e = cc

  program_within : (operand : OperandView) (n : ℕ) → program_in setting operand ≡ Ok n → n < length setting.names
  program_within (Value tree) n is = absurd (never is)
    where
      never : (let r : Result ℕ ℕ = Err 7 in r) ≡ Ok n → ⊥
      never e = cc
  program_within (AxisName name) n is = absurd (never is)
    where
      never : (let r : Result ℕ ℕ = Err 7 in r) ≡ Ok n → ⊥
      never e = cc
  program_within (Text text) n is = named_within (program_text text) n (found_is 7 (program_named setting.names (program_text text)) n is)

  -- ---- actions

  abbrev IsSound : Action → Type 0
  IsSound action = IsOfTheJob setting action

  waiting_sound : (mark : ℕ) (named : List Bool) → mark < setting.marks → ((m : ℕ) → has named m ≡ true → setting.has_channel m ≡ true) → IsSound (WaitM mark (without_itself setting named))
  waiting_sound mark named below each = record {
    marks = λ few. ap not (lt-ltb mark MARK_LIMIT (omega (arith, below, few)));
    channels = list_all-members_of (without_itself setting named) setting.has_channel (λ m member. each m (less_has named setting.channel m member));
    itself = less_itself named setting.channel;
    program = tt;
    axes = λ test all. refl;
    own = refl;
    zones = none_split setting.zones;
    no_alarm = refl;
    no_end = λ e. cc;
  }

  setting_sound : (marks : List Bool) → IsSound (SetM marks)
  setting_sound marks = record { marks = λ few. refl; channels = refl; itself = refl; program = tt; axes = λ test all. refl; own = refl; zones = none_split setting.zones; no_alarm = refl; no_end = λ e. cc }

  clearing_sound : (marks : List Bool) → IsSound (ClearM marks)
  clearing_sound marks = record { marks = λ few. refl; channels = refl; itself = refl; program = tt; axes = λ test all. refl; own = refl; zones = none_split setting.zones; no_alarm = refl; no_end = λ e. cc }

  selecting_sound : (channel program : ℕ) → setting.has_channel channel ≡ true → program < length setting.names → IsSound (Init channel program)
  selecting_sound channel program has_it within = record {
    marks = λ few. refl;
    channels = rw has_it refl;
    itself = refl;
    program = within;
    axes = λ test all. refl;
    own = refl;
    zones = none_split setting.zones;
    no_alarm = refl;
    no_end = λ e. cc;
  }

  starting_sound : (named : List Bool) → ((m : ℕ) → has named m ≡ true → setting.has_channel m ≡ true) → IsSound (Start named)
  starting_sound named each = record {
    marks = λ few. refl;
    channels = list_all-members_of named setting.has_channel each;
    itself = refl;
    program = tt;
    axes = λ test all. refl;
    own = refl;
    zones = none_split setting.zones;
    no_alarm = refl;
    no_end = λ e. cc;
  }

  awaiting_sound : (named : List Bool) → ((m : ℕ) → has named m ≡ true → setting.has_channel m ≡ true) → IsSound (WaitE named)
  awaiting_sound named each = record {
    marks = λ few. refl;
    channels = list_all-members_of named setting.has_channel each;
    itself = refl;
    program = tt;
    axes = λ test all. refl;
    own = refl;
    zones = none_split setting.zones;
    no_alarm = refl;
    no_end = λ e. cc;
  }

  releasing_sound : (operands : List OperandView) (axes : List Bool) → axes_in setting operands ≡ Ok axes → owns_all setting axes ≡ true → leaves_zones_whole setting axes ≡ true → IsSound (Release axes)
  releasing_sound operands axes found own whole = record {
    marks = λ few. refl;
    channels = refl;
    itself = refl;
    program = tt;
    axes = λ test all. list_all-members_of axes test (axes_pass test all operands axes found);
    own = own;
    zones = whole;
    no_alarm = refl;
    no_end = λ e. cc;
  }

  taking_sound : (operands : List OperandView) (axes : List Bool) → axes_in setting operands ≡ Ok axes → leaves_zones_whole setting axes ≡ true → IsSound (Get axes)
  taking_sound operands axes found whole = record {
    marks = λ few. refl;
    channels = refl;
    itself = refl;
    program = tt;
    axes = λ test all. list_all-members_of axes test (axes_pass test all operands axes found);
    own = refl;
    zones = whole;
    no_alarm = refl;
    no_end = λ e. cc;
  }

  -- ---- words

  -- what is known of a request: it acts or switches, by its word
  abbrev Answers : CoordWord → Request → Type 0
  Answers which (Act action) = IsOfTheJob setting action × (which ≢ word.CProt)
  Answers which (Switch zone on) = (setting.holds zone ≡ true) × (which ≡ word.CProt)

  alike : (a b : Request) → (let r : Result Request ℕ = Ok a in r) ≡ Ok b → a ≡ b
  alike a b e = cc

  no_request : {A : Type 0} (code : ℕ) (request : Request) → (let r : Result Request ℕ = Err code in r) ≡ Ok request → A
  no_request code request e = absurd (never e)
    where
      never : (let r : Result Request ℕ = Err code in r) ≡ Ok request → ⊥
      never h = cc

  acts : (which : CoordWord) → which ≢ word.CProt → (action : Action) (request : Request) → IsSound action → (let r : Result Request ℕ = Ok (Act action) in r) ≡ Ok request → Answers which request
  acts which other action request sound is = subst (λ (r : Request). Answers which r) (alike (Act action) request is) (sound, other)

  module _ (which : CoordWord) (other : which ≢ word.CProt) (operands : List OperandView) (request : Request) where
    meeting_asks : meeting setting values operands ≡ Ok request → Answers which request
    meeting_asks is =
        let mark = from_bind (first_in (mark_in setting values) 25 operands) (λ mark. channels_in setting values (drop 1 operands) >>= λ named. Ok (Act (WaitM mark (without_itself setting named)))) request is in
        let named = from_bind (channels_in setting values (drop 1 operands)) (λ named. Ok (Act (WaitM mark.0 (without_itself setting named)))) request mark.2 in
        acts which other (WaitM mark.0 (without_itself setting named.0)) request
        (waiting_sound mark.0 named.0 (first_is (λ n. n < setting.marks) (mark_in setting values) (mark_below setting values) 25 operands mark.0 mark.1) (channels_pass (drop 1 operands) named.0 named.1)) named.2

    setting_asks : (marks_in setting values operands >>= λ marks. Ok (Act (SetM marks))) ≡ Ok request → Answers which request
    setting_asks is =
        let marks = from_bind (marks_in setting values operands) (λ marks. Ok (Act (SetM marks))) request is in
        acts which other (SetM marks.0) request (setting_sound marks.0) marks.2

    clearing_asks : (marks_in setting values operands >>= λ marks. Ok (Act (ClearM marks))) ≡ Ok request → Answers which request
    clearing_asks is =
        let marks = from_bind (marks_in setting values operands) (λ marks. Ok (Act (ClearM marks))) request is in
        acts which other (ClearM marks.0) request (clearing_sound marks.0) marks.2

    selection_asks : selection setting values operands ≡ Ok request → Answers which request
    selection_asks is =
        let channel = from_bind (first_in (channel_in setting values) 24 operands) (λ channel. first_in (program_in setting) 7 (drop 1 operands) >>= λ program. Ok (Act (Init channel program))) request is in
        let program = from_bind (first_in (program_in setting) 7 (drop 1 operands)) (λ program. Ok (Act (Init channel.0 program))) request channel.2 in
        acts which other (Init channel.0 program.0) request
        (selecting_sound channel.0 program.0 (first_is (λ n. setting.has_channel n ≡ true) (channel_in setting values) channel_passes 24 operands channel.0 channel.1)
        (first_is (λ n. n < length setting.names) (program_in setting) program_within 7 (drop 1 operands) program.0 program.1)) program.2

    starting_asks : (channels_in setting values operands >>= λ named. Ok (Act (Start named))) ≡ Ok request → Answers which request
    starting_asks is =
        let named = from_bind (channels_in setting values operands) (λ named. Ok (Act (Start named))) request is in
        acts which other (Start named.0) request (starting_sound named.0 (channels_pass operands named.0 named.1)) named.2

    awaiting_asks : (channels_in setting values operands >>= λ named. Ok (Act (WaitE named))) ≡ Ok request → Answers which request
    awaiting_asks is =
        let named = from_bind (channels_in setting values operands) (λ named. Ok (Act (WaitE named))) request is in
        acts which other (WaitE named.0) request (awaiting_sound named.0 (channels_pass operands named.0 named.1)) named.2

    letting_go_asks : (axes : List Bool) → axes_in setting operands ≡ Ok axes → letting_go setting axes ≡ Ok request → Answers which request
    unfolding letting_go
    letting_go_asks axes found is = by_tests (owns_all setting axes) (leaves_zones_whole setting axes) refl refl is
      where
        by_tests : (b c : Bool) → owns_all setting axes ≡ b → leaves_zones_whole setting axes ≡ c
            → cond {A = Result Request ℕ} (not b) (Err 15) (cond c (Ok (Act (Release axes))) (Err 31)) ≡ Ok request → Answers which request
        by_tests true true own whole e = acts which other (Release axes) request (releasing_sound operands axes found own whole) e
        by_tests true false own whole e = no_request 31 request e
        by_tests false c own whole e = no_request 15 request e

    taking_asks : (axes : List Bool) → axes_in setting operands ≡ Ok axes → taking setting axes ≡ Ok request → Answers which request
    unfolding taking
    taking_asks axes found is = by_test (leaves_zones_whole setting axes) refl is
      where
        by_test : (c : Bool) → leaves_zones_whole setting axes ≡ c → cond {A = Result Request ℕ} c (Ok (Act (Get axes))) (Err 31) ≡ Ok request → Answers which request
        by_test true whole e = acts which other (Get axes) request (taking_sound operands axes found whole) e
        by_test false whole e = no_request 31 request e

  switching_asks : (operands : List OperandView) (request : Request) → switching setting values operands ≡ Ok request → Answers word.CProt request
  switching_asks operands request is =
      let zone = from_bind (first_in (zone_in setting values) 29 operands) (λ zone. first_in (state_in values) 30 (drop 1 operands) >>= λ on. Ok (Switch zone on)) request is in
      let on = from_bind (first_in (state_in values) 30 (drop 1 operands)) (λ on. Ok (Switch zone.0 on)) request zone.2 in
      subst (λ (r : Request). Answers word.CProt r) (alike (Switch zone.0 on.0) request on.2)
      (first_is (λ n. setting.holds n ≡ true) (zone_in setting values) zone_passes 29 operands zone.0 zone.1, refl)

  pub asks : (which : CoordWord) (operands : List OperandView) (request : Request) → request_of setting values which operands ≡ Ok request → Answers which request
  unfolding request_of
  asks word.WaitM operands request is = meeting_asks word.WaitM (λ e. cc) operands request is
  asks word.WaitMC operands request is = meeting_asks word.WaitMC (λ e. cc) operands request is
  asks word.SetM operands request is = setting_asks word.SetM (λ e. cc) operands request is
  asks word.ClearM operands request is = clearing_asks word.ClearM (λ e. cc) operands request is
  asks word.Init operands request is = selection_asks word.Init (λ e. cc) operands request is
  asks word.Start operands request is = starting_asks word.Start (λ e. cc) operands request is
  asks word.WaitE operands request is = awaiting_asks word.WaitE (λ e. cc) operands request is
  asks word.Release operands request is =
      let axes = from_bind (axes_in setting operands) (letting_go setting) request is in
      letting_go_asks word.Release (λ e. cc) operands request axes.0 axes.1 axes.2
  asks word.Get operands request is =
      let axes = from_bind (axes_in setting operands) (taking setting) request is in
      taking_asks word.Get (λ e. cc) operands request axes.0 axes.1 axes.2
  asks word.CProt operands request is = switching_asks operands request is

  -- a set of marks that has none comes of no argument
  pub no_mark_named : (operands : List OperandView) (marks : List Bool) → setting.marks ≤ MARK_LIMIT → request_of setting values word.ClearM operands ≡ Ok (Act (ClearM marks)) → IsEmpty marks → operands ≡ []
  unfolding request_of marks_in
  no_mark_named [] marks few is none = refl
  no_mark_named (operand ∷ operands) marks few is none =
      let found = from_bind (marks_in setting values (operand ∷ operands)) (λ set. Ok (Act (ClearM set))) (Act (ClearM marks)) is in
      let same : found.0 ≡ marks = alike_sets found.0 marks found.2 in
      let first = from_bind (mark_in setting values operand) (λ n. set_with (mark_in setting values) (slice_set (replicate MARK_LIMIT false) n true) operands) found.0 found.1 in
      let named : first.0 < setting.marks = mark_below setting values operand first.0 first.1 in
      let below : first.0 < MARK_LIMIT = omega (arith, named, few) in
      let stands : has found.0 first.0 ≡ true =
      all_kept (mark_in setting values) (slice_set (replicate MARK_LIMIT false) first.0 true) operands found.0 first.2 first.0
      (get_or-set_same (replicate MARK_LIMIT false) first.0 true false below) in
      absurd (never (sym (none first.0) ∙ ap (λ (s : List Bool). has s first.0) (sym same) ∙ stands))
    where
      alike_sets : (a b : List Bool) → (let r : Result Request ℕ = Ok (Act (ClearM a)) in r) ≡ Ok (Act (ClearM b)) → a ≡ b
      alike_sets a b e = cc

      never : false ≡ true → ⊥
      never e = cc
