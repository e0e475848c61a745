-- The first names of forms.
use Rattle.std.proofs.Common.{◌≡◌, ℕ, ◌+◌, List, refl, ap, sym, ◌∙◌, subst, inl, inr, Option, Some, None, Bool, true, false, cond}
use Rattle.std.specs.Prelude.{is_some, codes}
use Rattle.std.specs.Option.{option_or}
use Rattle.std.specs.Str.{str_to_ascii_lowercase}
use Rattle.block_scanner.specs.WordsView.{WordsView}
use Rattle.g_groups.specs.declared.GWord.{GWord}
use Rattle.word_tables.specs.GroupWords.{word_by_name}
use Rattle.word_tables.proofs.GroupNames.{word_is_listed}
use Rattle.name_tables.specs.Tables.{is_control_name, is_frame_name, is_coordination_name, is_message_name, is_first_name, is_inner_name, is_group_name, is_table_word}
use Rattle.nc_expressions.specs.Symbols.{is_word}
use Rattle.nc_blocks.specs.declared.blocks.CoordWord.TheVariants as coord
use Rattle.nc_blocks.specs.declared.blocks.FrameWord.TheVariants as frame
use Rattle.nc_blocks.specs.declared.blocks.Way.{Way}
use Rattle.nc_blocks.specs.declared.blocks.Way.TheVariants.{Forward, Backward, Either, Optional}
use Rattle.nc_blocks.specs.declared.pieces.Piece.{Piece}
use Rattle.nc_blocks.specs.declared.pieces.Piece.TheVariants as piece
use Rattle.nc_expressions.specs.NameTexts.{name_of}
use Rattle.nc_blocks.specs.Pieces.{piece_at, text_at}
use Rattle.nc_blocks.specs.Wording.{is_spindle_word, words_form}
use Rattle.nc_syntax.specs.declared.bodies.Control.TheVariants as control
use Rattle.nc_syntax.specs.declared.bodies.Form.{Form}
use Rattle.nc_syntax.specs.declared.bodies.Form.TheVariants as form
use Rattle.nc_syntax.specs.Jumps.{way_of, way_of_piece, way_at}
use Rattle.nc_syntax.specs.Structures.{call_form}
use Rattle.nc_syntax.specs.Bodies.{jump_name, structure_name, control_name, frame_name as frame_form_name, coordination_name as coordination_form_name, form_of, form_body, named_form, named_body, body_of, body_at}
use Rattle.nc_forms.specs.Standing.{IsKeyword}
use Rattle.nc_syntax.specs.Spelled.{way_name}
use Rattle.nc_forms.specs.SpelledForms.{frame_name, turn_name, coordination_name}
use Rattle.nc_forms.proofs.Standings.{same_letters, keyword_piece, keyword_text}
use Rattle.nc_syntax.proofs.WordLaws.{keyword_of, or_left, or_right}
use Rattle.nc_forms.proofs.PieceLaws.{or_cases}
use Rattle.nc_syntax.proofs.WordBlocks.{NamesWord, not_in_group}

abbrev pub form_name : Form → List ℕ
form_name (form.Jump way) = way_name way
form_name (form.Control control.If) = codes "IF"
form_name (form.Control control.Else) = codes "ELSE"
form_name (form.Control control.EndIf) = codes "ENDIF"
form_name (form.Control control.While) = codes "WHILE"
form_name (form.Control control.EndWhile) = codes "ENDWHILE"
form_name (form.Control control.Until) = codes "UNTIL"
form_name (form.Control control.Loop) = codes "LOOP"
form_name (form.Control control.EndLoop) = codes "ENDLOOP"
form_name (form.Control control.For) = codes "FOR"
form_name (form.Control control.EndFor) = codes "ENDFOR"
form_name (form.Control control.Case) = codes "CASE"
form_name (form.Control control.Repeat) = codes "REPEAT"
form_name (form.Control control.RepeatBlock) = codes "REPEATB"
form_name (form.Control control.Return) = codes "RET"
form_name (form.Control control.Proc) = codes "PROC"
form_name (form.Shape which) = frame_name which
form_name (form.Turn more) = turn_name more
form_name (form.Coord which) = coordination_name which
form_name form.Msg = codes "MSG"
form_name form.Stopre = codes "STOPRE"
form_name form.Setms = codes "SETMS"
form_name form.Workpiece = codes "WORKPIECE"

-- the first name of the form that is chosen stands there
chosen : (text : List ℕ) (f : Form) (b : Bool) (x : Form) (rest : Option Form) → cond b (Some x) rest ≡ Some f →
    (b ≡ true → is_word text (form_name x) ≡ true) → (rest ≡ Some f → is_word text (form_name f) ≡ true) → is_word text (form_name f) ≡ true
chosen text f true x rest h g k =
    let same : x ≡ f = cc in
    let P : Form → Type 0 = λ y. is_word text (form_name y) ≡ true in
    subst P same (g refl)
chosen text f false x rest h g k = k h

missing : (text : List ℕ) (f : Form) → ◌≡◌ {A = Option Form} None (Some f) → is_word text (form_name f) ≡ true
missing text f h = cc

structure_found : (text : List ℕ) (f : Form) → structure_name text ≡ Some f → is_word text (form_name f) ≡ true
unfolding structure_name
structure_found text f h =
    chosen text f _ (form.Control control.If) _ h (λ b. b)
    (λ h. chosen text f _ (form.Control control.Else) _ h (λ b. b)
    (λ h. chosen text f _ (form.Control control.EndIf) _ h (λ b. b)
    (λ h. chosen text f _ (form.Control control.While) _ h (λ b. b)
    (λ h. chosen text f _ (form.Control control.EndWhile) _ h (λ b. b)
    (λ h. chosen text f _ (form.Control control.Until) _ h (λ b. b)
    (λ h. chosen text f _ (form.Control control.Loop) _ h (λ b. b)
    (λ h. chosen text f _ (form.Control control.EndLoop) _ h (λ b. b)
    (λ h. chosen text f _ (form.Control control.For) _ h (λ b. b)
    (λ h. chosen text f _ (form.Control control.EndFor) _ h (λ b. b)
    (λ h. missing text f h))))))))))

control_found : (text : List ℕ) (f : Form) → control_name text ≡ Some f → is_word text (form_name f) ≡ true
unfolding control_name
control_found text f h =
    chosen text f _ (form.Control control.Case) _ h (λ b. b)
    (λ h. chosen text f _ (form.Control control.Repeat) _ h (λ b. b)
    (λ h. chosen text f _ (form.Control control.RepeatBlock) _ h (λ b. b)
    (λ h. chosen text f _ (form.Control control.Return) _ h (λ b. b)
    (λ h. chosen text f _ (form.Control control.Proc) _ h (λ b. b)
    (λ h. chosen text f _ form.Msg _ h (λ b. b)
    (λ h. chosen text f _ form.Stopre _ h (λ b. b)
    (λ h. chosen text f _ form.Setms _ h (λ b. b)
    (λ h. chosen text f _ form.Workpiece _ h (λ b. b)
    (λ h. missing text f h)))))))))

frame_found : (text : List ℕ) (f : Form) → frame_form_name text ≡ Some f → is_word text (form_name f) ≡ true
unfolding frame_form_name
frame_found text f h =
    chosen text f _ (form.Shape frame.Trans) _ h (λ b. b)
    (λ h. chosen text f _ (form.Shape frame.Atrans) _ h (λ b. b)
    (λ h. chosen text f _ (form.Shape frame.Scale) _ h (λ b. b)
    (λ h. chosen text f _ (form.Shape frame.Ascale) _ h (λ b. b)
    (λ h. chosen text f _ (form.Shape frame.Mirror) _ h (λ b. b)
    (λ h. chosen text f _ (form.Shape frame.Amirror) _ h (λ b. b)
    (λ h. chosen text f _ (form.Turn false) _ h (λ b. b)
    (λ h. chosen text f _ (form.Turn true) _ h (λ b. b)
    (λ h. missing text f h))))))))

coordination_found : (text : List ℕ) (f : Form) → coordination_form_name text ≡ Some f → is_word text (form_name f) ≡ true
unfolding coordination_form_name
coordination_found text f h =
    chosen text f _ (form.Coord coord.WaitM) _ h (λ b. b)
    (λ h. chosen text f _ (form.Coord coord.WaitMC) _ h (λ b. b)
    (λ h. chosen text f _ (form.Coord coord.SetM) _ h (λ b. b)
    (λ h. chosen text f _ (form.Coord coord.ClearM) _ h (λ b. b)
    (λ h. chosen text f _ (form.Coord coord.Init) _ h (λ b. b)
    (λ h. chosen text f _ (form.Coord coord.Start) _ h (λ b. b)
    (λ h. chosen text f _ (form.Coord coord.WaitE) _ h (λ b. b)
    (λ h. chosen text f _ (form.Coord coord.Release) _ h (λ b. b)
    (λ h. chosen text f _ (form.Coord coord.Get) _ h (λ b. b)
    (λ h. chosen text f _ (form.Coord coord.CProt) _ h (λ b. b)
    (λ h. missing text f h))))))))))

way_chosen : (text : List ℕ) (way : Way) (b : Bool) (x : Way) (rest : Option Way) → cond b (Some x) rest ≡ Some way →
    (b ≡ true → is_word text (way_name x) ≡ true) → (rest ≡ Some way → is_word text (way_name way) ≡ true) → is_word text (way_name way) ≡ true
way_chosen text way true x rest h g k =
    let same : x ≡ way = cc in
    let P : Way → Type 0 = λ y. is_word text (way_name y) ≡ true in
    subst P same (g refl)
way_chosen text way false x rest h g k = k h

way_missing : (text : List ℕ) (way : Way) → ◌≡◌ {A = Option Way} None (Some way) → is_word text (way_name way) ≡ true
way_missing text way h = cc

way_found : (text : List ℕ) (way : Way) → way_of text ≡ Some way → is_word text (way_name way) ≡ true
unfolding way_of
way_found text way h =
    way_chosen text way _ Forward _ h (λ b. b)
    (λ h. way_chosen text way _ Backward _ h (λ b. b)
    (λ h. way_chosen text way _ Either _ h (λ b. b)
    (λ h. way_chosen text way _ Optional _ h (λ b. b)
    (λ h. way_missing text way h))))

jump_name_found : (text : List ℕ) (f : Form) (o : Option Way) → way_of text ≡ o → jump_name o ≡ Some f → is_word text (form_name f) ≡ true
jump_name_found text f None e h = cc
jump_name_found text f (Some way) e h =
    let same : form.Jump way ≡ f = cc in
    let P : Form → Type 0 = λ y. is_word text (form_name y) ≡ true in
    subst P same (way_found text way e)

or_found : {C : Type 0} (a b : Option Form) (f : Form) → option_or a b ≡ Some f → (a ≡ Some f → C) → (b ≡ Some f → C) → C
or_found (Some x) b f h g k = g h
or_found None b f h g k = k h

pub form_found : (text : List ℕ) (f : Form) → form_of text ≡ Some f → is_word text (form_name f) ≡ true
unfolding form_of
form_found text f h =
    or_found _ _ f h (λ a. jump_name_found text f (way_of text) refl a)
    (λ h. or_found _ _ f h (λ a. structure_found text f a) (λ h. or_found _ _ f h (λ a. control_found text f a)
    (λ h. or_found _ _ f h (λ a. frame_found text f a) (λ a. coordination_found text f a))))

-- names with the same letters
same_way : (a b : List ℕ) → str_to_ascii_lowercase a ≡ str_to_ascii_lowercase b → way_of a ≡ way_of b
unfolding way_of
same_way a b h = rw h refl

same_structure : (a b : List ℕ) → str_to_ascii_lowercase a ≡ str_to_ascii_lowercase b → structure_name a ≡ structure_name b
unfolding structure_name
same_structure a b h = rw h refl

same_control : (a b : List ℕ) → str_to_ascii_lowercase a ≡ str_to_ascii_lowercase b → control_name a ≡ control_name b
unfolding control_name
same_control a b h = rw h refl

same_frame : (a b : List ℕ) → str_to_ascii_lowercase a ≡ str_to_ascii_lowercase b → frame_form_name a ≡ frame_form_name b
unfolding frame_form_name
same_frame a b h = rw h refl

same_coordination : (a b : List ℕ) → str_to_ascii_lowercase a ≡ str_to_ascii_lowercase b → coordination_form_name a ≡ coordination_form_name b
unfolding coordination_form_name
same_coordination a b h = rw h refl

pub same_form : (a b : List ℕ) → str_to_ascii_lowercase a ≡ str_to_ascii_lowercase b → form_of a ≡ form_of b
unfolding form_of
same_form a b h = rw (same_way a b h, same_structure a b h, same_control a b h, same_frame a b h, same_coordination a b h) refl

same_first : (a b : List ℕ) → str_to_ascii_lowercase a ≡ str_to_ascii_lowercase b → is_first_name a ≡ is_first_name b
unfolding is_control_name is_frame_name is_coordination_name is_message_name is_first_name
same_first a b h = rw h refl

same_inner : (a b : List ℕ) → str_to_ascii_lowercase a ≡ str_to_ascii_lowercase b → is_inner_name a ≡ is_inner_name b
unfolding is_inner_name
same_inner a b h = rw h refl

none_of : {A : Type 0} (o : Option A) → ((x : A) → o ≡ Some x → ⊥) → o ≡ None
none_of None h = refl
none_of (Some x) h = absurd (h x refl)

first_names : (f : Form) → is_first_name (form_name f) ≡ true
unfolding is_control_name is_frame_name is_coordination_name is_message_name is_first_name
first_names (form.Jump Forward) = refl
first_names (form.Jump Backward) = refl
first_names (form.Jump Either) = refl
first_names (form.Jump Optional) = refl
first_names (form.Control control.If) = refl
first_names (form.Control control.Else) = refl
first_names (form.Control control.EndIf) = refl
first_names (form.Control control.While) = refl
first_names (form.Control control.EndWhile) = refl
first_names (form.Control control.Until) = refl
first_names (form.Control control.Loop) = refl
first_names (form.Control control.EndLoop) = refl
first_names (form.Control control.For) = refl
first_names (form.Control control.EndFor) = refl
first_names (form.Control control.Case) = refl
first_names (form.Control control.Repeat) = refl
first_names (form.Control control.RepeatBlock) = refl
first_names (form.Control control.Return) = refl
first_names (form.Control control.Proc) = refl
first_names (form.Shape frame.Trans) = refl
first_names (form.Shape frame.Atrans) = refl
first_names (form.Shape frame.Scale) = refl
first_names (form.Shape frame.Ascale) = refl
first_names (form.Shape frame.Mirror) = refl
first_names (form.Shape frame.Amirror) = refl
first_names (form.Turn false) = refl
first_names (form.Turn true) = refl
first_names (form.Coord coord.WaitM) = refl
first_names (form.Coord coord.WaitMC) = refl
first_names (form.Coord coord.SetM) = refl
first_names (form.Coord coord.ClearM) = refl
first_names (form.Coord coord.Init) = refl
first_names (form.Coord coord.Start) = refl
first_names (form.Coord coord.WaitE) = refl
first_names (form.Coord coord.Release) = refl
first_names (form.Coord coord.Get) = refl
first_names (form.Coord coord.CProt) = refl
first_names form.Msg = refl
first_names form.Stopre = refl
first_names form.Setms = refl
first_names form.Workpiece = refl

-- no first name is the name of a group's word
no_group : (f : Form) → word_by_name (form_name f) ≡ None
unfolding word_by_name
no_group (form.Jump Forward) = refl
no_group (form.Jump Backward) = refl
no_group (form.Jump Either) = refl
no_group (form.Jump Optional) = refl
no_group (form.Control control.If) = refl
no_group (form.Control control.Else) = refl
no_group (form.Control control.EndIf) = refl
no_group (form.Control control.While) = refl
no_group (form.Control control.EndWhile) = refl
no_group (form.Control control.Until) = refl
no_group (form.Control control.Loop) = refl
no_group (form.Control control.EndLoop) = refl
no_group (form.Control control.For) = refl
no_group (form.Control control.EndFor) = refl
no_group (form.Control control.Case) = refl
no_group (form.Control control.Repeat) = refl
no_group (form.Control control.RepeatBlock) = refl
no_group (form.Control control.Return) = refl
no_group (form.Control control.Proc) = refl
no_group (form.Shape frame.Trans) = refl
no_group (form.Shape frame.Atrans) = refl
no_group (form.Shape frame.Scale) = refl
no_group (form.Shape frame.Ascale) = refl
no_group (form.Shape frame.Mirror) = refl
no_group (form.Shape frame.Amirror) = refl
no_group (form.Turn false) = refl
no_group (form.Turn true) = refl
no_group (form.Coord coord.WaitM) = refl
no_group (form.Coord coord.WaitMC) = refl
no_group (form.Coord coord.SetM) = refl
no_group (form.Coord coord.ClearM) = refl
no_group (form.Coord coord.Init) = refl
no_group (form.Coord coord.Start) = refl
no_group (form.Coord coord.WaitE) = refl
no_group (form.Coord coord.Release) = refl
no_group (form.Coord coord.Get) = refl
no_group (form.Coord coord.CProt) = refl
no_group form.Msg = refl
no_group form.Stopre = refl
no_group form.Setms = refl
no_group form.Workpiece = refl

-- the forms of their names
named_forms : (f : Form) → form_of (form_name f) ≡ Some f
unfolding form_of way_of structure_name control_name frame_form_name coordination_form_name
named_forms (form.Jump Forward) = refl
named_forms (form.Jump Backward) = refl
named_forms (form.Jump Either) = refl
named_forms (form.Jump Optional) = refl
named_forms (form.Control control.If) = refl
named_forms (form.Control control.Else) = refl
named_forms (form.Control control.EndIf) = refl
named_forms (form.Control control.While) = refl
named_forms (form.Control control.EndWhile) = refl
named_forms (form.Control control.Until) = refl
named_forms (form.Control control.Loop) = refl
named_forms (form.Control control.EndLoop) = refl
named_forms (form.Control control.For) = refl
named_forms (form.Control control.EndFor) = refl
named_forms (form.Control control.Case) = refl
named_forms (form.Control control.Repeat) = refl
named_forms (form.Control control.RepeatBlock) = refl
named_forms (form.Control control.Return) = refl
named_forms (form.Control control.Proc) = refl
named_forms (form.Shape frame.Trans) = refl
named_forms (form.Shape frame.Atrans) = refl
named_forms (form.Shape frame.Scale) = refl
named_forms (form.Shape frame.Ascale) = refl
named_forms (form.Shape frame.Mirror) = refl
named_forms (form.Shape frame.Amirror) = refl
named_forms (form.Turn false) = refl
named_forms (form.Turn true) = refl
named_forms (form.Coord coord.WaitM) = refl
named_forms (form.Coord coord.WaitMC) = refl
named_forms (form.Coord coord.SetM) = refl
named_forms (form.Coord coord.ClearM) = refl
named_forms (form.Coord coord.Init) = refl
named_forms (form.Coord coord.Start) = refl
named_forms (form.Coord coord.WaitE) = refl
named_forms (form.Coord coord.Release) = refl
named_forms (form.Coord coord.Get) = refl
named_forms (form.Coord coord.CProt) = refl
named_forms form.Msg = refl
named_forms form.Stopre = refl
named_forms form.Setms = refl
named_forms form.Workpiece = refl

first_is_table : (text : List ℕ) → is_first_name text ≡ true → is_table_word text ≡ true
unfolding is_table_word
first_is_table text h = rw h refl

form_is_table : (text : List ℕ) (f : Form) → form_of text ≡ Some f → is_table_word text ≡ true
form_is_table text f h =
    first_is_table text (same_first text (form_name f) (same_letters text (form_name f) (form_found text f h)) ∙ first_names f)

no_form_of_program : (text : List ℕ) → is_table_word text ≡ false → form_of text ≡ None
no_form_of_program text h = none_of (form_of text) (λ f e. let t = form_is_table text f e in let no : true ≡ false = sym t ∙ h in cc)

-- the names of words begin no form, and stand in a table
inner_word : (text k : List ℕ) → is_word text k ≡ true → is_inner_name k ≡ true → form_of k ≡ None → (form_of text ≡ None) × (is_table_word text ≡ true)
unfolding is_table_word
inner_word text k h i n =
    let same = same_letters text k h in
    let e : is_inner_name text ≡ true = same_inner text k same ∙ i in
    (same_form text k same ∙ n, or_left _ _ (or_left _ _ (or_left _ _ (or_right _ _ e))))

group_word_name : (text : List ℕ) (w : GWord) → word_by_name text ≡ Some w → (form_of text ≡ None) × (is_table_word text ≡ true)
unfolding is_table_word
group_word_name text w h =
    let some : is_group_name text ≡ true = sym (word_is_listed text) ∙ ap is_some h in (
      none_of (form_of text) (λ f e. let no : true ≡ false = sym (form_found text f e) ∙ not_in_group text (form_name f) w h (no_group f) in cc),
      or_left _ _ (or_right _ _ some),
    )

pub names_no_form : (text : List ℕ) → NamesWord text → (form_of text ≡ None) × (is_table_word text ≡ true)
unfolding is_spindle_word is_inner_name form_of way_of structure_name control_name frame_form_name coordination_form_name
names_no_form text h =
    elim h [
      | inl a ↦ inner_word text (codes "CR") a refl refl
      | inr b ↦ elim b [
        | inl c ↦ or_cases _ _ c (λ c. or_cases _ _ c (λ c. or_cases _ _ c
            (λ c. inner_word text (codes "SPOS") c refl refl) (λ c. inner_word text (codes "SPOSA") c refl refl))
            (λ c. inner_word text (codes "LIMS") c refl refl)) (λ c. inner_word text (codes "SF") c refl refl)
        | inr c ↦ group_word_name text c.0 c.1
      ]
    ]

-- bodies
pub form_read : (words : WordsView) (at : ℕ) (f : Form) → IsKeyword words at (form_name f) → body_at words at ≡ form_body words f (at + 1)
unfolding body_at named_body
form_read words at f h =
    let text = text_at words at in
    let e : form_of text ≡ Some f = same_form text (form_name f) (same_letters text (form_name f) (keyword_text words at (form_name f) h)) ∙ named_forms f in
    ap (λ p. body_of words at p) (keyword_piece words at (form_name f) h) ∙ ap (λ o. named_form words o text at) e

pub word_name_read : (words : WordsView) (at : ℕ) → piece_at words at ≡ piece.Name → NamesWord (text_at words at) → body_at words at ≡ words_form words at
unfolding body_at named_body
word_name_read words at h n =
    let text = text_at words at in
    let e = names_no_form text n in
    ap (λ p. body_of words at p) h ∙ ap (λ o. named_form words o text at) e.0 ∙ ap (λ b. cond b (words_form words at) (call_form words (name_of text) (at + 1))) e.1

pub program_name_read : (words : WordsView) (at : ℕ) → piece_at words at ≡ piece.Name → is_table_word (text_at words at) ≡ false →
    body_at words at ≡ call_form words (name_of (text_at words at)) (at + 1)
unfolding body_at named_body
program_name_read words at h n =
    let text = text_at words at in
    ap (λ p. body_of words at p) h ∙ ap (λ o. named_form words o text at) (no_form_of_program text n)
    ∙ ap (λ b. cond b (words_form words at) (call_form words (name_of text) (at + 1))) n

-- how a jump searches
way_cases : (words : WordsView) (at : ℕ) (way : Way) (p : Piece) → piece_at words at ≡ p → way_of_piece p (text_at words at) ≡ Some way → IsKeyword words at (way_name way)
way_cases words at way piece.Name e h = keyword_of words at (way_name way) e (way_found (text_at words at) way h)
way_cases words at way p e h = cc

pub way_at_found : (words : WordsView) (at : ℕ) (way : Way) → way_at words at ≡ Some way → IsKeyword words at (way_name way)
unfolding way_at
way_at_found words at way h = way_cases words at way (piece_at words at) refl h

named_ways : (way : Way) → way_of (way_name way) ≡ Some way
unfolding way_of
named_ways Forward = refl
named_ways Backward = refl
named_ways Either = refl
named_ways Optional = refl

pub way_at_only : (words : WordsView) (at : ℕ) (way : Way) → IsKeyword words at (way_name way) → way_at words at ≡ Some way
unfolding way_at
way_at_only words at way h =
    let text = text_at words at in
    ap (λ p. way_of_piece p text) (keyword_piece words at (way_name way) h)
    ∙ same_way text (way_name way) (same_letters text (way_name way) (keyword_text words at (way_name way) h)) ∙ named_ways way
