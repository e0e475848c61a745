-- The frame that the words of a block leave, or the alarm that they bring.
use Rattle.std.proofs.Common.{◌≡◌, ℕ, zero, suc, ◌+◌, ◌<◌, ◌^◌, Bool, true, false, cond, ◌&&◌, List, [], ◌∷◌, ◌++◌, length, get_or, Option, Some, None, ◌⊎◌, inl, inr, refl, sym, ap, ◌∙◌, subst, arith}
use Rattle.std.proofs.lemmas.Bool.{cases_Bool, and_cases}
use Rattle.std.specs.Prelude.{ℤ, pos, unwrap_or, is_some, Result, Ok, Err}
use Rattle.std.specs.Int.RustNames.{unsigned_abs}
use Rattle.frames.specs.declared.axis_map.AxisMap.{AxisMap}
use Rattle.frames.specs.declared.Frame.{Frame}
use Rattle.frames.specs.Maps.{Map}
use Rattle.frames.specs.Images.{Image, image_of}
use Rattle.frames.specs.Counts.{shift_when_moved, IsMoved, IsScaled, IsMirrored, is_product_allowed, GivesMoved, GivesScaled}
use Rattle.frames.specs.Faults.{or_else, is_scale, maps_fault, image_fault, chain_fault, adding_fault}
use Rattle.frames.specs.Composition.{IsImage, IsComposed, IsExtended, GivesComposed, Joins, shifts, scales, mirrors, axis_of}
use Rattle.frames.proofs.AloneLaws.{shifts-x, shifts-y, shifts-z, scales-x, scales-y, scales-z, mirrors-x, mirrors-y, mirrors-z}
use Rattle.frames.proofs.Chains.{image_of-positive}
use Rattle.frames.proofs.CountLaws.{Follows, follows, moved-image, mirrored-image, scaled-image, image-no_fault, moved-fault, scaled-fault}

-- an axis of a frame
pub composed-at : (chain : List Map) (frame : Frame) (axis : ℕ) → axis < 3 → IsComposed chain frame → IsImage (axis_of frame axis) (image_of chain axis)
composed-at chain frame zero less h = h.x
composed-at chain frame (suc zero) less h = h.y
composed-at chain frame (suc (suc zero)) less h = h.z
composed-at chain frame (suc (suc (suc n))) less h = absurd (omega arith)

-- ---- the first alarm of several
pub all_none : (m a b c : Option ℕ) → m ≡ None → a ≡ None → b ≡ None → c ≡ None → or_else m (or_else a (or_else b c)) ≡ None
all_none m a b c e f g h =
    ap (λ (o : Option ℕ). or_else o (or_else a (or_else b c))) e ∙ ap (λ (o : Option ℕ). or_else o (or_else b c)) f
    ∙ ap (λ (o : Option ℕ). or_else o c) g ∙ h

pub past_none : (o later : Option ℕ) → o ≡ None → or_else o later ≡ later
past_none o later e = ap (λ (x : Option ℕ). or_else x later) e

pub at_some : (o later : Option ℕ) (code : ℕ) → o ≡ Some code → or_else o later ≡ Some code
at_some o later code e = ap (λ (x : Option ℕ). or_else x later) e

-- the composition of a longer chain brings no alarm
pub extended : (chain new : List Map) (frame : Frame) → maps_fault new ≡ None
    → IsImage frame.x (image_of (chain ++ new) 0) → IsImage frame.y (image_of (chain ++ new) 1) → IsImage frame.z (image_of (chain ++ new) 2)
    → IsExtended chain new frame
extended chain new frame none x y z =
    let longer = chain ++ new in
    record {
      no_fault =
          all_none _ _ _ _ none
          (image-no_fault frame.x (image_of longer 0) (image_of-positive longer 0) x)
          (image-no_fault frame.y (image_of longer 1) (image_of-positive longer 1) y)
          (image-no_fault frame.z (image_of longer 2) (image_of-positive longer 2) z);
      composed = record { x = x; y = y; z = z };
    }

-- ---- shifts
shifts-no_fault : (k : ℕ) (values : List (Option ℤ)) → maps_fault (shifts k values) ≡ None
shifts-no_fault k [] = refl
shifts-no_fault k (None ∷ values) = shifts-no_fault (k + 1) values
shifts-no_fault k (Some value ∷ values) = shifts-no_fault (k + 1) values

module _ (chain : List Map) (frame : Frame) (x y z : Option ℤ) (h : IsComposed chain frame) where
  shift-x : Follows frame.x false (pos 1000000) (unwrap_or x (pos 0)) (image_of (chain ++ shifts 0 (x ∷ y ∷ z ∷ [])) 0)
  shift-x = follows chain (shifts 0 (x ∷ y ∷ z ∷ [])) 0 0 frame.x false (pos 1000000) (unwrap_or x (pos 0)) h.x (shifts-x x y z)

  shift-y : Follows frame.y false (pos 1000000) (unwrap_or y (pos 0)) (image_of (chain ++ shifts 0 (x ∷ y ∷ z ∷ [])) 1)
  shift-y = follows chain (shifts 0 (x ∷ y ∷ z ∷ [])) 1 1 frame.y false (pos 1000000) (unwrap_or y (pos 0)) h.y (shifts-y x y z)

  shift-z : Follows frame.z false (pos 1000000) (unwrap_or z (pos 0)) (image_of (chain ++ shifts 0 (x ∷ y ∷ z ∷ [])) 2)
  shift-z = follows chain (shifts 0 (x ∷ y ∷ z ∷ [])) 2 2 frame.z false (pos 1000000) (unwrap_or z (pos 0)) h.z (shifts-z x y z)

  no_moved_fault : (old new : AxisMap) (value : ℤ) (k : Image) → Follows old false (pos 1000000) value k → IsMoved old value new → image_fault k ≡ None
  no_moved_fault old new value k f m = image-no_fault new k f.positive (moved-image old new value k f m)

  pub shifts-extended : (new : Frame) → IsMoved frame.x (unwrap_or x (pos 0)) new.x → IsMoved frame.y (unwrap_or y (pos 0)) new.y
      → IsMoved frame.z (unwrap_or z (pos 0)) new.z → IsExtended chain (shifts 0 (x ∷ y ∷ z ∷ [])) new
  shifts-extended new a b c =
      extended chain (shifts 0 (x ∷ y ∷ z ∷ [])) new (shifts-no_fault 0 (x ∷ y ∷ z ∷ []))
      (moved-image frame.x new.x (unwrap_or x (pos 0)) _ shift-x a)
      (moved-image frame.y new.y (unwrap_or y (pos 0)) _ shift-y b)
      (moved-image frame.z new.z (unwrap_or z (pos 0)) _ shift-z c)

  pub shifts-fault_x : 10 ^ 16 < unsigned_abs (shift_when_moved frame.x (unwrap_or x (pos 0))) → adding_fault chain (shifts 0 (x ∷ y ∷ z ∷ [])) ≡ Some 13
  shifts-fault_x more =
      past_none _ _ (shifts-no_fault 0 (x ∷ y ∷ z ∷ []))
      ∙ at_some _ _ 13 (moved-fault frame.x (unwrap_or x (pos 0)) _ shift-x more)

  pub shifts-fault_y : (new : AxisMap) → IsMoved frame.x (unwrap_or x (pos 0)) new
      → 10 ^ 16 < unsigned_abs (shift_when_moved frame.y (unwrap_or y (pos 0))) → adding_fault chain (shifts 0 (x ∷ y ∷ z ∷ [])) ≡ Some 13
  shifts-fault_y new a more =
      past_none _ _ (shifts-no_fault 0 (x ∷ y ∷ z ∷ []))
      ∙ past_none _ _ (no_moved_fault frame.x new (unwrap_or x (pos 0)) _ shift-x a)
      ∙ at_some _ _ 13 (moved-fault frame.y (unwrap_or y (pos 0)) _ shift-y more)

  pub shifts-fault_z : (new new' : AxisMap) → IsMoved frame.x (unwrap_or x (pos 0)) new → IsMoved frame.y (unwrap_or y (pos 0)) new'
      → 10 ^ 16 < unsigned_abs (shift_when_moved frame.z (unwrap_or z (pos 0))) → adding_fault chain (shifts 0 (x ∷ y ∷ z ∷ [])) ≡ Some 13
  shifts-fault_z new new' a b more =
      past_none _ _ (shifts-no_fault 0 (x ∷ y ∷ z ∷ []))
      ∙ past_none _ _ (no_moved_fault frame.x new (unwrap_or x (pos 0)) _ shift-x a)
      ∙ past_none _ _ (no_moved_fault frame.y new' (unwrap_or y (pos 0)) _ shift-y b)
      ∙ moved-fault frame.z (unwrap_or z (pos 0)) _ shift-z more

-- ---- factors
word_fault : Option ℤ → Option ℕ
word_fault word = cond (is_scale (unwrap_or word (pos 1000000))) None (Some 11)

scales-fault : (k : ℕ) (word : Option ℤ) (values : List (Option ℤ))
    → maps_fault (scales k (word ∷ values)) ≡ or_else (word_fault word) (maps_fault (scales (k + 1) values))
unfolding word_fault
scales-fault k None values = refl
scales-fault k (Some value) values = refl

-- no alarm, or alarm 11
IsEleven : Option ℕ → Type 0
IsEleven o = (o ≡ None) ⊎ (o ≡ Some 11)

eleven_by : (b : Bool) → (cond {A = Option ℕ} b None (Some 11) ≡ None) ⊎ (cond {A = Option ℕ} b None (Some 11) ≡ Some 11)
eleven_by true = inl refl
eleven_by false = inr refl

word-eleven : (word : Option ℤ) → IsEleven (word_fault word)
unfolding word_fault IsEleven
word-eleven word = eleven_by (is_scale (unwrap_or word (pos 1000000)))

or_eleven : (o later : Option ℕ) → IsEleven o → later ≡ Some 11 → or_else o later ≡ Some 11
unfolding IsEleven
or_eleven o later (inl none) e = past_none o later none ∙ e
or_eleven o later (inr eleven) e = at_some o later 11 eleven

both_eleven : (o later : Option ℕ) → IsEleven o → IsEleven later → IsEleven (or_else o later)
unfolding IsEleven
both_eleven o later (inl none) (inl none') = inl (past_none o later none ∙ none')
both_eleven o later (inl none) (inr eleven) = inr (past_none o later none ∙ eleven)
both_eleven o later (inr eleven) h = inr (at_some o later 11 eleven)

none_eleven : (o : Option ℕ) → o ≡ None → IsEleven o
unfolding IsEleven
none_eleven o e = inl e

words : Option ℤ → Option ℤ → Option ℤ → Option ℕ
words x y z = or_else (word_fault x) (or_else (word_fault y) (or_else (word_fault z) None))

scales-words : (x y z : Option ℤ) → maps_fault (scales 0 (x ∷ y ∷ z ∷ [])) ≡ words x y z
unfolding words
scales-words x y z =
    scales-fault 0 x (y ∷ z ∷ [])
    ∙ ap (or_else (word_fault x)) (scales-fault 1 y (z ∷ []) ∙ ap (or_else (word_fault y)) (scales-fault 2 z []))

words-eleven : (x y z : Option ℤ) → IsEleven (words x y z)
unfolding words
words-eleven x y z =
    both_eleven _ _ (word-eleven x)
    (both_eleven _ _ (word-eleven y) (both_eleven _ _ (word-eleven z) (none_eleven None refl)))

good_word : (word : Option ℤ) → is_scale (unwrap_or word (pos 1000000)) ≡ true → word_fault word ≡ None
unfolding word_fault
good_word word e = ap (λ (b : Bool). cond b None (Some 11)) e

bad_word : (word : Option ℤ) → is_scale (unwrap_or word (pos 1000000)) ≡ false → word_fault word ≡ Some 11
unfolding word_fault
bad_word word e = ap (λ (b : Bool). cond b None (Some 11)) e

-- a factor that is refused is none, or its product is none
refused : (e : AxisMap) (word : Option ℤ) (k : Image) → Follows e false (unwrap_or word (pos 1000000)) (pos 0) k
    → (is_scale (unwrap_or word (pos 1000000)) && is_product_allowed e.factor (unsigned_abs (unwrap_or word (pos 1000000)))) ≡ false
    → (word_fault word ≡ Some 11) ⊎ (image_fault k ≡ Some 11)
refused e word k f out =
    let value = unwrap_or word (pos 1000000) in
    elim (cases_Bool (is_scale value)) [
      | inl good ↦ elim (and_cases (is_scale value) (is_product_allowed e.factor (unsigned_abs value)) out) [
        | inl bad ↦ inl (bad_word word bad)
        | inr bad ↦ inr (scaled-fault e value k f good bad)
      ]
      | inr bad ↦ inl (bad_word word bad)
    ]

module _ (chain : List Map) (frame : Frame) (x y z : Option ℤ) (h : IsComposed chain frame) where
  scale-x : Follows frame.x false (unwrap_or x (pos 1000000)) (pos 0) (image_of (chain ++ scales 0 (x ∷ y ∷ z ∷ [])) 0)
  scale-x = follows chain (scales 0 (x ∷ y ∷ z ∷ [])) 0 0 frame.x false (unwrap_or x (pos 1000000)) (pos 0) h.x (scales-x x y z)

  scale-y : Follows frame.y false (unwrap_or y (pos 1000000)) (pos 0) (image_of (chain ++ scales 0 (x ∷ y ∷ z ∷ [])) 1)
  scale-y = follows chain (scales 0 (x ∷ y ∷ z ∷ [])) 1 1 frame.y false (unwrap_or y (pos 1000000)) (pos 0) h.y (scales-y x y z)

  scale-z : Follows frame.z false (unwrap_or z (pos 1000000)) (pos 0) (image_of (chain ++ scales 0 (x ∷ y ∷ z ∷ [])) 2)
  scale-z = follows chain (scales 0 (x ∷ y ∷ z ∷ [])) 2 2 frame.z false (unwrap_or z (pos 1000000)) (pos 0) h.z (scales-z x y z)

  no_scaled_fault : (old new : AxisMap) (value : ℤ) (k : Image) → Follows old false value (pos 0) k → is_scale value ≡ true
      → IsScaled old value new → image_fault k ≡ None
  no_scaled_fault old new value k f good m = image-no_fault new k f.positive (scaled-image old new value k f good m)

  pub scales-extended : (new : Frame) → is_scale (unwrap_or x (pos 1000000)) ≡ true → is_scale (unwrap_or y (pos 1000000)) ≡ true
      → is_scale (unwrap_or z (pos 1000000)) ≡ true → IsScaled frame.x (unwrap_or x (pos 1000000)) new.x
      → IsScaled frame.y (unwrap_or y (pos 1000000)) new.y → IsScaled frame.z (unwrap_or z (pos 1000000)) new.z
      → IsExtended chain (scales 0 (x ∷ y ∷ z ∷ [])) new
  unfolding words
  scales-extended new gx gy gz a b c =
      extended chain (scales 0 (x ∷ y ∷ z ∷ [])) new
      (scales-words x y z ∙ all_none _ _ _ _ (good_word x gx) (good_word y gy) (good_word z gz) refl)
      (scaled-image frame.x new.x (unwrap_or x (pos 1000000)) _ scale-x gx a)
      (scaled-image frame.y new.y (unwrap_or y (pos 1000000)) _ scale-y gy b)
      (scaled-image frame.z new.z (unwrap_or z (pos 1000000)) _ scale-z gz c)

  -- the alarm of the chain, where it is there
  by_chain : chain_fault (chain ++ scales 0 (x ∷ y ∷ z ∷ [])) ≡ Some 11 → adding_fault chain (scales 0 (x ∷ y ∷ z ∷ [])) ≡ Some 11
  by_chain e =
      ap (λ (o : Option ℕ). or_else o (chain_fault (chain ++ scales 0 (x ∷ y ∷ z ∷ [])))) (scales-words x y z)
      ∙ or_eleven (words x y z) _ (words-eleven x y z) e

  by_words : words x y z ≡ Some 11 → adding_fault chain (scales 0 (x ∷ y ∷ z ∷ [])) ≡ Some 11
  by_words e = at_some _ _ 11 (scales-words x y z ∙ e)

  pub scales-fault_x : (is_scale (unwrap_or x (pos 1000000)) && is_product_allowed frame.x.factor (unsigned_abs (unwrap_or x (pos 1000000)))) ≡ false
      → adding_fault chain (scales 0 (x ∷ y ∷ z ∷ [])) ≡ Some 11
  unfolding words
  scales-fault_x out = elim (refused frame.x x _ scale-x out) [
    | inl bad ↦ by_words (at_some _ _ 11 bad)
    | inr bad ↦ by_chain (at_some _ _ 11 bad)
  ]

  pub scales-fault_y : (new : AxisMap) → is_scale (unwrap_or x (pos 1000000)) ≡ true → IsScaled frame.x (unwrap_or x (pos 1000000)) new
      → (is_scale (unwrap_or y (pos 1000000)) && is_product_allowed frame.y.factor (unsigned_abs (unwrap_or y (pos 1000000)))) ≡ false
      → adding_fault chain (scales 0 (x ∷ y ∷ z ∷ [])) ≡ Some 11
  unfolding words
  scales-fault_y new good a out = elim (refused frame.y y _ scale-y out) [
    | inl bad ↦ by_words (past_none _ _ (good_word x good) ∙ at_some _ _ 11 bad)
    | inr bad ↦ by_chain (past_none _ _ (no_scaled_fault frame.x new (unwrap_or x (pos 1000000)) _ scale-x good a) ∙ at_some _ _ 11 bad)
  ]

  pub scales-fault_z : (new new' : AxisMap) → is_scale (unwrap_or x (pos 1000000)) ≡ true → IsScaled frame.x (unwrap_or x (pos 1000000)) new
      → is_scale (unwrap_or y (pos 1000000)) ≡ true → IsScaled frame.y (unwrap_or y (pos 1000000)) new'
      → (is_scale (unwrap_or z (pos 1000000)) && is_product_allowed frame.z.factor (unsigned_abs (unwrap_or z (pos 1000000)))) ≡ false
      → adding_fault chain (scales 0 (x ∷ y ∷ z ∷ [])) ≡ Some 11
  unfolding words
  scales-fault_z new new' good a good' b out = elim (refused frame.z z _ scale-z out) [
    | inl bad ↦ by_words (past_none _ _ (good_word x good) ∙ past_none _ _ (good_word y good') ∙ at_some _ _ 11 bad)
    | inr bad ↦ by_chain
        (past_none _ _ (no_scaled_fault frame.x new (unwrap_or x (pos 1000000)) _ scale-x good a)
        ∙ past_none _ _ (no_scaled_fault frame.y new' (unwrap_or y (pos 1000000)) _ scale-y good' b)
        ∙ bad)
  ]

-- ---- mirrors
mirrors-no_fault : (k : ℕ) (values : List (Option ℤ)) → maps_fault (mirrors k values) ≡ None
mirrors-no_fault k [] = refl
mirrors-no_fault k (None ∷ values) = mirrors-no_fault (k + 1) values
mirrors-no_fault k (Some value ∷ values) = mirrors-no_fault (k + 1) values

pub mirrors-extended : (chain : List Map) (frame new : Frame) (x y z : Option ℤ) → IsMirrored frame.x (is_some x) new.x
    → IsMirrored frame.y (is_some y) new.y → IsMirrored frame.z (is_some z) new.z → IsComposed chain frame
    → IsExtended chain (mirrors 0 (x ∷ y ∷ z ∷ [])) new
mirrors-extended chain frame new x y z a b c h =
    let more = mirrors 0 (x ∷ y ∷ z ∷ []) in
    extended chain more new (mirrors-no_fault 0 (x ∷ y ∷ z ∷ []))
    (mirrored-image frame.x new.x (is_some x) _ (follows chain more 0 0 frame.x (is_some x) (pos 1000000) (pos 0) h.x (mirrors-x x y z)) a)
    (mirrored-image frame.y new.y (is_some y) _ (follows chain more 1 1 frame.y (is_some y) (pos 1000000) (pos 0) h.y (mirrors-y x y z)) b)
    (mirrored-image frame.z new.z (is_some z) _ (follows chain more 2 2 frame.z (is_some z) (pos 1000000) (pos 0) h.z (mirrors-z x y z)) c)

-- ---- the answer of three axes
module _ (chain : List Map) (frame : Frame) (x y z : Option ℤ) (h : IsComposed chain frame) where
  pub shifts-joined : (rx ry rz : Result AxisMap ℕ) (answer : Result Frame ℕ) → GivesMoved frame.x (unwrap_or x (pos 0)) rx
      → GivesMoved frame.y (unwrap_or y (pos 0)) ry → GivesMoved frame.z (unwrap_or z (pos 0)) rz → Joins rx ry rz answer
      → GivesComposed chain (shifts 0 (x ∷ y ∷ z ∷ [])) answer
  shifts-joined (Err alarm) ry rz answer a b c e =
      subst (GivesComposed chain (shifts 0 (x ∷ y ∷ z ∷ []))) (sym e)
      (shifts-fault_x chain frame x y z h a.1 ∙ ap Some (sym a.0))
  shifts-joined (Ok nx) (Err alarm) rz answer a b c e =
      subst (GivesComposed chain (shifts 0 (x ∷ y ∷ z ∷ []))) (sym e)
      (shifts-fault_y chain frame x y z h nx a b.1 ∙ ap Some (sym b.0))
  shifts-joined (Ok nx) (Ok ny) (Err alarm) answer a b c e =
      subst (GivesComposed chain (shifts 0 (x ∷ y ∷ z ∷ []))) (sym e)
      (shifts-fault_z chain frame x y z h nx ny a b c.1 ∙ ap Some (sym c.0))
  shifts-joined (Ok nx) (Ok ny) (Ok nz) answer a b c e =
      subst (GivesComposed chain (shifts 0 (x ∷ y ∷ z ∷ []))) (sym e)
      (shifts-extended chain frame x y z h (record { x = nx; y = ny; z = nz }) a b c)

  pub scales-joined : (rx ry rz : Result AxisMap ℕ) (answer : Result Frame ℕ) → GivesScaled frame.x (unwrap_or x (pos 1000000)) rx
      → GivesScaled frame.y (unwrap_or y (pos 1000000)) ry → GivesScaled frame.z (unwrap_or z (pos 1000000)) rz → Joins rx ry rz answer
      → GivesComposed chain (scales 0 (x ∷ y ∷ z ∷ [])) answer
  scales-joined (Err alarm) ry rz answer a b c e =
      subst (GivesComposed chain (scales 0 (x ∷ y ∷ z ∷ []))) (sym e)
      (scales-fault_x chain frame x y z h a.1 ∙ ap Some (sym a.0))
  scales-joined (Ok nx) (Err alarm) rz answer a b c e =
      subst (GivesComposed chain (scales 0 (x ∷ y ∷ z ∷ []))) (sym e)
      (scales-fault_y chain frame x y z h nx a.0 a.1 b.1 ∙ ap Some (sym b.0))
  scales-joined (Ok nx) (Ok ny) (Err alarm) answer a b c e =
      subst (GivesComposed chain (scales 0 (x ∷ y ∷ z ∷ []))) (sym e)
      (scales-fault_z chain frame x y z h nx ny a.0 a.1 b.0 b.1 c.1 ∙ ap Some (sym c.0))
  scales-joined (Ok nx) (Ok ny) (Ok nz) answer a b c e =
      subst (GivesComposed chain (scales 0 (x ∷ y ∷ z ∷ []))) (sym e)
      (scales-extended chain frame x y z h (record { x = nx; y = ny; z = nz }) a.0 b.0 c.0 a.1 b.1 c.1)

-- a list of three
pub three_items : {A : Type 0} (xs : List A) (a b c : A) → length xs ≡ 3 → get_or xs 0 a ∷ get_or xs 1 b ∷ get_or xs 2 c ∷ [] ≡ xs
three_items [] a b c e = absurd (omega arith)
three_items (x ∷ []) a b c e = absurd (omega arith)
three_items (x ∷ y ∷ []) a b c e = absurd (omega arith)
three_items (x ∷ y ∷ z ∷ []) a b c e = refl
three_items (x ∷ y ∷ z ∷ w ∷ ws) a b c e = absurd (omega arith)
