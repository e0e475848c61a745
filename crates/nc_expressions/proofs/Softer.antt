-- The machine without one of the limits goes the way of the machine with all, where that goes on.
use Rattle.std.proofs.Common.{◌≡◌, ℕ, ◌⊎◌, inl, inr, nat_lt, ◌||◌, not, ◌+◌, Bool, true, false, cond, leb, [], ◌∷◌, refl, ap, sym, ◌∙◌, subst, Option, Some, None}
use Rattle.nc_expressions.specs.declared.trees.UnaryOp.{UnaryOp}
use Rattle.nc_expressions.specs.declared.trees.UnaryOp.TheVariants as unary
use Rattle.nc_expressions.specs.declared.trees.BinaryOp.{BinaryOp}
use Rattle.nc_expressions.specs.declared.trees.BinaryOp.TheVariants.{Add, Sub, Mul, Div, WholeDiv, Modulo, And, Or, Xor, Equal, NotEqual, Greater, Less, GreaterEqual, LessEqual}
use Rattle.nc_expressions.specs.declared.levels.Level.{Level}
use Rattle.nc_expressions.specs.declared.levels.Level.TheVariants.{Plain, Compares, Connects}
use Rattle.nc_expressions.specs.declared.symbols.Symbol.{Symbol}
use Rattle.nc_expressions.specs.declared.symbols.Symbol.TheVariants as symbol
use Rattle.nc_expressions.specs.declared.stack.Bracket.{Bracket}
use Rattle.nc_expressions.specs.declared.stack.Bracket.TheVariants.{Parentheses, Argument, Index}
use Rattle.nc_expressions.specs.Tree.{Tree, Number, Parameter, Indexed, Unary, Binary}
use Rattle.nc_expressions.specs.Levels.{connecting, rank, kind, joint_level, clash}
use Rattle.nc_expressions.specs.Limits.{Limits, all_limits}
use Rattle.nc_expressions.specs.Symbols.{truth, index_of}
use Rattle.nc_expressions.specs.Machine.{Prefix, Left, Opened, Stack, State, Wants, WantsIndex, WantsArgument, Has, Next, On, Ends, Refuse, depth, attach, join, state_with_tree, next_in_bracket, with_left, with_prefix, with_parameter, close_parenthesis, close_bracket, stop, finish, on_sign, on_operand, on_index, on_argument, on_operator, on_close, on_close_bracket, on_other, on_ended, step}

abbrev pub limits_of : Bool → Bool → Limits
limits_of n a = record { nested = n; apart = a }

abbrev pub soft : Limits → Level → Level
soft lim Plain = Plain
soft lim Compares = Compares
soft lim Connects = connecting lim

soft_kind : (lim : Limits) (op : BinaryOp) → soft lim (kind all_limits op) ≡ kind lim op
soft_kind lim Add = refl
soft_kind lim Sub = refl
soft_kind lim Mul = refl
soft_kind lim Div = refl
soft_kind lim WholeDiv = refl
soft_kind lim Modulo = refl
soft_kind lim And = refl
soft_kind lim Or = refl
soft_kind lim Xor = refl
soft_kind lim Equal = refl
soft_kind lim NotEqual = refl
soft_kind lim Greater = refl
soft_kind lim Less = refl
soft_kind lim GreaterEqual = refl
soft_kind lim LessEqual = refl

abbrev pub soft_stack : Limits → Stack → Stack
soft_stack lim [] = []
soft_stack lim (Prefix op ∷ st) = Prefix op ∷ soft_stack lim st
soft_stack lim (Left a op ∷ st) = Left a op ∷ soft_stack lim st
soft_stack lim (Opened b lv ∷ st) = Opened b (soft lim lv) ∷ soft_stack lim st

abbrev pub soft_state : Limits → State → State
soft_state lim (Wants st lv) = Wants (soft_stack lim st) (soft lim lv)
soft_state lim (WantsIndex st lv) = WantsIndex (soft_stack lim st) (soft lim lv)
soft_state lim (WantsArgument f st lv) = WantsArgument f (soft_stack lim st) (soft lim lv)
soft_state lim (Has t st lv) = Has t (soft_stack lim st) (soft lim lv)

abbrev pub soft_pair : Limits → Tree × Stack → Tree × Stack
soft_pair lim p = (p.0, soft_stack lim p.1)

soft_attach : (lim : Limits) (t : Tree) (st : Stack) → attach t (soft_stack lim st) ≡ soft_pair lim (attach t st)
soft_attach lim t [] = refl
soft_attach lim t (Prefix op ∷ st) = soft_attach lim (Unary op t) st
soft_attach lim t (Left a op ∷ st) = refl
soft_attach lim t (Opened b lv ∷ st) = refl

soft_choice : (lim : Limits) (b : Bool) (x x' y : Tree × Stack) → x' ≡ soft_pair lim x → cond b x' (soft_pair lim y) ≡ soft_pair lim (cond b x y)
soft_choice lim true x x' y h = h
soft_choice lim false x x' y h = refl

soft_join : (lim : Limits) (r : ℕ) (t : Tree) (st : Stack) → join r t (soft_stack lim st) ≡ soft_pair lim (join r t st)
soft_join lim r t [] = refl
soft_join lim r t (Prefix op ∷ st) = refl
soft_join lim r t (Left a op ∷ st) =
    soft_choice lim (leb r (rank op)) (join r (Binary op a t) st) (join r (Binary op a t) (soft_stack lim st)) (t, Left a op ∷ st) (soft_join lim r (Binary op a t) st)
soft_join lim r t (Opened b lv ∷ st) = refl

soft_depth : (lim : Limits) (st : Stack) → depth (soft_stack lim st) ≡ depth st
soft_depth lim [] = refl
soft_depth lim (Prefix op ∷ st) = soft_depth lim st
soft_depth lim (Left a op ∷ st) = soft_depth lim st
soft_depth lim (Opened Parentheses lv ∷ st) = ap (λ (n : ℕ). n + 1) (soft_depth lim st)
soft_depth lim (Opened (Argument f) lv ∷ st) = ap (λ (n : ℕ). n + 1) (soft_depth lim st)
soft_depth lim (Opened Index lv ∷ st) = soft_depth lim st

-- a refusal stays one without the limit, or the machine goes on without it
abbrev pub Stays : Limits → ℕ → Type 0
Stays lim code = (code ≡ 22) ⊎ (((code ≡ 26) × (lim.nested ≡ true)) ⊎ ((code ≡ 23) × (lim.apart ≡ true)))

abbrev pub Gives : Limits → ℕ → Type 0
Gives lim code = ((code ≡ 26) × (lim.nested ≡ false)) ⊎ ((code ≡ 23) × (lim.apart ≡ false))

abbrev pub Softened : Limits → Next → Next → Type 0
Softened lim (On state) n = n ≡ On (soft_state lim state)
Softened lim (Ends t) n = Unit {0}
Softened lim (Refuse code) n = ((n ≡ Refuse code) × Stays lim code) ⊎ ((st : Stack) × (lv : Level) × (n ≡ On (Wants st lv)) × Gives lim code)

abbrev pub Levels : Limits → Level → Level → Option Level → Type 0
Levels lim lv k (Some l) = joint_level (soft lim lv) (soft lim k) ≡ Some (soft lim l)
Levels lim lv k None =
    ((joint_level (soft lim lv) (soft lim k) ≡ None) × (clash (soft lim lv) (soft lim k) ≡ clash lv k) × Stays lim (clash lv k))
    ⊎ ((l : Level) × (joint_level (soft lim lv) (soft lim k) ≡ Some l) × Gives lim (clash lv k))

soft_levels : (n a : Bool) (lv k : Level) → Levels (limits_of n a) lv k (joint_level lv k)
soft_levels n true Plain Plain = refl
soft_levels n true Plain Compares = refl
soft_levels n true Plain Connects = refl
soft_levels n true Compares Plain = refl
soft_levels n true Compares Compares = inl (refl, refl, inl refl)
soft_levels n true Compares Connects = inl (refl, refl, inr (inr (refl, refl)))
soft_levels n true Connects Plain = refl
soft_levels n true Connects Compares = inl (refl, refl, inr (inr (refl, refl)))
soft_levels n true Connects Connects = refl
soft_levels n false Plain Plain = refl
soft_levels n false Plain Compares = refl
soft_levels n false Plain Connects = refl
soft_levels n false Compares Plain = refl
soft_levels n false Compares Compares = inl (refl, refl, inl refl)
soft_levels n false Compares Connects = inr (Compares, refl, inr (refl, refl))
soft_levels n false Connects Plain = refl
soft_levels n false Connects Compares = inr (Compares, refl, inr (refl, refl))
soft_levels n false Connects Connects = refl

soft_prefix : (lim : Limits) (o : Option Level) (lv k : Level) (op : UnaryOp) (st : Stack) → Levels lim lv k o →
    Softened lim (with_prefix o (clash lv k) op st) (with_prefix (joint_level (soft lim lv) (soft lim k)) (clash (soft lim lv) (soft lim k)) op (soft_stack lim st))
soft_prefix lim (Some l) lv k op st h = ap (λ (o : Option Level). with_prefix o (clash (soft lim lv) (soft lim k)) op (soft_stack lim st)) h
soft_prefix lim None lv k op st (inl h) =
    inl (ap (λ (o : Option Level). with_prefix o (clash (soft lim lv) (soft lim k)) op (soft_stack lim st)) h.0 ∙ ap (λ (c : ℕ). Refuse c) h.1, h.2)
soft_prefix lim None lv k op st (inr h) =
    inr (Prefix op ∷ soft_stack lim st, h.0, ap (λ (o : Option Level). with_prefix o (clash (soft lim lv) (soft lim k)) op (soft_stack lim st)) h.1, h.2)

soft_left : (lim : Limits) (o : Option Level) (lv k : Level) (op : BinaryOp) (p : Tree × Stack) → Levels lim lv k o →
    Softened lim (with_left o (clash lv k) op p) (with_left (joint_level (soft lim lv) (soft lim k)) (clash (soft lim lv) (soft lim k)) op (soft_pair lim p))
soft_left lim (Some l) lv k op p h = ap (λ (o : Option Level). with_left o (clash (soft lim lv) (soft lim k)) op (soft_pair lim p)) h
soft_left lim None lv k op p (inl h) =
    inl (ap (λ (o : Option Level). with_left o (clash (soft lim lv) (soft lim k)) op (soft_pair lim p)) h.0 ∙ ap (λ (c : ℕ). Refuse c) h.1, h.2)
soft_left lim None lv k op p (inr h) =
    inr (Left p.0 op ∷ soft_stack lim p.1, h.0, ap (λ (o : Option Level). with_left o (clash (soft lim lv) (soft lim k)) op (soft_pair lim p)) h.1, h.2)

soft_room : (n a c : Bool) (b : Bracket) (st : Stack) (lv : Level) →
    Softened (limits_of n a) (cond (not true || c) (On (Wants (Opened b lv ∷ st) Plain)) (Refuse 26))
    (cond (not n || c) (On (Wants (Opened b (soft (limits_of n a) lv) ∷ soft_stack (limits_of n a) st) Plain)) (Refuse 26))
soft_room true a true b st lv = refl
soft_room false a true b st lv = refl
soft_room true a false b st lv = inl (refl, inr (inl (refl, refl)))
soft_room false a false b st lv = inr (Opened b (soft (limits_of false a) lv) ∷ soft_stack (limits_of false a) st, Plain, refl, inl (refl, refl))

soft_open : (n a : Bool) (b : Bracket) (st : Stack) (lv : Level) →
    Softened (limits_of n a) (next_in_bracket all_limits b st lv) (next_in_bracket (limits_of n a) b (soft_stack (limits_of n a) st) (soft (limits_of n a) lv))
unfolding next_in_bracket
soft_open n a b st lv =
    let lim : Limits = limits_of n a in
    let P : ℕ → Type 0 = λ d. Softened lim (cond (not true || nat_lt (depth st) 32) (On (Wants (Opened b lv ∷ st) Plain)) (Refuse 26))
    (cond (not n || nat_lt d 32) (On (Wants (Opened b (soft lim lv) ∷ soft_stack lim st) Plain)) (Refuse 26)) in
    subst P (sym (soft_depth lim st)) (soft_room n a (nat_lt (depth st) 32) b st lv)

soft_sign : (lim : Limits) (op : BinaryOp) (st : Stack) (lv : Level) → Softened lim (on_sign op st lv) (on_sign op (soft_stack lim st) (soft lim lv))
unfolding on_sign
soft_sign lim Add st lv = refl
soft_sign lim Sub st lv = refl
soft_sign lim Mul st lv = inl (refl, inl refl)
soft_sign lim Div st lv = inl (refl, inl refl)
soft_sign lim WholeDiv st lv = inl (refl, inl refl)
soft_sign lim Modulo st lv = inl (refl, inl refl)
soft_sign lim And st lv = inl (refl, inl refl)
soft_sign lim Or st lv = inl (refl, inl refl)
soft_sign lim Xor st lv = inl (refl, inl refl)
soft_sign lim Equal st lv = inl (refl, inl refl)
soft_sign lim NotEqual st lv = inl (refl, inl refl)
soft_sign lim Greater st lv = inl (refl, inl refl)
soft_sign lim Less st lv = inl (refl, inl refl)
soft_sign lim GreaterEqual st lv = inl (refl, inl refl)
soft_sign lim LessEqual st lv = inl (refl, inl refl)

soft_attached : (lim : Limits) (t : Tree) (st : Stack) (lv : Level) →
    On (state_with_tree (soft lim lv) (attach t (soft_stack lim st))) ≡ On (soft_state lim (state_with_tree lv (attach t st)))
soft_attached lim t st lv = ap (λ (p : Tree × Stack). On (state_with_tree (soft lim lv) p)) (soft_attach lim t st)

soft_operand : (n a : Bool) (s : Symbol) (st : Stack) (lv : Level) →
    Softened (limits_of n a) (on_operand all_limits st lv s) (on_operand (limits_of n a) (soft_stack (limits_of n a) st) (soft (limits_of n a) lv) s)
unfolding on_operand
soft_operand n a (symbol.Number z d) st lv = soft_attached (limits_of n a) (Number z) st lv
soft_operand n a (symbol.Truth b) st lv = soft_attached (limits_of n a) (Number (truth b)) st lv
soft_operand n a (symbol.Operator op) st lv = soft_sign (limits_of n a) op st lv
soft_operand n a symbol.Not st lv = soft_prefix (limits_of n a) (joint_level lv Connects) lv Connects unary.Not st (soft_levels n a lv Connects)
soft_operand n a (symbol.Function f) st lv = refl
soft_operand n a symbol.Letter st lv = refl
soft_operand n a symbol.Open st lv = soft_open n a Parentheses st lv
soft_operand n a symbol.Close st lv = inl (refl, inl refl)
soft_operand n a symbol.OpenBracket st lv = inl (refl, inl refl)
soft_operand n a symbol.CloseBracket st lv = inl (refl, inl refl)
soft_operand n a symbol.Exponent st lv = inl (refl, inl refl)
soft_operand n a symbol.Other st lv = inl (refl, inl refl)

soft_parameter : (lim : Limits) (o : Option ℕ) (st : Stack) (lv : Level) → Softened lim (with_parameter o st lv) (with_parameter o (soft_stack lim st) (soft lim lv))
soft_parameter lim None st lv = inl (refl, inl refl)
soft_parameter lim (Some i) st lv = soft_attached lim (Parameter i) st lv

soft_index : (lim : Limits) (s : Symbol) (st : Stack) (lv : Level) → Softened lim (on_index st lv s) (on_index (soft_stack lim st) (soft lim lv) s)
unfolding on_index
soft_index lim (symbol.Number z true) st lv = soft_parameter lim (index_of z) st lv
soft_index lim (symbol.Number z false) st lv = inl (refl, inl refl)
soft_index lim symbol.OpenBracket st lv = refl
soft_index lim (symbol.Truth b) st lv = inl (refl, inl refl)
soft_index lim (symbol.Operator op) st lv = inl (refl, inl refl)
soft_index lim symbol.Not st lv = inl (refl, inl refl)
soft_index lim (symbol.Function f) st lv = inl (refl, inl refl)
soft_index lim symbol.Letter st lv = inl (refl, inl refl)
soft_index lim symbol.Open st lv = inl (refl, inl refl)
soft_index lim symbol.Close st lv = inl (refl, inl refl)
soft_index lim symbol.CloseBracket st lv = inl (refl, inl refl)
soft_index lim symbol.Exponent st lv = inl (refl, inl refl)
soft_index lim symbol.Other st lv = inl (refl, inl refl)

soft_argument : (n a : Bool) (s : Symbol) (f : UnaryOp) (st : Stack) (lv : Level) →
    Softened (limits_of n a) (on_argument all_limits f st lv s) (on_argument (limits_of n a) f (soft_stack (limits_of n a) st) (soft (limits_of n a) lv) s)
unfolding on_argument
soft_argument n a symbol.Open f st lv = soft_open n a (Argument f) st lv
soft_argument n a (symbol.Number z d) f st lv = inl (refl, inl refl)
soft_argument n a (symbol.Truth b) f st lv = inl (refl, inl refl)
soft_argument n a (symbol.Operator op) f st lv = inl (refl, inl refl)
soft_argument n a symbol.Not f st lv = inl (refl, inl refl)
soft_argument n a (symbol.Function g) f st lv = inl (refl, inl refl)
soft_argument n a symbol.Letter f st lv = inl (refl, inl refl)
soft_argument n a symbol.Close f st lv = inl (refl, inl refl)
soft_argument n a symbol.OpenBracket f st lv = inl (refl, inl refl)
soft_argument n a symbol.CloseBracket f st lv = inl (refl, inl refl)
soft_argument n a symbol.Exponent f st lv = inl (refl, inl refl)
soft_argument n a symbol.Other f st lv = inl (refl, inl refl)

soft_close : (lim : Limits) (t : Tree) (st : Stack) → Softened lim (close_parenthesis t st) (close_parenthesis t (soft_stack lim st))
soft_close lim t [] = tt
soft_close lim t (Prefix op ∷ st) = inl (refl, inl refl)
soft_close lim t (Left a op ∷ st) = inl (refl, inl refl)
soft_close lim t (Opened Parentheses lv ∷ st) = soft_attached lim t st lv
soft_close lim t (Opened (Argument f) lv ∷ st) = soft_attached lim (Unary f t) st lv
soft_close lim t (Opened Index lv ∷ st) = inl (refl, inl refl)

soft_close_bracket : (lim : Limits) (t : Tree) (st : Stack) → Softened lim (close_bracket t st) (close_bracket t (soft_stack lim st))
soft_close_bracket lim t [] = tt
soft_close_bracket lim t (Prefix op ∷ st) = inl (refl, inl refl)
soft_close_bracket lim t (Left a op ∷ st) = inl (refl, inl refl)
soft_close_bracket lim t (Opened Parentheses lv ∷ st) = inl (refl, inl refl)
soft_close_bracket lim t (Opened (Argument f) lv ∷ st) = inl (refl, inl refl)
soft_close_bracket lim t (Opened Index lv ∷ st) = soft_attached lim (Indexed t) st lv

soft_stop : (lim : Limits) (t : Tree) (st : Stack) → Softened lim (stop t st) (stop t (soft_stack lim st))
soft_stop lim t [] = tt
soft_stop lim t (Prefix op ∷ st) = inl (refl, inl refl)
soft_stop lim t (Left a op ∷ st) = inl (refl, inl refl)
soft_stop lim t (Opened b lv ∷ st) = inl (refl, inl refl)

-- at the operand that the machine without the limit has joined
soft_joined : (lim : Limits) (f : Tree → Stack → Next) (r : ℕ) (t : Tree) (st : Stack) → ((u : Tree) (k : Stack) → Softened lim (f u k) (f u (soft_stack lim k))) →
    Softened lim (f (join r t st).0 (join r t st).1) (f (join r t (soft_stack lim st)).0 (join r t (soft_stack lim st)).1)
soft_joined lim f r t st h =
    let p : Tree × Stack = join r t st in
    let P : Tree × Stack → Type 0 = λ q. Softened lim (f p.0 p.1) (f q.0 q.1) in
    subst P (sym (soft_join lim r t st)) (h p.0 p.1)

soft_operator : (n a : Bool) (op : BinaryOp) (t : Tree) (st : Stack) (lv : Level) →
    Softened (limits_of n a) (on_operator all_limits op (join (rank op) t st) lv) (on_operator (limits_of n a) op (join (rank op) t (soft_stack (limits_of n a) st)) (soft (limits_of n a) lv))
unfolding on_operator
soft_operator n a op t st lv =
    let lim : Limits = limits_of n a in
    let k : Level = kind all_limits op in
    let p : Tree × Stack = join (rank op) t st in
    let first = soft_left lim (joint_level lv k) lv k op p (soft_levels n a lv k) in
    let P : Tree × Stack → Type 0 = λ q. Softened lim (with_left (joint_level lv k) (clash lv k) op p) (with_left (joint_level (soft lim lv) (soft lim k)) (clash (soft lim lv) (soft lim k)) op q) in
    let Q : Level → Type 0 = λ m. Softened lim (with_left (joint_level lv k) (clash lv k) op p)
    (with_left (joint_level (soft lim lv) m) (clash (soft lim lv) m) op (join (rank op) t (soft_stack lim st))) in
    subst Q (soft_kind lim op) (subst P (sym (soft_join lim (rank op) t st)) first)

soft_ended : (n a : Bool) (s : Symbol) (t : Tree) (st : Stack) (lv : Level) →
    Softened (limits_of n a) (on_ended all_limits t st lv s) (on_ended (limits_of n a) t (soft_stack (limits_of n a) st) (soft (limits_of n a) lv) s)
unfolding on_ended on_close on_close_bracket on_other
soft_ended n a (symbol.Operator op) t st lv = soft_operator n a op t st lv
soft_ended n a symbol.Close t st lv = soft_joined (limits_of n a) close_parenthesis 0 t st (soft_close (limits_of n a))
soft_ended n a symbol.CloseBracket t st lv = soft_joined (limits_of n a) close_bracket 0 t st (soft_close_bracket (limits_of n a))
soft_ended n a symbol.Exponent t st lv = inl (refl, inl refl)
soft_ended n a (symbol.Number z d) t st lv = soft_joined (limits_of n a) stop 0 t st (soft_stop (limits_of n a))
soft_ended n a (symbol.Truth b) t st lv = soft_joined (limits_of n a) stop 0 t st (soft_stop (limits_of n a))
soft_ended n a symbol.Not t st lv = soft_joined (limits_of n a) stop 0 t st (soft_stop (limits_of n a))
soft_ended n a (symbol.Function f) t st lv = soft_joined (limits_of n a) stop 0 t st (soft_stop (limits_of n a))
soft_ended n a symbol.Letter t st lv = soft_joined (limits_of n a) stop 0 t st (soft_stop (limits_of n a))
soft_ended n a symbol.Open t st lv = soft_joined (limits_of n a) stop 0 t st (soft_stop (limits_of n a))
soft_ended n a symbol.OpenBracket t st lv = soft_joined (limits_of n a) stop 0 t st (soft_stop (limits_of n a))
soft_ended n a symbol.Other t st lv = soft_joined (limits_of n a) stop 0 t st (soft_stop (limits_of n a))

pub soft_step : (n a : Bool) (s : Symbol) (state : State) →
    Softened (limits_of n a) (step all_limits state s) (step (limits_of n a) (soft_state (limits_of n a) state) s)
unfolding step
soft_step n a s (Wants st lv) = soft_operand n a s st lv
soft_step n a s (WantsIndex st lv) = soft_index (limits_of n a) s st lv
soft_step n a s (WantsArgument f st lv) = soft_argument n a s f st lv
soft_step n a s (Has t st lv) = soft_ended n a s t st lv

-- the end of a line is refused with 22
abbrev pub EndsWith : Next → Type 0
EndsWith (On state) = Unit {0}
EndsWith (Ends t) = Unit {0}
EndsWith (Refuse code) = code ≡ 22

stop_with : (t : Tree) (st : Stack) → EndsWith (stop t st)
stop_with t [] = tt
stop_with t (one ∷ st) = refl

pub end_code : (state : State) → EndsWith (finish state)
unfolding finish on_other
end_code (Wants st lv) = refl
end_code (WantsIndex st lv) = refl
end_code (WantsArgument f st lv) = refl
end_code (Has t st lv) = stop_with (join 0 t st).0 (join 0 t st).1
