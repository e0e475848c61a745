-- What was found in the text is what the searches find.
use Rattle.std.proofs.Common.{◌≡◌, ℕ, ◌+◌, ◌<◌, ◌^◌, Bool, List, length, get_or, reverse, sym, ap, ◌∙◌, subst, arith, Option, Some, unwrap_or, Result}
use Rattle.std.specs.Prelude.{find, nat_lt, slice_get, option_map}
use Rattle.std.proofs.lemmas.List.{length-map, get_or_read}
use Rattle.std.proofs.lemmas.Option.{slice_get-get_or, slice_get-map}
use Rattle.nc_blocks.specs.declared.blocks.Block.{Block}
use Rattle.nc_blocks.specs.Statement.{BlockView, Statement, view_of, statement_view}
use Rattle.nc_control_flow.specs.declared.parts.Part.{Part}
use Rattle.nc_control_flow.specs.declared.parts.Sought.{Sought}
use Rattle.nc_control_flow.specs.declared.parts.Sought.TheVariants.{End, Branch, Opener}
use Rattle.nc_control_flow.specs.declared.repeats.Running.{Running}
use Rattle.nc_control_flow.specs.declared.flow.Move.{Move}
use Rattle.nc_control_flow.specs.Places.{with_places, those_after, those_before}
use Rattle.nc_control_flow.specs.Matching.{matching}
use Rattle.nc_control_flow.specs.Moves.{OutcomeView, move_of}
use Rattle.nc_control_flow.specs.Flow.{going_or_alarm, next_block}
use Rattle.nc_control_flow.specs.Parts.{views, part_of, parts, statement_or_empty, statement_at}
use Rattle.nc_control_flow.specs.Structures.{closing, branching, opening}
use Rattle.nc_control_flow.specs.Targets.{nearest_ahead, nearest_before}
use Rattle.nc_control_flow.specs.Index.{places_by}
use Rattle.nc_control_flow.proofs.Indexed.{nearest_ahead_is, nearest_before_is}
use Rattle.nc_control_flow.proofs.Matched.{found_ahead_below, found_before_below}

-- ---- lengths
pub length-views : (blocks : List (ℕ × Block)) → length (views blocks) ≡ length blocks
length-views blocks = length-map blocks (λ e. view_of e.1)

pub length-parts : (blocks : List BlockView) → length (parts blocks) ≡ length blocks
length-parts blocks = length-map blocks (λ b. part_of b.statement)

-- ---- places are within the program
pub closing_below : (k : ℕ) (blocks : List BlockView) → k < length blocks → closing k blocks < length blocks
unfolding closing
closing_below k blocks h =
    let long = length-parts blocks in
    let below = found_ahead_below End k (parts blocks) (omega arith) in
    omega arith

pub branching_below : (k : ℕ) (blocks : List BlockView) → k < length blocks → branching k blocks < length blocks
unfolding branching
branching_below k blocks h =
    let long = length-parts blocks in
    let below = found_ahead_below Branch k (parts blocks) (omega arith) in
    omega arith

pub opening_below : (k : ℕ) (blocks : List BlockView) → k < length blocks → opening k blocks < length blocks
unfolding opening
opening_below k blocks h =
    let long = length-parts blocks in
    let below = found_before_below Opener k (parts blocks) (omega arith) in
    omega arith

-- ---- the nearest of the places
pub nearest_in_ahead : (test : BlockView → Bool) (pc : ℕ) (blocks : List BlockView) (places : List ℕ) (o : Option ℕ) → places ≡ places_by test (with_places blocks)
    → o ≡ find (λ p. nat_lt pc p) places → o ≡ nearest_ahead test pc blocks
nearest_in_ahead test pc blocks places o p f = f ∙ ap (λ ps. find (λ p. nat_lt pc p) ps) p ∙ nearest_ahead_is test pc blocks

pub nearest_in_before : (test : BlockView → Bool) (pc : ℕ) (blocks : List BlockView) (places : List ℕ) (o : Option ℕ) → places ≡ places_by test (with_places blocks)
    → o ≡ find (λ p. nat_lt p pc) (reverse places) → o ≡ nearest_before test pc blocks
nearest_in_before test pc blocks places o p f = f ∙ ap (λ ps. find (λ p. nat_lt p pc) (reverse ps)) p ∙ nearest_before_is test pc blocks

-- ---- what a block says
pub said_at : (blocks : List (ℕ × Block)) (pc : ℕ) (e : ℕ × Block) → pc < length blocks → e ≡ get_or blocks pc e → statement_view e.1.stmt ≡ statement_at pc (views blocks)
said_at blocks pc e h same =
    let read : slice_get blocks pc ≡ Some e = slice_get-get_or blocks pc e h ∙ ap (λ x. Some x) (sym same) in
    sym (ap (λ o. statement_or_empty o) (slice_get-map (λ (x : ℕ × Block). view_of x.1) blocks pc ∙ ap (λ o. option_map (λ (x : ℕ × Block). view_of x.1) o) read))

-- ---- what the tables have
pub found_fits : (table : List ℕ) (k n found value : ℕ) → found ≡ get_or table k found → k < length table → get_or table k 0 ≡ value → value < n → n < 2 ^ 32
    → found + 1 < 2 ^ 32
found_fits table k n found value e h v below few = let read = get_or_read table k found h e 0 in omega arith

found_in_ahead : (sought : Sought) (blocks : List BlockView) (found : List Part) (table : List ℕ) → found ≡ parts blocks
    → ((k : ℕ) → k < length found → get_or table k 0 ≡ unwrap_or (matching sought 0 (those_after k found)) 0)
    → (k : ℕ) → k < length blocks → get_or table k 0 ≡ unwrap_or (matching sought 0 (those_after k (parts blocks))) 0
found_in_ahead sought blocks found table e each k h =
    let P : List Part → Type 0 = λ ps. (i : ℕ) → i < length ps → get_or table i 0 ≡ unwrap_or (matching sought 0 (those_after i ps)) 0 in
    subst P e each k (omega (arith, length-parts blocks))

found_in_before : (sought : Sought) (blocks : List BlockView) (found : List Part) (table : List ℕ) → found ≡ parts blocks
    → ((k : ℕ) → k < length found → get_or table k 0 ≡ unwrap_or (matching sought 0 (those_before k found)) 0)
    → (k : ℕ) → k < length blocks → get_or table k 0 ≡ unwrap_or (matching sought 0 (those_before k (parts blocks))) 0
found_in_before sought blocks found table e each k h =
    let P : List Part → Type 0 = λ ps. (i : ℕ) → i < length ps → get_or table i 0 ≡ unwrap_or (matching sought 0 (those_before i ps)) 0 in
    subst P e each k (omega (arith, length-parts blocks))

pub ends_found : (blocks : List BlockView) (found : List Part) (table : List ℕ) → found ≡ parts blocks
    → ((k : ℕ) → k < length found → get_or table k 0 ≡ unwrap_or (matching End 0 (those_after k found)) 0) → (k : ℕ) → k < length blocks → get_or table k 0 ≡ closing k blocks
unfolding closing
ends_found blocks found table e each = found_in_ahead End blocks found table e each

pub branches_found : (blocks : List BlockView) (found : List Part) (table : List ℕ) → found ≡ parts blocks
    → ((k : ℕ) → k < length found → get_or table k 0 ≡ unwrap_or (matching Branch 0 (those_after k found)) 0) → (k : ℕ) → k < length blocks → get_or table k 0 ≡ branching k blocks
unfolding branching
branches_found blocks found table e each = found_in_ahead Branch blocks found table e each

pub openers_found : (blocks : List BlockView) (found : List Part) (table : List ℕ) → found ≡ parts blocks
    → ((k : ℕ) → k < length found → get_or table k 0 ≡ unwrap_or (matching Opener 0 (those_before k found)) 0) → (k : ℕ) → k < length blocks → get_or table k 0 ≡ opening k blocks
unfolding opening
openers_found blocks found table e each = found_in_before Opener blocks found table e each

-- ---- the next block
pub led : (pc : ℕ) (blocks : List BlockView) (running : List Running) (outcome : OutcomeView) (statement : Statement) (asked same : Result Move ℕ)
    → statement ≡ statement_at pc blocks → asked ≡ move_of pc blocks statement outcome → asked ≡ same → next_block pc blocks running outcome ≡ going_or_alarm pc running same
unfolding next_block
led pc blocks running outcome statement asked same s a e =
    ap (λ m. going_or_alarm pc running m) (ap (λ x. move_of pc blocks x outcome) (sym s) ∙ sym a ∙ e)
