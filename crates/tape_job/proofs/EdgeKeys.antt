-- With one more edge, the keys are those of the edges with its own.
use Rattle.std.proofs.Common.{◌≡◌, ◌≢◌, ◌∙◌, ℕ, Bool, true, false, true≢false, ◌||◌, ◌&&◌, ◌==◌, nat_lt, if◌then◌else◌, List, [], ◌∷◌, ◌++◌, refl, sym, ap}
use Rattle.std.specs.List.{list_any}
use Rattle.indexmap.specs.IndexSet.{insert_key}
use Rattle.std.proofs.lemmas.Bool.{and_parts, eqb-true, eq-eqb}
use Rattle.std.proofs.lemmas.List.Folds.{list_any-append}
use Rattle.tool_offsets.specs.declared.tools.ToolEdge.{ToolEdge}
use Rattle.tool_offsets.specs.Tools.{has_edge as edges_has_edge}
use Rattle.tape_job.specs.Rules.{has_edge}
use Rattle.tape_job.specs.Steps.{with_edge}
use Rattle.tape_job.specs.ToolKeys.{is_key, AreKeys}
use Rattle.tape_job.specs.declared.tool_lines.EdgeKey.{EdgeKey}

-- the edge has these numbers
abbrev is_edge : ToolEdge → ℕ → ℕ → Bool
is_edge line tool edge = line.tool == tool && line.edge == edge

at_last : (a e : Bool) → (a && (e || false)) || false ≡ false || (a && e)
at_last true true = refl
at_last true false = refl
at_last false e = refl

at_passed : (a r n : Bool) → a || (r || n) ≡ (a || r) || n
at_passed true r n = refl
at_passed false r n = refl

at_joined : (a h e r : Bool) → (a && (h || e)) || r ≡ ((a && h) || r) || (a && e)
at_joined true true e r = refl
at_joined true false true true = refl
at_joined true false true false = refl
at_joined true false false true = refl
at_joined true false false false = refl
at_joined false h e true = refl
at_joined false h e false = refl

at_put : (a e o r : Bool) → (a && (e || false)) || (o || r) ≡ (o || r) || (a && e)
at_put true true true r = refl
at_put true true false true = refl
at_put true true false false = refl
at_put true false true r = refl
at_put true false false true = refl
at_put true false false false = refl
at_put false e true r = refl
at_put false e false true = refl
at_put false e false false = refl

more_edges : (edges : List ToolEdge) (line : ToolEdge) (tool edge : ℕ) → edges_has_edge (edges ++ line ∷ []) tool edge ≡ edges_has_edge edges tool edge || is_edge line tool edge
unfolding edges_has_edge
more_edges edges line tool edge = list_any-append (λ (l : ToolEdge). l.tool == tool && l.edge == edge) edges (line ∷ []) ∙ ap (λ b. list_any (λ (l : ToolEdge). l.tool == tool && l.edge == edge) edges || b) (or_false (is_edge line tool edge))
  where
    or_false : (b : Bool) → b || false ≡ b
    or_false true = refl
    or_false false = refl

has_more : (tools : List (ℕ × List ToolEdge)) (channel : ℕ) (line : ToolEdge) (c tool edge : ℕ)
    → has_edge (with_edge tools channel line) c tool edge ≡ has_edge tools c tool edge || ((channel == c) && is_edge line tool edge)
unfolding has_edge with_edge edges_has_edge
has_more [] channel line c tool edge = at_last (channel == c) (is_edge line tool edge)
has_more (one ∷ tools) channel line c tool edge = by (nat_lt one.0 channel) (one.0 == channel) refl (has_more tools channel line c tool edge)
  where
    here : Bool
    here = (one.0 == c) && edges_has_edge one.1 tool edge

    by : (below same : Bool) → (one.0 == channel) ≡ same → has_edge (with_edge tools channel line) c tool edge ≡ has_edge tools c tool edge || ((channel == c) && is_edge line tool edge)
        → has_edge (if below then one ∷ with_edge tools channel line else if same then (one.0, one.1 ++ line ∷ []) ∷ tools else (channel, line ∷ []) ∷ one ∷ tools) c tool edge
        ≡ (here || has_edge tools c tool edge) || ((channel == c) && is_edge line tool edge)
    by true same is rest = ap (λ b. here || b) rest ∙ at_passed here (has_edge tools c tool edge) ((channel == c) && is_edge line tool edge)
    by false true is rest =
        ap (λ b. ((one.0 == c) && b) || has_edge tools c tool edge) (more_edges one.1 line tool edge)
        ∙ at_joined (one.0 == c) (edges_has_edge one.1 tool edge) (is_edge line tool edge) (has_edge tools c tool edge)
        ∙ ap (λ n. (here || has_edge tools c tool edge) || ((n == c) && is_edge line tool edge)) (eqb-true one.0 channel is)
    by false false is rest = at_put (channel == c) (is_edge line tool edge) here (has_edge tools c tool edge)

same_test : (a b : ℕ) → (a == b) ≡ (b == a)
same_test a b = by (a == b) (b == a) refl refl
  where
    by : (one other : Bool) → (a == b) ≡ one → (b == a) ≡ other → one ≡ other
    by true true is also = refl
    by false false is also = refl
    by true false is also = sym (eq-eqb b a (sym (eqb-true a b is))) ∙ also
    by false true is also = absurd (true≢false (sym (eq-eqb a b (sym (eqb-true b a also))) ∙ is))

same_key : (key other : EdgeKey) → is_key key other ≡ ((other.channel == key.channel) && (other.tool == key.tool && other.edge == key.edge))
same_key key other = rw (same_test key.channel other.channel, same_test key.tool other.tool, same_test key.edge other.edge) refl

key_is : (key other : EdgeKey) → is_key key other ≡ true → other ≡ key
key_is key other same =
    let parts = and_parts (key.channel == other.channel) (key.tool == other.tool && key.edge == other.edge) same in
    let more = and_parts (key.tool == other.tool) (key.edge == other.edge) parts.1 in
    let made : (channel tool edge : ℕ) → EdgeKey = λ channel tool edge. record { channel = channel; tool = tool; edge = edge } in
    ap (λ n. made n other.tool other.edge) (sym (eqb-true key.channel other.channel parts.0))
    ∙ ap (λ n. made key.channel n other.edge) (sym (eqb-true key.tool other.tool more.0))
    ∙ ap (λ n. made key.channel key.tool n) (sym (eqb-true key.edge other.edge more.1))

-- a key that is put in is found, and what was found before
found_more : (keys : List EdgeKey) (key other : EdgeKey) → list_any (is_key other) (insert_key is_key keys key) ≡ list_any (is_key other) keys || is_key other key
found_more keys key other = by (list_any (is_key key) keys) refl (is_key other key) refl
  where
    or_true : (b : Bool) → b ≡ true → b ≡ b || true
    or_true true is = refl
    or_true false is = absurd cc

    or_false : (b : Bool) → b || false ≡ b
    or_false true = refl
    or_false false = refl

    by : (there : Bool) → list_any (is_key key) keys ≡ there → (same : Bool) → is_key other key ≡ same
        → list_any (is_key other) (if there then keys else keys ++ key ∷ []) ≡ list_any (is_key other) keys || same
    by true has true same = or_true (list_any (is_key other) keys) (ap (λ (k : EdgeKey). list_any (is_key k) keys) (sym (key_is other key same)) ∙ has)
    by true has false same = sym (or_false (list_any (is_key other) keys))
    by false has b same = list_any-append (is_key other) keys (key ∷ []) ∙ ap (λ one. list_any (is_key other) keys || one) (or_false (is_key other key) ∙ same)

pub keys_push : (keys : List EdgeKey) (tools : List (ℕ × List ToolEdge)) (channel : ℕ) (line : ToolEdge) (key : EdgeKey) → AreKeys keys tools
    → key ≡ record { channel = channel; tool = line.tool; edge = line.edge } → AreKeys (insert_key is_key keys key) (with_edge tools channel line)
keys_push keys tools channel line key are is other =
    found_more keys key other ∙ ap (λ b. b || is_key other key) (are other)
    ∙ ap (λ b. has_edge tools other.channel other.tool other.edge || b) (same_key other key ∙ ap (λ (k : EdgeKey). (k.channel == other.channel) && (k.tool == other.tool && k.edge == other.edge)) is)
    ∙ sym (has_more tools channel line other.channel other.tool other.edge)
