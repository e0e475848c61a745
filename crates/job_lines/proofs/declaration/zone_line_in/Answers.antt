-- Thirteen words are a zone's.
use Rattle.std.proofs.Common.{◌≡◌, ℕ, ◌<◌, ◌≤◌, List, [], ◌∷◌, length, map, get_or, Bor, refl, arith}
use Rattle.job_lines.specs.Declaration.{named_side_of, zone_head_of, zone_declaration_of, zone_line}
use Rattle.job_lines.proofs.declaration.zone_line_in.Goals as goal

thirteen : (greatest : ℕ) (args : List (Bor (List ℕ))) (d : Bor (List ℕ)) → 13 ≤ length args → length args < 14
    → zone_declaration_of
    (zone_head_of greatest (get_or args 0 d).now (get_or args 1 d).now (get_or args 2 d).now (get_or args 3 d).now)
    (named_side_of (get_or args 4 d).now (get_or args 5 d).now (get_or args 6 d).now)
    (named_side_of (get_or args 7 d).now (get_or args 8 d).now (get_or args 9 d).now)
    (named_side_of (get_or args 10 d).now (get_or args 11 d).now (get_or args 12 d).now)
    ≡ zone_line greatest (map (λ word. word.now) args)
unfolding zone_line
thirteen greatest (zone ∷ group ∷ holder ∷ state ∷ cx ∷ lx ∷ hx ∷ cy ∷ ly ∷ hy ∷ cz ∷ lz ∷ hz ∷ []) d least most = refl
thirteen greatest args d least most = absurd (omega arith)

pub returns-in-len13 : goal.returns-in-len13
returns-in-len13 c =
    rw (c.zone_declaration_in.ensures, c.zone_head_in-head.ensures, c.named_side_in-x.ensures, c.named_side_in-y.ensures, c.named_side_in-z.ensures)
    (thirteen c.args.greatest c.args.args.now _ c.in-len13.len_at_least c.in-len13.len_below)
