-- The remarks on executed blocks, one block more.
use Rattle.std.proofs.Common.{◌≡◌, ◌∙◌, List, [], ◌∷◌, ◌++◌, append-nil, append_assoc, sym, ap}
use Rattle.channel_machine.proofs.Pasts.{blocks_of-got}
use Rattle.channel_machine.specs.Run.{SurroundingsView, Executed, Deed, Got}
use Rattle.sync_types.specs.declared.Grant.{Grant}
use Rattle.explain_assumptions.specs.Remarks.{remarks_after, remarks_in, remarks_of}
use Rattle.explain_assumptions.specs.declared.remarks.Remark.{Remark}

pub remarks_push : (s : SurroundingsView) (before xs : List Executed) (x : Executed) → remarks_after s before (xs ++ x ∷ []) ≡ remarks_after s before xs ++ remarks_in s (before ++ xs) x
remarks_push s before [] x = append-nil (remarks_in s before x) ∙ ap (λ (ys : List Executed). remarks_in s ys x) (sym (append-nil before))
remarks_push s before (y ∷ ys) x =
    ap (λ (rs : List Remark). remarks_in s before y ++ rs) (remarks_push s (before ++ y ∷ []) ys x)
    ∙ sym (append_assoc (remarks_in s before y) (remarks_after s (before ++ y ∷ []) ys) (remarks_in s ((before ++ y ∷ []) ++ ys) x))
    ∙ ap (λ (zs : List Executed). (remarks_in s before y ++ remarks_after s (before ++ y ∷ []) ys) ++ remarks_in s zs x) (append_assoc before (y ∷ []) ys)

-- a grant is no block
pub remarks_got : (s : SurroundingsView) (past : List Deed) (grant : Grant) → remarks_of s (past ++ Got grant ∷ []) ≡ remarks_of s past
remarks_got s past grant = ap (remarks_after s []) (blocks_of-got past grant)
