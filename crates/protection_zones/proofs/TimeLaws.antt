-- The time of all zones, one after another.
use Rattle.std.proofs.Common.{◌≡◌, ℕ, zero, suc, ◌<◌, ◌++◌, List, [], ◌∷◌, length, map, refl, arith}
use Rattle.std.specs.Prelude.{Vec}
use Rattle.std.specs.Global.{Global}
use Rattle.protection_zones.specs.Beginnings.{outsets_in, shown_outset}
use Rattle.protection_zones.specs.declared.spans.SpanStart.{SpanStart}

-- channels one after another
pub outsets_before : (outsets : List (Vec SpanStart Global)) (own : Vec SpanStart Global) (c : ℕ) → c < length outsets → outsets_in (outsets ++ own ∷ []) c ≡ outsets_in outsets c
outsets_before [] own c within = absurd (omega arith)
outsets_before (x ∷ xs) own zero within = refl
outsets_before (x ∷ xs) own (suc c) within = outsets_before xs own c (omega arith)

pub outsets_last : (outsets : List (Vec SpanStart Global)) (own : Vec SpanStart Global) (c : ℕ) → length outsets ≡ c → outsets_in (outsets ++ own ∷ []) c ≡ map shown_outset own.items
outsets_last [] own zero is = refl
outsets_last [] own (suc c) is = absurd (omega arith)
outsets_last (x ∷ xs) own zero is = absurd (omega arith)
outsets_last (x ∷ xs) own (suc c) is = outsets_last xs own c (omega arith)
