-- What a block of a frame makes of the chain of maps.
use Rattle.std.proofs.Common.{◌++◌, List, Option, Result, Ok, Err, sym, ap, subst}
use Rattle.std.specs.Prelude.{⊤, ℕ}
use Rattle.frames.specs.Composition.{Adds}
use Rattle.frames.specs.Maps.{Map}
use Rattle.frames.specs.declared.Frame.{Frame}
use Rattle.block_effects.specs.Courses.{IsMade, Shapes}
use Rattle.block_effects.specs.Shapes.{chain_with, unless_alarmed}

-- adding maps to a chain is what a block of a frame does
pub adds_shapes : (chain maps : List Map) (r : Result ⊤ ℕ) (frame : Frame) → Adds chain maps r frame → Shapes (chain_with chain maps) r frame
unfolding chain_with
adds_shapes chain maps (Ok u) frame adds =
    subst (λ (o : Option ℕ). IsMade (unless_alarmed o (chain ++ maps)) frame) (sym adds.no_fault) adds.composed
adds_shapes chain maps (Err code) frame adds = ap (λ (o : Option ℕ). unless_alarmed o (chain ++ maps)) adds
