-- A refusal passes through what would be read after it.
use Rattle.std.proofs.Common.{ℕ, ap, Result, Err}
use Rattle.nc_expressions.specs.declared.faults.SyntaxFault.{SyntaxFault}
use Rattle.nc_expressions.specs.declared.faults.SyntaxFault.TheVariants.{Refused, NoMemory}
use Rattle.nc_expressions.specs.Value.{◌>>=◌}
use Rattle.nc_blocks.specs.Reading.{Gives}

pub refused_passes : {A B C D : Type 0} (v : B → A) (w : D → C) (read : Result A ℕ) (f : A → Result C ℕ) (e : SyntaxFault) →
    Gives v read (Err e) → Gives w (read >>= f) (Err e)
refused_passes v w read f (Refused code) h = ap (λ r. r >>= f) h
refused_passes v w read f NoMemory h = tt

pub ruleset passing = (refused_passes)
