-- Meaning. The two lines of a sample: its figures, and the verdict.
use Rattle.std.specs.Prelude.{ℕ, List, ◌++◌, codes}
use Rattle.std.specs.Fmt.{decimal}
use Rattle.job_report.specs.declared.summaries.Figures.{Figures}
use Rattle.job_report.specs.Verdicts.{verdict_line}
use Rattle.sync_types.specs.declared.verdicts.Verdict.{Verdict}

-- a figure with its name
unfoldable pub figure_text : List ℕ → ℕ → List ℕ
figure_text name figure = name ++ decimal figure

-- the line of the figures
unfoldable pub figures_line : Figures → List ℕ
figures_line figures =
    figure_text (codes "SAMPLE ") figures.number
    ++ (figure_text (codes " MOVES ") figures.moves
    ++ (figure_text (codes " STEPS ") figures.steps
    ++ (figure_text (codes " COUNT ") figures.count
    ++ (figure_text (codes " BYTES ") figures.bytes ++ codes "\n"))))

-- both lines
unfoldable pub summary_bytes : Figures → Verdict → List ℕ
summary_bytes figures verdict = figures_line figures ++ verdict_line verdict
