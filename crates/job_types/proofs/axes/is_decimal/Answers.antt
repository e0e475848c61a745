use Rattle.std.proofs.Common.{◌∙◌, List, ℕ, ap, sym, arith}
use Rattle.std.specs.Str.{bytes_eq}
use Rattle.job_types.proofs.Digits.{one_digit, two_digits, three_digits}
use Rattle.job_types.proofs.axes.is_decimal.Goals as goal

pub returns-then-number-lt10 : goal.returns-then-number-lt10
returns-then-number-lt10 c = c.eq.ensures ∙ ap (λ (text : List ℕ). bytes_eq c.args.digits.now text) (c.as_slice.ensures ∙ sym (one_digit c.args.number (omega arith)))

pub returns-then-number-lt100 : goal.returns-then-number-lt100
returns-then-number-lt100 c =
    c.eq-then-number-lt100.ensures
    ∙ ap (λ (text : List ℕ). bytes_eq c.args.digits.now text) (c.as_slice-then-number-lt100.ensures ∙ sym (two_digits c.args.number (omega arith) (omega arith)))

pub returns-else-number-lt100 : goal.returns-else-number-lt100
returns-else-number-lt100 c =
    c.eq-else-number-lt100.ensures
    ∙ ap (λ (text : List ℕ). bytes_eq c.args.digits.now text) (c.as_slice-else-number-lt100.ensures ∙ sym (three_digits c.args.number (omega arith) (omega arith)))
