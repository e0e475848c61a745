-- Meaning. What slips are called, and what to write.
use Rattle.std.specs.Prelude.{ℕ, List, codes}
use Rattle.explain_refused.specs.declared.slips.Slip.{Slip}
use Rattle.explain_refused.specs.declared.slips.Slip.TheVariants.{CommaInNumber, CommentInParentheses, ColonFirst, Then, AxisWithoutNumber, BlankBeforePercent, ByteOrderMark, Utf16, LonePercent}

-- what a slip is, and what to write in its place
abbrev pub slip_advice : Slip → List ℕ
slip_advice CommaInNumber = codes "a comma stands between digits. Write a point, as in X50.5."
slip_advice CommentInParentheses = codes "a parenthesis begins no comment. Write ; before a comment."
slip_advice ColonFirst = codes "a colon begins no block. Write N before the number of a block."
slip_advice Then = codes "THEN is no word here. Leave it out."
slip_advice AxisWithoutNumber = codes "the name of an axis has a number. Write it, as in X1."
slip_advice BlankBeforePercent = codes "white space stands before %. Delete it: a header begins its line."
slip_advice ByteOrderMark = codes "the file begins with a byte order mark. Save it as UTF-8 without one."
slip_advice Utf16 = codes "the file is in UTF-16. Save it as UTF-8."
slip_advice LonePercent = codes "% stands alone, as at the end of a tape. Delete the line."
