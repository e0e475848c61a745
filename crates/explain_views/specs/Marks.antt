-- Meaning. What a drawing is made of: whole numbers, attributes, and the ends of elements.
use Rattle.std.specs.Prelude.{ℕ, ℤ, pos, negsuc, suc, ◌+ℤ◌, ◌-ℤ◌, ◌*ℤ◌, Bool, List, [], ◌++◌, if◌then◌else◌, slice_get, int_lt, codes}
use Rattle.std.specs.Int.{w64, saturate_signed}
use Rattle.std.specs.Option.{unwrap_or}
use Rattle.std.specs.Fmt.{decimal}
use Rattle.explain_views.specs.declared.shapes.Look.{Look}
use Rattle.explain_views.specs.declared.shapes.Look.TheVariants.{Held, Free, First, Second}

-- sums, differences and products, or the nearest number of 64 bits
abbrev pub plus : ℤ → ℤ → ℤ
plus a b = saturate_signed w64 (a +ℤ b)

abbrev pub minus : ℤ → ℤ → ℤ
minus a b = saturate_signed w64 (a -ℤ b)

abbrev pub times : ℤ → ℤ → ℤ
times a b = saturate_signed w64 (a *ℤ b)

-- a whole number, with a sign where it is negative
unfoldable pub number_text : ℤ → List ℕ
number_text (pos n) = decimal n
number_text (negsuc n) = codes "-" ++ decimal (suc n)

-- an attribute with a number
unfoldable pub attribute_text : List ℕ → ℤ → List ℕ
attribute_text name number = codes " " ++ (name ++ (codes "=\"" ++ (number_text number ++ codes "\"")))

-- where an element stands
unfoldable pub corner_text : ℤ × ℤ → List ℕ
corner_text corner = attribute_text (codes "x") corner.0 ++ attribute_text (codes "y") corner.1

-- where a text stands, with the end of its tag
unfoldable pub place_text : ℤ × ℤ → List ℕ
place_text corner = corner_text corner ++ codes ">"

-- how large an element is
unfoldable pub size_text : ℤ × ℤ → List ℕ
size_text size = attribute_text (codes "width") size.0 ++ attribute_text (codes "height") size.1

-- where a box stands and how large it is, with the end of its element
unfoldable pub box_text : ℤ × ℤ → ℤ × ℤ → List ℕ
box_text corner size = corner_text corner ++ (size_text size ++ codes "/>\n")

-- where a line begins, and where it ends
unfoldable pub from_text : ℤ × ℤ → List ℕ
from_text from = attribute_text (codes "x1") from.0 ++ attribute_text (codes "y1") from.1

unfoldable pub to_text : ℤ × ℤ → List ℕ
to_text to = attribute_text (codes "x2") to.0 ++ attribute_text (codes "y2") to.1

-- both, with the end of the element
unfoldable pub ends_text : ℤ × ℤ → ℤ × ℤ → List ℕ
ends_text from to = from_text from ++ (to_text to ++ codes "/>\n")

-- where a point stands and how large it is, with the end of its element
unfoldable pub round_text : ℤ × ℤ → ℤ → List ℕ
round_text centre radius = attribute_text (codes "cx") centre.0 ++ (attribute_text (codes "cy") centre.1 ++ (attribute_text (codes "r") radius ++ codes "/>\n"))

-- a place or a bound along a direction; 0 beyond the third
unfoldable pub along : List ℤ → ℕ → ℤ
along at direction = unwrap_or (slice_get at direction) (pos 0)

-- how far it is from one number up to another
unfoldable pub length_of : ℤ → ℤ → ℤ
length_of low high = if int_lt (minus high low) (pos 0) then pos 0 else minus high low

-- the class of what is pale, before others
abbrev pub pale_class : Bool → List ℕ
pale_class pale = if pale then codes "p " else []

-- the class of a box
unfoldable pub look_text : Look → List ℕ
look_text (Held channel) = codes "b c" ++ decimal channel
look_text Free = codes "free"
look_text First = codes "red"
look_text Second = codes "red"

-- a point in the colour of a channel begins
unfoldable pub class_text : ℕ → List ℕ
class_text channel = codes "<circle class=\"s d" ++ (decimal channel ++ codes "\"")
