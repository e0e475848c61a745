-- Meaning. The latest boxes of those that passed a test.
use Rattle.std.specs.Prelude.{◌-◌, ℕ, List, ◌++◌, drop, length, take}
use Rattle.passed_boxes.specs.declared.passed.TheConstants.{PASSED_LIMIT}
use Rattle.passed_boxes.specs.declared.passed.PassedBox.{PassedBox}

-- the latest of some boxes, the earliest first: as many as are kept at most
abbrev pub latest : List PassedBox → List PassedBox
latest boxes = drop (length boxes - PASSED_LIMIT) boxes

-- the boxes from a place on, and then those before it
abbrev pub from_place : ℕ → List PassedBox → List PassedBox
from_place place boxes = drop place boxes ++ take place boxes
