use Rattle.std.proofs.Common.{◌≡◌, ◌++◌, take}
use Rattle.std.specs.List.{flat_map}
use Rattle.explain_joins.specs.Joined.{file_text}
use Rattle.explain_joins.proofs.joining.put_files.Given as goal

abbrev pub invariant-loop-file : goal.invariant-loop-file
invariant-loop-file l = l.text ≡ l.initial.text ++ flat_map (λ file. file_text file.path.now file.bytes.now) (take l.file-index l.files)
