-- What becomes of the library by a new program and by a block of its last one.
use Rattle.std.proofs.Common.{◌≡◌, ℕ, List, [], ◌∷◌, ◌++◌, Bool, true, false, ◌||◌, ◌+◌, ◌<◌, ◌^◌, length, length-append, subst, Result, Ok, Err, Option, None, Some, refl, sym, ◌∙◌, ap, if◌then◌else◌}
use Rattle.std.specs.List.{list_any}
use Rattle.std.specs.Prelude.{OnOk, OnErr}
use Rattle.std.specs.Option.{option_and_then, option_map}
use Rattle.std.specs.Map.{keys_of}
use Rattle.std.specs.Str.{bytes_eq}
use Rattle.indexmap.specs.IndexMap.{insert_entry}
use Rattle.tape_job.specs.Rules.{has_program, last_program, last_count, count_in, structure_fault, structure_rule}
use Rattle.tape_job.specs.declared.reading.LineFault.{LineFault}
use Rattle.tape_job.specs.declared.reading.LineFault.TheVariants as fault
use Rattle.job_types.specs.Job.{ProgramView, program_of}
use Rattle.tape_job.proofs.SoundLists.{or_fails}
use Rattle.tape_job.specs.Steps.{with_entry, with_block, is_last, last_fault, last_with, IsLibrary, Adds}
use Rattle.nc_blocks.specs.Statement.{BlockView}

new_after : (here : Bool) (entry : List ℕ × ProgramView) (entries : List (List ℕ × ProgramView)) (name : List ℕ) (program : ProgramView) (rest : Bool)
    → (rest ≡ false → insert_entry bytes_eq entries name program ≡ entries ++ (name, program) ∷ []) → here || rest ≡ false
    → (if here then (entry.0, program) ∷ entries else entry ∷ insert_entry bytes_eq entries name program) ≡ entry ∷ (entries ++ (name, program) ∷ [])
new_after true entry entries name program rest next none = absurd cc
new_after false entry entries name program rest next none = ap (λ more. entry ∷ more) (next none)

-- a program whose name is new goes last
pub insert_entry-new_name : (programs : List (List ℕ × ProgramView)) (name : List ℕ) (program : ProgramView) → has_program programs name ≡ false
    → insert_entry bytes_eq programs name program ≡ programs ++ (name, program) ∷ []
unfolding has_program
insert_entry-new_name [] name program none = refl
insert_entry-new_name (entry ∷ entries) name program none =
    new_after (bytes_eq name entry.0) entry entries name program (list_any (bytes_eq name) (keys_of entries)) (insert_entry-new_name entries name program) none

any_key : (here rest named : Bool) (all : Bool) → all ≡ rest || named → here || all ≡ (here || rest) || named
any_key true rest named all e = refl
any_key false rest named all e = e

or_none : (b : Bool) → b || false ≡ b
or_none true = refl
or_none false = refl

-- the programs with one more after them
pub has_with_last : (resolved : List (List ℕ × ProgramView)) (last : List ℕ × ProgramView) (name : List ℕ)
    → has_program (resolved ++ last ∷ []) name ≡ has_program resolved name || bytes_eq name last.0
unfolding has_program
has_with_last [] last name = or_none (bytes_eq name last.0)
has_with_last (entry ∷ entries) last name =
    any_key (bytes_eq name entry.0) (list_any (bytes_eq name) (keys_of entries)) (bytes_eq name last.0) (list_any (bytes_eq name) (keys_of (entries ++ last ∷ [])))
    (has_with_last entries last name)

pub last_program_is : (resolved : List (List ℕ × ProgramView)) (last : List ℕ × ProgramView) → last_program (resolved ++ last ∷ []) ≡ Some last.1
last_program_is [] last = refl
last_program_is (entry ∷ []) last = refl
last_program_is (entry ∷ next ∷ entries) last = last_program_is (next ∷ entries) last

pub with_block_last : (resolved : List (List ℕ × ProgramView)) (last : List ℕ × ProgramView) (block : ℕ × BlockView)
    → with_block (resolved ++ last ∷ []) block ≡ resolved ++ (last.0, program_of last.1.line (last.1.blocks ++ block ∷ [])) ∷ []
with_block_last [] last block = refl
with_block_last (entry ∷ []) last block = refl
with_block_last (entry ∷ next ∷ entries) last block = ap (λ more. entry ∷ more) (with_block_last (next ∷ entries) last block)

pub has_either : (resolved : List (List ℕ × ProgramView)) (last : Option (List ℕ × ProgramView)) (name : List ℕ)
    → has_program (with_entry resolved last) name ≡ has_program resolved name || is_last last name
has_either resolved None name = sym (or_none (has_program resolved name))
has_either resolved (Some last) name = has_with_last resolved last name

pub length_with : (resolved : List (List ℕ × ProgramView)) (last : Option (List ℕ × ProgramView)) (one : List ℕ × ProgramView) → last ≡ Some one
    → length (with_entry resolved last) ≡ length resolved + 1
length_with resolved last one is = subst (λ l. length (with_entry resolved l) ≡ length resolved + 1) (sym is) (length-append resolved (one ∷ []))

pub last_count_is : (resolved : List (List ℕ × ProgramView)) (last : List ℕ × ProgramView) → last_count (resolved ++ last ∷ []) ≡ length last.1.blocks
last_count_is resolved last = ap count_in (last_program_is resolved last)

-- a name that is new to all of the library is new to its resolved programs
pub new_to_resolved : (resolved : List (List ℕ × ProgramView)) (last : Option (List ℕ × ProgramView)) (name : List ℕ)
    → has_program (with_entry resolved last) name ≡ false → has_program resolved name ≡ false
new_to_resolved resolved None name none = none
new_to_resolved resolved (Some last) name none = (or_fails (has_program resolved name) (bytes_eq name last.0) (sym (has_with_last resolved last name) ∙ none)).0

pub short_last : (now resolved : List (List ℕ × ProgramView)) (last : Option (List ℕ × ProgramView)) (one : List ℕ × ProgramView)
    → with_entry resolved last ≡ now → last ≡ Some one → last_count now < 2 ^ 32 → length one.1.blocks < 2 ^ 32
short_last now resolved last one view is short =
    let here : last_count (with_entry resolved (Some one)) < 2 ^ 32 = subst (λ l. last_count (with_entry resolved l) < 2 ^ 32) is (subst (λ ps. last_count ps < 2 ^ 32) (sym view) short) in
    subst (λ n. n < 2 ^ 32) (last_count_is resolved one) here

-- the library with one more block
pub library_fault : (resolved : List (List ℕ × ProgramView)) (last : Option (List ℕ × ProgramView)) (block : ℕ × BlockView) → IsLibrary resolved last
    → structure_rule (with_entry resolved last) block ≡ last_fault last block
unfolding structure_rule
library_fault resolved None block is = ap (λ ps. option_and_then (λ (p : ProgramView). structure_fault p.blocks block) (last_program ps)) is
library_fault resolved (Some last) block is = ap (option_and_then (λ (p : ProgramView). structure_fault p.blocks block)) (last_program_is resolved last)

pub library_with : (resolved : List (List ℕ × ProgramView)) (last : Option (List ℕ × ProgramView)) (block : ℕ × BlockView) → IsLibrary resolved last
    → with_entry resolved (last_with last block) ≡ with_block (with_entry resolved last) block
library_with resolved None block is = subst (λ ps. ps ≡ with_block ps block) (sym is) refl
library_with resolved (Some last) block is = sym (with_block_last resolved last block)

-- a name that stays keeps the library
pub library_named : (resolved : List (List ℕ × ProgramView)) (old new : Option (List ℕ × ProgramView)) → IsLibrary resolved old
    → option_map (λ program. program.0) new ≡ option_map (λ program. program.0) old → IsLibrary resolved new
library_named resolved None None is named = is
library_named resolved (Some old) None is named = absurd cc
library_named resolved None (Some new) is named = absurd cc
library_named resolved (Some old) (Some new) is named = let same : new.0 ≡ old.0 = cc in subst (λ name. has_program resolved name ≡ false) (sym same) is

-- the block is added to the last program as it is to the library
pub library_adds : (now resolved : List (List ℕ × ProgramView)) (old new : Option (List ℕ × ProgramView)) (block : ℕ × BlockView) (result : Result Unit LineFault)
    → with_entry resolved old ≡ now → IsLibrary resolved old → Adds (last_fault old block) (last_with old block) result new
    → Adds (structure_rule now block) (with_block now block) result (with_entry resolved new)
library_adds now resolved old new block (Ok done) view is adds =
    subst (λ ps. (structure_rule ps block ≡ None) × (with_entry resolved new ≡ with_block ps block)) view
    (library_fault resolved old block is ∙ adds.0, ap (with_entry resolved) adds.1 ∙ library_with resolved old block is)
library_adds now resolved old new block (Err (fault.Broken code)) view is adds =
    subst (λ ps. structure_rule ps block ≡ Some code) view (library_fault resolved old block is ∙ adds)
library_adds now resolved old new block (Err fault.NoMemory) view is adds = tt

-- the program that was being read is put after the resolved ones, or is not, and the next one keeps its new name
still_new : {F : Type 0} (old new : List (List ℕ × ProgramView)) (one : List ℕ × ProgramView) (name : List ℕ) (result : Result Unit F)
    → has_program (old ++ one ∷ []) name ≡ false → OnOk result (new ≡ old ++ one ∷ []) → OnErr result (new ≡ old) → has_program new name ≡ false
still_new old new one name (Ok done) named more same = subst (λ ps. has_program ps name ≡ false) (sym more) named
still_new old new one name (Err fault) named more same = subst (λ ps. has_program ps name ≡ false) (sym same) (new_to_resolved old (Some one) name named)

pub inserted_library : {F : Type 0} (now old new : List (List ℕ × ProgramView)) (last next : Option (List ℕ × ProgramView)) (one entry begun : List ℕ × ProgramView)
    (name : List ℕ) (result : Result Unit F) → with_entry old last ≡ now → has_program now name ≡ false → Some one ≡ last → entry ≡ one → next ≡ Some begun → begun.0 ≡ name
    → OnOk result (new ≡ old ++ entry ∷ []) → OnErr result (new ≡ old) → IsLibrary new next
inserted_library now old new last next one entry begun name result view named is same after begun_named more kept =
    let whole : old ++ entry ∷ [] ≡ now = ap (λ e. old ++ e ∷ []) same ∙ ap (with_entry old) is ∙ view in
    let fresh : has_program new name ≡ false = still_new old new entry name result (subst (λ ps. has_program ps name ≡ false) (sym whole) named) more kept in
    subst (IsLibrary new) (sym after) (subst (λ n. has_program new n ≡ false) (sym begun_named) fresh)
