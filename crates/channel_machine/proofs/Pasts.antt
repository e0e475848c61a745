-- What a channel has done, and one deed more.
use Rattle.std.proofs.Common.{◌≡◌, ◌∙◌, ℕ, ℤ, ◌+◌, List, [], ◌∷◌, ◌++◌, append-nil, fold, map, length, length-append, option_and_then, unwrap_or, Some, None, refl, ap}
use Rattle.std.proofs.lemmas.List.Elements.{filter_map-append}
use Rattle.axis_sets.specs.Positions.{position_of}
use Rattle.number_laws.proofs.Lists.{filter_map-one}
use Rattle.sync_types.specs.Items.{end_in}
use Rattle.sync_types.specs.declared.Grant.{Grant}
use Rattle.channel_machine.specs.Run.{SurroundingsView, Executed, Deed, Did, Got, block_in, blocks_of, grant_by, grant_after, on_after, on_by, on_by_request, position_by, stands_after, stands_at_start}

pub fold-push : {X Y : Type 0} (f : Y → X → Y) (y : Y) (xs : List X) (x : X) → fold f y (xs ++ x ∷ []) ≡ f (fold f y xs) x
fold-push f y [] x = refl
fold-push f y (z ∷ zs) x = fold-push f (f y z) zs x

pub map-push : {X Y : Type 0} (f : X → Y) (xs : List X) (x : X) → map f (xs ++ x ∷ []) ≡ map f xs ++ f x ∷ []
map-push f [] x = refl
map-push f (y ∷ ys) x = ap (λ (zs : List _). f y ∷ zs) (map-push f ys x)

-- an executed block is a block more, and a grant is none
pub blocks_of-did : (past : List Deed) (done : Executed) → blocks_of (past ++ Did done ∷ []) ≡ blocks_of past ++ done ∷ []
blocks_of-did past done =
    filter_map-append block_in past (Did done ∷ []) ∙ ap (λ (xs : List Executed). blocks_of past ++ xs) (filter_map-one block_in (Did done) (Some done) refl)

pub blocks_of-got : (past : List Deed) (grant : Grant) → blocks_of (past ++ Got grant ∷ []) ≡ blocks_of past
blocks_of-got past grant =
    filter_map-append block_in past (Got grant ∷ []) ∙ ap (λ (xs : List Executed). blocks_of past ++ xs) (filter_map-one block_in (Got grant) None refl) ∙ append-nil (blocks_of past)

pub count-did : (past : List Deed) (done : Executed) → length (blocks_of (past ++ Did done ∷ [])) ≡ length (blocks_of past) + 1
count-did past done = ap length (blocks_of-did past done) ∙ length-append (blocks_of past) (done ∷ [])

pub fold-did : {Y : Type 0} (f : Y → Executed → Y) (y : Y) (past : List Deed) (done : Executed) → fold f y (blocks_of (past ++ Did done ∷ [])) ≡ f (fold f y (blocks_of past)) done
fold-did f y past done = ap (fold f y) (blocks_of-did past done) ∙ fold-push f y (blocks_of past) done

pub map-did : {Y : Type 0} (f : Executed → Y) (past : List Deed) (done : Executed) → map f (blocks_of (past ++ Did done ∷ [])) ≡ map f (blocks_of past) ++ f done ∷ []
map-did f past done = ap (map f) (blocks_of-did past done) ∙ map-push f (blocks_of past) done

-- a block leaves the grant, and a grant takes its place
pub grant-did : (s : SurroundingsView) (past : List Deed) (done : Executed) → grant_after s (past ++ Did done ∷ []) ≡ grant_after s past
grant-did s past done = fold-push grant_by s.grant past (Did done)

pub grant-got : (s : SurroundingsView) (past : List Deed) (grant : Grant) → grant_after s (past ++ Got grant ∷ []) ≡ grant
grant-got s past grant = fold-push grant_by s.grant past (Got grant)

-- an axis stands where the deed puts it, or where it stood
pub stands-deed : (s : SurroundingsView) (past : List Deed) (deed : Deed) (axis : ℕ) → stands_after s (past ++ deed ∷ []) axis ≡ unwrap_or (position_by axis deed) (stands_after s past axis)
stands-deed s past deed axis = fold-push (λ (at : ℤ) (d : Deed). unwrap_or (position_by axis d) at) (stands_at_start s.grant axis) past deed

pub stands-did : (s : SurroundingsView) (past : List Deed) (done : Executed) (axis : ℕ)
    → stands_after s (past ++ Did done ∷ []) axis ≡ unwrap_or (option_and_then (λ item. end_in axis item) done.effect.item) (stands_after s past axis)
stands-did s past done axis = stands-deed s past (Did done) axis

pub stands-got : (s : SurroundingsView) (past : List Deed) (grant : Grant) (axis : ℕ)
    → stands_after s (past ++ Got grant ∷ []) axis ≡ unwrap_or (position_of grant.at axis) (stands_after s past axis)
stands-got s past grant axis = stands-deed s past (Got grant) axis

-- a block switches what it asks for, and a grant has its own zones on
pub on-did : (s : SurroundingsView) (past : List Deed) (done : Executed) → on_after s (past ++ Did done ∷ []) ≡ on_by_request (on_after s past) done.request
on-did s past done = fold-push on_by s.grant.on past (Did done)

pub on-got : (s : SurroundingsView) (past : List Deed) (grant : Grant) → on_after s (past ++ Got grant ∷ []) ≡ grant.on
on-got s past grant = fold-push on_by s.grant.on past (Got grant)
