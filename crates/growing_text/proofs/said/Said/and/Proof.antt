-- `and` makes the empty struct, with the bytes that its clause names. Assumes `Logic`.
use Rattle.std.proofs.Common.{[], ◌∷◌, ◌++◌, refl}
use Rattle.std.proofs.raw_atomic.Walks.{proved}
use mir.Syntax.{named}
use types.Kit.{‵, raw, ◌⊛◌, ◌$◌, ◌∵◌, !, qed, move, keep, split, fjoin, suffices, done}
use types.Part.{agg}
use types.Run.{enter, returns, and_then, no_more}
use types.ByLocal.{alloc_all, pass_all, free_all, look_at, get, sets}
use denote.Builtin.{u8, RefOf, SliceRefOf}
use denote.Exit.{yes}
use denote.Laws.{Is}
use denote.RattleType.{owns}
use denote.Ref.{shr_vals, shr_Tells}
use denote.Signature.{plain, types_at}
use denote.Slice.{shr_slice_vals, shr_slice_Tells}
use denote.Steps.{nothing, owned}
use denote.Struct.Laws.{makes}
use denote.Triple.Entry.{alive}
use denote.Triple.Walked.{says, Stays, stay_dropped, Goes-dropped, walk_of, ends_at}
use Rattle.std.specs.contracts.marker.PhantomData as Mark
use Rattle.growing_text.proofs.Walks.{none, one, one_made}
use Rattle.growing_text.specs.contracts.said.Said as Said
use Rattle.growing_text.specs.contracts.said.Said.and as f
use Rattle.growing_text.proofs.said.Said.and.Statement.{statement}
use Rattle.growing_text.proofs.said.Said.and.Code as code

abbrev stayed : Stays f.ended.signature.params f.ended.kept
stayed = (
  stay_dropped (RefOf (0 ∷ []) tt (plain (λ _. Said.the_row)) (λ _. tt)) yes,
  (stay_dropped (SliceRefOf (1 ∷ []) tt (plain (λ _. u8)) (λ _. tt)) yes, tt),
)

pub and_spec : {M : Type 1} → statement M
and_spec 𝓤 𝓛 𝓜 𝓡 wired =
    let c = f.clauses 𝓛 𝓜.mem 𝓡.returns in let W = walk_of 𝓛 f.ended stayed c in
    proved 𝓛 f.ended stayed c 𝓜 𝓡 (
      Goes-dropped 𝓛 2 (RefOf (0 ∷ []) tt (plain (λ _. Said.the_row)) (λ _. tt)) yes (λ κs x w. refl),
      (Goes-dropped 𝓛 2 (SliceRefOf (1 ∷ []) tt (plain (λ _. u8)) (λ _. tt)) yes (λ κs x w. refl), tt),
    )
    f.Key.name code.function (code.unfolded 𝓤 𝓛.H 𝓜 𝓡 wired)
    (λ κs. (shr_vals, (shr_slice_vals, tt)))
    (λ κs. (shr_Tells (named 0) κs.0 Said.the_row, (shr_slice_Tells (named 1) κs.1.0 u8, tt))) (λ κs qs bounds a n are.
    let y : W.Ghost = ((κs, qs, bounds, a, (shr_vals a.0, (shr_slice_vals a.1.0, tt))), n) in
    let made : Said.the_row.Denot = record { of = record {}; bytes = a.0.now.bytes ++ a.1.0.now } in
    qed 𝓛 ((raw (alive 𝓛 f.ended.signature κs qs) ⊛ ‵ (owns (types_at f.ended.signature.params κs) a y.0.4)) ∷ raw ((c κs a).requires n) ∷ []) ∵
    keep ! (0 ∷ []) $ split ! $ keep ! (0 ∷ []) $
    enter ! _ _ _ _ _ $ alloc_all ! (λ l. pass_all ! refl ((tt, tt), ((tt, (tt, (record { fits = are.1.0.0.1.0 }, tt))), tt)) $
    sets ! (agg ! (no_more !)) refl (tt, tt) $
    sets ! (agg ! (and_then ! (get ! refl) (no_more !))) refl (tt, (tt, tt)) $
    nothing ! $ owned ! (Mark.the_row u8) (Is (Mark.the_row u8)) (makes (Mark.the_type u8) tt 𝓛) (record {}) (none ∷ []) (tt, (refl, tt)) $
    one_made ! (Mark.the_row u8) (record {}) none $ fjoin ! $
    returns ! (look_at ! 0 refl) $ free_all ! refl $
    suffices ! _ (ends_at 𝓛 f.ended stayed c y (one none) made (tt, (tt, tt)) (tt, (tt, tt))) $ says ! refl $
    nothing ! $ nothing ! $ fjoin ! $ nothing ! $ fjoin ! $ move ! (2 ∷ 0 ∷ 1 ∷ []) $ done !))
