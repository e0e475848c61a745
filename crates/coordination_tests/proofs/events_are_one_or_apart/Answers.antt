use Rattle.std.proofs.Common.{arith, refl, inl, inr, [], ◌∷◌, ◌≡◌, List, ℕ}
use Rattle.sync_types.specs.Events.{AreLinked, IsChain}
use Rattle.sync_types.specs.Boards.{first_state, grant_with, start_grant}
use Rattle.sync_types.specs.BoardActions.{is_on_after, state_after_alarm, marks_of_all, ownership_after, holder_after, state_after_action}
use Rattle.sync_types.specs.BoardAlarms.{alarm_of}
use Rattle.sync_types.specs.GoingOn.{marks_after_goes, state_after_goes, ownership_after_taking, holder_after_taking, grant_of_taker, state_after_taking}
use Rattle.coordination_tests.proofs.events_are_one_or_apart.Goals as goal

-- without pairs nothing is linked
apart : AreLinked [] 1 2 → ⊥
apart linked = elim linked [ inl same ↦ different same | inr chain ↦ no_chain chain.0 chain.1 ]
  where
    different : ◌≡◌ {A = ℕ} 1 2 → ⊥
    different same = omega (arith, same)

    no_chain : (between : List ℕ) → IsChain [] 1 between 2 → ⊥
    no_chain [] chain = chain
    no_chain (x ∷ xs) chain = chain.0

pub returns-clause-one_by_the_third : goal.returns-clause-one_by_the_third
unfolding first_state grant_with start_grant is_on_after state_after_alarm marks_of_all ownership_after holder_after state_after_action alarm_of marks_after_goes state_after_goes ownership_after_taking holder_after_taking grant_of_taker state_after_taking
returns-clause-one_by_the_third c = record {
  first = refl;
  second = refl;
  step = refl;
  go = refl;
  joined = inr (3 ∷ [], (inl (refl, refl), inr (inr (inr (inl (refl, refl))))));
}

pub returns-clause-two_in_one_step : goal.returns-clause-two_in_one_step
unfolding first_state grant_with start_grant is_on_after state_after_alarm marks_of_all ownership_after holder_after state_after_action alarm_of marks_after_goes state_after_goes ownership_after_taking holder_after_taking grant_of_taker state_after_taking
returns-clause-two_in_one_step c = record { first = refl; second = refl; apart = λ one. apart one.joined }
