-- `clap` takes the words and finds the number in them.
use Rattle.std.proofs.Common.{◌≡◌, ◌∙◌, codes, rules, ap, ap₂, sym}
use Rattle.std.proofs.lemmas.Result.{IfErr-weaker, IfOk-weaker}
use Rattle.clap.proofs.WalkLemmas.{first_value-rows}
use Rattle.clap.specs.Words.{App, app_of, first_of, found_of, is_simple, matches_of, rule_of, takes, with_rule}
use Rattle.turnmill.proofs.ClapLemmas.{number_rule, sample_app}
use Rattle.turnmill.proofs.WordLemmas.{finds_number}
use Rattle.turnmill.proofs.words.matches_of.Goals as goal
use Rattle.turnmill.specs.Words.{words_of}

pub returns-clause-number : goal.returns-clause-number
returns-clause-number c =
    let rule_is : rule_of c.long-number.result ≡ number_rule = search rules in
    let app_is : app_of c.in_ok-command.command ≡ sample_app = c.in_ok-command.ensures.shape (search rules) ∙ ap₂ with_rule c.new-2.ensures.app rule_is in
    let known = finds_number (words_of c.args.words.now) c.requires in
    IfOk-weaker c.try_get_matches_from.result _ _ (λ m h.
    first_value-rows (found_of m) (codes "number")
    ∙ ap (first_of (codes "number")) ((h (ap is_simple app_is ∙ known.found.simple)).0 ∙ ap (λ (a : App). matches_of a (words_of c.args.words.now)) app_is)
    ∙ known.found.found ∙ sym known.number) c.try_get_matches_from.ensures.matches

pub returns-clause-fault : goal.returns-clause-fault
returns-clause-fault c =
    let rule_is : rule_of c.long-number.result ≡ number_rule = search rules in
    let app_is : app_of c.in_ok-command.command ≡ sample_app = c.in_ok-command.ensures.shape (search rules) ∙ ap₂ with_rule c.new-2.ensures.app rule_is in
    let known = finds_number (words_of c.args.words.now) c.requires in
    IfErr-weaker c.try_get_matches_from.result _ _
    (λ e h. h (ap (λ (a : App). takes a (words_of c.args.words.now)) app_is ∙ known.found.taken)) c.try_get_matches_from.ensures.passes
