-- What words call for that may be `run`.
use Rattle.std.proofs.Common.{◌≡◌, ℕ, true, false, List, Some, refl}
use Rattle.turnmill.specs.Words.{call_of, is_run, request_of}
use Rattle.turnmill.specs.declared.words.Request.TheVariants.{Check}

-- `run` calls for what `check` calls for
pub run_calls : (words : List (List ℕ)) → is_run words ≡ true → Some Check ≡ call_of words
run_calls words is = rw is refl

-- other words call for what they ask for
pub other_calls : (words : List (List ℕ)) → is_run words ≡ false → request_of words ≡ call_of words
other_calls words not = rw not refl
