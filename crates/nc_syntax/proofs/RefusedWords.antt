-- Each refused word has one of the codes of blocks.
use Rattle.std.proofs.Common.{ℕ, Bool, true, false, List, [], ◌∷◌, Option, Some, None, cond, refl}
use Rattle.std.specs.Prelude.{ℤ, IfSome}
use Rattle.std.specs.Option.{option_or}
use Rattle.block_scanner.specs.declared.Kind.{Kind}
use Rattle.block_scanner.specs.declared.Kind.TheVariants.{Letter, Name, Number, Sign}
use Rattle.block_scanner.specs.declared.Sign.TheVariants.{Dollar}
use Rattle.block_scanner.specs.declared.Token.{Token}
use Rattle.block_scanner.specs.Texts.{text_of}
use Rattle.micro_units.specs.NumberText.{number_of}
use Rattle.word_tables.specs.GroupWords.{small_whole}
use Rattle.word_tables.specs.Refused.{refused_g, refused_whole, refused_value, refused_before, refused_following, refused_kind, refused_word}
use Rattle.name_tables.specs.RefusedNames.{refused_name}
use Rattle.nc_blocks.specs.Refusals.{block_refusals, IsBlockRefusal}

-- a word that is refused has a code of a block
pub record Named (o : Option ℕ) : Type 0 where
  pub code : IfSome o IsBlockRefusal

none : Named None
none = record { code = tt }

named : {code : ℕ} → IsBlockRefusal code → Named (Some code)
named h = record { code = h }

either : (b : Bool) (o p : Option ℕ) → Named o → Named p → Named (cond b o p)
either true o p h k = h
either false o p h k = k

first_of_two : (o p : Option ℕ) → Named o → Named p → Named (option_or o p)
first_of_two (Some code) p h k = h
first_of_two None p h k = k

name_named : (text : List ℕ) → Named (refused_name text)
unfolding refused_name IsBlockRefusal block_refusals
name_named text = search (either, named, none) depth 40

g_named : (compensation : Bool) (number : ℕ) → Named (refused_g compensation number)
unfolding refused_g IsBlockRefusal block_refusals
g_named compensation number = search (either, named, none) depth 20

whole_named : (compensation : Bool) (number : Option ℕ) → Named (refused_whole compensation number)
unfolding IsBlockRefusal block_refusals
whole_named compensation (Some number) = g_named compensation number
whole_named compensation None = named refl

value_named : (compensation : Bool) (value : Option ℤ) → Named (refused_value compensation value)
unfolding IsBlockRefusal block_refusals
value_named compensation (Some millionths) = whole_named compensation (small_whole millionths)
value_named compensation None = named refl

before_named : (compensation : Bool) (kind : Kind) (text : List ℕ) → Named (refused_before compensation kind text)
unfolding refused_before
before_named compensation Number text = value_named compensation (number_of text)
before_named compensation one text = none

after_named : (compensation : Bool) (line : List ℕ) (tokens : List Token) → Named (refused_following compensation line tokens)
after_named compensation line [] = none
after_named compensation line (token ∷ tokens) = before_named compensation token.kind (text_of line token)

kind_named : (compensation : Bool) (line : List ℕ) (kind : Kind) (text : List ℕ) (following : List Token) → Named (refused_kind compensation line kind text following)
unfolding refused_kind IsBlockRefusal block_refusals
kind_named compensation line (Letter letter) text following = either _ _ _ (after_named compensation line following) none
kind_named compensation line Name text following = name_named text
kind_named compensation line (Sign Dollar) text following = named refl
kind_named compensation line one text following = none

pub word_named : (compensation : Bool) (line : List ℕ) (tokens : List Token) → Named (refused_word compensation line tokens)
word_named compensation line [] = none
word_named compensation line (token ∷ tokens) =
    first_of_two _ _ (kind_named compensation line token.kind (text_of line token) tokens) (word_named compensation line tokens)
