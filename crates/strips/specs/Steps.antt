-- Steps: in which states a move is allowed, and which facts hold after it.
use Rattle.std.specs.Prelude.{◌≡◌, ℕ, ◌<◌, ◌≤◌, Bool, true, false, cond, not, ◌&&◌, ◌||◌, length, ◌==◌, nat_lt}
use Rattle.std.specs.List.{list_any, list_all}
use Rattle.model.specs.declared.fact.Literal.{Literal}
use Rattle.model.specs.declared.fact.Sign.{Sign}
use Rattle.model.specs.declared.fact.Sign.TheVariants.{Negative, Positive}
use Rattle.model.specs.declared.picture.Picture.{Picture}
use Rattle.model.specs.Drawn.{picture_of}
use Rattle.model.specs.Goals.{literal_holds}
use Rattle.model.specs.Pictures.{holds}
use Rattle.plants.specs.declared.actions.ActionTable.{ActionTable}
use Rattle.plants.specs.declared.literal.LiftedLiteral.{LiftedLiteral}
use Rattle.strips.specs.declared.moves.NoMove.{NoMove}
use Rattle.strips.specs.declared.moves.NoMove.TheVariants.{Operator, First, Second}
use Rattle.strips.specs.Grounding.{argument_fits, first_argument, ground_literal, operator_at, operator_number, second_argument}

-- whether two signs are the same
abbrev pub same_sign : Sign → Sign → Bool
same_sign Negative Negative = true
same_sign Negative Positive = false
same_sign Positive Negative = false
same_sign Positive Positive = true

-- whether a literal is that of a sign and a fact
abbrev pub is_literal : Sign → ℕ → Literal → Bool
is_literal sign f l = same_sign sign l.sign && f == l.fact.number

-- whether a literal of a move's operator holds in a picture
abbrev pub holds_under : ActionTable → ℕ → Picture → LiftedLiteral → Bool
holds_under t m s l = literal_holds s (ground_literal t m l)

-- whether it is the literal of a sign and a fact
abbrev pub makes_under : ActionTable → ℕ → Sign → ℕ → LiftedLiteral → Bool
makes_under t m sign f l = is_literal sign f (ground_literal t m l)

-- whether the preconditions of a move hold in a picture
abbrev pub needs_hold : ActionTable → Picture → ℕ → Bool
needs_hold t s m = list_all (holds_under t m s) (operator_at t m).needs

-- whether the operator of a move takes its first argument
abbrev pub takes_first : ActionTable → ℕ → Bool
takes_first t m = argument_fits t.vocabulary.objects (operator_at t m).parameters 0 (first_argument m)

-- whether it takes the second one
abbrev pub takes_second : ActionTable → ℕ → Bool
takes_second t m = argument_fits t.vocabulary.objects (operator_at t m).parameters 1 (second_argument m)

-- whether it takes both
abbrev pub takes_both : ActionTable → ℕ → Bool
takes_both t m = takes_first t m && takes_second t m

-- what a number lacks that is none of a move: an operator, or that this takes its first or its second argument
abbrev pub Lacks : ActionTable → ℕ → NoMove → Type 0
Lacks t m Operator = length t.operators ≤ operator_number m
Lacks t m First = (operator_number m < length t.operators) × (takes_first t m ≡ false)
Lacks t m Second = (operator_number m < length t.operators) × (takes_second t m ≡ false)

-- whether a move is allowed in a state: there is its operator, which takes its arguments, and its preconditions hold
abbrev pub action_allowed : ActionTable → Picture → ℕ → Bool
action_allowed t s m = nat_lt (operator_number m) (length t.operators) && (takes_both t m && needs_hold t s m)

-- whether a move has an effect of this sign on a fact
abbrev pub makes : ActionTable → ℕ → Sign → ℕ → Bool
makes t m sign f = list_any (makes_under t m sign f) (operator_at t m).effects

-- whether a fact holds once the effects of one sign are done: a positive one adds it, a negative one deletes it
abbrev pub done : Sign → Bool → Bool → Bool
done Negative made before = not made && before
done Positive made before = made || before

-- whether a fact holds after a move that is allowed: negative effects are done first, so what is added stays
abbrev pub holds_after : ActionTable → Picture → ℕ → ℕ → Bool
holds_after t s m f = done Positive (makes t m Positive f) (done Negative (makes t m Negative f) (holds s f))

-- the state after a move; the same state where the move is not allowed
abbrev pub action_next : ActionTable → Picture → ℕ → Picture
action_next t s m = cond (action_allowed t s m) (picture_of (holds_after t s m)) s
