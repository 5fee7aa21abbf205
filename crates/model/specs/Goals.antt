-- Goals: which literals one has, and where it holds.
use Rattle.std.specs.Prelude.{◌≡◌, ◌≤◌, Bool, not, List, length, Some, None, Option}
use Rattle.std.specs.List.{list_all}
use Rattle.model.specs.declared.fact.Literal.{Literal}
use Rattle.model.specs.declared.fact.Sign.{Sign}
use Rattle.model.specs.declared.fact.Sign.TheVariants.{Negative, Positive}
use Rattle.model.specs.declared.goal.Goal.{Goal}
use Rattle.model.specs.declared.picture.Picture.{Picture}
use Rattle.model.specs.Ascents.{Ascending, literal_facts}
use Rattle.model.specs.Pictures.{holds}

-- whether a truth value is the one that a sign asks for
abbrev pub agrees : Sign → Bool → Bool
agrees Negative b = not b
agrees Positive b = b

-- whether a literal holds in a picture: its fact is there if its sign is positive, and not there if it is negative
abbrev pub literal_holds : Picture → Literal → Bool
literal_holds p l = agrees l.sign (holds p l.fact.number)

-- the literals of a goal, in their order
abbrev pub goal_list : Goal → List Literal
goal_list g = g.literals

-- whether a goal holds in a picture: each of its literals does
abbrev pub goal_holds : Goal → Picture → Bool
goal_holds g p = list_all (literal_holds p) (goal_list g)

-- what the literals of a goal keep to: at most 64, on facts that ascend
pub record SoundGoal (literals : List Literal) : Type 0 where
  pub few : length literals ≤ 64
  pub rises : Ascending (literal_facts literals)

-- what making a goal answers: one with just these literals, or none where they are unsound
abbrev pub GoalMade : List Literal → Option Goal → Type 0
GoalMade literals (Some g) = goal_list g ≡ literals
GoalMade literals None = SoundGoal literals → ⊥
