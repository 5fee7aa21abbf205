-- Goals: a goal is known by its literals, and they are sound.
use Rattle.std.proofs.Common.{◌≡◌}
use denote.Struct.Record.{values_one}
use Rattle.std.specs.Coded.{coded_list}
use Rattle.model.specs.contracts.fact.Literal as literal
use Rattle.model.specs.contracts.goal.Goal.{struct, the_propositions}
use Rattle.model.specs.declared.goal.Goal.{Goal}
use Rattle.model.specs.Goals.{SoundGoal, goal_list}

pub goal_sound : (g : Goal) → SoundGoal (goal_list g)
goal_sound g = record { few = g.few; rises = g.rises }

pub same_goal : (x y : Goal) → goal_list x ≡ goal_list y → x ≡ y
same_goal x y e = values_one struct (the_propositions (coded_list (literal.the_row).coded) (literal.the_row).coded) x y (cc)
