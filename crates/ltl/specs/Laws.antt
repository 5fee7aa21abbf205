-- The law of progression.
use Rattle.std.specs.Prelude.{ℕ, suc}
use Rattle.books.specs.Trees.{Formula}
use Rattle.model.specs.declared.goal.Goal.{Goal}
use Rattle.model.specs.declared.picture.Picture.{Picture}
use Rattle.model.specs.declared.vocabulary.Vocabulary.{Vocabulary}
use Rattle.ltl.specs.Assignments.{unassigned}
use Rattle.ltl.specs.Progression.{progress}
use Rattle.ltl.specs.Truth.{Holds}

-- each of two statements follows from the other
abbrev pub Iff : Type 0 → Type 0 → Type 0
Iff P Q = (P → Q) × (Q → P)

-- progression is sound: a formula holds at a position of an endless run exactly when its progression through the picture
-- there holds at the next position
abbrev pub ProgressionSound : Type 0
ProgressionSound =
    (v : Vocabulary) (g : Goal) (w : ℕ → Picture) (f : Formula) (i : ℕ)
    → Iff (Holds v g w unassigned f i) (Holds v g w unassigned (progress v g (w i) f) (suc i))
