-- Classes: what is known of a formula at each of some positions, the pictures of which are known. It may be known to be TRUE,
-- known to be FALSE, or neither. Behind these positions either nothing is known, or the last picture stays.
use Rattle.std.specs.Prelude.{ℕ, zero, suc, ◌-◌, min, Bool, true, false, cond, not, ◌&&◌, ◌||◌, ◌==◌, nat_lt}
use Rattle.books.specs.Trees.{Formula, always, atom, conjunction, disjunction, eventually, exists, falsity, for_all, goal, negation, next, same, truth, until}
use Rattle.model.specs.declared.goal.Goal.{Goal}
use Rattle.model.specs.declared.picture.Picture.{Picture}
use Rattle.model.specs.declared.vocabulary.Vocabulary.{Vocabulary}
use Rattle.ltl.specs.Assignments.{Assignment, bind, object_under}
use Rattle.ltl.specs.Truth.{atom_true, goal_true, picks}

pub record Class : Type 0 where
  pub sure : Bool
  pub lost : Bool

-- nothing is known
abbrev pub unknown : Class
unknown = record { sure = false; lost = false }

-- what is known of something that is true or false
abbrev pub told : Bool → Class
told b = record { sure = b; lost = not b }

-- within the positions whose pictures are known; behind them nothing is known
abbrev pub within : ℕ → ℕ → Class → Class
within n i c = cond (nat_lt i n) c unknown

-- whether, going on from position i for m positions, one is met that passes a test, and all before it pass another;
-- behind the last position stands a given answer
unfoldable pub ahead : ℕ → Bool → (ℕ → Bool) → (ℕ → Bool) → ℕ → Bool
ahead zero end stay hit i = end
ahead (suc m) end stay hit i = hit i || (stay i && ahead m end stay hit (suc i))

-- the next position; where the last picture stays, that of the last is the last again
abbrev pub following : Bool → ℕ → ℕ → ℕ
following stays n i = cond stays (min (suc i) (n - 1)) (suc i)

-- whether all, or some, of the numbers below n pass a test
unfoldable pub all_under : ℕ → (ℕ → Bool) → Bool
all_under zero test = true
all_under (suc n) test = all_under n test && test n

unfoldable pub some_under : ℕ → (ℕ → Bool) → Bool
some_under zero test = false
some_under (suc n) test = some_under n test || test n

module _ (v : Vocabulary) (g : Goal) (stays : Bool) (n : ℕ) (w : ℕ → Picture) where
  -- what is known of a formula at a position, from what is known of its parts
  unfoldable pub class_at : Assignment → Formula → ℕ → Class
  class_at env truth i = told true
  class_at env falsity i = told false
  class_at env (atom a) i = within n i (told (atom_true v (w i) env a))
  class_at env (goal a) i = within n i (told (goal_true v g env a))
  class_at env (same s t) i = within n i (told (object_under env s == object_under env t))
  class_at env (negation f) i = within n i (record { sure = (class_at env f i).lost; lost = (class_at env f i).sure })
  class_at env (conjunction f h) i =
      within n i (record { sure = (class_at env f i).sure && (class_at env h i).sure; lost = (class_at env f i).lost || (class_at env h i).lost })
  class_at env (disjunction f h) i =
      within n i (record { sure = (class_at env f i).sure || (class_at env h i).sure; lost = (class_at env f i).lost && (class_at env h i).lost })
  class_at env (next f) i = within n i (class_at env f (following stays n i))
  class_at env (eventually f) i =
      within n i (record {
        sure = ahead (n - i) false (λ j. true) (λ j. (class_at env f j).sure) i;
        lost = ahead (n - i) stays (λ j. (class_at env f j).lost) (λ j. false) i;
      })
  class_at env (always f) i =
      within n i (record {
        sure = ahead (n - i) stays (λ j. (class_at env f j).sure) (λ j. false) i;
        lost = ahead (n - i) false (λ j. true) (λ j. (class_at env f j).lost) i;
      })
  class_at env (until f h) i =
      within n i (record {
        sure = ahead (n - i) false (λ j. (class_at env f j).sure) (λ j. (class_at env h j).sure) i;
        lost = ahead (n - i) stays (λ j. (class_at env h j).lost) (λ j. (class_at env f j).lost && (class_at env h j).lost) i;
      })
  class_at env (for_all range body x) i =
      within n i (record {
        sure = all_under v.objects (λ o. not (picks v g (w i) (bind x o env) range) || (class_at (bind x o env) body i).sure);
        lost = some_under v.objects (λ o. picks v g (w i) (bind x o env) range && (class_at (bind x o env) body i).lost);
      })
  class_at env (exists range body x) i =
      within n i (record {
        sure = some_under v.objects (λ o. picks v g (w i) (bind x o env) range && (class_at (bind x o env) body i).sure);
        lost = all_under v.objects (λ o. not (picks v g (w i) (bind x o env) range) || (class_at (bind x o env) body i).lost);
      })
