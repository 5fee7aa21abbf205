-- What is known where nothing is known behind the pictures is what progression through them gives: a formula is known to be
-- TRUE, or FALSE, at a position just where progressing it through the pictures from there on gives TRUE, or FALSE.
use Rattle.std.proofs.lemmas.Grind.{common_steps}
use Rattle.std.proofs.Common.{◌≡◌, ℕ, zero, suc, ◌+◌, ◌-◌, ◌<◌, ◌≤◌, Bool, true, false, not, ◌&&◌, ◌||◌, eqb, List, ◌∷◌, length, get_or, drop, sym, refl, ap, ◌∙◌, add-one, arith}
use mathlib.Core.Path.{fun_ext}
use Rattle.books.specs.Trees.{Formula, always, atom, conjunction, disjunction, eventually, exists, falsity, for_all, goal, negation, next, same, truth, until}
use Rattle.model.specs.declared.goal.Goal.{Goal}
use Rattle.model.specs.declared.picture.Picture.{Picture}
use Rattle.model.specs.declared.vocabulary.Vocabulary.{Vocabulary}
use Rattle.std.proofs.lemmas.List.{drop_more}
use Rattle.ltl.specs.Assignments.{Assignment, bind, object_under, unassigned}
use Rattle.ltl.specs.Classes.{Class, ahead, all_under, class_at, unknown, some_under, told, within}
use Rattle.ltl.specs.Progression.{both, constant, either, opposite, picked, progress_through, progressed, put}
use Rattle.ltl.specs.Truth.{atom_true, goal_true, picks}
use Rattle.ltl.proofs.Assigning.{over_unassigned}
use Rattle.ltl.proofs.Putting.{progressed_put}
use Rattle.ltl.proofs.Simplifying.{through_all, through_any, through_both, through_either, through_falsity, through_opposite, through_truth}
use Rattle.ltl.proofs.Standing.{class_all, class_any, class_as, class_both, class_constant, class_either, class_opposite, join, meet, turn}

-- a factor that two have in common
shared : (a b c : Bool) → (a && (b || c)) ≡ ((b && a) || (a && c))
shared a b c = grind (arith, common_steps)

module _ (v : Vocabulary) (g : Goal) (qs : List Picture) (none : Picture) where
  -- the picture at a position
  abbrev at : ℕ → Picture
  at i = get_or qs i none

  -- what is left of a formula, with objects put in, after the pictures from a position on
  abbrev pub left : Assignment → Formula → ℕ → Formula
  left env f i = progress_through v g (drop i qs) (put env f)

  -- after the last picture nothing has happened to it
  left_end : (env : Assignment) (f : Formula) (i : ℕ) → length qs ≤ i → left env f i ≡ put env f
  unfolding progress_through
  left_end env f i h = grind (arith, common_steps)

  -- the picture at the position is taken in first
  left_now : (env : Assignment) (f : Formula) (i : ℕ) → i < length qs → left env f i ≡ progress_through v g (drop (suc i) qs) (progressed v g (at i) env f)
  unfolding progress_through
  left_now env f i h =
      ap (λ (ps : List Picture). progress_through v g ps (put env f)) (drop_more qs i none h ∙ ap (λ (k : ℕ). at i ∷ drop k qs) (add-one i))
      ∙ ap (progress_through v g (drop (suc i) qs)) (progressed_put v g f (at i) env unassigned ∙ ap (λ (e : Assignment). progressed v g (at i) e f) (over_unassigned env))

  -- a class is known within the pictures, and is open behind them
  split : (i : ℕ) (c d : Class) → (i < length qs → c ≡ d) → (length qs ≤ i → c ≡ unknown) → c ≡ within (length qs) i d
  split i c d a b = grind (arith, common_steps)

  abbrev classes : Assignment → Formula → ℕ → Class
  classes env f i = class_at v g false (length qs) at env f i

  -- going on from a position, by what is known of the parts
  eventually_class : (env : Assignment) (f : Formula) → ((j : ℕ) → class_as (left env f j) ≡ classes env f j) → (m i : ℕ) → i + m ≡ length qs
      → class_as (left env (eventually f) i) ≡ record { sure = ahead m false (λ j. true) (λ j. (classes env f j).sure) i; lost = ahead m false (λ j. (classes env f j).lost) (λ j. false) i }
  unfolding ahead progressed put
  eventually_class env f e zero i h = ap class_as (left_end env (eventually f) i (omega arith))
  eventually_class env f e (suc m) i h =
      let l : i < length qs = omega arith in
      let rest = eventually_class env f e m (suc i) (omega arith) in
      ap class_as (left_now env (eventually f) i l ∙ through_either v g (drop (suc i) qs) (progressed v g (at i) env f) (put env (eventually f)) ∙ ap (λ (x : Formula). either x (left env (eventually f) (suc i))) (sym (left_now env f i l)))
      ∙ class_either (left env f i) (left env (eventually f) (suc i))
      ∙ ap (λ (x : Class). join x (class_as (left env (eventually f) (suc i)))) (e i)
      ∙ ap (join (classes env f i)) rest

  always_class : (env : Assignment) (f : Formula) → ((j : ℕ) → class_as (left env f j) ≡ classes env f j) → (m i : ℕ) → i + m ≡ length qs
      → class_as (left env (always f) i) ≡ record { sure = ahead m false (λ j. (classes env f j).sure) (λ j. false) i; lost = ahead m false (λ j. true) (λ j. (classes env f j).lost) i }
  unfolding ahead progressed put
  always_class env f e zero i h = ap class_as (left_end env (always f) i (omega arith))
  always_class env f e (suc m) i h =
      let l : i < length qs = omega arith in
      let rest = always_class env f e m (suc i) (omega arith) in
      ap class_as (left_now env (always f) i l ∙ through_both v g (drop (suc i) qs) (progressed v g (at i) env f) (put env (always f)) ∙ ap (λ (x : Formula). both x (left env (always f) (suc i))) (sym (left_now env f i l)))
      ∙ class_both (left env f i) (left env (always f) (suc i))
      ∙ ap (λ (x : Class). meet x (class_as (left env (always f) (suc i)))) (e i)
      ∙ ap (meet (classes env f i)) rest

  until_class : (env : Assignment) (f h : Formula) → ((j : ℕ) → class_as (left env f j) ≡ classes env f j) → ((j : ℕ) → class_as (left env h j) ≡ classes env h j)
      → (m i : ℕ) → i + m ≡ length qs
      → class_as (left env (until f h) i) ≡ record { sure = ahead m false (λ j. (classes env f j).sure) (λ j. (classes env h j).sure) i; lost = ahead m false (λ j. (classes env h j).lost) (λ j. (classes env f j).lost && (classes env h j).lost) i }
  unfolding ahead progressed put
  until_class env f h e d zero i k = ap class_as (left_end env (until f h) i (omega arith))
  until_class env f h e d (suc m) i k =
      let l : i < length qs = omega arith in
      let rest = until_class env f h e d m (suc i) (omega arith) in
      let ps = drop (suc i) qs in
      let on = left env (until f h) (suc i) in
      ap class_as (left_now env (until f h) i l
      ∙ through_either v g ps (progressed v g (at i) env h) (both (progressed v g (at i) env f) (put env (until f h)))
      ∙ ap (either (progress_through v g ps (progressed v g (at i) env h))) (through_both v g ps (progressed v g (at i) env f) (put env (until f h)))
      ∙ ap (λ (x : Formula). either x (both (progress_through v g ps (progressed v g (at i) env f)) on)) (sym (left_now env h i l))
      ∙ ap (λ (x : Formula). either (left env h i) (both x on)) (sym (left_now env f i l)))
      ∙ class_either (left env h i) (both (left env f i) on)
      ∙ ap (join (class_as (left env h i))) (class_both (left env f i) on)
      ∙ ap (λ (x : Class). join x (meet (class_as (left env f i)) (class_as on))) (d i)
      ∙ ap (λ (x : Class). join (classes env h i) (meet x (class_as on))) (e i)
      ∙ ap (λ (x : Class). join (classes env h i) (meet (classes env f i) x)) rest
      ∙ ap (λ (b : Bool). record { sure = (classes env h i).sure || ((classes env f i).sure && ahead m false (λ j. (classes env f j).sure) (λ j. (classes env h j).sure) (suc i)); lost = b })
      (shared (classes env h i).lost (classes env f i).lost (ahead m false (λ j. (classes env h j).lost) (λ j. (classes env f j).lost && (classes env h j).lost) (suc i)))

  through_constant : (ps : List Picture) (b : Bool) → progress_through v g ps (constant b) ≡ constant b
  through_constant ps true = through_truth v g ps
  through_constant ps false = through_falsity v g ps

  -- a formula that one picture settles
  settled : (env : Assignment) (f : Formula) (i : ℕ) (b : Bool) → progressed v g (at i) env f ≡ constant b → class_as (put env f) ≡ unknown
      → class_as (left env f i) ≡ within (length qs) i (told b)
  settled env f i b e p =
      split i (class_as (left env f i)) (told b)
      (λ h. ap class_as (left_now env f i h ∙ ap (progress_through v g (drop (suc i) qs)) e ∙ through_constant (drop (suc i) qs) b) ∙ class_constant b)
      (λ h. ap class_as (left_end env f i h) ∙ p)

  pub progress_classes : (f : Formula) (env : Assignment) (i : ℕ) → class_as (left env f i) ≡ classes env f i
  unfolding class_at progressed put
  progress_classes truth env i = ap class_as (through_truth v g (drop i qs))
  progress_classes falsity env i = ap class_as (through_falsity v g (drop i qs))
  progress_classes (atom a) env i = settled env (atom a) i (atom_true v (at i) env a) refl refl
  progress_classes (goal a) env i = settled env (goal a) i (goal_true v g env a) refl refl
  progress_classes (same s t) env i = settled env (same s t) i (eqb (object_under env s) (object_under env t)) refl refl
  progress_classes (negation f) env i =
      split i (class_as (left env (negation f) i)) (turn (classes env f i))
      (λ h.
      ap class_as (left_now env (negation f) i h ∙ through_opposite v g (drop (suc i) qs) (progressed v g (at i) env f) ∙ ap opposite (sym (left_now env f i h)))
      ∙ class_opposite (left env f i)
      ∙ ap turn (progress_classes f env i))
      (λ h. ap class_as (left_end env (negation f) i h))
  progress_classes (conjunction f k) env i =
      split i (class_as (left env (conjunction f k) i)) (meet (classes env f i) (classes env k i))
      (λ h.
      let x = left_now env f i h in
      let y = left_now env k i h in
      ap class_as (left_now env (conjunction f k) i h ∙ through_both v g (drop (suc i) qs) (progressed v g (at i) env f) (progressed v g (at i) env k) ∙ (cc))
      ∙ class_both (left env f i) (left env k i)
      ∙ ap (λ (z : Class). meet z (class_as (left env k i))) (progress_classes f env i)
      ∙ ap (meet (classes env f i)) (progress_classes k env i))
      (λ h. ap class_as (left_end env (conjunction f k) i h))
  progress_classes (disjunction f k) env i =
      split i (class_as (left env (disjunction f k) i)) (join (classes env f i) (classes env k i))
      (λ h.
      let x = left_now env f i h in
      let y = left_now env k i h in
      ap class_as (left_now env (disjunction f k) i h ∙ through_either v g (drop (suc i) qs) (progressed v g (at i) env f) (progressed v g (at i) env k) ∙ (cc))
      ∙ class_either (left env f i) (left env k i)
      ∙ ap (λ (z : Class). join z (class_as (left env k i))) (progress_classes f env i)
      ∙ ap (join (classes env f i)) (progress_classes k env i))
      (λ h. ap class_as (left_end env (disjunction f k) i h))
  progress_classes (next f) env i =
      split i (class_as (left env (next f) i)) (classes env f (suc i))
      (λ h. ap class_as (left_now env (next f) i h) ∙ progress_classes f env (suc i))
      (λ h. ap class_as (left_end env (next f) i h))
  progress_classes (eventually f) env i =
      split i (class_as (left env (eventually f) i)) _
      (λ h. eventually_class env f (progress_classes f env) (length qs - i) i (omega arith))
      (λ h. ap class_as (left_end env (eventually f) i h))
  progress_classes (always f) env i =
      split i (class_as (left env (always f) i)) _
      (λ h. always_class env f (progress_classes f env) (length qs - i) i (omega arith))
      (λ h. ap class_as (left_end env (always f) i h))
  progress_classes (until f k) env i =
      split i (class_as (left env (until f k) i)) _
      (λ h. until_class env f k (progress_classes f env) (progress_classes k env) (length qs - i) i (omega arith))
      (λ h. ap class_as (left_end env (until f k) i h))
  progress_classes (for_all range body x) env i =
      split i (class_as (left env (for_all range body x) i)) _
      (λ h.
      let parts : (λ (o : ℕ). class_as (progress_through v g (drop (suc i) qs) (progressed v g (at i) (bind x o env) body))) ≡ (λ (o : ℕ). classes (bind x o env) body i) =
      fun_ext (λ o. ap class_as (sym (left_now (bind x o env) body i h)) ∙ progress_classes body (bind x o env) i)
      in
      ap class_as (left_now env (for_all range body x) i h ∙ through_all v g (drop (suc i) qs) (λ o. progressed v g (at i) (bind x o env) body) (picked v g (at i) env range x))
      ∙ class_all (λ o. progress_through v g (drop (suc i) qs) (progressed v g (at i) (bind x o env) body)) v.objects (λ o. picks v g (at i) (bind x o env) range)
      ∙ ap (λ (part : ℕ → Class). record {
        sure = all_under v.objects (λ o. not (picks v g (at i) (bind x o env) range) || (part o).sure);
        lost = some_under v.objects (λ o. picks v g (at i) (bind x o env) range && (part o).lost);
      }) parts)
      (λ h. ap class_as (left_end env (for_all range body x) i h))
  progress_classes (exists range body x) env i =
      split i (class_as (left env (exists range body x) i)) _
      (λ h.
      let parts : (λ (o : ℕ). class_as (progress_through v g (drop (suc i) qs) (progressed v g (at i) (bind x o env) body))) ≡ (λ (o : ℕ). classes (bind x o env) body i) =
      fun_ext (λ o. ap class_as (sym (left_now (bind x o env) body i h)) ∙ progress_classes body (bind x o env) i)
      in
      ap class_as (left_now env (exists range body x) i h ∙ through_any v g (drop (suc i) qs) (λ o. progressed v g (at i) (bind x o env) body) (picked v g (at i) env range x))
      ∙ class_any (λ o. progress_through v g (drop (suc i) qs) (progressed v g (at i) (bind x o env) body)) v.objects (λ o. picks v g (at i) (bind x o env) range)
      ∙ ap (λ (part : ℕ → Class). record {
        sure = some_under v.objects (λ o. picks v g (at i) (bind x o env) range && (part o).sure);
        lost = all_under v.objects (λ o. not (picks v g (at i) (bind x o env) range) || (part o).lost);
      }) parts)
      (λ h. ap class_as (left_end env (exists range body x) i h))
