-- How formulas stand that come out of a progression: TRUE, FALSE or neither, told from how their parts stand.
use Rattle.std.proofs.Common.{◌≡◌, ℕ, zero, suc, Bool, true, false, not, ◌&&◌, ◌||◌, List, [], ◌∷◌, ◌++◌, map, sym, refl, ap, ◌∙◌, ⊎_elim}
use Rattle.books.specs.Trees.{Formula, truth, falsity}
use Rattle.model.specs.Pictures.{chosen}
use Rattle.model.proofs.Chosen.{chosen_left, chosen_taken}
use Rattle.std.proofs.Math.Bool.{and_assoc, and-true, or_assoc, or-false}
use Rattle.std.proofs.lemmas.Bool.{cases_Bool}
use Rattle.ltl.specs.Classes.{Class, all_under, unknown, some_under, told}
use Rattle.ltl.specs.Progression.{Standing, all_of, any_of, both, both_by, constant, either, either_by, lost, opposite, opposite_by, pending, standing, sure}

-- how a formula stands, as what is known of it
abbrev pub class_of : Standing → Class
class_of sure = told true
class_of lost = told false
class_of pending = unknown

abbrev pub class_as : Formula → Class
class_as f = class_of (standing f)

-- what is known of two things together, of one of two, and of the opposite
abbrev pub meet : Class → Class → Class
meet a b = record { sure = a.sure && b.sure; lost = a.lost || b.lost }

abbrev pub join : Class → Class → Class
join a b = record { sure = a.sure || b.sure; lost = a.lost && b.lost }

abbrev pub turn : Class → Class
turn a = record { sure = a.lost; lost = a.sure }

both_class : (s t : Standing) (f h : Formula) → standing f ≡ s → standing h ≡ t → class_as (both_by s t f h) ≡ meet (class_of s) (class_of t)
both_class lost sure f h p q = refl
both_class lost lost f h p q = refl
both_class lost pending f h p q = refl
both_class sure sure f h p q = ap class_of q
both_class sure lost f h p q = ap class_of q
both_class sure pending f h p q = ap class_of q
both_class pending lost f h p q = refl
both_class pending sure f h p q = ap class_of p
both_class pending pending f h p q = refl

pub class_both : (f h : Formula) → class_as (both f h) ≡ meet (class_as f) (class_as h)
unfolding both
class_both f h = both_class (standing f) (standing h) f h refl refl

either_class : (s t : Standing) (f h : Formula) → standing f ≡ s → standing h ≡ t → class_as (either_by s t f h) ≡ join (class_of s) (class_of t)
either_class sure sure f h p q = refl
either_class sure lost f h p q = refl
either_class sure pending f h p q = refl
either_class lost sure f h p q = ap class_of q
either_class lost lost f h p q = ap class_of q
either_class lost pending f h p q = ap class_of q
either_class pending sure f h p q = refl
either_class pending lost f h p q = ap class_of p
either_class pending pending f h p q = refl

pub class_either : (f h : Formula) → class_as (either f h) ≡ join (class_as f) (class_as h)
unfolding either
class_either f h = either_class (standing f) (standing h) f h refl refl

opposite_class : (s : Standing) (f : Formula) → class_as (opposite_by s f) ≡ turn (class_of s)
opposite_class sure f = refl
opposite_class lost f = refl
opposite_class pending f = refl

pub class_opposite : (f : Formula) → class_as (opposite f) ≡ turn (class_as f)
unfolding opposite
class_opposite f = opposite_class (standing f) f

pub class_constant : (b : Bool) → class_as (constant b) ≡ told b
class_constant true = refl
class_constant false = refl

same_class : (a b c d : Bool) → a ≡ c → b ≡ d → ◌≡◌ {A = Class} (record { sure = a; lost = b }) (record { sure = c; lost = d })
same_class a b c d p q = cc

module _ (part : ℕ → Formula) where
  all_class_push : (os : List ℕ) (n : ℕ) → class_as (all_of (map part (os ++ (n ∷ [])))) ≡ meet (class_as (all_of (map part os))) (class_as (part n))
  all_class_push [] n =
      let a = and-true (class_as (part n)).sure in
      let b = or-false (class_as (part n)).lost in
      class_both (part n) truth ∙ (cc)
  all_class_push (o ∷ os) n =
      let whole = class_both (part o) (all_of (map part (os ++ (n ∷ [])))) in
      let rest = all_class_push os n in
      let front = class_both (part o) (all_of (map part os)) in
      let a = and_assoc (class_as (part o)).sure (class_as (all_of (map part os))).sure (class_as (part n)).sure in
      let b = or_assoc (class_as (part o)).lost (class_as (all_of (map part os))).lost (class_as (part n)).lost in
      whole ∙ ap (meet (class_as (part o))) rest ∙ (cc) ∙ ap (λ (k : Class). meet k (class_as (part n))) (sym front)

  any_class_push : (os : List ℕ) (n : ℕ) → class_as (any_of (map part (os ++ (n ∷ [])))) ≡ join (class_as (any_of (map part os))) (class_as (part n))
  any_class_push [] n =
      let a = or-false (class_as (part n)).sure in
      let b = and-true (class_as (part n)).lost in
      class_either (part n) falsity ∙ (cc)
  any_class_push (o ∷ os) n =
      let whole = class_either (part o) (any_of (map part (os ++ (n ∷ [])))) in
      let rest = any_class_push os n in
      let front = class_either (part o) (any_of (map part os)) in
      let a = or_assoc (class_as (part o)).sure (class_as (any_of (map part os))).sure (class_as (part n)).sure in
      let b = and_assoc (class_as (part o)).lost (class_as (any_of (map part os))).lost (class_as (part n)).lost in
      whole ∙ ap (join (class_as (part o))) rest ∙ (cc) ∙ ap (λ (k : Class). join k (class_as (part n))) (sym front)

  -- the parts for the objects that pass a test
  abbrev pub every_class : ℕ → (ℕ → Bool) → Class
  every_class n test =
      record { sure = all_under n (λ o. not (test o) || (class_as (part o)).sure); lost = some_under n (λ o. test o && (class_as (part o)).lost) }

  abbrev pub some_class : ℕ → (ℕ → Bool) → Class
  some_class n test =
      record { sure = some_under n (λ o. test o && (class_as (part o)).sure); lost = all_under n (λ o. not (test o) || (class_as (part o)).lost) }

  pub class_all : (n : ℕ) (test : ℕ → Bool) → class_as (all_of (map part (chosen n test))) ≡ every_class n test
  unfolding chosen all_under some_under
  class_all zero test = refl
  class_all (suc n) test =
      let below = class_all n test in
      ⊎_elim
      (λ e.
      let a : (not (test n) || (class_as (part n)).sure) ≡ (class_as (part n)).sure = ap (λ (b : Bool). not b || (class_as (part n)).sure) e in
      let b : (test n && (class_as (part n)).lost) ≡ (class_as (part n)).lost = ap (λ (b : Bool). b && (class_as (part n)).lost) e in
      ap (λ (os : List ℕ). class_as (all_of (map part os))) (chosen_taken n test e) ∙ all_class_push (chosen n test) n ∙ (cc))
      (λ e.
      let a : (not (test n) || (class_as (part n)).sure) ≡ true = ap (λ (b : Bool). not b || (class_as (part n)).sure) e in
      let b : (test n && (class_as (part n)).lost) ≡ false = ap (λ (b : Bool). b && (class_as (part n)).lost) e in
      let s = (every_class n test).sure in
      let l = (every_class n test).lost in
      ap (λ (os : List ℕ). class_as (all_of (map part os))) (chosen_left n test e)
      ∙ below
      ∙ same_class s l _ _ (sym (ap (λ (z : Bool). s && z) a ∙ and-true s)) (sym (ap (λ (z : Bool). l || z) b ∙ or-false l)))
      (cases_Bool (test n))

  pub class_any : (n : ℕ) (test : ℕ → Bool) → class_as (any_of (map part (chosen n test))) ≡ some_class n test
  unfolding chosen all_under some_under
  class_any zero test = refl
  class_any (suc n) test =
      let below = class_any n test in
      ⊎_elim
      (λ e.
      let a : (not (test n) || (class_as (part n)).lost) ≡ (class_as (part n)).lost = ap (λ (b : Bool). not b || (class_as (part n)).lost) e in
      let b : (test n && (class_as (part n)).sure) ≡ (class_as (part n)).sure = ap (λ (b : Bool). b && (class_as (part n)).sure) e in
      ap (λ (os : List ℕ). class_as (any_of (map part os))) (chosen_taken n test e) ∙ any_class_push (chosen n test) n ∙ (cc))
      (λ e.
      let a : (not (test n) || (class_as (part n)).lost) ≡ true = ap (λ (b : Bool). not b || (class_as (part n)).lost) e in
      let b : (test n && (class_as (part n)).sure) ≡ false = ap (λ (b : Bool). b && (class_as (part n)).sure) e in
      let s = (some_class n test).sure in
      let l = (some_class n test).lost in
      ap (λ (os : List ℕ). class_as (any_of (map part os))) (chosen_left n test e)
      ∙ below
      ∙ same_class s l _ _ (sym (ap (λ (z : Bool). s || z) b ∙ or-false s)) (sym (ap (λ (z : Bool). l && z) a ∙ and-true l)))
      (cases_Bool (test n))
