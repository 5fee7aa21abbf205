-- What formulas mean that come out of a progression: constants, connectives just formed, and formulas with objects put in.
use Rattle.std.proofs.Common.{rules}
use Rattle.std.proofs.lemmas.Grind.{common_steps}
use Rattle.std.proofs.Common.{◌≡◌, ℕ, zero, suc, ◌<◌, Bool, true, false, ◌⊎◌, List, [], ◌∷◌, ◌++◌, map, sym, refl, ap, ◌∙◌, subst, inl, inr, ⊎_elim, arith}
use Rattle.books.specs.Trees.{Formula, conjunction, falsity, negation, truth}
use Rattle.model.specs.declared.goal.Goal.{Goal}
use Rattle.model.specs.declared.picture.Picture.{Picture}
use Rattle.model.specs.declared.vocabulary.Vocabulary.{Vocabulary}
use Rattle.model.specs.Pictures.{chosen}
use Rattle.model.proofs.Chosen.{chosen_left, chosen_taken}
use Rattle.std.proofs.lemmas.Bool.{cases_Bool, cases_eq, false≢true}
use Rattle.ltl.specs.Assignments.{Assignment}
use Rattle.ltl.specs.Laws.{Iff}
use Rattle.ltl.specs.Progression.{Standing, all_of, any_of, both, constant, either, opposite, opposite_by, standing}
use Rattle.ltl.specs.Truth.{Holds}
use Rattle.ltl.proofs.Simplifying.{both_falsity, both_pending, both_truth, by_cases, either_falsity}

pub iff_chain : {P Q R : Type 0} → Iff P Q → Iff Q R → Iff P R
iff_chain a b = (λ p. b.0 (a.0 p), λ r. a.1 (b.1 r))

pub iff_back : {P Q : Type 0} → Iff P Q → Iff Q P
iff_back a = (a.1, a.0)

pub iff_true : (a b : Bool) → a ≡ b → Iff (a ≡ true) (b ≡ true)
iff_true a b e = (λ p. sym e ∙ p, λ p. e ∙ p)

module _ (v : Vocabulary) (g : Goal) (w : ℕ → Picture) where
  -- the same where the formula, or the assignment, is the same
  pub same_formula : (env : Assignment) (i : ℕ) (f h : Formula) → f ≡ h → Iff (Holds v g w env f i) (Holds v g w env h i)
  same_formula env i f h e = (subst (λ x. Holds v g w env x i) e, subst (λ x. Holds v g w env x i) (sym e))

  pub same_assignment : (f : Formula) (i : ℕ) (a b : Assignment) → a ≡ b → Iff (Holds v g w a f i) (Holds v g w b f i)
  same_assignment f i a b e = (subst (λ x. Holds v g w x f i) e, subst (λ x. Holds v g w x f i) (sym e))

  module _ (env : Assignment) (i : ℕ) where
    pub holds_constant : (b : Bool) → Iff (b ≡ true) (Holds v g w env (constant b) i)
    unfolding Holds
    holds_constant true = (λ e. tt, λ t. refl)
    holds_constant false = (λ e. false≢true e, λ z. absurd z)

    pub holds_both : (f h : Formula) → Iff (Holds v g w env f i × Holds v g w env h i) (Holds v g w env (both f h) i)
    unfolding Holds both
    holds_both f h =
        by_cases (λ f. Iff (Holds v g w env f i × Holds v g w env h i) (Holds v g w env (both f h) i))
        (λ p. p.1, λ p. (tt, p))
        (λ p. p.0, λ z. absurd z)
        (λ f p. by_cases (λ h. Iff (Holds v g w env f i × Holds v g w env h i) (Holds v g w env (both f h) i))
        (iff_chain {Q = Holds v g w env f i} (λ p. p.0, λ p. (p, tt)) (iff_back (same_formula env i (both f truth) f (both_truth f))))
        (iff_chain {Q = ⊥} (λ p. p.1, λ z. absurd z) (iff_back (same_formula env i (both f falsity) falsity (both_falsity f))))
        (λ h r. iff_back (same_formula env i (both f h) (conjunction f h) (both_pending f h p r)))
        h)
        f

    pub holds_either : (f h : Formula) → Iff (Holds v g w env f i ⊎ Holds v g w env h i) (Holds v g w env (either f h) i)
    unfolding Holds either
    holds_either f h = grind (arith, common_steps)

    pub holds_opposite : (f : Formula) → Iff (Holds v g w env f i → ⊥) (Holds v g w env (opposite f) i)
    unfolding Holds opposite
    holds_opposite =
        by_cases (λ f. Iff (Holds v g w env f i → ⊥) (Holds v g w env (opposite f) i))
        (λ n. n tt, λ z. absurd z)
        (λ n. tt, λ t z. z)
        (λ f p. iff_back (same_formula env i (opposite_by (standing f) f) (negation f) (ap (λ (s : Standing). opposite_by s f) p)))

    -- all, or some, of the parts for the objects that pass a test
    module _ (part : ℕ → Formula) where
      all_push : (os : List ℕ) (n : ℕ) → Iff (Holds v g w env (all_of (map part os)) i × Holds v g w env (part n) i) (Holds v g w env (all_of (map part (os ++ (n ∷ [])))) i)
      unfolding Holds
      all_push [] n =
          iff_chain {Q = Holds v g w env (part n) i} (λ p. p.1, λ p. (tt, p)) (iff_back (same_formula env i (both (part n) truth) (part n) (both_truth (part n))))
      all_push (o ∷ os) n =
          let rest = all_push os n in
          let parts = holds_both (part o) (all_of (map part os)) in
          let whole = holds_both (part o) (all_of (map part (os ++ (n ∷ [])))) in (
            λ p. let a = parts.1 p.0 in whole.0 (a.0, rest.0 (a.1, p.1)),
            λ p. let a = whole.1 p in let b = rest.1 a.1 in (parts.0 (a.0, b.0), b.1),
          )

      any_push : (os : List ℕ) (n : ℕ) → Iff (Holds v g w env (any_of (map part os)) i ⊎ Holds v g w env (part n) i) (Holds v g w env (any_of (map part (os ++ (n ∷ [])))) i)
      unfolding Holds
      any_push [] n =
          iff_chain {Q = Holds v g w env (part n) i} (λ p. ⊎_elim (λ z. absurd z) (λ x. x) p, λ p. inr p) (iff_back (same_formula env i (either (part n) falsity) (part n) (either_falsity (part n))))
      any_push (o ∷ os) n =
          let rest = any_push os n in
          let parts = holds_either (part o) (any_of (map part os)) in
          let whole = holds_either (part o) (any_of (map part (os ++ (n ∷ [])))) in (
            λ p. ⊎_elim
                (λ a. ⊎_elim (λ b. whole.0 (inl b)) (λ b. whole.0 (inr (rest.0 (inl b)))) (parts.1 a))
                (λ a. whole.0 (inr (rest.0 (inr a)))) p,
            λ p. ⊎_elim
                (λ a. inl (parts.0 (inl a)))
                (λ a. ⊎_elim (λ b. inl (parts.0 (inr b))) (λ b. inr b) (rest.1 a)) (whole.1 p),
          )

      pub holds_all : (n : ℕ) (test : ℕ → Bool) → Iff ((o : ℕ) → o < n → test o ≡ true → Holds v g w env (part o) i) (Holds v g w env (all_of (map part (chosen n test))) i)
      unfolding Holds chosen
      holds_all zero test = (λ p. tt, λ t o h. absurd (omega arith))
      holds_all (suc n) test =
          let below = holds_all n test in
          ⊎_elim
          (λ e.
          let push = all_push (chosen n test) n in
          let same = same_formula env i (all_of (map part (chosen (suc n) test))) (all_of (map part (chosen n test ++ (n ∷ [])))) (ap (λ (os : List ℕ). all_of (map part os)) (chosen_taken n test e)) in (
            λ p. same.1 (push.0 (below.0 (λ o h. p o (omega arith)), p n (omega arith) e)),
            λ p o h k. let a = push.1 (same.0 p) in
                ⊎_elim (λ z. subst (λ (x : ℕ). Holds v g w env (part x) i) (sym z) a.1) (λ z. below.1 a.0 o (omega arith) k) (cases_eq o n),
          ))
          (λ e.
          let same = same_formula env i (all_of (map part (chosen (suc n) test))) (all_of (map part (chosen n test))) (ap (λ (os : List ℕ). all_of (map part os)) (chosen_left n test e)) in (
            λ p. same.1 (below.0 (λ o h. p o (omega arith))),
            λ p o h k.
                ⊎_elim (λ z. let x : false ≡ true = sym (ap test z ∙ e) ∙ k in absurd (false≢true x)) (λ z. below.1 (same.0 p) o (omega arith) k) (cases_eq o n),
          ))
          (cases_Bool (test n))

      pub holds_any : (n : ℕ) (test : ℕ → Bool) → Iff ((o : ℕ) × ((o < n) × ((test o ≡ true) × Holds v g w env (part o) i))) (Holds v g w env (any_of (map part (chosen n test))) i)
      unfolding Holds chosen
      holds_any zero test = search rules
      holds_any (suc n) test =
          let below = holds_any n test in
          ⊎_elim
          (λ e.
          let push = any_push (chosen n test) n in
          let same = same_formula env i (any_of (map part (chosen (suc n) test))) (any_of (map part (chosen n test ++ (n ∷ [])))) (ap (λ (os : List ℕ). any_of (map part os)) (chosen_taken n test e)) in (
            λ p. let h = p.1.0 in
                ⊎_elim (λ z. same.1 (push.0 (inr (subst (λ (x : ℕ). Holds v g w env (part x) i) z p.1.1.1)))) (λ z. same.1 (push.0 (inl (below.0 (p.0, (omega arith, p.1.1)))))) (cases_eq p.0 n),
            λ p. ⊎_elim (λ a. let b = below.1 a in let h = b.1.0 in (b.0, (omega arith, b.1.1))) (λ a. (n, (omega arith, (e, a)))) (push.1 (same.0 p)),
          ))
          (λ e.
          let same = same_formula env i (any_of (map part (chosen (suc n) test))) (any_of (map part (chosen n test))) (ap (λ (os : List ℕ). any_of (map part os)) (chosen_left n test e)) in (
            λ p. let h = p.1.0 in
                ⊎_elim (λ z. let x : false ≡ true = sym (ap test z ∙ e) ∙ p.1.1.0 in absurd (false≢true x)) (λ z. same.1 (below.0 (p.0, (omega arith, p.1.1)))) (cases_eq p.0 n),
            λ p. let b = below.1 (same.0 p) in let h = b.1.0 in (b.0, (omega arith, b.1.1)),
          ))
          (cases_Bool (test n))
