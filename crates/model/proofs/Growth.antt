-- Sets of the numbers below a bound that grow: a set that is larger, and not larger in number, is the same, so growth that
-- stops once it has stopped for one round stops within as many rounds as there are numbers.
use Rattle.std.proofs.Common.{◌≡◌, ℕ, zero, suc, ◌+◌, ◌<◌, ◌≤◌, Bool, true, false, cond, ◌⊎◌, sym, refl, ap, ◌∙◌, inl, inr, ⊎_elim, arith}
use Rattle.std.proofs.lemmas.Bool.{cases_eq, cases_lt, true≢false}

unfoldable pub count_of : ℕ → (ℕ → Bool) → ℕ
count_of zero test = 0
count_of (suc n) test = cond (test n) 1 0 + count_of n test

pub count_few : (n : ℕ) (test : ℕ → Bool) → count_of n test ≤ n
unfolding count_of
count_few zero test = omega arith
count_few (suc n) test =
    let f = count_few n test in
    elim (test n) as (λ b. cond b 1 0 + count_of n test ≤ suc n) [ true ↦ omega arith | false ↦ omega arith ]

-- what one number adds
one_more : (a b : Bool) → (a ≡ true → b ≡ true) → cond a 1 0 ≤ cond b 1 0
one_more true true h = omega arith
one_more true false h = absurd (true≢false (sym (h refl)))
one_more false true h = omega arith
one_more false false h = omega arith

pub count_grows : (n : ℕ) (s t : ℕ → Bool) → ((k : ℕ) → k < n → s k ≡ true → t k ≡ true) → count_of n s ≤ count_of n t
unfolding count_of
count_grows zero s t h = omega arith
count_grows (suc n) s t h =
    omega (arith, one_more (s n) (t n) (h n (omega arith)), count_grows n s t (λ k l. h k (omega arith)))

same_one : (a b : Bool) → (a ≡ true → b ≡ true) → cond b 1 0 ≤ cond a 1 0 → a ≡ b
same_one true true h l = refl
same_one true false h l = absurd (true≢false (sym (h refl)))
same_one false true h l = absurd (omega arith)
same_one false false h l = refl

pub count_same : (n : ℕ) (s t : ℕ → Bool) → ((k : ℕ) → k < n → s k ≡ true → t k ≡ true) → count_of n t ≤ count_of n s
    → (k : ℕ) → k < n → s k ≡ t k
unfolding count_of
count_same zero s t h l k m = absurd (omega arith)
count_same (suc n) s t h l k m =
    let below = count_grows n s t (λ j i. h j (omega arith)) in
    let here = one_more (s n) (t n) (h n (omega arith)) in
    ⊎_elim
    (λ q. ap s q ∙ same_one (s n) (t n) (h n (omega arith)) (omega arith) ∙ ap t (sym q))
    (λ q. count_same n s t (λ j i. h j (omega arith)) (omega arith) k (omega arith))
    (cases_eq k n)

module _ (few : ℕ) (S : ℕ → ℕ → Bool) (grows : (n x : ℕ) → S n x ≡ true → S (suc n) x ≡ true) where
  -- round n adds nothing
  abbrev Stable : ℕ → Type 0
  Stable n = (x : ℕ) → x < few → S n x ≡ S (suc n) x

  module _ (stays : (n : ℕ) → Stable n → Stable (suc n)) where
    -- n rounds have n numbers, or one more adds nothing
    growing : (n : ℕ) → (n ≤ count_of few (S n)) ⊎ Stable n
    growing zero = inl (omega arith)
    growing (suc n) =
        ⊎_elim
        (λ h. ⊎_elim
        (λ l. inl (omega arith))
        (λ l. inr (stays n (count_same few (S n) (S (suc n)) (λ k i. grows n k) l)))
        (cases_lt (count_of few (S n)) (count_of few (S (suc n)))))
        (λ h. inr (stays n h))
        (growing n)

    pub stable_end : Stable few
    stable_end =
        ⊎_elim
        (λ h. count_same few (S few) (S (suc few)) (λ k i. grows few k) (omega (arith, count_few few (S (suc few)))))
        (λ h. h)
        (growing few)

    -- all later rounds add nothing either
    pub stable_on : (n : ℕ) (x : ℕ) → x < few → S (few + n) x ≡ S few x
    stable_on zero x h = ap (λ (m : ℕ). S m x) (omega arith)
    stable_on (suc n) x h =
        let e : few + suc n ≡ suc (few + n) = omega arith in
        ap (λ (m : ℕ). S m x) e ∙ sym (later n x h) ∙ stable_on n x h
      where
        later : (n : ℕ) → Stable (few + n)
        later zero = λ x h. ap (λ (m : ℕ). S m x) (omega arith) ∙ stable_end x h ∙ ap (λ (m : ℕ). S m x) (omega arith)
        later (suc n) =
            let e : few + suc n ≡ suc (few + n) = omega arith in
            λ x h. ap (λ (m : ℕ). S m x) e ∙ stays (few + n) (later n) x h ∙ ap (λ (m : ℕ). S (suc m) x) (sym e)
