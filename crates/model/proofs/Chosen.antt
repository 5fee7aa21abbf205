-- The numbers below a bound that pass a test: they ascend, and they say which numbers pass.
use Rattle.std.proofs.Common.{◌≡◌, ℕ, zero, suc, ◌+◌, ◌<◌, ◌≤◌, Bool, true, false, ◌||◌, eqb, List, [], ◌∷◌, ◌++◌, length, sym, refl, ap, ◌∙◌, subst, ⊎_elim, arith}
use Rattle.std.proofs.lemmas.List.{append-nil, length_push, same_from_push}
use Rattle.std.proofs.lemmas.Bool.{cases_Bool, cases_eq, cond-false, cond-true, eq-eqb, ne_eqb, or_from, or_left}
use Rattle.model.specs.Ascents.{AllBelow, Ascending}
use Rattle.model.specs.Pictures.{chosen}
use Rattle.model.proofs.Ascents.{ascent_push, below_push, none_above}

-- one number more, which passes or not
pub chosen_taken : (n : ℕ) (test : ℕ → Bool) → test n ≡ true → chosen (suc n) test ≡ chosen n test ++ (n ∷ [])
unfolding chosen
chosen_taken n test e = ap (λ (t : List ℕ). chosen n test ++ t) (cond-true (test n) (n ∷ []) [] e)

pub chosen_left : (n : ℕ) (test : ℕ → Bool) → test n ≡ false → chosen (suc n) test ≡ chosen n test
unfolding chosen
chosen_left n test e = ap (λ (t : List ℕ). chosen n test ++ t) (cond-false (test n) (n ∷ []) [] e) ∙ append-nil (chosen n test)

-- numbers that do not pass change nothing
pub chosen_skip : (n k : ℕ) (test : ℕ → Bool) → ((j : ℕ) → n ≤ j → j < n + k → test j ≡ false) → chosen (n + k) test ≡ chosen n test
chosen_skip n zero test e = ap (λ (m : ℕ). chosen m test) (omega arith)
chosen_skip n (suc k) test e =
    let m : n + suc k ≡ suc (n + k) = omega arith in
    ap (λ (x : ℕ). chosen x test) m
    ∙ chosen_left (n + k) test (e (n + k) (omega arith) (omega arith))
    ∙ chosen_skip n k test (λ j l h. e j l (omega arith))

pub chosen_few : (n : ℕ) (test : ℕ → Bool) → length (chosen n test) ≤ n
unfolding chosen
chosen_few zero test = omega arith
chosen_few (suc n) test =
    let f = chosen_few n test in
    ⊎_elim
    (λ e. omega (arith, ap length (chosen_taken n test e), length_push (chosen n test) n))
    (λ e. omega (arith, ap length (chosen_left n test e)))
    (cases_Bool (test n))

pub chosen_sound : (n : ℕ) (test : ℕ → Bool) → Ascending (chosen n test) × AllBelow n (chosen n test)
unfolding chosen
chosen_sound zero test = (λ i h. absurd (omega arith), λ i h. absurd (omega arith))
chosen_sound (suc n) test =
    let s = chosen_sound n test in
    let P : List ℕ → Type 0 = λ xs. Ascending xs × AllBelow (suc n) xs in
    ⊎_elim
    (λ e. subst P (sym (chosen_taken n test e)) (ascent_push (chosen n test) n s.0 s.1, below_push (chosen n test) n s.1))
    (λ e. subst P (sym (chosen_left n test e)) (s.0, λ i h. omega (arith, s.1 i h)))
    (cases_Bool (test n))

-- the last number that can pass, told from the list
step_known : (n : ℕ) (s t : ℕ → Bool) (a b : Bool) → s n ≡ a → t n ≡ b → chosen (suc n) s ≡ chosen (suc n) t
    → (a ≡ b) × (chosen n s ≡ chosen n t)
step_known n s t true true p q e =
    (refl, (same_from_push (chosen n s) (chosen n t) n n (sym (chosen_taken n s p) ∙ e ∙ chosen_taken n t q)).0)
step_known n s t true false p q e =
    absurd (none_above (chosen n s) (chosen n t) n (chosen_sound n t).1 (sym (chosen_taken n s p) ∙ e ∙ chosen_left n t q))
step_known n s t false true p q e =
    absurd (none_above (chosen n t) (chosen n s) n (chosen_sound n s).1 (sym (chosen_taken n t q) ∙ sym e ∙ chosen_left n s p))
step_known n s t false false p q e = (refl, sym (chosen_left n s p) ∙ e ∙ chosen_left n t q)

pub chosen_known : (n : ℕ) (s t : ℕ → Bool) → chosen n s ≡ chosen n t → (k : ℕ) → k < n → s k ≡ t k
chosen_known zero s t e k h = absurd (omega arith)
chosen_known (suc n) s t e k h =
    let p = step_known n s t (s n) (t n) refl refl e in
    ⊎_elim
    (λ q. ap s q ∙ p.0 ∙ ap t (sym q))
    (λ q. chosen_known n s t p.1 k (omega arith))
    (cases_eq k n)

pub chosen_same : (n : ℕ) (s t : ℕ → Bool) → ((k : ℕ) → k < n → s k ≡ t k) → chosen n s ≡ chosen n t
unfolding chosen
chosen_same zero s t e = refl
chosen_same (suc n) s t e =
    let below = chosen_same n s t (λ k h. e k (omega arith)) in
    let here = e n (omega arith) in
    cc

pub chosen_none : (n : ℕ) (test : ℕ → Bool) → ((k : ℕ) → k < n → test k ≡ false) → chosen n test ≡ []
unfolding chosen
chosen_none zero test e = refl
chosen_none (suc n) test e = chosen_left n test (e n (omega arith)) ∙ chosen_none n test (λ k h. e k (omega arith))

-- a number above all that pass is let in too: first where it is the last that can pass
push_last : (n f : ℕ) (s t : ℕ → Bool) → n ≡ f → ((k : ℕ) → t k ≡ (eqb k f || s k)) → s n ≡ false → chosen (suc n) t ≡ chosen (suc n) s ++ (f ∷ [])
push_last n f s t q e z =
    let here : t n ≡ true = e n ∙ or_left (eqb n f) (s n) (eq-eqb n f q) in
    let below : chosen n t ≡ chosen n s =
    chosen_same n t s (λ k l. e k ∙ ap (λ (b : Bool). b || s k) (ne_eqb k f (λ r. omega arith)))
    in
    chosen_taken n t here
    ∙ ap (λ (xs : List ℕ). xs ++ (n ∷ [])) (below ∙ sym (chosen_left n s z))
    ∙ ap (λ (m : ℕ). chosen (suc n) s ++ (m ∷ [])) q

pub chosen_push : (n f : ℕ) (s t : ℕ → Bool) → f < n → ((k : ℕ) → t k ≡ (eqb k f || s k)) → ((k : ℕ) → f ≤ k → s k ≡ false)
    → chosen n t ≡ chosen n s ++ (f ∷ [])
chosen_push zero f s t h e z = absurd (omega arith)
chosen_push (suc n) f s t h e z =
    let gone : s n ≡ false = z n (omega arith) in
    ⊎_elim
    (λ q. push_last n f s t q e gone)
    (λ q.
    chosen_left n t (e n ∙ or_from (eqb n f) (s n) (ne_eqb n f q) gone)
    ∙ chosen_push n f s t (omega arith) e z
    ∙ ap (λ (xs : List ℕ). xs ++ (f ∷ [])) (sym (chosen_left n s gone)))
    (cases_eq n f)
