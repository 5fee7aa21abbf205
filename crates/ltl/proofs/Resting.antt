-- Where the last picture stays, everything is known: a formula is known to be TRUE at a position just where it holds there,
-- and known to be FALSE just where it is not known to be TRUE. From the last position on nothing changes any more.
use Rattle.std.proofs.lemmas.Bool.Decides.{nat_tests}
use Rattle.std.proofs.lemmas.Grind.{common_steps}
use Rattle.std.proofs.Common.{◌≡◌, ℕ, zero, suc, ◌+◌, ◌-◌, ◌<◌, ◌≤◌, Bool, true, false, not, ◌&&◌, ◌||◌, eqb, ltb, Decides, sym, refl, ap, ◌∙◌, subst, inl, inr, ⊎_elim, arith}
use Rattle.books.specs.Trees.{Formula, always, atom, conjunction, disjunction, eventually, exists, falsity, for_all, goal, negation, next, same, truth, until}
use Rattle.model.specs.declared.goal.Goal.{Goal}
use Rattle.model.specs.declared.picture.Picture.{Picture}
use Rattle.model.specs.declared.vocabulary.Vocabulary.{Vocabulary}
use Rattle.std.proofs.Math.Bool.{and_comm, and-false, and-true, not-not, or_comm, or-false}
use Rattle.std.proofs.lemmas.Bool.{cases_lt, cond-true, false≢true, lt-ltb}
use Rattle.std.proofs.lemmas.Bool.Decides.{Decides-and, Decides-at, Decides-below_and, Decides-below_or, Decides-like, Decides-not, Decides-or}
use Rattle.ltl.specs.Assignments.{Assignment, bind, object_under}
use Rattle.ltl.specs.Classes.{Class, ahead, all_under, class_at, following, some_under, told, unknown, within}
use Rattle.ltl.specs.Laws.{Iff}
use Rattle.ltl.specs.Truth.{Holds, atom_true, goal_true, picks}
use Rattle.ltl.proofs.Sound.{always_now, eventually_now, until_now}

not_and : (a b : Bool) → not (a && b) ≡ (not a || not b)
not_and true b = refl
not_and false b = refl

not_or : (a b : Bool) → not (a || b) ≡ (not a && not b)
not_or true b = refl
not_or false b = refl

itself : (b : Bool) → Decides b (b ≡ true)
itself b = (λ e. e, λ e. e)

module _ (v : Vocabulary) (g : Goal) (w : ℕ → Picture) (last : ℕ) (steady : (j : ℕ) → last ≤ j → w j ≡ w last) where
  -- from the last position on, truth does not change
  pub stays_true : (f : Formula) (env : Assignment) (i j : ℕ) → last ≤ i → last ≤ j → Holds v g w env f i → Holds v g w env f j
  unfolding Holds
  stays_true truth env i j a b p = p
  stays_true falsity env i j a b p = p
  stays_true (atom t) env i j a b p = grind (arith, common_steps)
  stays_true (goal t) env i j a b p = p
  stays_true (same s t) env i j a b p = p
  stays_true (negation f) env i j a b p = λ q. p (stays_true f env j i b a q)
  stays_true (conjunction f h) env i j a b p = (stays_true f env i j a b p.0, stays_true h env i j a b p.1)
  stays_true (disjunction f h) env i j a b p = ⊎_elim (λ x. inl (stays_true f env i j a b x)) (λ x. inr (stays_true h env i j a b x)) p
  stays_true (next f) env i j a b p = stays_true f env (suc i) (suc j) (omega arith) (omega arith) p
  stays_true (eventually f) env i j a b p = let l = p.1.0 in (j, (omega arith, stays_true f env p.0 j (omega arith) b p.1.1))
  stays_true (always f) env i j a b p = λ k h. stays_true f env i k a (omega arith) (p i (omega arith))
  stays_true (until f h) env i j a b p =
      let l = p.1.0 in (j, (omega arith, (stays_true h env p.0 j (omega arith) b p.1.1.0, λ k x y. absurd (omega arith))))
  stays_true (for_all range body x) env i j a b p =
      λ o h e. stays_true body (bind x o env) i j a b (p o h (ap (λ (q : Picture). picks v g q (bind x o env) range) (steady i a ∙ sym (steady j b)) ∙ e))
  stays_true (exists range body x) env i j a b p =
      (p.0, (p.1.0, (ap (λ (q : Picture). picks v g q (bind x p.0 env) range) (steady j b ∙ sym (steady i a)) ∙ p.1.1.0, stays_true body (bind x p.0 env) i j a b p.1.1.1)))

  abbrev sure_at : Assignment → Formula → ℕ → Bool
  sure_at env f i = (class_at v g true (suc last) w env f i).sure

  abbrev lost_at : Assignment → Formula → ℕ → Bool
  lost_at env f i = (class_at v g true (suc last) w env f i).lost

  -- within the positions
  inside : (i : ℕ) (c : Class) → i ≤ last → within (suc last) i c ≡ c
  inside i c h = cond-true (ltb i (suc last)) c unknown (lt-ltb i (suc last) (omega arith))

  -- what is known to be false is what is not known to be true
  ahead_eventually : (m i : ℕ) (t f : ℕ → Bool) → i + m ≡ suc last → ((j : ℕ) → j ≤ last → f j ≡ not (t j))
      → ahead m true f (λ j. false) i ≡ not (ahead m false (λ j. true) t i)
  unfolding ahead
  ahead_eventually zero i t f h e = refl
  ahead_eventually (suc m) i t f h e =
      let a = e i (omega arith) in
      let b = ahead_eventually m (suc i) t f (omega arith) e in
      let c = not_or (t i) (ahead m false (λ j. true) t (suc i)) in
      cc

  ahead_always : (m i : ℕ) (t f : ℕ → Bool) → i + m ≡ suc last → ((j : ℕ) → j ≤ last → f j ≡ not (t j))
      → ahead m false (λ j. true) f i ≡ not (ahead m true t (λ j. false) i)
  unfolding ahead
  ahead_always zero i t f h e = refl
  ahead_always (suc m) i t f h e =
      let a = e i (omega arith) in
      let b = ahead_always m (suc i) t f (omega arith) e in
      let c = not_and (t i) (ahead m true t (λ j. false) (suc i)) in
      cc

  ahead_until : (m i : ℕ) (t s f d : ℕ → Bool) → i + m ≡ suc last → ((j : ℕ) → j ≤ last → f j ≡ not (t j)) → ((j : ℕ) → j ≤ last → d j ≡ not (s j))
      → ahead m true d (λ j. f j && d j) i ≡ not (ahead m false t s i)
  unfolding ahead
  ahead_until zero i t s f d h e k = refl
  ahead_until (suc m) i t s f d h e k =
      let a = e i (omega arith) in
      let b = k i (omega arith) in
      let c = ahead_until m (suc i) t s f d (omega arith) e k in
      ap (λ (x : Bool). (f i && d i) || (d i && x)) c ∙ ap (λ (x : Bool). (x && d i) || (d i && not (ahead m false t s (suc i)))) a ∙ ap (λ (x : Bool). (not (t i) && x) || (x && not (ahead m false t s (suc i)))) b
      ∙ law (s i) (t i) (ahead m false t s (suc i))
    where
      law : (x y z : Bool) → ((not y && not x) || (not x && not z)) ≡ not (x || (y && z))
      law true true z = refl
      law true false z = refl
      law false true z = refl
      law false false z = refl

  some_not_all : (n : ℕ) (p t f : ℕ → Bool) → ((o : ℕ) → f o ≡ not (t o)) → some_under n (λ o. p o && f o) ≡ not (all_under n (λ o. not (p o) || t o))
  unfolding some_under all_under
  some_not_all zero p t f e = refl
  some_not_all (suc n) p t f e =
      let a = e n in
      let b = some_not_all n p t f e in
      ap (λ (x : Bool). some_under n (λ o. p o && f o) || (p n && x)) a
      ∙ ap (λ (x : Bool). x || (p n && not (t n))) b
      ∙ law (all_under n (λ o. not (p o) || t o)) (p n) (t n)
    where
      law : (x y z : Bool) → (not x || (y && not z)) ≡ not (x && (not y || z))
      law true true z = refl
      law true false z = refl
      law false true z = refl
      law false false z = refl

  all_not_some : (n : ℕ) (p t f : ℕ → Bool) → ((o : ℕ) → f o ≡ not (t o)) → all_under n (λ o. not (p o) || f o) ≡ not (some_under n (λ o. p o && t o))
  unfolding some_under all_under
  all_not_some zero p t f e = refl
  all_not_some (suc n) p t f e =
      let a = e n in
      let b = all_not_some n p t f e in
      ap (λ (x : Bool). all_under n (λ o. not (p o) || f o) && (not (p n) || x)) a
      ∙ ap (λ (x : Bool). x && (not (p n) || not (t n))) b
      ∙ law (some_under n (λ o. p o && t o)) (p n) (t n)
    where
      law : (x y z : Bool) → (not x && (not y || not z)) ≡ not (x || (y && z))
      law true true z = refl
      law true false z = refl
      law false true z = refl
      law false false z = refl

  -- within the positions, a class is as it is
  lost_inside : (i : ℕ) (c : Class) → i ≤ last → c.lost ≡ not c.sure → (within (suc last) i c).lost ≡ not (within (suc last) i c).sure
  lost_inside i c h e = grind (arith, common_steps)

  after : (i : ℕ) → i ≤ last → following true (suc last) i ≤ last
  after i h = omega arith

  pub two_valued : (f : Formula) (env : Assignment) (i : ℕ) → i ≤ last → lost_at env f i ≡ not (sure_at env f i)
  unfolding class_at
  two_valued truth env i h = refl
  two_valued falsity env i h = refl
  two_valued (atom t) env i h = lost_inside i (told (atom_true v (w i) env t)) h refl
  two_valued (goal t) env i h = lost_inside i (told (goal_true v g env t)) h refl
  two_valued (same s t) env i h = lost_inside i (told (eqb (object_under env s) (object_under env t))) h refl
  two_valued (negation f) env i h =
      lost_inside i _ h (sym (ap not (two_valued f env i h) ∙ not-not (sure_at env f i)))
  two_valued (conjunction f k) env i h =
      lost_inside i _ h
      (ap (λ (x : Bool). x || lost_at env k i) (two_valued f env i h) ∙ ap (λ (x : Bool). not (sure_at env f i) || x) (two_valued k env i h) ∙ sym (not_and (sure_at env f i) (sure_at env k i)))
  two_valued (disjunction f k) env i h =
      lost_inside i _ h
      (ap (λ (x : Bool). x && lost_at env k i) (two_valued f env i h) ∙ ap (λ (x : Bool). not (sure_at env f i) && x) (two_valued k env i h) ∙ sym (not_or (sure_at env f i) (sure_at env k i)))
  two_valued (next f) env i h = lost_inside i _ h (two_valued f env (following true (suc last) i) (after i h))
  two_valued (eventually f) env i h =
      lost_inside i _ h (ahead_eventually (suc last - i) i (sure_at env f) (lost_at env f) (omega arith) (two_valued f env))
  two_valued (always f) env i h =
      lost_inside i _ h (ahead_always (suc last - i) i (sure_at env f) (lost_at env f) (omega arith) (two_valued f env))
  two_valued (until f k) env i h =
      lost_inside i _ h (ahead_until (suc last - i) i (sure_at env f) (sure_at env k) (lost_at env f) (lost_at env k) (omega arith) (two_valued f env) (two_valued k env))
  two_valued (for_all range body x) env i h =
      lost_inside i _ h
      (some_not_all v.objects (λ o. picks v g (w i) (bind x o env) range) (λ o. sure_at (bind x o env) body i) (λ o. lost_at (bind x o env) body i)
      (λ o. two_valued body (bind x o env) i h))
  two_valued (exists range body x) env i h =
      lost_inside i _ h
      (all_not_some v.objects (λ o. picks v g (w i) (bind x o env) range) (λ o. sure_at (bind x o env) body i) (λ o. lost_at (bind x o env) body i)
      (λ o. two_valued body (bind x o env) i h))

  -- at the last position
  last_eventually : (f : Formula) (env : Assignment) → Iff (Holds v g w env f last) (Holds v g w env (eventually f) last)
  unfolding Holds
  last_eventually f env = (λ p. (last, (omega arith, p)), λ p. let l = p.1.0 in stays_true f env p.0 last l (omega arith) p.1.1)

  last_always : (f : Formula) (env : Assignment) → Iff (Holds v g w env f last) (Holds v g w env (always f) last)
  unfolding Holds
  last_always f env = (λ p j h. stays_true f env last j (omega arith) h p, λ p. p last (omega arith))

  last_until : (f k : Formula) (env : Assignment) → Iff (Holds v g w env k last) (Holds v g w env (until f k) last)
  unfolding Holds
  last_until f k env = (λ p. (last, (omega arith, (p, λ j a b. absurd (omega arith)))), λ p. let l = p.1.0 in stays_true k env p.0 last l (omega arith) p.1.1.0)

  -- going on to the last position
  decides_eventually : (f : Formula) (env : Assignment) → ((j : ℕ) → j ≤ last → Decides (sure_at env f j) (Holds v g w env f j))
      → (m i : ℕ) → i + suc m ≡ suc last → Decides (ahead (suc m) false (λ j. true) (sure_at env f) i) (Holds v g w env (eventually f) i)
  unfolding ahead
  decides_eventually f env d zero i h =
      let e : i ≡ last = omega arith in
      subst (λ (j : ℕ). Decides (sure_at env f j || false) (Holds v g w env (eventually f) j)) (sym e)
      (Decides-at (sure_at env f last || false) (sure_at env f last) (or-false (sure_at env f last))
      (Decides-like (sure_at env f last) (last_eventually f env).0 (last_eventually f env).1 (d last (omega arith))))
  decides_eventually f env d (suc m) i h =
      let now = eventually_now v g w f env i in
      Decides-like (sure_at env f i || ahead (suc m) false (λ j. true) (sure_at env f) (suc i)) now.1 now.0
      (Decides-or (sure_at env f i) (ahead (suc m) false (λ j. true) (sure_at env f) (suc i)) (d i (omega arith)) (decides_eventually f env d m (suc i) (omega arith)))

  decides_always : (f : Formula) (env : Assignment) → ((j : ℕ) → j ≤ last → Decides (sure_at env f j) (Holds v g w env f j))
      → (m i : ℕ) → i + suc m ≡ suc last → Decides (ahead (suc m) true (sure_at env f) (λ j. false) i) (Holds v g w env (always f) i)
  unfolding ahead
  decides_always f env d zero i h =
      let e : i ≡ last = omega arith in
      subst (λ (j : ℕ). Decides (sure_at env f j && true) (Holds v g w env (always f) j)) (sym e)
      (Decides-at (sure_at env f last && true) (sure_at env f last) (and-true (sure_at env f last))
      (Decides-like (sure_at env f last) (last_always f env).0 (last_always f env).1 (d last (omega arith))))
  decides_always f env d (suc m) i h =
      let now = always_now v g w f env i in
      Decides-like (sure_at env f i && ahead (suc m) true (sure_at env f) (λ j. false) (suc i)) now.1 now.0
      (Decides-and (sure_at env f i) (ahead (suc m) true (sure_at env f) (λ j. false) (suc i)) (d i (omega arith)) (decides_always f env d m (suc i) (omega arith)))

  decides_until : (f k : Formula) (env : Assignment) → ((j : ℕ) → j ≤ last → Decides (sure_at env f j) (Holds v g w env f j))
      → ((j : ℕ) → j ≤ last → Decides (sure_at env k j) (Holds v g w env k j))
      → (m i : ℕ) → i + suc m ≡ suc last → Decides (ahead (suc m) false (sure_at env f) (sure_at env k) i) (Holds v g w env (until f k) i)
  unfolding ahead
  decides_until f k env d e zero i h =
      let q : i ≡ last = omega arith in
      subst (λ (j : ℕ). Decides (sure_at env k j || (sure_at env f j && false)) (Holds v g w env (until f k) j)) (sym q)
      (Decides-at (sure_at env k last || (sure_at env f last && false)) (sure_at env k last)
      (ap (λ (b : Bool). sure_at env k last || b) (and-false (sure_at env f last)) ∙ or-false (sure_at env k last))
      (Decides-like (sure_at env k last) (last_until f k env).0 (last_until f k env).1 (e last (omega arith))))
  decides_until f k env d e (suc m) i h =
      let now = until_now v g w f k env i in
      let rest = ahead (suc m) false (sure_at env f) (sure_at env k) (suc i) in
      Decides-like (sure_at env k i || (sure_at env f i && rest)) now.1 now.0
      (Decides-or (sure_at env k i) (sure_at env f i && rest) (e i (omega arith))
      (Decides-and (sure_at env f i) rest (d i (omega arith)) (decides_until f k env d e m (suc i) (omega arith))))

  -- all, or some, of the objects that a range picks
  decides_all : (n : ℕ) (p t : ℕ → Bool) (P : ℕ → Type 0) → ((o : ℕ) → Decides (t o) (P o))
      → Decides (all_under n (λ o. not (p o) || t o)) ((o : ℕ) → o < n → p o ≡ true → P o)
  unfolding all_under
  decides_all n p t P d =
      Decides-below_and (λ o. not (p o) || t o) (λ o. p o ≡ true → P o) (λ m. all_under m (λ o. not (p o) || t o)) (λ o. picked (p o) (t o) (P o) (d o)) refl
      (λ m. and_comm (all_under m (λ o. not (p o) || t o)) (not (p m) || t m)) n
    where
      picked : (a b : Bool) (Q : Type 0) → Decides b Q → Decides (not a || b) (a ≡ true → Q)
      picked true b Q e = (λ h _. e.0 h, λ q. e.1 (q refl))
      picked false b Q e = (λ h z. absurd (false≢true z), λ q. refl)

  decides_some : (n : ℕ) (p t : ℕ → Bool) (P : ℕ → Type 0) → ((o : ℕ) → Decides (t o) (P o))
      → Decides (some_under n (λ o. p o && t o)) ((o : ℕ) × ((o < n) × ((p o ≡ true) × P o)))
  unfolding some_under
  decides_some n p t P d =
      Decides-like (some_under n (λ o. p o && t o)) (λ q. (q.0, (q.1, q.2))) (λ q. (q.0, q.1.0, q.1.1))
      (Decides-below_or (λ o. p o && t o) (λ o. (p o ≡ true) × P o) (λ m. some_under m (λ o. p o && t o)) (λ o. Decides-and (p o) (t o) (itself (p o)) (d o)) refl
      (λ m. or_comm (some_under m (λ o. p o && t o)) (p m && t m)) n)

  -- how many positions there are from one on
  turns : (P : ℕ → Type 0) (i : ℕ) → i ≤ last → P (suc (last - i)) → P (suc last - i)
  turns P i h p = grind (arith, nat_tests)

  -- a class within the positions
  sure_inside : (P : Type 0) (i : ℕ) (c : Class) → i ≤ last → Decides c.sure P → Decides (within (suc last) i c).sure P
  sure_inside P i c h d = grind (arith, common_steps)

  pub known_truth : (f : Formula) (env : Assignment) (i : ℕ) → i ≤ last → Decides (sure_at env f i) (Holds v g w env f i)
  unfolding class_at Holds
  known_truth truth env i h = (λ e. tt, λ p. refl)
  known_truth falsity env i h = (λ e. absurd (false≢true e), λ z. absurd z)
  known_truth (atom t) env i h = sure_inside _ i (told (atom_true v (w i) env t)) h (itself (atom_true v (w i) env t))
  known_truth (goal t) env i h = sure_inside _ i (told (goal_true v g env t)) h (itself (goal_true v g env t))
  known_truth (same s t) env i h = grind (arith, common_steps)
  known_truth (negation f) env i h =
      sure_inside _ i _ h (Decides-at (lost_at env f i) (not (sure_at env f i)) (two_valued f env i h) (Decides-not (sure_at env f i) (known_truth f env i h)))
  known_truth (conjunction f k) env i h = sure_inside _ i _ h (Decides-and (sure_at env f i) (sure_at env k i) (known_truth f env i h) (known_truth k env i h))
  known_truth (disjunction f k) env i h = sure_inside _ i _ h (Decides-or (sure_at env f i) (sure_at env k i) (known_truth f env i h) (known_truth k env i h))
  known_truth (next f) env i h =
      sure_inside (Holds v g w env f (suc i)) i (class_at v g true (suc last) w env f (following true (suc last) i)) h
      (⊎_elim
      (λ l.
      let e : following true (suc last) i ≡ suc i = omega arith in
      Decides-at (sure_at env f (following true (suc last) i)) (sure_at env f (suc i)) (ap (sure_at env f) e) (known_truth f env (suc i) (omega arith)))
      (λ l.
      let e : following true (suc last) i ≡ last = omega arith in
      Decides-at (sure_at env f (following true (suc last) i)) (sure_at env f last) (ap (sure_at env f) e)
      (Decides-like (sure_at env f last) (stays_true f env last (suc i) (omega arith) (omega arith)) (stays_true f env (suc i) last (omega arith) (omega arith)) (known_truth f env last (omega arith))))
      (cases_lt i last))
  known_truth (eventually f) env i h =
      sure_inside _ i _ h (turns (λ m. Decides (ahead m false (λ j. true) (sure_at env f) i) (Holds v g w env (eventually f) i)) i h (decides_eventually f env (known_truth f env) (last - i) i (omega arith)))
  known_truth (always f) env i h =
      sure_inside _ i _ h (turns (λ m. Decides (ahead m true (sure_at env f) (λ j. false) i) (Holds v g w env (always f) i)) i h (decides_always f env (known_truth f env) (last - i) i (omega arith)))
  known_truth (until f k) env i h =
      sure_inside _ i _ h (turns (λ m. Decides (ahead m false (sure_at env f) (sure_at env k) i) (Holds v g w env (until f k) i)) i h (decides_until f k env (known_truth f env) (known_truth k env) (last - i) i (omega arith)))
  known_truth (for_all range body x) env i h =
      sure_inside _ i _ h (decides_all v.objects (λ o. picks v g (w i) (bind x o env) range) (λ o. sure_at (bind x o env) body i) (λ o. Holds v g w (bind x o env) body i) (λ o. known_truth body (bind x o env) i h))
  known_truth (exists range body x) env i h =
      sure_inside _ i _ h (decides_some v.objects (λ o. picks v g (w i) (bind x o env) range) (λ o. sure_at (bind x o env) body i) (λ o. Holds v g w (bind x o env) body i) (λ o. known_truth body (bind x o env) i h))
