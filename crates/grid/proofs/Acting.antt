-- Actions and their numbers, and the law of a move: an action is known by its number, and what it changes is what it says.
use Rattle.std.proofs.Common.{◌≡◌, ℕ, zero, suc, ◌+◌, ◌*◌, ◌/◌, ◌%◌, ◌^◌, ◌<◌, ◌≤◌, Bool, true, false, cond, not, eqb, Some, None, Decides, Option, sym, refl, ap, ◌∙◌, subst, ⊎_elim, arith, pow_mono, length}
use Rattle.model.specs.Drawn.{bits_below}
use Rattle.model.specs.Pictures.{bit}
use Rattle.model.proofs.Bits.{bit_past}
use Rattle.model.proofs.Drawn.{bit_bits}
use Rattle.plants.specs.declared.network.Network.{Network}
use Rattle.std.proofs.lemmas.List.{get_or-set_other, get_or-set_same}
use Rattle.std.proofs.lemmas.Bool.{cases_Bool, cases_eq, cases_lt, cond-false, cond-true, eq-eqb, false≢true, ne_eqb, not_from_false, not-true}
use Rattle.std.proofs.lemmas.Bool.Decides.{Decides-and, Decides-ltb}
use Rattle.grid.specs.declared.action.Action.{Action}
use Rattle.grid.specs.declared.action.Action.TheVariants.{Open, Close, Earth, Lift}
use Rattle.grid.specs.declared.state.NetworkState.{NetworkState}
use Rattle.grid.specs.declared.state.Position.{Position}
use Rattle.grid.specs.Actions.{Numbered, acted, action_by, action_number, action_of, argument, changes, network_allowed, network_next, some_acted, some_changes}
use Rattle.grid.specs.Laws.{CanMove, Done, EarthPut, Possible, Stepped, SwitchPut}
use Rattle.grid.specs.States.{closed_at, sections_of, with_earth, with_position}
use Rattle.grid.proofs.Ends.{count_small}

-- the action of a number, by its parts
by_parts : (m k a : ℕ) → m % 16 ≡ 0 → m / 256 ≡ k → m / 16 % 16 ≡ a → action_of m ≡ action_by k a
by_parts m k a z q r =
    cond-true (eqb (m % 16) 0) (action_by (m / 256) (m / 16 % 16)) None (eq-eqb (m % 16) 0 z)
    ∙ ap (λ (j : ℕ). action_by j (m / 16 % 16)) q
    ∙ ap (action_by k) r

pub action_of_number : (c : Action) → argument c < 16 → action_of (action_number c) ≡ Some c
action_of_number (Open a) h = by_parts (a * 16) 0 a (omega arith) (omega arith) (omega arith)
action_of_number (Close a) h = by_parts (256 + a * 16) 1 a (omega arith) (omega arith) (omega arith)
action_of_number (Earth x) h = by_parts (512 + x * 16) 2 x (omega arith) (omega arith) (omega arith)
action_of_number (Lift x) h = by_parts (768 + x * 16) 3 x (omega arith) (omega arith) (omega arith)

-- every action's number is a multiple of sixteen below 1024
pub number_shape : (c : Action) → argument c < 16 → (action_number c % 16 ≡ 0) × (action_number c < 1024)
number_shape (Open a) h = (omega arith, omega arith)
number_shape (Close a) h = (omega arith, omega arith)
number_shape (Earth x) h = (omega arith, omega arith)
number_shape (Lift x) h = (omega arith, omega arith)

numbered_by : (m k a : ℕ) → m % 16 ≡ 0 → m / 256 ≡ k → m / 16 % 16 ≡ a → Numbered m (action_by k a)
numbered_by m zero a z q r = (omega arith, omega arith)
numbered_by m (suc zero) a z q r = (omega arith, omega arith)
numbered_by m (suc (suc zero)) a z q r = (omega arith, omega arith)
numbered_by m (suc (suc (suc zero))) a z q r = (omega arith, omega arith)
numbered_by m (suc (suc (suc (suc k)))) a z q r = λ c h e. omega (arith, (number_shape c h).1)

pub numbered_of : (m : ℕ) → Numbered m (action_of m)
numbered_of m =
    ⊎_elim
    (λ z. subst (Numbered m) (sym (by_parts m (m / 256) (m / 16 % 16) z refl refl)) (numbered_by m (m / 256) (m / 16 % 16) z refl refl))
    (λ z.
    subst (Numbered m) (sym (cond-false (eqb (m % 16) 0) (action_by (m / 256) (m / 16 % 16)) None (ne_eqb (m % 16) 0 z)))
    (λ c h e. z (ap (λ (j : ℕ). j % 16) (sym e) ∙ (number_shape c h).0)))
    (cases_eq (m % 16) 0)

-- a test, as a fact: that it passes, or that it fails
so : (b : Bool) → Decides b (b ≡ true)
so b = (λ e. e, λ e. e)

not_so : (b : Bool) → Decides (not b) (b ≡ false)
not_so b = (not-true b, not_from_false b)

module _ (w : Network) (s : NetworkState) where
  -- switches and sections have numbers below sixteen
  pub possible_small : (c : Action) → Possible w s c → argument c < 16
  possible_small (Open a) p = omega (arith, p.0, count_small w)
  possible_small (Close a) p = omega (arith, p.0, count_small w)
  possible_small (Earth x) p = omega (arith, p.0, w.vocabulary.high)
  possible_small (Lift x) p = omega (arith, p.0, w.vocabulary.high)

  pub changes_decided : (c : Action) → Decides (changes w s c) (Possible w s c)
  changes_decided (Open a) = Decides-and _ _ (Decides-ltb a (length w.switches)) (so (closed_at s a))
  changes_decided (Close a) = Decides-and _ _ (Decides-ltb a (length w.switches)) (not_so (closed_at s a))
  changes_decided (Earth x) = Decides-and _ _ (Decides-ltb x w.vocabulary.objects) (not_so (bit s.earths.bits x))
  changes_decided (Lift x) = Decides-and _ _ (Decides-ltb x w.vocabulary.objects) (so (bit s.earths.bits x))

  -- what an allowed number stands for
  allowed_as : (m : ℕ) (o : Option Action) → Numbered m o → some_changes w s o ≡ true → CanMove w s m
  allowed_as m None n e = absurd (false≢true e)
  allowed_as m (Some c) n e = (c, (n.0, (changes_decided c).0 e))

  pub number_of_possible : (m : ℕ) (c : Action) → action_number c ≡ m → Possible w s c → action_of m ≡ Some c
  number_of_possible m c e p = ap action_of (sym e) ∙ action_of_number c (possible_small c p)

  pub allowed_decided : (m : ℕ) → Decides (network_allowed w s m) (CanMove w s m)
  unfolding network_allowed
  allowed_decided m = (
    allowed_as m (action_of m) (numbered_of m),
    λ can.
        let c = can.0 in
        ap (some_changes w s) (number_of_possible m c can.1.0 can.1.1) ∙ (changes_decided c).1 can.1.1,
  )

  -- what is allowed is a multiple of sixteen below 1024
  pub not_allowed : (m : ℕ) → ((m % 16 ≡ 0) × (m < 1024) → ⊥) → network_allowed w s m ≡ false
  not_allowed m n =
      ⊎_elim
      (λ t.
      let can = (allowed_decided m).0 t in
      let c = can.0 in
      let shape = number_shape c (possible_small c can.1.1) in
      absurd (n (ap (λ (j : ℕ). j % 16) (sym can.1.0) ∙ shape.0, omega (arith, can.1.0, shape.1))))
      (λ f. f)
      (cases_Bool (network_allowed w s m))

  pub next_same : (m : ℕ) → network_allowed w s m ≡ false → network_next w s m ≡ s
  unfolding network_next
  next_same m e = cond-false (network_allowed w s m) (some_acted s (action_of m)) s e

  pub next_acted : (m : ℕ) (c : Action) → action_of m ≡ Some c → changes w s c ≡ true → network_next w s m ≡ acted s c
  unfolding network_allowed network_next
  next_acted m c o e =
      cond-true (network_allowed w s m) (some_acted s (action_of m)) s (ap (some_changes w s) o ∙ e) ∙ ap (some_acted s) o

  switch_put : (a : ℕ) (on : Bool) → a < 16 → SwitchPut s a on (with_position s a on)
  switch_put a on h =
      let new : Position = record { closed = on } in
      let none : Position = record { closed = false } in
      record {
        put = ap (λ (p : Position). p.closed) (get_or-set_same s.switches a new none (omega (arith, s.places)));
        others = λ b n. ap (λ (p : Position). p.closed) (get_or-set_other s.switches a b new none n);
        earths = refl;
      }

  earth_put : (x : ℕ) (there : Bool) → x < 16 → EarthPut s x there (with_earth s x there)
  earth_put x there h =
      let old = s.earths.bits in
      let test : ℕ → Bool = λ k. cond (eqb k x) there (bit old k) in
      record {
        put = bit_bits 16 test x h ∙ cond-true (eqb x x) there (bit old x) (eq-eqb x x refl);
        others = λ y n.
            ⊎_elim
            (λ l. bit_bits 16 test y l ∙ cond-false (eqb y x) there (bit old y) (ne_eqb y x n))
            (λ l.
            let p : 2 ^ 16 ≤ 2 ^ y = pow_mono l in
            bit_past (sections_of test).bits y (omega (arith, bits_below 16 test)) ∙ sym (bit_past old y (omega (arith, s.earths.small))))
            (cases_lt y 16);
        switches = refl;
      }

  acted_done : (c : Action) → argument c < 16 → Done s c (acted s c)
  acted_done (Open a) h = switch_put a false h
  acted_done (Close a) h = switch_put a true h
  acted_done (Earth x) h = earth_put x true h
  acted_done (Lift x) h = earth_put x false h

  pub next_law : (m : ℕ) (r : NetworkState) → r ≡ network_next w s m → Stepped w s m r
  next_law m r e = subst (Stepped w s m) (sym e)
      (record {
        done = λ c e p.
            subst (Done s c) (sym (next_acted m c (number_of_possible m c e p) ((changes_decided c).1 p))) (acted_done c (possible_small c p));
        idle = λ n.
            next_same m (⊎_elim (λ t. absurd (n ((allowed_decided m).0 t))) (λ f. f) (cases_Bool (network_allowed w s m)));
      })
