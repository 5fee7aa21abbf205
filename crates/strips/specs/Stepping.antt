-- The state after a move, fact by fact: each effect is on one of the 512 facts, and the picture drawn says what becomes of it.
use Rattle.std.specs.Prelude.{◌≡◌, ℕ, ◌<◌, ◌≤◌, Bool, true, false, ◌&&◌, length, Decides, nat_lt, refl}
use Rattle.std.proofs.Common.{⊎_elim, ◌∙◌, arith, subst}
use Rattle.std.proofs.Math.Path.{sym, ap}
use Rattle.model.specs.declared.fact.Sign.TheVariants.{Negative, Positive}
use Rattle.model.specs.declared.picture.Picture.{Picture}
use Rattle.model.specs.Pictures.{holds}
use Rattle.model.proofs.Drawn.{drawn, holds_picture_of}
use Rattle.model.proofs.Pictures.{holds_past}
use Rattle.plants.specs.declared.actions.ActionTable.{ActionTable}
use Rattle.std.proofs.lemmas.Bool.Decides.{nat_tests}
use Rattle.std.proofs.lemmas.Bool.{and_left, false_from_ne_true, cases_lt, le-ltb, lt-ltb}
use Rattle.std.proofs.lemmas.Bool.Decides.{Decides-at}
use Rattle.strips.specs.Grounding.{operator_number}
use Rattle.strips.specs.Laws.{Applicable, Stepped}
use Rattle.strips.specs.Steps.{action_allowed, action_next, done, holds_after, makes, needs_hold, takes_both}
use Rattle.strips.specs.Deciding.{decides_allowed, decides_makes}
use Rattle.strips.specs.Fitting.{made_below}

-- what is decided and refuted was answered no
refuted : {P : Type 0} (b : Bool) → Decides b P → (P → ⊥) → b ≡ false
refuted b d n = false_from_ne_true b (λ e. n (d.0 e))

module _ (t : ActionTable) (s : Picture) (m : ℕ) where
  -- the parts of an allowed move
  pub allowed_parts : action_allowed t s m ≡ true → (operator_number m < length t.operators) × (takes_both t m ≡ true) × (needs_hold t s m ≡ true)
  allowed_parts e = (grind (arith, nat_tests), grind arith, grind arith)

  -- a move of an operator that there is not, and of one that there is
  pub allowed_beyond : length t.operators ≤ operator_number m → action_allowed t s m ≡ false
  allowed_beyond h = and_left (nat_lt (operator_number m) (length t.operators)) _ (le-ltb (operator_number m) (length t.operators) h)

  pub allowed_within : operator_number m < length t.operators → action_allowed t s m ≡ (takes_both t m && needs_hold t s m)
  allowed_within h = ap (λ (b : Bool). b && (takes_both t m && needs_hold t s m)) (lt-ltb (operator_number m) (length t.operators) h)

  -- an answer that is that test decides what it stands for
  pub answered : (r : Bool) → r ≡ action_allowed t s m → Decides r (Applicable t s m)
  answered r e = Decides-at r (action_allowed t s m) e (decides_allowed t m s)

  pub next_idle : action_allowed t s m ≡ false → action_next t s m ≡ s
  next_idle e = rw e

  -- a picture in which the facts are as after the move is the next state
  pub next_drawn : action_allowed t s m ≡ true → (r : Picture) → ((f : ℕ) → holds r f ≡ holds_after t s m f) → r ≡ action_next t s m
  next_drawn e r h = rw e (drawn r (holds_after t s m) (λ f l. h f))

  holds_next : action_allowed t s m ≡ true → (f : ℕ) → f < 512 → holds (action_next t s m) f ≡ holds_after t s m f
  holds_next e f h = rw e (holds_picture_of (holds_after t s m) f h)

  -- what becomes of a fact, by whether effects make it
  after : (a : Applicable t s m) (f : ℕ) (plus minus : Bool) → makes t m Positive f ≡ plus → makes t m Negative f ≡ minus → f < 512
      → holds (action_next t s m) f ≡ done Positive plus (done Negative minus (holds s f))
  after a f plus minus p q h =
      let e = holds_next ((decides_allowed t m s).1 a) f h in
      cc

  pub next_law : Stepped t s m (action_next t s m)
  next_law =
      let yes = λ (a : Applicable t s m). allowed_parts ((decides_allowed t m s).1 a) in
      record {
        idle = λ n. next_idle (refuted (action_allowed t s m) (decides_allowed t m s) n);
        added = λ a f p.
            let made = (decides_makes t m Positive f).1 p in
            let low = made_below t m (yes a).0 (yes a).1 Positive f p in
            after a f true (makes t m Negative f) made refl low;
        deleted = λ a f p n.
            let made = (decides_makes t m Negative f).1 p in
            let low = made_below t m (yes a).0 (yes a).1 Negative f p in
            after a f false true (refuted (makes t m Positive f) (decides_makes t m Positive f) n) made low;
        kept = λ a f n p.
            let plus = refuted (makes t m Positive f) (decides_makes t m Positive f) p in
            let minus = refuted (makes t m Negative f) (decides_makes t m Negative f) n in
            ⊎_elim
            (λ h. after a f false false plus minus h)
            (λ h. holds_past (action_next t s m) f h ∙ sym (holds_past s f h))
            (cases_lt f 512);
      }

  -- a state that is the next one keeps to the law
  pub lawful : (r : Picture) → r ≡ action_next t s m → Stepped t s m r
  lawful r e = subst (Stepped t s m) (sym e) next_law
