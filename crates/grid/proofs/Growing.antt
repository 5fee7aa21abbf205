-- A set of sections that grows along closed switches: it holds only what is joined to a source, and once every closed
-- switch has both its ends in it or both outside, or every section is in it, it holds all of that.
use Rattle.std.proofs.Common.{◌≡◌, ℕ, ◌+◌, ◌^◌, ◌<◌, ◌≤◌, Bool, true, false, ◌&&◌, ◌||◌, eqb, ltb, length, get_or, sym, refl, ap, ◌∙◌, subst, ⊎_elim, arith, pow_mono}
use Rattle.model.specs.Pictures.{bit}
use Rattle.plants.specs.declared.network.Network.{Network}
use Rattle.plants.specs.declared.network.Switch.{Switch}
use Rattle.plants.specs.Switches.{blank_switch}
use Rattle.std.proofs.lemmas.Bool.{and_from, and_left, and_parts, and_right, cases_Bool, cases_eq, cases_lt, eq-eqb, eqb-true, lt-ltb, ltb-true, ne_eqb, or_cases, or_from, or_left, or_parts, or_right}
use Rattle.model.proofs.Bits.{bit_past}
use Rattle.grid.specs.declared.sections.Sections.{Sections}
use Rattle.grid.specs.declared.state.NetworkState.{NetworkState}
use Rattle.grid.specs.declared.state.Position.{Position}
use Rattle.grid.specs.Paths.{Joined, Linked, along, back, further, here, switch_at}
use Rattle.grid.specs.Reached.{AllJoined, Even, Reached, Spread, with_ends}
use Rattle.grid.specs.States.{closed_at, is_closed}
use Rattle.grid.proofs.Ends.{ends_below}

-- what is known of the set while it grows: it keeps what it had, and gets only what is joined to where that is
pub record Grown (w : Network) (s : NetworkState) (before after : Sections) : Type 0 where
  pub keeps : (x : ℕ) → bit before.bits x ≡ true → bit after.bits x ≡ true
  pub sound : (source : ℕ → Bool) → AllJoined w s source before → AllJoined w s source after

module _ (w : Network) (s : NetworkState) where
  -- a closed switch exists
  pub closed_below : (a : ℕ) → is_closed w s a ≡ true → a < length w.switches
  closed_below a e = ltb-true a (length w.switches) (and_parts (ltb a (length w.switches)) (closed_at s a) e).0

  -- what is linked to something is a section
  pub linked_below : (x y : ℕ) → Linked w s x y → y < w.vocabulary.objects
  linked_below _ _ (along a e) = (ends_below w a (closed_below a e)).1
  linked_below _ _ (back a e) = (ends_below w a (closed_below a e)).0

  -- a set that no closed switch leaves
  pub nothing_left : (source : ℕ → Bool) (reached : Sections) → ((x : ℕ) → source x ≡ true → bit reached.bits x ≡ true)
      → ((a : ℕ) → a < length w.switches → Even w s a reached) → (x : ℕ) → Joined w s source x → bit reached.bits x ≡ true
  nothing_left source r keeps even _ (here x e) = keeps x e
  nothing_left source r keeps even _ (further _ _ j (along a e)) =
      sym (even a (closed_below a e) e) ∙ nothing_left source r keeps even (switch_at w a).from j
  nothing_left source r keeps even _ (further _ _ j (back a e)) =
      even a (closed_below a e) e ∙ nothing_left source r keeps even (switch_at w a).to j

  -- a set of every section
  pub all_there : (source : ℕ → Bool) (reached : Sections) → ((x : ℕ) → source x ≡ true → bit reached.bits x ≡ true)
      → ((x : ℕ) → x < w.vocabulary.objects → bit reached.bits x ≡ true) → (x : ℕ) → Joined w s source x → bit reached.bits x ≡ true
  all_there source r keeps full _ (here x e) = keeps x e
  all_there source r keeps full _ (further x y j l) = full y (linked_below x y l)

  -- a closed switch with a joined end has both ends joined
  ends_joined : (source : ℕ → Bool) (a : ℕ) (r : Sections) → is_closed w s a ≡ true → AllJoined w s source r
      → (bit r.bits (switch_at w a).from || bit r.bits (switch_at w a).to) ≡ true
      → Joined w s source (switch_at w a).from × Joined w s source (switch_at w a).to
  ends_joined source a r e j t =
      let from = (switch_at w a).from in
      let to = (switch_at w a).to in
      ⊎_elim
      (λ f. (j from f, further from to (j from f) (along a e)))
      (λ g. (further to from (j to g) (back a e), j to g))
      (or_cases (bit r.bits from) (bit r.bits to) t)

  -- what the pair of a switch and its position adds
  module _ (a : ℕ) (l : Switch) (p : Position) (before after : Sections) (below : a < length w.switches)
      (is_switch : (d : Switch) → l ≡ get_or w.switches a d) (is_position : (d : Position) → p ≡ get_or s.switches a d)
      (ends : (x : ℕ) → x < 16 → bit after.bits x ≡ with_ends l p.closed (bit before.bits) x) (more : before.bits ≤ after.bits) where
    from : ℕ
    from = (switch_at w a).from

    to : ℕ
    to = (switch_at w a).to

    there : Bool
    there = closed_at s a && (bit before.bits from || bit before.bits to)

    -- no section has a number from 16 on
    spread_bits : (x : ℕ) → bit after.bits x ≡ (bit before.bits x || (there && (eqb x from || eqb x to)))
    unfolding from to there
    spread_bits x =
        let e = ends_below w a below in
        let same : l ≡ switch_at w a = is_switch blank_switch in
        let on : p.closed ≡ closed_at s a = ap (λ (q : Position). q.closed) (is_position (record { closed = false })) in
        ⊎_elim
        (λ h. ends x h ∙ ap (λ (m : Switch). with_ends m p.closed (bit before.bits) x) same ∙ ap (λ (b : Bool). with_ends (switch_at w a) b (bit before.bits) x) on)
        (λ h.
        let q : 2 ^ 16 ≤ 2 ^ x = pow_mono h in
        bit_past after.bits x (omega (arith, after.small))
        ∙ sym (or_from (bit before.bits x) _ (bit_past before.bits x (omega (arith, before.small)))
        (and_right there (eqb x from || eqb x to)
        (or_from (eqb x from) (eqb x to)
        (ne_eqb x from (λ r. omega (arith, e.0, w.vocabulary.high)))
        (ne_eqb x to (λ r. omega (arith, e.1, w.vocabulary.high)))))))
        (cases_lt x 16)

    pub spread_turn : Spread w s a before after
    unfolding from to there
    spread_turn =
        record {
          keeps = λ x k. spread_bits x ∙ or_left (bit before.bits x) (there && (eqb x from || eqb x to)) k;
          more = more;
          sound = λ source j x k.
              ⊎_elim
              (λ q. j x q)
              (λ q.
              let r = and_parts there (eqb x from || eqb x to) q in
              let on = and_parts (closed_at s a) (bit before.bits from || bit before.bits to) r.0 in
              let both = ends_joined source a before (and_from (ltb a (length w.switches)) (closed_at s a) (lt-ltb a (length w.switches) below) on.0) j on.1 in
              ⊎_elim
              (λ e. subst (Joined w s source) (sym (eqb-true x from e)) both.0)
              (λ e. subst (Joined w s source) (sym (eqb-true x to e)) both.1)
              (or_cases (eqb x from) (eqb x to) r.1))
              (or_cases (bit before.bits x) (there && (eqb x from || eqb x to)) (sym (spread_bits x) ∙ k));
          done = λ _ on.
              let closed = (and_parts (ltb a (length w.switches)) (closed_at s a) on).1 in
              ⊎_elim
              (λ t.
              let h = and_from (closed_at s a) (bit before.bits from || bit before.bits to) closed t in
              let p = spread_bits from ∙ or_right (bit before.bits from) _ (and_from there _ h (or_left (eqb from from) (eqb from to) (eq-eqb from from refl))) in
              let q = spread_bits to ∙ or_right (bit before.bits to) _ (and_from there _ h (or_right (eqb to from) (eqb to to) (eq-eqb to to refl))) in
              cc)
              (λ f.
              let h = or_parts (bit before.bits from) (bit before.bits to) f in
              let off = and_right (closed_at s a) (bit before.bits from || bit before.bits to) f in
              let p = spread_bits from ∙ or_from (bit before.bits from) _ h.0 (and_left there (eqb from from || eqb from to) off) in
              let q = spread_bits to ∙ or_from (bit before.bits to) _ h.1 (and_left there (eqb to from || eqb to to) off) in
              cc)
              (cases_Bool (bit before.bits from || bit before.bits to));
        }

  -- one round more
  pub grown_round : (first before after : Sections) → Grown w s first before → Grown w s before after → Grown w s first after
  grown_round first before after g h =
      record { keeps = λ x k. h.keeps x (g.keeps x k); sound = λ source j. h.sound source (g.sound source j) }

  -- one switch more
  pub grown_more : (a : ℕ) (first before after : Sections) → Grown w s first before → Spread w s a before after → Grown w s first after
  grown_more a first before after g h = grown_round first before after g (record { keeps = h.keeps; sound = h.sound })

  -- the search is over: no closed switch leaves the set, or every section is in it
  pub reached_even : (sources r : Sections) → Grown w s sources r → ((a : ℕ) → a < length w.switches → Even w s a r) → Reached w s sources r
  reached_even sources r g e x =
      (λ k. g.sound (bit sources.bits) (λ y. here y) x k, nothing_left (bit sources.bits) r g.keeps e x)

  pub reached_all : (sources r : Sections) → Grown w s sources r → ((x : ℕ) → x < w.vocabulary.objects → bit r.bits x ≡ true) → Reached w s sources r
  reached_all sources r g f x =
      (λ k. g.sound (bit sources.bits) (λ y. here y) x k, all_there (bit sources.bits) r g.keeps f x)

  even_same : (a : ℕ) (x y : Sections) → x.bits ≡ y.bits → Even w s a x → Even w s a y
  even_same a x y e h = λ k. let f = h k in cc

  -- one switch more in a round that has added nothing
  pub even_more : (a first : ℕ) (before after : Sections) → Spread w s a before after → first ≤ before.bits
      → (before.bits ≡ first → (b : ℕ) → b < a → Even w s b before)
      → after.bits ≡ first → (b : ℕ) → b < a + 1 → Even w s b after
  even_more a first before after h l inv q b k =
      let m = h.more in
      let e : after.bits ≡ before.bits = omega arith in
      ⊎_elim
      (λ p. subst (λ (c : ℕ). Even w s c after) (sym p) (h.done e))
      (λ n. even_same b before after (sym e) (inv (omega arith) b (omega arith)))
      (cases_eq b a)
