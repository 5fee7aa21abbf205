-- What is no multiple of sixteen below 1024 is never allowed, so the first of these that is allowed is the lowest move.
use Rattle.std.proofs.Common.{◌≡◌, ℕ, zero, suc, ◌+◌, ◌-◌, ◌*◌, ◌<◌, ◌≤◌, false, Some, map, refl, sym, ap, ◌∙◌, ⊎_elim, arith, rules}
use Rattle.std.specs.List.{find, range_with_len}
use Rattle.model.specs.Moves.{lowest_move}
use Rattle.model.proofs.Moves.{lowest_here, lowest_none, lowest_skip}
use Rattle.plants.specs.declared.network.Network.{Network}
use Rattle.std.proofs.lemmas.Iterator.{YieldsList-from_map, YieldsList-from_range}
use Rattle.std.proofs.lemmas.Iterator.Adapters.{option_map_id}
use Rattle.std.proofs.lemmas.Iterator.Search.{find_from_yields_List}
use Rattle.std.proofs.lemmas.Bool.{cases_Bool, cases_eq, cond-false, cond-true}
use Rattle.grid.specs.declared.state.NetworkState.{NetworkState}
use Rattle.grid.specs.Actions.{network_allowed}
use Rattle.grid.proofs.Acting.{not_allowed}
use Rattle.grid.proofs.moves.NetworkPlantPlant.allowed_from.Goals as goal

module _ (w : Network) (s : NetworkState) where
  -- n multiples of sixteen are left, from the first that is not below a number
  lowest_found : (n a from : ℕ) → n ≡ 64 - a → from ≤ a * 16 → a * 16 < from + 16
      → find (network_allowed w s) (map (λ p. p * 16) (range_with_len a n)) ≡ lowest_move (network_allowed w s) from
  lowest_found zero a from e l h =
      sym (lowest_none (network_allowed w s) from (λ m i j. not_allowed w s m (λ p. omega (arith, p.0, p.1))))
  lowest_found (suc n) a from e l h =
      let at = a * 16 in
      let t = network_allowed w s in
      let rest = find t (map (λ p. p * 16) (range_with_len (a + 1) n)) in
      let before : (m : ℕ) → from ≤ m → m < at → t m ≡ false = λ m i j. not_allowed w s m (λ p. omega (arith, p.0)) in
      ⊎_elim
      (λ q. cond-true (t at) (Some at) rest q ∙ sym (lowest_skip t from at l (omega arith) before ∙ lowest_here t at (omega arith) q))
      (λ q.
      let here : (m : ℕ) → from ≤ m → m < at + 1 → t m ≡ false =
      λ m i j. ⊎_elim (λ k. ap t k ∙ q) (λ k. before m i (omega arith)) (cases_eq m at)
      in
      cond-false (t at) (Some at) rest q
      ∙ lowest_found n (a + 1) (at + 1) (omega arith) (omega arith) (omega arith)
      ∙ sym (lowest_skip t from (at + 1) (omega arith) (omega arith) here))
      (cases_Bool (t at))

pub returns : goal.returns
returns c =
    let w = c.args.self.now.network in
    let s = c.args.state.now in
    let a = c.div_ceil.result in
    let found = find_from_yields_List (network_allowed w s) _ _ c.find.result c.find.ensures.ran
    (YieldsList-from_map _ (λ p. p * 16) (YieldsList-from_range a 64 (64 - a) c.map.ensures.source refl) c.map.ensures.closure (λ x r q k. search rules))
    (λ x b q k. search rules)
    in
    sym (option_map_id c.find.result) ∙ found ∙ lowest_found w s (64 - a) a c.args.from refl (omega (arith, c.div_ceil.ensures)) (omega (arith, c.div_ceil.ensures))
