use Rattle.std.proofs.Common.{◌≡◌, ℕ, ◌+◌, ◌<◌, ◌≤◌, ◌↔◌, List, drop, slice_index}
use Rattle.std.specs.List.{filter_map}
use Rattle.books.specs.Nodes.{parts}
use Rattle.books.specs.Rules.{high, times}
use Rattle.books.proofs.uses.use_parts.Given as goal

-- the parts still to be counted decide
abbrev pub invariant-loop-part : goal.invariant-loop-part
invariant-loop-part l =
    let left : List ℕ = filter_map (λ part. part) (drop l.part-index l.part-items) in
    (high left ≤ l.i ↔ high (parts l.fn.node) ≤ l.i)
    × ((j : ℕ) → j < 120 → slice_index l.used j + times j left ≡ slice_index l.fn.used j + times j (parts l.fn.node))
