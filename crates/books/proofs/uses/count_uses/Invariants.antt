use Rattle.std.proofs.Common.{◌≡◌, ℕ, ◌+◌, ◌*◌, ◌<◌, ◌≤◌, drop, slice_index}
use Rattle.books.specs.Nodes.{node_at, parts}
use Rattle.books.specs.Rules.{high, uses}
use Rattle.books.proofs.uses.count_uses.Given as goal

abbrev pub invariant-loop-i : goal.invariant-loop-i
invariant-loop-i l =
    ((k : ℕ) → k < l.i → high (parts (node_at l.nodes k)) ≤ k)
    × ((j : ℕ) → j < 120 → slice_index l.used j ≤ 2 * l.i)
    × ((j : ℕ) → j < 120 → slice_index l.used j + uses j (drop l.i l.nodes) ≡ uses j l.nodes)
