-- Counting uses: the most that one node can add.
use Rattle.std.proofs.Common.{ℕ, ◌≤◌, eqb, length, arith}
use Rattle.std.proofs.lemmas.List.Sums.{count_by-le-length}
use Rattle.books.specs.declared.node.Node.{Node}
use Rattle.books.specs.declared.node.Node.TheVariants.{True}
use Rattle.books.specs.Nodes.{parts}
use Rattle.books.specs.Rules.{times}

-- a node has at most two parts
pub two_parts : (j : ℕ) (n : Node) → times j (parts n) ≤ 2
two_parts j n = omega (arith, count_by-le-length (λ k. eqb k j) (parts n), elim n as (λ m. length (parts m) ≤ 2) [ True ↦ omega arith | _ ↦ omega arith ])
