-- Where parts have lower numbers, a depth above a node's number cuts nothing off, so a node's formula is made of those of its parts.
use Rattle.std.proofs.Common.{◌≡◌, ℕ, zero, suc, ◌<◌, ◌≤◌, List, length, refl, arith}
use Rattle.books.specs.declared.node.Node.{Node}
use Rattle.books.specs.declared.node.Node.TheVariants.{True}
use Rattle.books.specs.Nodes.{node_at, parts}
use Rattle.books.specs.Rules.{Lower, high}
use Rattle.books.specs.Trees.{Formula, formula_at, shape, tree_to}

-- a node's formula hangs on those of its parts alone
shape_same : (n : Node) (i : ℕ) (f g : ℕ → Formula) → high (parts n) ≤ i → ((k : ℕ) → k < i → f k ≡ g k) → shape f n ≡ shape g n
shape_same n i f g h e =
    elim n as (λ m. high (parts m) ≤ i → shape f m ≡ shape g m) [ True ↦ λ l. refl | _ ↦ λ l. grind (arith, e) ] h

-- a depth above the node's number cuts nothing off
deep : (d e : ℕ) (nodes : List Node) (i : ℕ) → Lower nodes → i < length nodes → i < d → i < e → tree_to d nodes i ≡ tree_to e nodes i
unfolding tree_to
deep zero e nodes i low c a b = absurd (omega arith)
deep (suc d) zero nodes i low c a b = absurd (omega arith)
deep (suc d) (suc e) nodes i low c a b =
    shape_same (node_at nodes i) i (tree_to d nodes) (tree_to e nodes) (low i c)
    (λ k h. deep d e nodes k low (omega arith) (omega arith) (omega arith))

pub formula_step : (nodes : List Node) (i : ℕ) → Lower nodes → i < length nodes
    → formula_at nodes i ≡ shape (formula_at nodes) (node_at nodes i)
unfolding formula_at tree_to
formula_step nodes i low c =
    shape_same (node_at nodes i) i (tree_to i nodes) (formula_at nodes) (low i c)
    (λ k h. deep i (suc k) nodes k low (omega arith) h (omega arith))
