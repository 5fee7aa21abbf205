-- What is left is the place behind the facts of the predicates passed so far.
use Rattle.std.proofs.Common.{◌≡◌, ◌+◌, take}
use Rattle.model.specs.Facts.{facts}
use Rattle.model.proofs.vocabulary.Vocabulary.atom.Given as goal

abbrev pub invariant-loop-p : goal.invariant-loop-p
invariant-loop-p l = (l.arity-items ≡ l.self.arities) × (facts l.self.objects (take l.p l.self.arities) + l.left ≡ l.initial.left)
