use Rattle.books.proofs.scope.+scope_of.Given as goal

abbrev pub decreases-scope_of : goal.decreases-scope_of
decreases-scope_of l = l.i
