-- Scopes: what one says of the variables of a formula.
use Rattle.std.specs.Prelude.{◌≡◌, ℕ, true, false, not, ◌&&◌, ◌||◌, Some, None, Option, ◌==◌}
use Rattle.books.specs.declared.scope.Scope.{Scope}
use Rattle.books.specs.Marks.{has_variable}
use Rattle.books.specs.Trees.{Formula, binds, bound_once, free}

-- a scope is that of a formula, in which no quantifier lies below another of the same variable
pub record ScopeOf (f : Formula) (s : Scope) : Type 0 where
  pub free_marks : (x : ℕ) → has_variable s.free x ≡ free f x
  pub bound_marks : (x : ℕ) → has_variable s.bound x ≡ binds f x
  pub once : bound_once f ≡ true

-- what asking for the scope of a formula answers: that scope, or none where a quantifier lies below another of the same variable
abbrev pub ScopeFound : Formula → Option Scope → Type 0
ScopeFound f (Some s) = ScopeOf f s
ScopeFound f None = bound_once f ≡ false

-- a scope is that of a quantifier over parts of another scope
pub record Quantified (s : Scope) (variable : ℕ) (q : Scope) : Type 0 where
  pub fresh : has_variable s.bound variable ≡ false
  pub free_marks : (x : ℕ) → has_variable q.free x ≡ (not (variable == x) && has_variable s.free x)
  pub bound_marks : (x : ℕ) → has_variable q.bound x ≡ (variable == x || has_variable s.bound x)

-- what asking for the scope of a quantifier over parts of a scope answers: that scope, or none where they bind its variable
abbrev pub ScopeBelow : Scope → ℕ → Option Scope → Type 0
ScopeBelow s variable (Some q) = Quantified s variable q
ScopeBelow s variable None = has_variable s.bound variable ≡ true
