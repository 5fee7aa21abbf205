-- Texts: what is printed of amounts, terms, atoms, literals and moves.
use Rattle.std.specs.Prelude.{ℕ, cond, List, [], ◌++◌, length, codes, decimal, Some, None, Option, ◌==◌, nat_lt}
use Rattle.model.specs.declared.fact.Sign.{Sign}
use Rattle.model.specs.declared.fact.Sign.TheVariants.{Negative, Positive}
use Rattle.model.specs.declared.term.Atom.{Atom as Applied}
use Rattle.model.specs.declared.term.Term.{Term}
use Rattle.model.specs.declared.term.Term.TheVariants.{Object, Variable}
use Rattle.model.specs.declared.vocabulary.Arity.{Arity}
use Rattle.model.specs.declared.vocabulary.Arity.TheVariants.{Zero, One, Two}
use Rattle.model.specs.Vocabularies.{arity_at}
use Rattle.plants.specs.declared.literal.LiftedLiteral.{LiftedLiteral}
use Rattle.plants.specs.declared.actions.ActionTable.{ActionTable}
use Rattle.strips.specs.Grounding.{first_argument, operator_at, operator_number, second_argument}
use Rattle.feeder.specs.declared.header.PlantKind.{PlantKind}
use Rattle.feeder.specs.declared.header.PlantKind.TheVariants.{Actions, Network}
use Rattle.grid.specs.declared.action.Action.{Action}
use Rattle.grid.specs.Actions.{argument}
use Rattle.inspect.specs.declared.words.Words.{Words}
use Rattle.inspect.specs.Names.{action_words, network_name}

-- a number of things that have a name
abbrev pub amount_text : ℕ → List ℕ → List ℕ
amount_text n name = cond (n == 0) (codes "no " ++ (name ++ codes "s")) (cond (n == 1) (codes "1 " ++ name) (decimal n ++ (codes " " ++ (name ++ codes "s"))))

-- the predicate of a number, in a network by its name
abbrev pub predicate_of : PlantKind → ℕ → List ℕ
predicate_of Network p = network_name p
predicate_of Actions p = codes "p" ++ decimal p

abbrev pub predicate_text : Words → ℕ → List ℕ
predicate_text w p = predicate_of w.kind p

-- a term
abbrev pub term_text : Term → List ℕ
term_text (Object o) = decimal o
term_text (Variable v) = codes "x" ++ decimal v

-- the terms that a predicate takes, in brackets
abbrev pub terms_text : Option Arity → Term → Term → List ℕ
terms_text None s t = []
terms_text (Some Zero) s t = []
terms_text (Some One) s t = codes "(" ++ (term_text s ++ codes ")")
terms_text (Some Two) s t = codes "(" ++ (term_text s ++ (codes ", " ++ (term_text t ++ codes ")")))

-- an atom
abbrev pub atom_text : Words → Applied → List ℕ
atom_text w a = predicate_text w a.predicate ++ terms_text (arity_at w.vocabulary a.predicate) a.first a.second

-- the word of a sign, which stands before an atom
abbrev pub sign_word : Sign → List ℕ
sign_word Negative = codes "not "
sign_word Positive = []

-- a literal of an operator
abbrev pub lifted_text : Words → LiftedLiteral → List ℕ
lifted_text w l = sign_word l.sign ++ atom_text w l.atom

-- what a move of a network does, if it does anything
abbrev pub action_text : Option Action → List ℕ
action_text (Some a) = action_words a ++ decimal (argument a)
action_text None = codes "no action"

-- the objects that an operator of so many parameters is applied to by a move
abbrev pub applied_text : ℕ → ℕ → List ℕ
applied_text n m = cond (n == 0) [] (codes " with " ++ (decimal (first_argument m) ++ cond (n == 1) [] (codes ", " ++ decimal (second_argument m))))

-- a move of an action table: its operator and what that is applied to
abbrev pub operator_text : ActionTable → ℕ → List ℕ
operator_text t m = codes "operator " ++ (decimal (operator_number m) ++ applied_text (cond (nat_lt (operator_number m) (length t.operators)) (operator_at t m).parameters 0) m)
