-- What tables hold keeps to the rules that their constructors check.
use Rattle.std.proofs.Common.{◌≡◌, ◌+◌, List, [], ◌∷◌, length, map, refl, arith, rules}
use Rattle.std.proofs.lemmas.List.{length-append}
use Rattle.model.specs.declared.vocabulary.Arity.{Arity}
use Rattle.model.specs.Facts.{arity_byte}
use Rattle.plants.specs.declared.actions.ActionTable.{ActionTable}
use Rattle.plants.specs.declared.network.Network.{Network}
use Rattle.plants.specs.declared.operator.Operator.{Operator}
use Rattle.plants.specs.Actions.{SoundActions}
use Rattle.plants.specs.Networks.{SoundNetwork}
use Rattle.plants.specs.Operators.{SoundOperator, operator_literals}
use Rattle.plants.specs.Switches.{network_arities}

-- these two are kept, though no proof cites them: they say of an operator what the two below say of the tables
pub length_literals : (op : Operator) → length (operator_literals op) ≡ length op.needs + length op.effects
length_literals op = length-append op.needs op.effects

pub operator_sound : (op : Operator) → SoundOperator op.parameters (length op.needs) (operator_literals op)
operator_sound op =
    let l = length_literals op in
    record { narrow = op.narrow; before = op.before; within = omega (arith, l); after = omega (arith, l, op.after) }

pub actions_sound : (t : ActionTable) → SoundActions t.vocabulary t.operators
actions_sound t = record { few = t.few; fits = t.fits }

-- an arity is known by its byte
same_arity : (a b : Arity) → arity_byte a ≡ arity_byte b → a ≡ b
same_arity a b e = search rules

same_arities : (xs ys : List Arity) → map arity_byte xs ≡ map arity_byte ys → xs ≡ ys
same_arities [] [] e = refl
same_arities [] (y ∷ ys) e = cc
same_arities (x ∷ xs) [] e = cc
same_arities (x ∷ xs) (y ∷ ys) e =
    let a = same_arity x y (cc) in
    let b = same_arities xs ys (cc) in
    cc

pub network_sound : (w : Network) → SoundNetwork w.vocabulary w.switches w.fed
network_sound w =
    record { unary = same_arities w.vocabulary.arities network_arities w.unary; few = w.few; ends = w.ends; feeds = w.feeds }
