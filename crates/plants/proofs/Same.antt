-- A table is known by what it holds: its rules add no data.
use Rattle.std.proofs.Common.{◌≡◌}
use denote.Struct.Record.{values_one}
use Rattle.plants.specs.contracts.actions.ActionTable as table
use Rattle.plants.specs.contracts.network.Network as network
use Rattle.plants.specs.contracts.operator.Operator as operator
use Rattle.plants.specs.declared.actions.ActionTable.{ActionTable}
use Rattle.plants.specs.declared.network.Network.{Network}
use Rattle.plants.specs.declared.operator.Operator.{Operator}

pub same_operator : (x y : Operator) → x.parameters ≡ y.parameters → x.needs ≡ y.needs → x.effects ≡ y.effects → x ≡ y
same_operator x y p b a = values_one operator.struct (operator.the_type).propositions x y (cc)

pub same_actions : (x y : ActionTable) → x.vocabulary ≡ y.vocabulary → x.operators ≡ y.operators → x ≡ y
same_actions x y v l = values_one table.struct (table.the_type).propositions x y (cc)

pub same_network : (x y : Network) → x.vocabulary ≡ y.vocabulary → x.switches ≡ y.switches → x.fed ≡ y.fed → x ≡ y
same_network x y v l f = values_one network.struct (network.the_type).propositions x y (cc)
