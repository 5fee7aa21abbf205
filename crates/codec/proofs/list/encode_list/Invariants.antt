-- What is written so far are the codes of the first values.
use Rattle.std.proofs.Common.{◌≡◌, ◌*◌, true, take}
use Rattle.std.specs.List.{flat_map, list_all}
use Rattle.codec.proofs.list.encode_list.Given as goal

abbrev pub invariant-loop-x : goal.invariant-loop-x
invariant-loop-x g l =
    (l.at ≡ g.row.WIDTH * l.x-index)
    × (list_all g.T.Coded.proper l.items ≡ true → take l.at l.out ≡ flat_map g.T.Coded.code (take l.x-index l.items))
