-- What has been read so far, and then what is left, are the bytes.
use Rattle.std.proofs.Common.{◌≡◌, true, ◌++◌, take}
use Rattle.std.specs.List.{flat_map, list_all}
use Rattle.codec.proofs.list.decode_list.Given as goal

abbrev pub invariant-loop-i : goal.invariant-loop-i
invariant-loop-i g l =
    (flat_map g.T.Coded.code (take l.i l.items) ++ l.left ≡ l.bytes)
    × (list_all g.T.Coded.proper (take l.i l.items) ≡ true)
