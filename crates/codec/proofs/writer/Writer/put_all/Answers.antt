use Rattle.std.proofs.Common.{rules, ◌+◌, ◌*◌, ◌<◌, List, length, refl, arith}
use Rattle.std.specs.Prelude.{None}
use Rattle.std.specs.List.{flat_map}
use Rattle.codec.specs.Writing.{WroteAll}
use Rattle.codec.specs.declared.writer.Writer.{Writer}
use Rattle.codec.proofs.Coding.{length_joined}
use Rattle.codec.proofs.writer.Writer.put_all.Given as given
use Rattle.codec.proofs.writer.Writer.put_all.Goals as goal

-- nothing is written where there is no room for all values
no_room : (g : given.Over) (items : List g.row.T.Denot) (before : Writer) → length before.out.now < before.at + g.row.WIDTH * length items
    → WroteAll g.T.Coded.code g.T.Coded.proper g.row.WIDTH items before before None
no_room g items before h =
    let n = length_joined g.T.Coded.code g.T.Coded.proper g.row.WIDTH g.met.T.Coded.fixed items in
    (flat_map g.T.Coded.code items, n, λ e. refl, (refl, omega (arith, h, n)))

pub returns-in_err-size : goal.returns-in_err-size
returns-in_err-size g c = rw c.from_residual.ensures (no_room g c.args.items.now c.args.self.now (search rules))

pub returns-in_err-behind : goal.returns-in_err-behind
returns-in_err-behind g c = rw c.from_residual-in_err-behind.ensures (no_room g c.args.items.now c.args.self.now (search rules))

pub returns-then-behind-self : goal.returns-then-behind-self
returns-then-behind-self g c = no_room g c.args.items.now c.args.self.now (search rules)
