use Rattle.books.specs.Lines.{line_bytes}
use Rattle.books.specs.Nodes.{node_bytes, node_proper}
use Rattle.feeder.proofs.Books.{nodes_proper}
use Rattle.feeder.proofs.Writing.{wrote_codes, wrote_plain}
use Rattle.feeder.proofs.put.put_rules.Goals as goal

pub returns-in-Formula : goal.returns-in-Formula
returns-in-Formula c =
    let t = c.in-Formula.table in
    rw c.in-Formula.is
    (wrote_codes node_bytes node_proper 4 _ t.nodes c.args.writer.now c.put_all.new.self _ c.as_slice.ensures.same (nodes_proper t) c.put_all.ensures)

pub returns-in-Chart : goal.returns-in-Chart
returns-in-Chart c =
    rw c.in-Chart.is
    (wrote_plain line_bytes 5 _ c.in-Chart.chart.lines c.args.writer.now c.put_all-in-Chart.new.self _ c.as_slice-in-Chart.ensures.same c.put_all-in-Chart.ensures)
