use Rattle.cmh_work.proofs.shapes.Shapes.of_graph.Goals as goal

pub returns : goal.returns
returns c = record {
  predecessors = c.in_ok-predecessors.ensures;
  distances = c.in_ok-distances.ensures;
  alone = c.in_ok-alone.ensures;
}
