-- The names of the last list of processes, which the next line may end with too.
use Rattle.std.specs.Prelude.{◌≡◌, ◌<◌, All, string_bytes}
use Rattle.cmh_graph.specs.Graph.{process_count}
use Rattle.cmh_text.specs.Report.{names_of, spaced_words}
use Rattle.cmh_text.specs.declared.names.LastNames.TheInside.{Inside}

-- the list has processes of the graph, and the text is their names
pub record AreNamed (last : Inside) : Type 0 where
  pub within : All (λ p. p < process_count last.graph.now) last.list.items
  pub text : string_bytes last.text ≡ spaced_words (names_of last.graph.now last.list.items)
