use Rattle.std.proofs.Common.{◌∙◌, ◌++◌, ◌<◌, [], ap, arith, length, subst, sym}
use Rattle.std.specs.Prelude.{string_bytes, unwrap_or}
use Rattle.cmh_graph.specs.ChosenPath.{chosen_path}
use Rattle.cmh_graph.specs.Graph.{name_of, process_count}
use Rattle.cmh_graph.proofs.Groups.{in_own_core, leader_least}
use Rattle.cmh_graph.proofs.IndexLists.{by_index, length-by_index}
use Rattle.cmh_graph.proofs.Verdicts.{idle_within}
use Rattle.cmh_text.specs.Group.{leaders_up_to, AreGroupsOf}
use Rattle.cmh_text.specs.Report.{line, names_of, process_line, spaced_words}
use Rattle.cmh_text.specs.Summary.{summary_of}
use Rattle.cmh_text.proofs.Numbers.{number_is}
use Rattle.cmh_text.proofs.Summaries.{deadlocked_then, free_then, idle_then, summaries_size}
use Rattle.cmh_text.proofs.LineLemmas.{deadlocked_words, free_words}
use Rattle.cmh_text.proofs.process_lines.ProcessLines.line_of.Goals as goal
use Rattle.cmh_text.proofs.process_lines.ProcessLines.line_of.Goals.{in-Deadlocked+in_ok-push_deadlocked-in-Deadlocked, in-Free+in_ok-go_to-in-Free+in_ok-push_free-in-Free}

-- there is a summary of the process
pub index-requires : goal.index-requires
index-requires c =
    let groups = subst (λ g. AreGroupsOf g c.self.inside.groups.now) c.self.view_is c.self.invariant.groups in
    omega (
      arith,
      summaries_size c.args.self.now _ groups.summaries,
      idle_within c.args.self.now c.args.p c.requires,
    )

-- the leader of the process is a process of the graph
pub index-number-requires : goal.index-number-requires
index-number-requires c =
    let g = c.args.self.now in
    let p = c.args.p in
    let groups = subst (λ g. AreGroupsOf g c.self.inside.groups.now) c.self.view_is c.self.invariant.groups in
    let within = idle_within g p c.requires in
    let known = deadlocked_then g p c.in-Deadlocked.leader
    (sym (c.index.ensures ∙ by_index g (summary_of g) _ p _ groups.summaries within) ∙ c.in-Deadlocked.is) in
    let least = leader_least g p p (in_own_core g p groups.well_formed.within within) in
    omega (
      arith,
      known.1,
      least,
      within,
      ap length groups.numbers,
      length-by_index g (leaders_up_to g),
      c.self.inside.groups.now.numbers.ok.0,
    )

-- the summary is that of a free process
pub go_to-requires : goal.go_to-requires
go_to-requires c =
    let g = c.args.self.now in
    let p = c.args.p in
    let groups = subst (λ g. AreGroupsOf g c.self.inside.groups.now) c.self.view_is c.self.invariant.groups in
    let within = idle_within g p c.requires in
    ap (λ g. summary_of g p) (c.self.invariant.last_path ∙ c.self.view_is)
    ∙ sym (c.index.ensures ∙ by_index g (summary_of g) _ p _ groups.summaries within) ∙ c.in-Free.is

-- an idle process has no such summary
pub unreachable-requires : goal.unreachable-requires
unreachable-requires c =
    let g = c.args.self.now in
    let p = c.args.p in
    let groups = subst (λ g. AreGroupsOf g c.self.inside.groups.now) c.self.view_is c.self.invariant.groups in
    let within = idle_within g p c.requires in
    idle_then g p c.requires
    (sym (c.index.ensures ∙ by_index g (summary_of g) _ p _ groups.summaries within) ∙ c.in-Active.is)

pub returns-clause-text : goal.returns-clause-text
returns-clause-text c =
    let g = c.args.self.now in
    let p = c.args.p in
    let groups = subst (λ g. AreGroupsOf g c.self.inside.groups.now) c.self.view_is c.self.invariant.groups in
    let shown = c.self.invariant.last_path ∙ c.self.view_is in
    let here = idle_within g p c.requires in
    let summary =
    sym (c.index.ensures ∙ by_index g (summary_of g) _ p _ groups.summaries here) in
    let empty = ap (λ xs. xs ++ line (process_line g p)) c.new-text.ensures.bytes in
    elim c.match-index.branch [
      | in-Deadlocked+in_ok-push_deadlocked-in-Deadlocked w ↦
          let known = deadlocked_then g p w.in-Deadlocked.leader (summary ∙ w.in-Deadlocked.is) in
          let least = leader_least g p p (in_own_core g p groups.well_formed.within here) in
          let within : w.in-Deadlocked.leader < process_count g = omega (arith, known.1, least, here) in
          let number = w.index-number.ensures
          ∙ by_index g (leaders_up_to g) _ w.in-Deadlocked.leader _ groups.numbers within
          ∙ ap (leaders_up_to g) (sym known.1) ∙ number_is g p in
          let name = w.name.ensures ∙ ap (λ g. name_of g p) c.self.view_is in
          ap string_bytes w.text-is
          ∙ w.in_ok-push_deadlocked-in-Deadlocked.ensures
          ∙ ap (λ words. string_bytes c.new-text.result ++ line words)
          (deadlocked_words g p w.index-number.result.now w.name.result.now known.0 name number)
          ∙ empty
      | in-Free+in_ok-go_to-in-Free+in_ok-push_free-in-Free w ↦
          let by = free_then g p w.in-Free.next w.in-Free.count (summary ∙ w.in-Free.is) in
          let path = w.go_to.new.self.list in
          let graph = w.in_ok-go_to-in-Free.ensures.graph ∙ shown in
          let names = w.names.ensures ∙ ap (λ g. spaced_words (names_of g path)) graph in
          let name = w.name-in-Free.ensures ∙ ap (λ g. name_of g p) c.self.view_is in
          let chosen = ap (λ o. unwrap_or o []) (sym w.in_ok-go_to-in-Free.ensures.path)
          ∙ ap (λ g. unwrap_or (chosen_path g p) []) shown in
          ap string_bytes w.text-is
          ∙ w.in_ok-push_free-in-Free.ensures (names_of g path) names
          ∙ ap (λ words. string_bytes c.new-text.result ++ line words)
          (free_words g p w.name-in-Free.result.now path by.free name chosen)
          ∙ empty
    ]
